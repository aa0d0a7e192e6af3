-- What a seat may do: each kind of step is allowed, and tells what it says.
use Rattle.std.proofs.Common.{◌≡◌, ◌≢◌, inl, inr, ℕ, ◌+◌, ◌-◌, ◌*◌, ◌/◌, ◌%◌, ◌^◌, ◌<◌, ◌≤◌, min, List, [], ◌∷◌, length, get_or, set, sym, refl, ap, ◌∙◌, subst, arith, eqb, get_or-set_other}
use Rattle.std.specs.Int.{bit_at, RustNames.{bit_and, bit_or}}
use Rattle.std.proofs.lemmas.{List.set-get_or, Grind.get_or-set_at, Nat.Bits.{bit_at_and, bit_at-lt, and_high_mask}}
use mathlib.Core.{Logic.dite, Option.{some, none}}
use mathlib.Core.Option as maybe
use native.Mathlib.Decide.{ℕ_discrete}
use prog.Atomic.{either}
use lib.ListN.{get_elem?}
use Rattle.atomic_table.specs.Table.{step, keeps, takes, gives, Act, Allows, stepped, carried_after, Valid}
use Rattle.atomic_table.proofs.Lists.{exchanged}
use Rattle.arachne_weights.specs.{declared.token.Token.Token, Tokens.held}
use Rattle.arachne_exec.specs.declared.view.Notes.{Notes}
use Rattle.arachne_exec.specs.Layout.{idle_at, numbers_at, summary_at, ready_at, free_at, mark_at, last_generation, retired, others, in_word}
use Rattle.arachne_exec.specs.Board.{is_blocked, Board, HasOneKeeper, IsBalanced, IsShown, FoundLast, CountsEnds, ends_at, places_in, in_hands, is_free, HasJobOrIsFree, WakesSleepers, HasChanged, IsTold, HasCome, IsLawful, IsLast, MayNote}
use Rattle.arachne_exec.specs.Changes.{older, newest_job, newest_place, gained, unblocking, claiming, laying_down, freeing, blocking, spawning, beginning, ending, marking, hearing, noted, unshowing}
use Rattle.arachne_exec.specs.Steps.{Mine, with, knowing, Looks, Takes, Claims, Frees, Readies, Spawns, Begins, Blocks, Renews, Retires, Hears, Wakes, Marks}
use Rattle.arachne_exec.proofs.Bits.{one-same, same_others, clear_le, unset, not_one, cleared, raised}
use Rattle.arachne_exec.proofs.Keeping.{ready_apart, free_apart, mark_apart, in-hand, home-of-ready, home-of-blocked, keeps-take, keeps-claim, keeps-ready, keeps-free, keeps-block, keeps-wake, keeps-mark, keeps-places, keeps-view, hands-same, hands-renumbered, places-cons, no-more, no-other}
use Rattle.arachne_exec.proofs.Balancing.{balanced-same, balanced-taken, balanced-put, balanced-spawned, balanced-begun, balanced-ended, balanced-retired}
use Rattle.arachne_exec.proofs.Hearing.{KeepsMarks, MarksMore, hears-on, as-marked, hears-mark}
use Rattle.arachne_exec.proofs.Naming.{Knows, found-word, found-on, knows-less, names-on, found-new, mark-else, names-ended}
use Rattle.arachne_exec.proofs.KeepsShown.{shows-on, shows-owing}
use Rattle.arachne_exec.proofs.Coming.{adds-heard, clears-none, sets-one, changes-elsewhere, told-found, told-nothing, told-rested, comes, comes-still}
use Rattle.arachne_exec.proofs.Sleeping.{Unmoved, sleeps-on}
use Rattle.arachne_exec.proofs.Spawning.{KeepsTurns, turns-on, turns-claimed, turns-spawned, turns-freed}

same_place : (p q : ℕ) → p / 64 ≡ q / 64 → p % 64 ≡ q % 64 → p ≡ q
same_place p q e r = omega (arith, e, r)

same_bits : (p q : ℕ) → q / 64 ≡ p / 64 → others (q % 64) ≡ others (p % 64) → p ≡ q
same_bits p q e o = let r = same_others (q % 64) (p % 64) (omega arith) (omega arith) o in same_place p q (sym e) (sym r)

pub summary_apart : (c d : ℕ) → summary_at c ≡ summary_at d → c ≡ d
summary_apart c d e = omega (arith, e)

pub clash : (n k : ℕ) → bit_at n k ≡ 1 → bit_at n k ≡ 0 → ⊥
clash n k a b = let wrong : 1 ≡ 0 = sym a ∙ b in omega (arith, wrong)

-- a bit that is set after others were cleared was set before
pub was_set : (n k i : ℕ) → bit_at (bit_and n (others k)) i ≡ 1 → bit_at n i ≡ 1
was_set n k i e = let both = bit_at_and n (others k) i in let low = bit_at-lt n i in omega (arith, both, e, low)

pub some_number : (n : ℕ) → n ≢ 0 → 0 < n
some_number n d = let apart : ¬ (n ≡ 0) = d in omega (arith, apart)

-- a mark is no ready word, nor has it the worker numbers
mark-silent : (q found put : ℕ) → ¬ HasChanged (mark_at q) found put
mark-silent q found put = changes-elsewhere (mark_at q) found put (λ e. omega (arith, e)) (λ block e. omega (arith, e))

free-silent : (block found put : ℕ) → ¬ HasChanged (free_at block) found put
free-silent block found put = changes-elsewhere (free_at block) found put (λ e. omega (arith, e)) (λ c e. omega (arith, e))

one-spawned : (k : Notes) (q x y : ℕ) → k.hand ≡ (q, x) ∷ older k.hand → ◌≡◌ {A = List (ℕ × ℕ)} ((newest_place k.hand, y) ∷ k.spawned) ((q, y) ∷ k.spawned)
one-spawned k q x y hand = ap (λ (zs : List (ℕ × ℕ)). (newest_place zs, y) ∷ k.spawned) hand

module _ (shards slots id w : ℕ) where
  -- ---- a step that changes no word

  pub unchanged : (k : Notes) (xs : List (ℕ × ℕ)) (i : ℕ) (s : Board) → IsLawful shards (record { words = s.words; homes = s.homes; views = set s.views id (held w k) })
      → IsLawful shards (stepped s i (get_or s.words i 0) id xs (held w k) keeps)
  unchanged k xs i s h = subst (λ ws. IsLawful shards (record { words = ws; homes = s.homes; views = set s.views id (held w k) })) (sym (set-get_or s.words i 0)) h

  module _ (s : Board) (h : IsLawful shards s) (k : Notes) (mine : get_elem? s.views id ≡ some (held w k)) where
    -- what it has found is noted
    telling : (ds : List (ℕ × ℕ)) → let l : Notes = record k { looks = ds } in HasCome shards (record { words = s.words; homes = s.homes; views = set s.views id (held w l) }) → Knows (64 * shards) s.words l
        → IsLawful shards (record { words = s.words; homes = s.homes; views = set s.views id (held w l) })
    telling ds came knows = let l : Notes = record k { looks = ds } in record {
      came = came;
      keeper = keeps-view (64 * shards) s h.keeper id (held w k) mine (held w l) refl;
      balance = balanced-same s h.balance id (held w k) (held w l) mine s.words refl refl refl;
      turns = turns-on (64 * shards) s h.turns id (held w k) (held w l) mine s.words s.homes (λ p. refl) (refl, refl, refl);
      hears = hears-on (64 * shards) s h.hears id (held w k) (held w l) mine s.homes s.words (λ p inside. refl) (refl, refl, refl, refl);
      names = names-on (64 * shards) s h.names id (held w k) (held w l) mine s.homes s.words (λ p inside. refl) refl knows;
      shows = shows-on (64 * shards) s h.shows id (held w k) (held w l) mine s.words s.homes (λ c r. r) (λ c. refl) refl;
      sleep = sleeps-on s h.sleep id (held w k) (held w l) mine s.words s.homes refl refl (λ c r. r) refl refl refl refl;
    }

    pub noting : (xs : List (ℕ × ℕ)) (i : ℕ) → MayNote i k → IsLawful shards (stepped s i (get_or s.words i 0) id xs (held w (noted i (get_or s.words i 0) k)) keeps)
    noting xs i may = let l : Notes = noted i (get_or s.words i 0) k in unchanged l xs i s (telling l.looks (comes-still shards id w s h k mine i l (told-found refl may (refl, refl, refl, refl, refl, refl, refl, refl, refl, refl) ([], refl, refl))) (λ p inside has. found-word s.words p i k.looks))

    -- what it has found last
    pub knowing-still : Knows (64 * shards) s.words k
    knowing-still p inside has = h.names.found id (held w k) mine p inside has

    pub stays : (xs : List (ℕ × ℕ)) (i : ℕ) → IsLawful shards (stepped s i (get_or s.words i 0) id xs (held w k) keeps)
    stays xs i = unchanged k xs i s (telling k.looks (comes-still shards id w s h k mine i k (told-nothing refl (clears-none i (get_or s.words i 0)) (refl, refl, refl, refl, refl, refl, refl, refl, refl, refl) ([], refl, refl))) knowing-still)

    -- ---- what a word that is written leaves as it was

    module _ (i now : ℕ) where
      -- a word that is no mark
      pub unmarked : ((p : ℕ) → mark_at p ≢ i) → (p : ℕ) → p < 64 * (64 * shards) → get_or (set s.words i now) (mark_at p) 0 % 4 ≡ get_or s.words (mark_at p) 0 % 4
      unmarked never p inside = ap (λ x. x % 4) (get_or-set_other s.words i (mark_at p) now 0 (never p))

      pub ageless : ((p : ℕ) → mark_at p ≢ i) → (p : ℕ) → p < 64 * (64 * shards) → get_or (set s.words i now) (mark_at p) 0 / 4 ≡ get_or s.words (mark_at p) 0 / 4
      ageless never p inside = ap (λ x. x / 4) (get_or-set_other s.words i (mark_at p) now 0 (never p))

      pub same_summary : ((c : ℕ) → summary_at c ≢ i) → (c : ℕ) → 0 < get_or (set s.words i now) (summary_at c) 0 → 0 < get_or s.words (summary_at c) 0
      same_summary never c some_there = let same = get_or-set_other s.words i (summary_at c) now 0 (never c) in omega (arith, some_there, same)

      pub same_ready : ((c : ℕ) → ready_at c ≢ i) → (c : ℕ) → 0 < get_or (set s.words i now) (ready_at c) 0 → 0 < get_or s.words (ready_at c) 0
      same_ready never c some_there = let same = get_or-set_other s.words i (ready_at c) now 0 (never c) in omega (arith, some_there, same)

      pub same_shown : ((c : ℕ) → summary_at c ≢ i) → (c : ℕ) → in_word summary_at (set s.words i now) c ≡ in_word summary_at s.words c
      same_shown never c = ap (λ x. bit_at x (c % 64)) (get_or-set_other s.words i (summary_at (c / 64)) now 0 (never (c / 64)))

      pub same_free : ((c : ℕ) → free_at c ≢ i) → (p : ℕ) → is_free (set s.words i now) p ≡ is_free s.words p
      same_free never p = ap (λ x. bit_at x (p % 64)) (get_or-set_other s.words i (free_at (p / 64)) now 0 (never (p / 64)))

      -- no place is claimed or freed, no block is shown or hidden, and nobody sleeps or is woken
      module _ (l : Notes) (homes : List (maybe.Option ℕ)) where
        pub quiet-turns : ((c : ℕ) → free_at c ≢ i) → KeepsTurns k l → HasJobOrIsFree (64 * shards) (record { words = set s.words i now; homes = homes; views = set s.views id (held w l) })
        quiet-turns none_free same = turns-on (64 * shards) s h.turns id (held w k) (held w l) mine (set s.words i now) homes (same_free none_free) same

        pub quiet-shows : ((c : ℕ) → ready_at c ≢ i) → ((c : ℕ) → summary_at c ≢ i) → l.unshown ≡ k.unshown → IsShown (64 * shards) (record { words = set s.words i now; homes = homes; views = set s.views id (held w l) })
        quiet-shows none_ready none_shown same = shows-on (64 * shards) s h.shows id (held w k) (held w l) mine (set s.words i now) homes (same_ready none_ready) (same_shown none_shown) same

        quiet-sleep : numbers_at ≢ i → idle_at ≢ i → ((c : ℕ) → summary_at c ≢ i) → l.owes ≡ k.owes → l.worker ≡ k.worker → l.seen ≡ k.seen → Unmoved k l
            → WakesSleepers (record { words = set s.words i now; homes = homes; views = set s.views id (held w l) })
        quiet-sleep numbers idles none_shown owes worker seen unmoved = sleeps-on s h.sleep id (held w k) (held w l) mine (set s.words i now) homes
            (get_or-set_other s.words i numbers_at now 0 numbers) (get_or-set_other s.words i idle_at now 0 idles) (same_summary none_shown) owes worker seen unmoved

    -- a ready word that falls
    fallen : (d : ℕ) → d < 64 * shards → (now : ℕ) → now ≤ get_or s.words (ready_at d) 0 → (c : ℕ) → 0 < get_or (set s.words (ready_at d) now) (ready_at c) 0 → 0 < get_or s.words (ready_at c) 0
    fallen d inside now less c some_ready = dite (ℕ_discrete (ready_at c) (ready_at d))
        (λ e. let here = get_or-set_at s.words (ready_at d) (ready_at c) now 0 e (omega (arith, h.keeper.sized, inside)) in
        let there = ap (λ i. get_or s.words i 0) e in omega (arith, some_ready, less, here, there))
        (λ ne. let same = get_or-set_other s.words (ready_at d) (ready_at c) now 0 ne in omega (arith, some_ready, same))

    -- a summary word that falls
    pub sunk : (d : ℕ) → d < shards → (now : ℕ) → now ≤ get_or s.words (summary_at d) 0 → (c : ℕ) → 0 < get_or (set s.words (summary_at d) now) (summary_at c) 0 → 0 < get_or s.words (summary_at c) 0
    sunk d inside now less c some_shown = dite (ℕ_discrete (summary_at c) (summary_at d))
        (λ e. let here = get_or-set_at s.words (summary_at d) (summary_at c) now 0 e (omega (arith, h.keeper.sized, inside)) in
        let there = ap (λ i. get_or s.words i 0) e in omega (arith, some_shown, less, here, there))
        (λ ne. let same = get_or-set_other s.words (summary_at d) (summary_at c) now 0 ne in omega (arith, some_shown, same))

    -- a mark that is written
    module _ (q now : ℕ) (l : Notes) (homes : List (maybe.Option ℕ)) where
      mark-turns : KeepsTurns k l → HasJobOrIsFree (64 * shards) (record { words = set s.words (mark_at q) now; homes = homes; views = set s.views id (held w l) })
      mark-turns same = quiet-turns (mark_at q) now l homes (λ c e. omega (arith, e)) same

      mark-shows : l.unshown ≡ k.unshown → IsShown (64 * shards) (record { words = set s.words (mark_at q) now; homes = homes; views = set s.views id (held w l) })
      mark-shows same = quiet-shows (mark_at q) now l homes (λ c e. omega (arith, e)) (λ c e. omega (arith, e)) same

      mark-sleep : l.owes ≡ k.owes → l.worker ≡ k.worker → l.seen ≡ k.seen → Unmoved k l → WakesSleepers (record { words = set s.words (mark_at q) now; homes = homes; views = set s.views id (held w l) })
      mark-sleep owes worker seen unmoved = quiet-sleep (mark_at q) now l homes (λ e. omega (arith, e)) (λ e. omega (arith, e)) (λ c e. omega (arith, e)) owes worker seen unmoved

    -- a ready bit that is set: the place was in hand
    module _ (q x y : ℕ) (within : q < 64 * (64 * shards)) (l : Notes) where
      ready-law : (now : ℕ) → now ≡ bit_or (get_or s.words (ready_at (q / 64)) 0) (2 ^ (q % 64)) → IsTold (ready_at (q / 64)) (get_or s.words (ready_at (q / 64)) 0) now k l → k.hand ≡ (q, x) ∷ l.hand
          → IsBalanced (record { words = set s.words (ready_at (q / 64)) now; homes = set s.homes q (some y); views = set s.views id (held w l) })
          → HasJobOrIsFree (64 * shards) (record { words = set s.words (ready_at (q / 64)) now; homes = set s.homes q (some y); views = set s.views id (held w l) }) → KeepsMarks k l
          → IsShown (64 * shards) (record { words = set s.words (ready_at (q / 64)) now; homes = set s.homes q (some y); views = set s.views id (held w l) })
          → l.owes ≡ k.owes → l.worker ≡ k.worker → l.seen ≡ k.seen → Unmoved k l → l.ended ≡ k.ended → Knows (64 * shards) s.words l
          → IsLawful shards (record { words = set s.words (ready_at (q / 64)) now; homes = set s.homes q (some y); views = set s.views id (held w l) })
      ready-law now is told hand balance turns marks shows owes worker seen unmoved ended knows = record {
        came = comes shards id w s h k mine (ready_at (q / 64)) l now (set s.homes q (some y)) told;
        keeper = subst (λ n. HasOneKeeper (64 * shards) (record { words = set s.words (ready_at (q / 64)) n; homes = set s.homes q (some y); views = set s.views id (held w l) })) (sym is)
            (keeps-ready (64 * shards) s h.keeper id (held w k) mine q within (held w l) x y hand);
        balance = balance;
        turns = turns;
        hears = hears-on (64 * shards) s h.hears id (held w k) (held w l) mine (set s.homes q (some y)) (set s.words (ready_at (q / 64)) now) (unmarked (ready_at (q / 64)) now (λ p e. omega (arith, e))) marks;
        names = names-on (64 * shards) s h.names id (held w k) (held w l) mine _ _ (ageless (ready_at (q / 64)) now (λ p e. omega (arith, e))) ended knows;
        shows = shows;
        sleep = quiet-sleep (ready_at (q / 64)) now l (set s.homes q (some y)) (λ e. omega (arith, e)) (λ e. omega (arith, e)) (λ c e. omega (arith, e)) owes worker seen unmoved;
      }

      ready-turns : (now : ℕ) → KeepsTurns k l → HasJobOrIsFree (64 * shards) (record { words = set s.words (ready_at (q / 64)) now; homes = set s.homes q (some y); views = set s.views id (held w l) })
      ready-turns now same = quiet-turns (ready_at (q / 64)) now l (set s.homes q (some y)) (λ c e. omega (arith, e)) same

      -- a job was spawned
      ready-spawned : (now : ℕ) → k.unspawned ≡ q + 1 → l.unspawned ≡ 0 → l.spawned ≡ (q, y) ∷ k.spawned → l.freed ≡ k.freed
          → HasJobOrIsFree (64 * shards) (record { words = set s.words (ready_at (q / 64)) now; homes = set s.homes q (some y); views = set s.views id (held w l) })
      ready-spawned now was is spawned freed = turns-spawned (64 * shards) s h.turns id (held w k) (held w l) mine (set s.words (ready_at (q / 64)) now) (set s.homes q (some y)) q y
          (same_free (ready_at (q / 64)) now (λ c e. omega (arith, e))) was is spawned freed

      -- the block had none before
      ready-first : (now : ℕ) → k.unshown ≡ 0 → l.unshown ≡ q / 64 + 1
          → IsShown (64 * shards) (record { words = set s.words (ready_at (q / 64)) now; homes = set s.homes q (some y); views = set s.views id (held w l) })
      ready-first now was is = shows-owing (64 * shards) s h.shows id (held w k) (held w l) mine (set s.words (ready_at (q / 64)) now) (set s.homes q (some y)) (q / 64) was is
          (λ c ne some_ready. let same = get_or-set_other s.words (ready_at (q / 64)) (ready_at c) now 0 (λ e. ne (ready_apart c (q / 64) e)) in omega (arith, some_ready, same))
          (λ c ne. same_shown (ready_at (q / 64)) now (λ d e. omega (arith, e)) c)

      ready-more : (now : ℕ) → get_or s.words (ready_at (q / 64)) 0 ≢ 0 → l.unshown ≡ k.unshown
          → IsShown (64 * shards) (record { words = set s.words (ready_at (q / 64)) now; homes = set s.homes q (some y); views = set s.views id (held w l) })
      ready-more now some_before same = shows-on (64 * shards) s h.shows id (held w k) (held w l) mine (set s.words (ready_at (q / 64)) now) (set s.homes q (some y))
          (λ c some_ready. dite (ℕ_discrete (ready_at c) (ready_at (q / 64)))
          (λ e. subst (λ i. 0 < get_or s.words i 0) (sym e) (some_number (get_or s.words (ready_at (q / 64)) 0) some_before))
          (λ ne. let old = get_or-set_other s.words (ready_at (q / 64)) (ready_at c) now 0 ne in omega (arith, some_ready, old)))
          (same_shown (ready_at (q / 64)) now (λ d e. omega (arith, e))) same

  -- ---- looks, and bits that are cleared

  pub looks : (k : Notes) (xs : List (ℕ × ℕ)) (i : ℕ) → k.unshown ≡ 0 → Allows (IsLawful shards) slots id (held w k, xs) i (λ n. n) (Looks (step slots i 0 0 none) (held w k, xs))
  looks k xs i free s h _ mine _ = (held w (noted i (get_or s.words i 0) k), keeps, tt, noting s h k mine xs i (λ d e. free), refl)

  -- a ready place that comes to the seat with its job
  module _ (s : Board) (h : IsLawful shards s) (k : Notes) (mine : get_elem? s.views id ≡ some (held w k)) (q : ℕ) (within : q < 64 * (64 * shards)) (there : bit_at (get_or s.words (ready_at (q / 64)) 0) (q % 64) ≡ 1) where
    pub ready-job : (job : ℕ) × (get_elem? s.homes q ≡ some (some job))
    ready-job = home-of-ready (64 * shards) s h.keeper id (held w k) mine q within there

    pub taken-law : (ds : List (ℕ × ℕ)) → let now : ℕ = bit_and (get_or s.words (ready_at (q / 64)) 0) (others (q % 64)) in let l : Notes = gained q ready-job.0 (record k { looks = ds }) in
        HasCome shards (record { words = set s.words (ready_at (q / 64)) now; homes = set s.homes q none; views = set s.views id (held w l) }) → ((p : ℕ) → FoundLast s.words p ds)
        → IsLawful shards (record { words = set s.words (ready_at (q / 64)) now; homes = set s.homes q none; views = set s.views id (held w l) })
    taken-law ds came knows =
        let i : ℕ = ready_at (q / 64) in let now : ℕ = bit_and (get_or s.words i 0) (others (q % 64)) in let l : Notes = gained q ready-job.0 (record k { looks = ds }) in record {
          came = came;
          keeper = keeps-take (64 * shards) s h.keeper id (held w k) mine q within (held w l) ready-job.0 there refl;
          balance = balanced-taken s h.balance id (held w k) (held w l) mine _ q ready-job.0 ready-job.1 refl refl refl;
          turns = quiet-turns s h k mine i now l (set s.homes q none) (λ c e. omega (arith, e)) (refl, refl, refl);
          hears = hears-on (64 * shards) s h.hears id (held w k) (held w l) mine _ _ (unmarked s h k mine i now (λ p e. omega (arith, e))) (refl, refl, refl, refl);
          names = names-on (64 * shards) s h.names id (held w k) (held w l) mine _ _ (ageless s h k mine i now (λ p e. omega (arith, e))) refl (λ p inside has. knows p);
          shows = shows-on (64 * shards) s h.shows id (held w k) (held w l) mine _ _ (fallen s h k mine (q / 64) (omega (arith, within)) now (clear_le (get_or s.words i 0) (q % 64) (omega arith)))
              (same_shown s h k mine i now (λ c e. omega (arith, e))) refl;
          sleep = quiet-sleep s h k mine i now l (set s.homes q none) (λ e. omega (arith, e)) (λ e. omega (arith, e)) (λ c e. omega (arith, e)) refl refl refl refl;
        }

  pub takes_ready : (k : Notes) (xs : List (ℕ × ℕ)) (q : ℕ) → q < 64 * (64 * shards)
      → Allows (IsLawful shards) slots id (held w k, xs) (ready_at (q / 64)) (λ n. bit_and n (others (q % 64))) (Takes (step slots (ready_at (q / 64)) (others (q % 64)) 0 none) (held w k, xs))
  takes_ready k xs q within s h _ mine small =
      let i : ℕ = ready_at (q / 64) in let n : ℕ = get_or s.words i 0 in let now : ℕ = bit_and n (others (q % 64)) in let m : Mine = (held w k, xs) in dite (ℕ_discrete (bit_at n (q % 64)) 1)
      (λ there. let job = ready-job s h k mine q within there in (
        held w (gained q job.0 (noted i n k)),
        takes q job.0,
        job.1,
        let l : Notes = gained q job.0 (noted i n k) in taken-law s h k mine q within there l.looks (comes shards id w s h k mine i l now (set s.homes q none) (told-found refl (λ d e. omega (arith, e)) (refl, refl, refl, refl, refl, refl, refl, refl, refl, refl) ((q, job.0) ∷ [], refl, refl))) (λ p. found-word s.words p i k.looks),
        λ p at first. let same = same_bits p q (ready_apart (q / 64) (p / 64) at) first in (
          λ _. (job.0, ap (λ x. with m (gained x job.0 (noted i n k)) ((x, job.0) ∷ xs)) (sym same)),
          λ none_there. absurd (clash n (q % 64) there (subst (λ x. bit_at n (x % 64) ≡ 0) same none_there)),
        ),
      ))
      (λ other. let clear = not_one n (q % 64) other in (
        held w (noted i n k),
        keeps,
        tt,
        subst (λ x. IsLawful shards (stepped s i x id xs (held w (noted i n k)) keeps)) (sym (unset n (q % 64) (omega arith) small clear)) (noting s h k mine xs i (λ d e. omega (arith, e))),
        λ p at first. let same = same_bits p q (ready_apart (q / 64) (p / 64) at) first in (
          λ there. absurd (clash n (q % 64) (subst (λ x. bit_at n (x % 64) ≡ 1) same there) clear),
          λ _. refl,
        ),
      ))

  pub claims : (k : Notes) (xs : List (ℕ × ℕ)) (q : ℕ) → q < 64 * (64 * shards) → k.unspawned ≡ 0
      → Allows (IsLawful shards) slots id (held w k, xs) (free_at (q / 64)) (λ n. bit_and n (others (q % 64))) (Claims (step slots (free_at (q / 64)) (others (q % 64)) 0 none) (held w k, xs))
  claims k xs q within spawned s h _ mine small =
      let i : ℕ = free_at (q / 64) in let n : ℕ = get_or s.words i 0 in let now : ℕ = bit_and n (others (q % 64)) in let m : Mine = (held w k, xs) in dite (ℕ_discrete (bit_at n (q % 64)) 1)
      (λ there. let empty = h.keeper.empty q within there in let l : Notes = claiming q (noted i n k) in (
        held w l,
        takes q 0,
        empty,
        record {
          came = comes shards id w s h k mine i l now (set s.homes q none) (record { looks = inl (refl, λ d e. omega (arith, e)); spawned = inl refl; owed_job = inr (inl spawned); ended = inl refl; woken = inl refl; heard = inl refl; blocked = inl refl; unblocked = inl refl; freed = inl refl; hand = inl ((q, 0) ∷ [], refl, refl); sleeps = inl refl; splits = refl });
          keeper = keeps-claim (64 * shards) s h.keeper id (held w k) mine q within (held w l) 0 there refl;
          balance = balanced-taken s h.balance id (held w k) (held w l) mine _ q 0 empty refl refl refl;
          turns = turns-claimed (64 * shards) s h.turns id (held w k) (held w l) mine (set s.words i now) (set s.homes q none) q
              (cleared free_at free_apart s.words q (omega (arith, h.keeper.sized, within)) there) spawned refl refl refl;
          hears = hears-on (64 * shards) s h.hears id (held w k) (held w l) mine _ _ (unmarked s h k mine i now (λ p e. omega (arith, e))) (refl, refl, refl, refl);
          names = names-on (64 * shards) s h.names id (held w k) (held w l) mine _ _ (ageless s h k mine i now (λ p e. omega (arith, e))) refl (λ p inside has. found-word s.words p i k.looks);
          shows = quiet-shows s h k mine i now l (set s.homes q none) (λ c e. omega (arith, e)) (λ c e. omega (arith, e)) refl;
          sleep = quiet-sleep s h k mine i now l (set s.homes q none) (λ e. omega (arith, e)) (λ e. omega (arith, e)) (λ c e. omega (arith, e)) refl refl refl refl;
        },
        λ p at first. let same = same_bits p q (free_apart (q / 64) (p / 64) at) first in (
          λ _. ap (λ x. with m (claiming x (noted i n k)) ((x, 0) ∷ xs)) (sym same),
          λ none_there. absurd (clash n (q % 64) there (subst (λ x. bit_at n (x % 64) ≡ 0) same none_there)),
        ),
      ))
      (λ other. let clear = not_one n (q % 64) other in (
        held w (noted i n k),
        keeps,
        tt,
        subst (λ x. IsLawful shards (stepped s i x id xs (held w (noted i n k)) keeps)) (sym (unset n (q % 64) (omega arith) small clear)) (noting s h k mine xs i (λ d e. omega (arith, e))),
        λ p at first. let same = same_bits p q (free_apart (q / 64) (p / 64) at) first in (
          λ there. absurd (clash n (q % 64) (subst (λ x. bit_at n (x % 64) ≡ 1) same there) clear),
          λ _. refl,
        ),
      ))

  -- ---- the newest place is put somewhere

  module _ (k : Notes) (q x : ℕ) (xs : List (ℕ × ℕ)) (hand : k.hand ≡ (q, x) ∷ older k.hand) (within : q < 64 * (64 * shards)) where
    module _ (s : Board) (h : IsLawful shards s) (mine : get_elem? s.views id ≡ some (held w k)) where
      out : get_elem? s.homes q ≡ some none
      out = h.keeper.away q within (in-hand (64 * shards) s h.keeper id (held w k) mine q x (older k.hand) hand)

      unblocked-here : is_blocked s.words q ≡ 0
      unblocked-here = let sum = h.keeper.kept q within in let some_hand = in-hand (64 * shards) s h.keeper id (held w k) mine q x (older k.hand) hand in omega (arith, sum, some_hand)

      taken-here : is_free s.words q ≡ 0
      taken-here = let sum = h.keeper.kept q within in let some_hand = in-hand (64 * shards) s h.keeper id (held w k) mine q x (older k.hand) hand in omega (arith, sum, some_hand)

      mark-room : mark_at q < length s.words
      mark-room = omega (arith, h.keeper.sized, within)

    one-ended : ◌≡◌ {A = List (ℕ × ℕ)} ((q, newest_job k.hand) ∷ k.ended) ((q, x) ∷ k.ended)
    one-ended = ap (λ (zs : List (ℕ × ℕ)). (q, newest_job zs) ∷ k.ended) hand

    -- the hand without the newest place
    older-less : (p : ℕ) → places_in p (older k.hand) ≤ places_in p k.hand
    older-less p = let more = ap (places_in p) hand ∙ places-cons p q x (older k.hand) in omega (arith, more)

    pub frees : x ≡ 0 → Allows (IsLawful shards) slots id (held w k, (q, 0) ∷ xs) (free_at (q / 64)) (λ n. bit_or n (2 ^ (q % 64))) (Frees (step slots (free_at (q / 64)) (2 ^ (q % 64)) 0 none) (held w k, (q, 0) ∷ xs))
    frees nothing s h _ mine small =
        let i : ℕ = free_at (q / 64) in let n : ℕ = get_or s.words i 0 in let now : ℕ = bit_or n (2 ^ (q % 64)) in let l : Notes = freeing k in (
          held w l,
          gives,
          tt,
          record {
            came = comes shards id w s h k mine i l now (set s.homes q (some 0)) (record { looks = inr (inr (refl, free-silent (q / 64) n now)); spawned = inl refl; owed_job = inl refl; ended = inl refl; woken = inl refl; heard = inl refl; blocked = inl refl; unblocked = inl refl; freed = inr (newest_place k.hand, refl); hand = inr (inr (inr (inr (inr (newest_place k.hand, refl))))); sleeps = inl refl; splits = refl });
            keeper = keeps-free (64 * shards) s h.keeper id (held w k) mine q within (held w l) x 0 refl hand;
            balance = balanced-put s h.balance id (held w k) (held w l) mine _ q 0 (out s h mine) refl refl (hand ∙ ap (λ j. (q, j) ∷ older k.hand) nothing);
            turns = turns-freed (64 * shards) s h.turns id (held w k) (held w l) mine (set s.words i now) (set s.homes q (some 0)) q
                (raised free_at free_apart s.words q (omega (arith, h.keeper.sized, within)) (taken-here s h mine)) refl refl (ap (λ (zs : List (ℕ × ℕ)). newest_place zs ∷ k.freed) hand);
            hears = hears-on (64 * shards) s h.hears id (held w k) (held w l) mine _ _ (unmarked s h k mine i now (λ p e. omega (arith, e))) (refl, refl, refl, refl);
            names = names-on (64 * shards) s h.names id (held w k) (held w l) mine _ _ (ageless s h k mine i now (λ p e. omega (arith, e))) refl (knows-less (64 * shards) s h.names id (held w k) (held w l) mine refl older-less);
            shows = quiet-shows s h k mine i now l (set s.homes q (some 0)) (λ c e. omega (arith, e)) (λ c e. omega (arith, e)) refl;
            sleep = quiet-sleep s h k mine i now l (set s.homes q (some 0)) (λ e. omega (arith, e)) (λ e. omega (arith, e)) (λ c e. omega (arith, e)) refl refl refl refl;
          },
          (ap (λ zs. free_at (newest_place zs / 64)) (sym hand), refl),
        )

    pub readies : k.unshown ≡ 0 → Allows (IsLawful shards) slots id (held w k, (q, x) ∷ xs) (ready_at (q / 64)) (λ n. bit_or n (2 ^ (q % 64))) (Readies (step slots (ready_at (q / 64)) (2 ^ (q % 64)) 0 none) (held w k, (q, x) ∷ xs))
    readies shown s h _ mine small =
        let d : ℕ = q / 64 in let n : ℕ = get_or s.words (ready_at d) 0 in let now : ℕ = bit_or n (2 ^ (q % 64)) in let m : Mine = (held w k, (q, x) ∷ xs) in dite (ℕ_discrete n 0)
        (λ empty. let l : Notes = unshowing (d + 1) (laying_down k) in (
          held w l,
          gives,
          tt,
          ready-law s h k mine q x x within l now refl (told-rested refl (sets-one d n (q % 64)) (refl, refl, refl, refl, refl, refl, refl, refl, refl, refl) refl) hand (balanced-put s h.balance id (held w k) (held w l) mine _ q x (out s h mine) refl refl hand) (ready-turns s h k mine q x x within l now (refl, refl, refl)) (refl, refl, refl, refl)
              (ready-first s h k mine q x x within l now shown refl) refl refl refl refl refl (knows-less (64 * shards) s h.names id (held w k) (held w l) mine refl older-less),
          λ p at. let same : d ≡ p / 64 = ready_apart d (p / 64) at in (
            λ _. ap (λ c. with m (unshowing (c + 1) (laying_down k)) xs) same,
            λ full. absurd (full empty),
          ),
        ))
        (λ full. let l : Notes = laying_down k in (
          held w l,
          gives,
          tt,
          ready-law s h k mine q x x within l now refl (told-rested refl (sets-one d n (q % 64)) (refl, refl, refl, refl, refl, refl, refl, refl, refl, refl) refl) hand (balanced-put s h.balance id (held w k) (held w l) mine _ q x (out s h mine) refl refl hand) (ready-turns s h k mine q x x within l now (refl, refl, refl)) (refl, refl, refl, refl)
              (ready-more s h k mine q x x within l now full refl) refl refl refl refl refl (knows-less (64 * shards) s h.names id (held w k) (held w l) mine refl older-less),
          λ p at. ((λ empty. absurd (full empty)), λ _. refl),
        ))

    -- a mark that a blocked place gets
    pub blocks_at : (old new : ℕ) → old % 4 ≡ 0 → new ≡ old + 2 → Allows (IsLawful shards) slots id (held w k, (q, x) ∷ xs) (mark_at q) (λ n. either (eqb n old) new n) (Blocks (step slots (mark_at q) old new none) (held w k, (q, x) ∷ xs))
    blocks_at old new unwoken is s h _ mine small =
        let i : ℕ = mark_at q in let n : ℕ = get_or s.words i 0 in let m : Mine = (held w k, (q, x) ∷ xs) in
        exchanged n old new (λ y. (u : Token Notes) × (a : Act ℕ) × Valid s.homes m.1 a × IsLawful shards (stepped s i y id m.1 u a) × Blocks (step slots i old new none) m n (u, carried_after m.1 a))
        (λ hit. let l : Notes = blocking k in (
          held w l,
          gives,
          tt,
          record {
            came = comes shards id w s h k mine i l new (set s.homes q (some x)) (record { looks = inr (inr (refl, mark-silent q n new)); spawned = inl refl; owed_job = inl refl; ended = inl refl; woken = inl refl; heard = inl refl; blocked = inr (newest_place k.hand, refl); unblocked = inl refl; freed = inl refl; hand = inr (inr (inr (inr (inl (newest_place k.hand, refl))))); sleeps = inl refl; splits = refl });
            keeper = keeps-block (64 * shards) s h.keeper id (held w k) mine q within (held w l) x x new hand (omega (arith, unwoken, is));
            balance = balanced-put s h.balance id (held w k) (held w l) mine _ q x (out s h mine) refl refl hand;
            turns = mark-turns s h k mine q new l (set s.homes q (some x)) (refl, refl, refl);
            hears = hears-mark (64 * shards) s h.hears id (held w k) (held w l) mine (set s.homes q (some x)) q (mark-room s h mine) new 0 0 1 0 (omega arith, omega arith, omega arith, omega arith)
                (record { woken = refl; heard = refl; blocked = ap (λ (zs : List (ℕ × ℕ)). newest_place zs ∷ k.blocked) hand; unblocked = refl })
                (omega (arith, hit, unwoken, is)) (omega (arith, hit, unwoken, is)) (omega (arith, unwoken, is));
            names = names-on (64 * shards) s h.names id (held w k) (held w l) mine _ _ (λ p inside. as-marked (64 * shards) s h.hears id (held w k) (held w l) mine s.homes q (mark-room s h mine) new (λ z. z / 4) (omega (arith, hit, unwoken, is)) p) refl (knows-less (64 * shards) s h.names id (held w k) (held w l) mine refl older-less);
            shows = mark-shows s h k mine q new l (set s.homes q (some x)) refl;
            sleep = mark-sleep s h k mine q new l (set s.homes q (some x)) refl refl refl refl;
          },
          ((λ _. refl), λ miss. absurd (miss hit)),
        ))
        (λ miss. (held w (noted i n k), keeps, tt, noting s h k mine m.1 i (λ d e. omega (arith, e)), ((λ hit. absurd (miss hit)), λ _. refl)))

    -- a new mark, by who has the place
    module _ (new : ℕ) (clear : new % 2 ≡ 0) (s : Board) (h : IsLawful shards s) (mine : get_elem? s.views id ≡ some (held w k)) (l : Notes) where
      renewed : new / 2 % 2 ≡ 0 → IsTold (mark_at q) (get_or s.words (mark_at q) 0) new k l → ((p : ℕ) → in_hands p (set s.views id (held w l)) ≡ in_hands p s.views) → IsBalanced (record { words = set s.words (mark_at q) new; homes = s.homes; views = set s.views id (held w l) })
          → MarksMore q 0 (get_or s.words (mark_at q) 0 % 2) 0 0 k l → KeepsTurns k l → l.unshown ≡ k.unshown
          → l.owes ≡ k.owes → l.worker ≡ k.worker → l.seen ≡ k.seen → Unmoved k l → CountsEnds (64 * shards) (record { words = set s.words (mark_at q) new; homes = s.homes; views = set s.views id (held w l) })
          → IsLawful shards (record { words = set s.words (mark_at q) new; homes = s.homes; views = set s.views id (held w l) })
      renewed is_awake told hands balance marks turns unshown owes worker seen unmoved names = record {
        came = comes shards id w s h k mine (mark_at q) l new s.homes told;
        keeper = keeps-mark (64 * shards) s h.keeper id (held w k) mine q within (held w l) new (is_awake ∙ sym (unblocked-here s h mine)) hands;
        balance = balance;
        turns = mark-turns s h k mine q new l s.homes turns;
        hears = let asleep = unblocked-here s h mine in hears-mark (64 * shards) s h.hears id (held w k) (held w l) mine s.homes q (mark-room s h mine) new 0 (get_or s.words (mark_at q) 0 % 2) 0 0
            (omega arith, omega arith, omega arith, omega arith) marks (omega (arith, clear)) (omega (arith, asleep, is_awake)) (omega (arith, clear, is_awake));
        names = names;
        shows = mark-shows s h k mine q new l s.homes unshown;
        sleep = mark-sleep s h k mine q new l s.homes owes worker seen unmoved;
      }

    -- the seat has found the mark last
    module _ (m : ℕ) (before : Notes) (found : k ≡ noted (mark_at q) m before) (s : Board) (h : IsLawful shards s) (mine : get_elem? s.views id ≡ some (held w k)) where
      generation : m / 4 ≡ min last_generation (ends_at q s.views)
      generation =
          let more = ap (places_in q) hand ∙ places-cons q q x (older k.hand) in let one_ = one-same q q refl in let has : 0 < places_in q k.hand = omega (arith, more, one_) in
          subst (λ (z : Notes). FoundLast s.words q z.looks) found (knowing-still s h k mine q within has) refl ∙ h.names.counted q within

      -- a job more has ended there
      ended-once : (new : ℕ) (l : Notes) (homes : List (maybe.Option ℕ)) → l.ended ≡ (q, x) ∷ k.ended → new / 4 ≡ min last_generation (m / 4 + 1) → Knows (64 * shards) (set s.words (mark_at q) new) l
          → CountsEnds (64 * shards) (record { words = set s.words (mark_at q) new; homes = homes; views = set s.views id (held w l) })
      ended-once new l homes ended now knows = names-ended (64 * shards) s h.names id (held w k) (held w l) mine homes q (mark-room s h mine) new x ended (omega (arith, now, generation))
          (no-other (64 * shards) s h.keeper id (held w k) mine q x (older k.hand) hand within) knows

    module _ (m : ℕ) (before : Notes) (found : k ≡ noted (mark_at q) m before) where
      pub renews : (y new : ℕ) → m / 4 + 1 < 2 ^ 44 → new ≡ 4 * (m / 4 + 1) → Allows (IsLawful shards) slots id (held w k, (q, y) ∷ xs) (mark_at q) (λ _. new) (Renews (step slots (mark_at q) new 0 none) (held w k, (q, y) ∷ xs))
      renews y new named is s h _ mine small =
          let n : ℕ = get_or s.words (mark_at q) 0 in let l : Notes = noted (mark_at q) new (ending q (hearing (n % 2) q k)) in (
            held w l,
            keeps,
            tt,
            renewed new (omega (arith, is)) s h mine l (omega (arith, is)) (record { looks = inr (inl (q, refl, refl)); spawned = inl refl; owed_job = inl refl; ended = inr ((q, newest_job k.hand), refl); woken = inl refl; heard = adds-heard (n % 2) q k.heard; blocked = inl refl; unblocked = inl refl; freed = inl refl; hand = inr (inr (inr (inl ((q, newest_job k.hand), refl)))); sleeps = inl refl; splits = refl }) (hands-renumbered (64 * shards) s h.keeper id (held w k) mine (held w l) q x 0 (older k.hand) hand refl)
                (balanced-ended s h.balance id (held w k) (held w l) mine _ q x (older k.hand) refl one-ended hand refl)
                (record { woken = refl; heard = refl; blocked = refl; unblocked = refl }) (refl, refl, refl) refl refl refl refl refl
                (ended-once m before found s h mine new l s.homes one-ended (omega (arith, is, named)) (λ p inside has. found-new (64 * shards) s h.names id (held w k) (held w l) mine s.homes q (mark-room s h mine) new p k.looks)),
            λ p at. ap (λ z. knowing (held w k, (q, y) ∷ xs) (noted (mark_at q) new (ending z (hearing (n % 2) z k)))) (mark_apart q p at),
          )

      pub retires : (new : ℕ) → last_generation ≤ m / 4 + 1 → new ≡ retired → Allows (IsLawful shards) slots id (held w k, (q, 0) ∷ xs) (mark_at q) (λ _. new) (Retires (step slots (mark_at q) new 0 none) (held w k, (q, 0) ∷ xs))
      retires new last is s h _ mine small =
          let n : ℕ = get_or s.words (mark_at q) 0 in let l : Notes = blocking (ending q (hearing (n % 2) q k)) in (
            held w l,
            gives,
            tt,
            record {
              came = comes shards id w s h k mine (mark_at q) l new (set s.homes q (some 0)) (record { looks = inr (inr (refl, mark-silent q n new)); spawned = inl refl; owed_job = inl refl; ended = inr ((q, newest_job k.hand), refl); woken = inl refl; heard = adds-heard (n % 2) q k.heard; blocked = inr (q, refl); unblocked = inl refl; freed = inl refl; hand = inr (inr (inr (inl ((q, newest_job k.hand), refl)))); sleeps = inl refl; splits = refl });
              keeper = keeps-block (64 * shards) s h.keeper id (held w k) mine q within (held w l) x 0 new hand (omega (arith, is));
              balance = balanced-retired s h.balance id (held w k) (held w l) mine _ q x (out s h mine) refl one-ended hand;
              turns = mark-turns s h k mine q new l (set s.homes q (some 0)) (refl, refl, refl);
              hears = let asleep = unblocked-here s h mine in hears-mark (64 * shards) s h.hears id (held w k) (held w l) mine (set s.homes q (some 0)) q (mark-room s h mine) new 0 (n % 2) 1 0
                  (omega arith, omega arith, omega arith, omega arith)
                  (record { woken = refl; heard = refl; blocked = refl; unblocked = refl })
                  (omega (arith, is)) (omega (arith, is, asleep)) (omega (arith, is));
              names = ended-once m before found s h mine new l (set s.homes q (some 0)) one-ended (omega (arith, is, last)) (λ p inside has. dite (ℕ_discrete q p)
                  (λ e. let none_ = no-more (64 * shards) s h.keeper id (held w k) mine q x (older k.hand) hand within in let there = ap (λ z. places_in z (older k.hand)) e in absurd (omega (arith, has, none_, there)))
                  (λ ne. found-on s.words (set s.words (mark_at q) new) p (ap (λ z. z / 4) (mark-else (64 * shards) s h.names id (held w k) (held w l) mine s.homes q (mark-room s h mine) new p ne)) k.looks
                  (knowing-still s h k mine p inside (let less = older-less p in omega (arith, has, less)))));
              shows = mark-shows s h k mine q new l (set s.homes q (some 0)) refl;
              sleep = mark-sleep s h k mine q new l (set s.homes q (some 0)) refl refl refl refl;
            },
            λ p at. ap (λ z. with (held w k, (q, 0) ∷ xs) (blocking (ending z (hearing (n % 2) z k))) xs) (mark_apart q p at),
          )

    -- all bits of the mark stay but the lowest two, which are cleared
    pub hears_wake : (y : ℕ) → Allows (IsLawful shards) slots id (held w k, (q, y) ∷ xs) (mark_at q) (λ n. bit_and n (2 ^ 64 - 1 - 3)) (Hears (step slots (mark_at q) (2 ^ 64 - 1 - 3) 0 none) (held w k, (q, y) ∷ xs))
    hears_wake y s h _ mine small =
        let n : ℕ = get_or s.words (mark_at q) 0 in let now : ℕ = bit_and n (2 ^ 64 - 1 - 3) in let l : Notes = noted (mark_at q) (4 * (n / 4)) (hearing (n % 2) q k) in
        let low : 4 * (n / 4) / 4 ≡ n / 4 = omega arith in let is : now ≡ n / 4 * 4 = and_high_mask 64 2 (omega arith) n small in let put : 4 * (n / 4) ≡ now = omega (arith, is) in (
          held w l,
          keeps,
          tt,
          renewed now (omega (arith, is)) s h mine l (omega (arith, is)) (record { looks = inr (inl (q, refl, ap (λ z. (mark_at q, z) ∷ k.looks) put)); spawned = inl refl; owed_job = inl refl; ended = inl refl; woken = inl refl; heard = adds-heard (n % 2) q k.heard; blocked = inl refl; unblocked = inl refl; freed = inl refl; hand = inl ([], refl, refl); sleeps = inl refl; splits = refl }) (hands-same (64 * shards) s h.keeper id (held w k) mine (held w l) refl) (balanced-same s h.balance id (held w k) (held w l) mine _ refl refl refl)
              (record { woken = refl; heard = refl; blocked = refl; unblocked = refl }) (refl, refl, refl) refl refl refl refl refl
              (names-on (64 * shards) s h.names id (held w k) (held w l) mine s.homes _ (λ p inside. as-marked (64 * shards) s h.hears id (held w k) (held w l) mine s.homes q (mark-room s h mine) now (λ z. z / 4) (omega (arith, is)) p) refl
              (λ p inside has e. low ∙ ap (λ z. get_or s.words z 0 / 4) e)),
          λ p at. ap (λ z. knowing (held w k, (q, y) ∷ xs) (noted (mark_at q) (4 * (n / 4)) (hearing (n % 2) z k))) (mark_apart q p at),
        )

  -- a job that was laid into the slot of a place which had none
  pub spawns : (k : Notes) (q y : ℕ) (xs : List (ℕ × ℕ)) → k.hand ≡ (q, 0) ∷ older k.hand → q < 64 * (64 * shards) → k.unspawned ≡ q + 1 → IsLast (mark_at q) k.looks → k.unshown ≡ 0
      → Allows (IsLawful shards) slots id (held w k, (q, y) ∷ xs) (ready_at (q / 64)) (λ n. bit_or n (2 ^ (q % 64))) (Spawns (step slots (ready_at (q / 64)) (2 ^ (q % 64)) 0 none) (held w k, (q, y) ∷ xs))
  spawns k q y xs hand within claimed named shown s h _ mine small =
      let d : ℕ = q / 64 in let n : ℕ = get_or s.words (ready_at d) 0 in let now : ℕ = bit_or n (2 ^ (q % 64)) in let m : Mine = (held w k, (q, y) ∷ xs) in
      let away = out k q 0 xs hand within s h mine in dite (ℕ_discrete n 0)
      (λ empty. let l : Notes = unshowing (d + 1) (spawning y k) in (
        held w l,
        gives,
        tt,
        ready-law s h k mine q 0 y within l now refl (record { looks = inr (inr (refl, sets-one d n (q % 64))); spawned = inr (q, y, claimed, one-spawned k q 0 y hand, named); owed_job = inr (inr ((newest_place k.hand, y), refl)); ended = inl refl; woken = inl refl; heard = inl refl; blocked = inl refl; unblocked = inl refl; freed = inl refl; hand = inr (inr (inl ((newest_place k.hand, y), refl))); sleeps = inl refl; splits = refl }) hand (balanced-spawned s h.balance id (held w k) (held w l) mine _ q y away (one-spawned k q 0 y hand) refl hand) (ready-spawned s h k mine q 0 y within l now claimed refl (one-spawned k q 0 y hand) refl) (refl, refl, refl, refl)
            (ready-first s h k mine q 0 y within l now shown refl) refl refl refl refl refl (knows-less (64 * shards) s h.names id (held w k) (held w l) mine refl (older-less k q 0 xs hand within)),
        λ p at. let same : d ≡ p / 64 = ready_apart d (p / 64) at in (
          λ _. ap (λ c. with m (unshowing (c + 1) (spawning y k)) xs) same,
          λ full. absurd (full empty),
        ),
      ))
      (λ full. let l : Notes = spawning y k in (
        held w l,
        gives,
        tt,
        ready-law s h k mine q 0 y within l now refl (record { looks = inr (inr (refl, sets-one d n (q % 64))); spawned = inr (q, y, claimed, one-spawned k q 0 y hand, named); owed_job = inr (inr ((newest_place k.hand, y), refl)); ended = inl refl; woken = inl refl; heard = inl refl; blocked = inl refl; unblocked = inl refl; freed = inl refl; hand = inr (inr (inl ((newest_place k.hand, y), refl))); sleeps = inl refl; splits = refl }) hand (balanced-spawned s h.balance id (held w k) (held w l) mine _ q y away (one-spawned k q 0 y hand) refl hand) (ready-spawned s h k mine q 0 y within l now claimed refl (one-spawned k q 0 y hand) refl) (refl, refl, refl, refl)
            (ready-more s h k mine q 0 y within l now full refl) refl refl refl refl refl (knows-less (64 * shards) s h.names id (held w k) (held w l) mine refl (older-less k q 0 xs hand within)),
        λ p at. ((λ empty. absurd (full empty)), λ _. refl),
      ))

  -- the same, where the place stays in hand
  pub begins : (k : Notes) (q y : ℕ) (xs : List (ℕ × ℕ)) (i : ℕ) → k.hand ≡ (q, 0) ∷ older k.hand → k.unspawned ≡ q + 1 → i ≡ mark_at q
      → Allows (IsLawful shards) slots id (held w k, (q, y) ∷ xs) i (λ n. n) (Begins (step slots i 0 0 none) (held w k, (q, y) ∷ xs))
  begins k q y xs i hand claimed at_mark s h _ mine small =
      let n : ℕ = get_or s.words i 0 in let l : Notes = beginning y (noted i n k) in
      let now : l.hand ≡ (q, y) ∷ older k.hand = ap (λ (zs : List (ℕ × ℕ)). (newest_place zs, y) ∷ older k.hand) hand in (
        held w l,
        keeps,
        tt,
        unchanged l ((q, y) ∷ xs) i s (record {
          came = comes-still shards id w s h k mine i l (record { looks = inl (refl, λ d e. omega (arith, e, at_mark)); spawned = inr (q, y, claimed, one-spawned k q 0 y hand, (n, k.looks, λ z. (at_mark z, n) ∷ k.looks)); owed_job = inr (inr ((newest_place k.hand, y), refl)); ended = inl refl; woken = inl refl; heard = inl refl; blocked = inl refl; unblocked = inl refl; freed = inl refl; hand = inr (inr (inl ((newest_place k.hand, y), refl))); sleeps = inl refl; splits = refl });
          keeper = keeps-places (64 * shards) s h.keeper id (held w k) mine (held w l) (hands-renumbered (64 * shards) s h.keeper id (held w k) mine (held w l) q 0 y (older k.hand) hand now);
          balance = balanced-begun s h.balance id (held w k) (held w l) mine s.words q y (older k.hand) (one-spawned k q 0 y hand) refl hand now;
          turns = turns-spawned (64 * shards) s h.turns id (held w k) (held w l) mine s.words s.homes q y (λ p. refl) claimed refl (one-spawned k q 0 y hand) refl;
          hears = hears-on (64 * shards) s h.hears id (held w k) (held w l) mine s.homes s.words (λ p inside. refl) (refl, refl, refl, refl);
          names = names-on (64 * shards) s h.names id (held w k) (held w l) mine s.homes s.words (λ p inside. refl) refl (λ p inside has. found-word s.words p i k.looks);
          shows = shows-on (64 * shards) s h.shows id (held w k) (held w l) mine s.words s.homes (λ c r. r) (λ c. refl) refl;
          sleep = sleeps-on s h.sleep id (held w k) (held w l) mine s.words s.homes refl refl (λ c r. r) refl refl refl refl;
        }),
        refl,
      )

  -- ---- a wake

  module _ (k : Notes) (xs : List (ℕ × ℕ)) (q : ℕ) (within : q < 64 * (64 * shards)) (old new : ℕ) where
    pub wakes : old % 4 ≡ 2 → new ≡ old - 2 → Allows (IsLawful shards) slots id (held w k, xs) (mark_at q) (λ n. either (eqb n old) new n) (Wakes (step slots (mark_at q) old new none) (held w k, xs))
    wakes was now s h _ mine small =
        let i : ℕ = mark_at q in let n : ℕ = get_or s.words i 0 in let m : Mine = (held w k, xs) in
        exchanged n old new (λ y. (u : Token Notes) × (a : Act ℕ) × Valid s.homes m.1 a × IsLawful shards (stepped s i y id m.1 u a) × Wakes (step slots i old new none) m n (u, carried_after m.1 a))
        (λ hit. let is_there : is_blocked s.words q ≡ 1 = ap (λ z. z / 2 % 2) hit ∙ omega (arith, was) in
        let job = home-of-blocked (64 * shards) s h.keeper id (held w k) mine q within is_there in let l : Notes = unblocking q job.0 (noted i n k) in (
          held w l,
          takes q job.0,
          job.1,
          record {
            came = comes shards id w s h k mine i l new (set s.homes q none) (record { looks = inl (refl, λ d e. omega (arith, e)); spawned = inl refl; owed_job = inl refl; ended = inl refl; woken = inl refl; heard = inl refl; blocked = inl refl; unblocked = inr (q, refl); freed = inl refl; hand = inl ((q, job.0) ∷ [], refl, refl); sleeps = inl refl; splits = refl });
            keeper = keeps-wake (64 * shards) s h.keeper id (held w k) mine q within (held w l) job.0 new is_there (omega (arith, was, now)) refl;
            balance = balanced-taken s h.balance id (held w k) (held w l) mine _ q job.0 job.1 refl refl refl;
            turns = mark-turns s h k mine q new l (set s.homes q none) (refl, refl, refl);
            hears = hears-mark (64 * shards) s h.hears id (held w k) (held w l) mine (set s.homes q none) q (omega (arith, h.keeper.sized, within)) new 0 0 0 1 (omega arith, omega arith, omega arith, omega arith)
                (record { woken = refl; heard = refl; blocked = refl; unblocked = refl }) (omega (arith, hit, was, now)) (omega (arith, hit, was, now)) (omega (arith, was, now));
            names = names-on (64 * shards) s h.names id (held w k) (held w l) mine _ _
                (λ p inside. as-marked (64 * shards) s h.hears id (held w k) (held w l) mine s.homes q (omega (arith, h.keeper.sized, within)) new (λ z. z / 4) (omega (arith, hit, was, now)) p) refl (λ p inside has. found-word s.words p i k.looks);
            shows = mark-shows s h k mine q new l (set s.homes q none) refl;
            sleep = mark-sleep s h k mine q new l (set s.homes q none) refl refl refl refl;
          },
          λ p at. ((λ _. (job.0, ap (λ z. with m (unblocking z job.0 (noted i n k)) ((z, job.0) ∷ xs)) (mark_apart q p at))), λ miss. absurd (miss hit)),
        ))
        (λ miss. (held w (noted i n k), keeps, tt, noting s h k mine xs i (λ d e. omega (arith, e)), λ p at. ((λ hit. absurd (miss hit)), λ _. refl)))

    -- the mark of a job that isn't blocked says of a wake
    pub marks : old % 4 ≡ 0 → new ≡ old + 1 → Allows (IsLawful shards) slots id (held w k, xs) (mark_at q) (λ n. either (eqb n old) new n) (Marks (step slots (mark_at q) old new none) (held w k, xs))
    marks was now s h _ mine small =
        let i : ℕ = mark_at q in let n : ℕ = get_or s.words i 0 in let m : Mine = (held w k, xs) in
        exchanged n old new (λ y. (u : Token Notes) × (a : Act ℕ) × Valid s.homes m.1 a × IsLawful shards (stepped s i y id m.1 u a) × Marks (step slots i old new none) m n (u, carried_after m.1 a))
        (λ hit. let l : Notes = marking q (noted i n k) in (
          held w l,
          keeps,
          tt,
          record {
            came = comes shards id w s h k mine i l new s.homes (record { looks = inl (refl, λ d e. omega (arith, e)); spawned = inl refl; owed_job = inl refl; ended = inl refl; woken = inr (q, refl); heard = inl refl; blocked = inl refl; unblocked = inl refl; freed = inl refl; hand = inl ([], refl, refl); sleeps = inl refl; splits = refl });
            keeper = keeps-mark (64 * shards) s h.keeper id (held w k) mine q within (held w l) new (omega (arith, was, now) ∙ ap (λ z. z / 2 % 2) (sym hit)) (hands-same (64 * shards) s h.keeper id (held w k) mine (held w l) refl);
            balance = balanced-same s h.balance id (held w k) (held w l) mine _ refl refl refl;
            turns = mark-turns s h k mine q new l s.homes (refl, refl, refl);
            hears = hears-mark (64 * shards) s h.hears id (held w k) (held w l) mine s.homes q (omega (arith, h.keeper.sized, within)) new 1 0 0 0 (omega arith, omega arith, omega arith, omega arith)
                (record { woken = refl; heard = refl; blocked = refl; unblocked = refl }) (omega (arith, hit, was, now)) (omega (arith, hit, was, now)) (omega (arith, was, now));
            names = names-on (64 * shards) s h.names id (held w k) (held w l) mine s.homes _
                (λ p inside. as-marked (64 * shards) s h.hears id (held w k) (held w l) mine s.homes q (omega (arith, h.keeper.sized, within)) new (λ z. z / 4) (omega (arith, hit, was, now)) p) refl
                (λ p inside has. found-word s.words p i k.looks);
            shows = mark-shows s h k mine q new l s.homes refl;
            sleep = mark-sleep s h k mine q new l s.homes refl refl refl refl;
          },
          λ p at. ((λ _. ap (λ z. knowing m (marking z (noted i n k))) (mark_apart q p at)), λ miss. absurd (miss hit)),
        ))
        (λ miss. (held w (noted i n k), keeps, tt, noting s h k mine xs i (λ d e. omega (arith, e)), λ p at. ((λ hit. absurd (miss hit)), λ _. refl)))
