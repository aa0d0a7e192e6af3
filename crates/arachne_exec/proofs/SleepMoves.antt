-- What a seat may do with summary words, the idle word and worker numbers: each kind of step is allowed, and tells what
-- it says.
use Rattle.std.proofs.Common.{◌≡◌, inl, inr, ℕ, ◌+◌, ◌*◌, ◌/◌, ◌%◌, ◌^◌, ◌<◌, true, List, [], length, get_or, set, sym, refl, ap, ◌∙◌, subst, arith, get_or-set_same, get_or-set_other}
use Rattle.std.specs.Int.{bit_at, RustNames.{bit_and, bit_or}}
use mathlib.Core.{Logic.dite, Option.{some, none}}
use native.Mathlib.Decide.{ℕ_discrete}
use lib.ListN.{get_elem?}
use Rattle.atomic_table.specs.Table.{step, keeps, Allows, stepped}
use Rattle.arachne_weights.specs.Tokens.{held}
use Rattle.arachne_exec.specs.declared.view.{Notes.Notes, SleepDeed.TheVariants.Roused}
use Rattle.arachne_exec.specs.Layout.{idle_at, numbers_at, summary_at, ready_at, worker_of, others, in_word}
use Rattle.std.proofs.lemmas.Nat.Bits.{bit_at-lt}
use Rattle.arachne_exec.specs.Board.{one, is_idle, Board, IsShown, WakesSleepers, HasChanged, IsTold, IsLawful}
use Rattle.arachne_exec.specs.Changes.{noted, rousing, unshowing, owing, having_seen, lying, rising, working}
use Rattle.arachne_exec.specs.Steps.{Mine, knowing, FindsShown, Shows, Hides, LooksAgain, LooksIdle, Unparks, Rises, Rests, LooksNext, Registers, Leaves}
use Rattle.arachne_exec.proofs.Bits.{one-same, one-apart, same_others, clear_same, clear_other, clear_le, unset, set_same, set_other, not_one, clear_counts, set_counts, elsewhere, here}
use Rattle.arachne_exec.proofs.{Keeping.{keeps-aside, keeps-summary, keeps-view}, Balancing.balanced-same}
use Rattle.arachne_exec.proofs.{Hearing.{KeepsMarks, hears-on}, Naming.{Knows, found-word, names-on}}
use Rattle.arachne_exec.proofs.Debts.{with-same, with-more, with-less, with-others}
use Rattle.arachne_exec.proofs.KeepsShown.{shows-on, shows-owing, shows-paid}
use Rattle.arachne_exec.proofs.Coming.{adds-risen, adds-lain, clears-none, changes-elsewhere, told-found, told-nothing, comes, comes-still}
use Rattle.arachne_exec.proofs.Sleeping.{roused-counts, risen-counts, lain-counts, Ends, ends-same, seats-same, keeps-sleep, sleeps-on}
use Rattle.arachne_exec.proofs.Spawning.{KeepsTurns, turns-on}
use Rattle.arachne_exec.proofs.Moves.{summary_apart, clash, was_set, some_number, unchanged, stays, unmarked, ageless, sunk, same_ready, quiet-turns, quiet-shows, noting, knowing-still}

-- the summary words and the idle word are no ready words, nor have they the worker numbers
summary-silent : (d found put : ℕ) → ¬ HasChanged (summary_at d) found put
summary-silent d found put = changes-elsewhere (summary_at d) found put (λ e. omega (arith, e)) (λ block e. omega (arith, e))

idle-silent : (found put : ℕ) → ¬ HasChanged idle_at found put
idle-silent found put = changes-elsewhere idle_at found put (λ e. omega (arith, e)) (λ block e. omega (arith, e))

module _ (shards slots id w : ℕ) where
  module _ (s : Board) (h : IsLawful shards s) (k l : Notes) (mine : get_elem? s.views id ≡ some (held w k)) (hand : l.hand ≡ k.hand) (spawned : l.spawned ≡ k.spawned) (ended : l.ended ≡ k.ended)
      (marks : KeepsMarks k l) (turns : KeepsTurns k l) (knows : Knows (64 * shards) s.words l) where
    -- no word changes
    view-law : (i : ℕ) → IsTold i (get_or s.words i 0) (get_or s.words i 0) k l → IsShown (64 * shards) (record { words = s.words; homes = s.homes; views = set s.views id (held w l) }) → WakesSleepers (record { words = s.words; homes = s.homes; views = set s.views id (held w l) })
        → IsLawful shards (record { words = s.words; homes = s.homes; views = set s.views id (held w l) })
    view-law i told shows sleep = record {
      came = comes-still shards id w s h k mine i l told;
      keeper = keeps-view (64 * shards) s h.keeper id (held w k) mine (held w l) hand;
      balance = balanced-same s h.balance id (held w k) (held w l) mine s.words spawned ended hand;
      turns = turns-on (64 * shards) s h.turns id (held w k) (held w l) mine s.words s.homes (λ p. refl) turns;
      hears = hears-on (64 * shards) s h.hears id (held w k) (held w l) mine s.homes s.words (λ p inside. refl) marks;
      names = names-on (64 * shards) s h.names id (held w k) (held w l) mine s.homes s.words (λ p inside. refl) ended knows;
      shows = shows;
      sleep = sleep;
    }

    -- the idle word or the numbers change
    aside-law : (i now : ℕ) → i < 16 → IsTold i (get_or s.words i 0) now k l → IsShown (64 * shards) (record { words = set s.words i now; homes = s.homes; views = set s.views id (held w l) })
        → WakesSleepers (record { words = set s.words i now; homes = s.homes; views = set s.views id (held w l) }) → IsLawful shards (record { words = set s.words i now; homes = s.homes; views = set s.views id (held w l) })
    aside-law i now low told shows sleep = record {
      came = comes shards id w s h k mine i l now s.homes told;
      keeper = keeps-aside (64 * shards) s h.keeper id (held w k) mine (held w l) i now low hand;
      balance = balanced-same s h.balance id (held w k) (held w l) mine _ spawned ended hand;
      turns = quiet-turns shards slots id w s h k mine i now l s.homes (λ c e. omega (arith, e, low)) turns;
      hears = hears-on (64 * shards) s h.hears id (held w k) (held w l) mine s.homes _ (unmarked shards slots id w s h k mine i now (λ p e. omega (arith, e, low))) marks;
      names = names-on (64 * shards) s h.names id (held w k) (held w l) mine s.homes _ (ageless shards slots id w s h k mine i now (λ p e. omega (arith, e, low))) ended knows;
      shows = shows;
      sleep = sleep;
    }

    -- a summary word changes
    summary-law : (d now : ℕ) → IsTold (summary_at d) (get_or s.words (summary_at d) 0) now k l → IsShown (64 * shards) (record { words = set s.words (summary_at d) now; homes = s.homes; views = set s.views id (held w l) })
        → WakesSleepers (record { words = set s.words (summary_at d) now; homes = s.homes; views = set s.views id (held w l) }) → IsLawful shards (record { words = set s.words (summary_at d) now; homes = s.homes; views = set s.views id (held w l) })
    summary-law d now told shows sleep = record {
      came = comes shards id w s h k mine (summary_at d) l now s.homes told;
      keeper = keeps-summary (64 * shards) s h.keeper id (held w k) mine (held w l) d now hand;
      balance = balanced-same s h.balance id (held w k) (held w l) mine _ spawned ended hand;
      turns = quiet-turns shards slots id w s h k mine (summary_at d) now l s.homes (λ c e. omega (arith, e)) turns;
      hears = hears-on (64 * shards) s h.hears id (held w k) (held w l) mine s.homes _ (unmarked shards slots id w s h k mine (summary_at d) now (λ p e. omega (arith, e))) marks;
      names = names-on (64 * shards) s h.names id (held w k) (held w l) mine s.homes _ (ageless shards slots id w s h k mine (summary_at d) now (λ p e. omega (arith, e))) ended knows;
      shows = shows;
      sleep = sleep;
    }

  -- ---- the summary word

  module _ (k : Notes) (xs : List (ℕ × ℕ)) (block : ℕ) (within : block < 64 * shards) where
    -- the seat has paid for the block, and no word changes
    paid-law : (s : Board) → IsLawful shards s → get_elem? s.views id ≡ some (held w k) → k.unshown ≡ block + 1 → ℕ → (0 < get_or s.words (ready_at block) 0 → in_word summary_at s.words block ≡ 1)
        → IsLawful shards (record { words = s.words; homes = s.homes; views = set s.views id (held w (unshowing 0 k)) })
    paid-law s h mine debt i shown = view-law s h k (unshowing 0 k) mine refl refl refl (refl, refl, refl, refl) (refl, refl, refl) (knowing-still shards slots id w s h k mine) i (told-nothing refl (clears-none i (get_or s.words i 0)) (refl, refl, refl, refl, refl, refl, refl, refl, refl, refl) ([], refl, refl))
        (shows-paid (64 * shards) s h.shows id (held w k) (held w (unshowing 0 k)) mine s.words s.homes block debt refl shown (λ c ne r. r) (λ c ne. refl))
        (sleeps-on s h.sleep id (held w k) (held w (unshowing 0 k)) mine s.words s.homes refl refl (λ c r. r) refl refl refl refl)

    pub finds_shown : k.unshown ≡ block + 1 → Allows (IsLawful shards) slots id (held w k, xs) (summary_at (block / 64)) (λ n. n) (FindsShown (step slots (summary_at (block / 64)) 0 0 none) (held w k, xs))
    finds_shown debt s h _ mine small =
        let i : ℕ = summary_at (block / 64) in let n : ℕ = get_or s.words i 0 in let m : Mine = (held w k, xs) in
        dite (ℕ_discrete (bit_at n (block % 64)) 1)
        (λ there. (
          held w (unshowing 0 k),
          keeps,
          tt,
          unchanged shards slots id w (unshowing 0 k) xs i s (paid-law s h mine debt i (λ _. there)),
          λ c e. let is : block ≡ c = omega (arith, debt, e) in ((λ _. refl), λ none_there. absurd (clash n (block % 64) there (subst (λ x. bit_at n (x % 64) ≡ 0) (sym is) none_there))),
        ))
        (λ other. let clear = not_one n (block % 64) other in (
          held w k,
          keeps,
          tt,
          stays shards slots id w s h k mine xs i,
          λ c e. let is : block ≡ c = omega (arith, debt, e) in ((λ there. absurd (clash n (block % 64) (subst (λ x. bit_at n (x % 64) ≡ 1) (sym is) there) clear)), λ _. refl),
        ))

    pub looks_again : k.unshown ≡ block + 1 → Allows (IsLawful shards) slots id (held w k, xs) (ready_at block) (λ n. n) (LooksAgain (step slots (ready_at block) 0 0 none) (held w k, xs))
    looks_again debt s h _ mine small =
        let i : ℕ = ready_at block in let n : ℕ = get_or s.words i 0 in dite (ℕ_discrete n 0)
        (λ empty. (
          held w (unshowing 0 k),
          keeps,
          tt,
          unchanged shards slots id w (unshowing 0 k) xs i s (paid-law s h mine debt i (λ some_ready. absurd (omega (arith, some_ready, empty)))),
          ((λ _. refl), λ full. absurd (full empty)),
        ))
        (λ full. (held w k, keeps, tt, stays shards slots id w s h k mine xs i, ((λ empty. absurd (full empty)), λ _. refl)))

    -- the block's bit is set
    module _ (s : Board) (h : IsLawful shards s) (mine : get_elem? s.views id ≡ some (held w k)) (debt : k.unshown ≡ block + 1) (l : Notes) (paid : l.unshown ≡ 0) where
      shown-now : let now : ℕ = bit_or (get_or s.words (summary_at (block / 64)) 0) (2 ^ (block % 64)) in
          IsShown (64 * shards) (record { words = set s.words (summary_at (block / 64)) now; homes = s.homes; views = set s.views id (held w l) })
      shown-now =
          let n : ℕ = get_or s.words (summary_at (block / 64)) 0 in let now : ℕ = bit_or n (2 ^ (block % 64)) in
          let room : summary_at (block / 64) < length s.words = omega (arith, h.keeper.sized, within) in
          shows-paid (64 * shards) s h.shows id (held w k) (held w l) mine (set s.words (summary_at (block / 64)) now) s.homes block debt paid
          (λ _. here summary_at summary_apart s.words block room now ∙ set_same n (block % 64))
          (λ c ne. same_ready shards slots id w s h k mine (summary_at (block / 64)) now (λ d e. omega (arith, e)) c)
          (λ c ne. elsewhere summary_at summary_apart s.words block room now (λ j low apart. set_other n (block % 64) j apart) c ne)

    pub shows : k.unshown ≡ block + 1 → k.owes ≡ 0
        → Allows (IsLawful shards) slots id (held w k, xs) (summary_at (block / 64)) (λ n. bit_or n (2 ^ (block % 64))) (Shows (step slots (summary_at (block / 64)) (2 ^ (block % 64)) 0 none) (held w k, xs))
    shows debt free s h _ mine small =
        let d : ℕ = block / 64 in let i : ℕ = summary_at d in let n : ℕ = get_or s.words i 0 in let now : ℕ = bit_or n (2 ^ (block % 64)) in let m : Mine = (held w k, xs) in
        let numbers = get_or-set_other s.words i numbers_at now 0 (λ e. omega (arith, e)) in let idles = get_or-set_other s.words i idle_at now 0 (λ e. omega (arith, e)) in dite (ℕ_discrete n 0)
        (λ empty. let l : Notes = owing (d + 1) (unshowing 0 k) in (
          held w l,
          keeps,
          tt,
          summary-law s h k l mine refl refl refl (refl, refl, refl, refl) (refl, refl, refl) (knowing-still shards slots id w s h k mine) d now (told-nothing refl (summary-silent d n now) (refl, refl, refl, refl, refl, refl, refl, refl, refl, refl) ([], refl, refl)) (shown-now s h mine debt l refl)
              (keeps-sleep s h.sleep id (held w k) (held w l) mine (set s.words i now) s.homes
              (λ j low. (λ z. bit_at (numbers z) j + seats-same s h.sleep id (held w k) (held w l) mine refl j z) ∙ h.sleep.single j low)
              (h.sleep.near id (held w k) mine)
              (λ j e. inl (ap (λ x. bit_at x j) (sym idles) ∙ e))
              (λ c e some_shown. let more = with-more (λ z. z.owes) s.views id (held w k) (held w l) mine d free refl c in dite (ℕ_discrete d c)
              (λ is. let one_ = one-same (d + 1) (c + 1) (omega (arith, is)) in ((λ o. omega (arith, more, one_)), inr (omega (arith, more, one_))))
              (λ ne. let same = get_or-set_other s.words i (summary_at c) now 0 (λ f. ne (sym (summary_apart c d f))) in ((λ o. omega (arith, more, o)), inl (omega (arith, some_shown, same)))))
              (λ j c is below. inl (is, below))
              (ends-same k l s.words (set s.words i now) idles refl)),
          λ c at. let same : d ≡ c / 64 = summary_apart d (c / 64) at in ((λ _. ap (λ x. knowing m (owing (x + 1) (unshowing 0 k))) same), λ full. absurd (full empty)),
        ))
        (λ full. let l : Notes = unshowing 0 k in (
          held w l,
          keeps,
          tt,
          summary-law s h k l mine refl refl refl (refl, refl, refl, refl) (refl, refl, refl) (knowing-still shards slots id w s h k mine) d now (told-nothing refl (summary-silent d n now) (refl, refl, refl, refl, refl, refl, refl, refl, refl, refl) ([], refl, refl)) (shown-now s h mine debt l refl)
              (sleeps-on s h.sleep id (held w k) (held w l) mine (set s.words i now) s.homes numbers idles
              (λ c some_shown. dite (ℕ_discrete (summary_at c) i)
              (λ e. subst (λ x. 0 < get_or s.words x 0) (sym e) (some_number n full))
              (λ ne. let same = get_or-set_other s.words i (summary_at c) now 0 ne in omega (arith, some_shown, same)))
              refl refl refl refl),
          λ c at. ((λ empty. absurd (full empty)), λ _. refl),
        ))

    pub hides : k.unshown ≡ 0 → Allows (IsLawful shards) slots id (held w k, xs) (summary_at (block / 64)) (λ n. bit_and n (others (block % 64))) (Hides (step slots (summary_at (block / 64)) (others (block % 64)) 0 none) (held w k, xs))
    hides free s h _ mine small =
        let d : ℕ = block / 64 in let i : ℕ = summary_at d in let n : ℕ = get_or s.words i 0 in let now : ℕ = bit_and n (others (block % 64)) in let m : Mine = (held w k, xs) in let l : Notes = unshowing (block + 1) k in
        let room : i < length s.words = omega (arith, h.keeper.sized, within) in (
          held w l,
          keeps,
          tt,
          summary-law s h k l mine refl refl refl (refl, refl, refl, refl) (refl, refl, refl) (knowing-still shards slots id w s h k mine) d now (told-nothing refl (summary-silent d n now) (refl, refl, refl, refl, refl, refl, refl, refl, refl, refl) ([], refl, refl))
              (shows-owing (64 * shards) s h.shows id (held w k) (held w l) mine (set s.words i now) s.homes block free refl
              (λ c ne. same_ready shards slots id w s h k mine i now (λ e f. omega (arith, f)) c)
              (λ c ne. elsewhere summary_at summary_apart s.words block room now (λ j low apart. clear_other n (block % 64) (omega arith) j low apart) c ne))
              (sleeps-on s h.sleep id (held w k) (held w l) mine (set s.words i now) s.homes
              (get_or-set_other s.words i numbers_at now 0 (λ e. omega (arith, e))) (get_or-set_other s.words i idle_at now 0 (λ e. omega (arith, e)))
              (sunk shards slots id w s h k mine d (omega (arith, within)) now (clear_le n (block % 64) (omega arith))) refl refl refl refl),
          λ c at first. let same : block ≡ c = let e = summary_apart d (c / 64) at in let r = same_others (block % 64) (c % 64) (omega arith) (omega arith) first in omega (arith, e, r) in ap (λ x. knowing m (unshowing (x + 1) k)) same,
        )

  -- ---- the idle word

  module _ (s : Board) (h : IsLawful shards s) (k l : Notes) (mine : get_elem? s.views id ≡ some (held w k)) (unshown : l.unshown ≡ k.unshown) where
    -- the idle word changes, or no word
    idle-shows : (now : ℕ) → IsShown (64 * shards) (record { words = set s.words idle_at now; homes = s.homes; views = set s.views id (held w l) })
    idle-shows now = quiet-shows shards slots id w s h k mine idle_at now l s.homes (λ c e. omega (arith, e)) (λ c e. omega (arith, e)) unshown

    number-shows : (now : ℕ) → IsShown (64 * shards) (record { words = set s.words numbers_at now; homes = s.homes; views = set s.views id (held w l) })
    number-shows now = quiet-shows shards slots id w s h k mine numbers_at now l s.homes (λ c e. omega (arith, e)) (λ c e. omega (arith, e)) unshown

    view-shows : IsShown (64 * shards) (record { words = s.words; homes = s.homes; views = set s.views id (held w l) })
    view-shows = shows-on (64 * shards) s h.shows id (held w k) (held w l) mine s.words s.homes (λ c r. r) (λ c. refl) unshown

  idle-room : (s : Board) → IsLawful shards s → idle_at < length s.words
  idle-room s h = omega (arith, h.keeper.sized)

  numbers-room : (s : Board) → IsLawful shards s → numbers_at < length s.words
  numbers-room s h = omega (arith, h.keeper.sized)

  module _ (k : Notes) (xs : List (ℕ × ℕ)) (d : ℕ) (debt : k.owes ≡ d + 1) where
    pub looks_idle : Allows (IsLawful shards) slots id (held w k, xs) idle_at (λ n. n) (LooksIdle (step slots idle_at 0 0 none) (held w k, xs))
    looks_idle s h _ mine small =
        let n : ℕ = get_or s.words idle_at 0 in let l : Notes = owing 0 k in dite (ℕ_discrete (bit_at n (worker_of d)) 1)
        (λ there. (
          held w k,
          keeps,
          tt,
          stays shards slots id w s h k mine xs idle_at,
          λ c e. let is : d ≡ c = omega (arith, debt, e) in ((λ _. refl), λ none_there. absurd (clash n (worker_of d) there (subst (λ x. bit_at n (worker_of x) ≡ 0) (sym is) none_there))),
        ))
        (λ other. let clear = not_one n (worker_of d) other in (
          held w l,
          keeps,
          tt,
          unchanged shards slots id w l xs idle_at s (view-law s h k l mine refl refl refl (refl, refl, refl, refl) (refl, refl, refl) (knowing-still shards slots id w s h k mine) idle_at (told-nothing refl (clears-none idle_at (get_or s.words idle_at 0)) (refl, refl, refl, refl, refl, refl, refl, refl, refl, refl) ([], refl, refl)) (view-shows s h k l mine refl)
              (keeps-sleep s h.sleep id (held w k) (held w l) mine s.words s.homes
              (λ j low. ap (λ x. bit_at (get_or s.words numbers_at 0) j + x) (seats-same s h.sleep id (held w k) (held w l) mine refl j) ∙ h.sleep.single j low)
              (h.sleep.near id (held w k) mine)
              (λ j e. inl e)
              (λ c e some_shown. dite (ℕ_discrete c d)
              (λ is. absurd (clash n (worker_of d) (subst (λ x. is_idle s.words (x % 64) ≡ 1) is e) clear))
              (λ ne. let same = with-others (λ z. z.owes) s.views id (held w k) (held w l) mine d debt refl c ne in ((λ o. omega (arith, o, same)), inl some_shown)))
              (λ j c is below. inl (is, below))
              (ends-same k l s.words s.words refl refl))),
          λ c e. let is : d ≡ c = omega (arith, debt, e) in ((λ there. absurd (clash n (worker_of d) (subst (λ x. bit_at n (worker_of x) ≡ 1) (sym is) there) clear)), λ _. refl),
        ))

    -- the idle bit of the worker is cleared
    unpark-law : (s : Board) → IsLawful shards s → get_elem? s.views id ≡ some (held w k) → (l : Notes) → l.hand ≡ k.hand → l.spawned ≡ k.spawned → l.ended ≡ k.ended → KeepsMarks k l → KeepsTurns k l
        → Knows (64 * shards) s.words l → l.unshown ≡ k.unshown → l.owes ≡ 0 → l.worker ≡ k.worker → l.seen ≡ k.seen → (now : ℕ) → now ≡ bit_and (get_or s.words idle_at 0) (others (worker_of d))
        → IsTold idle_at (get_or s.words idle_at 0) now k l
        → Ends k l s.words (set s.words idle_at now)
        → IsLawful shards (record { words = set s.words idle_at now; homes = s.homes; views = set s.views id (held w l) })
    unpark-law s h mine l hand spawned ended marks turns knows unshown owes worker seen now is_now told ends =
        let n : ℕ = get_or s.words idle_at 0 in
        let there : get_or (set s.words idle_at now) idle_at 0 ≡ bit_and n (others (worker_of d)) = get_or-set_same s.words idle_at now 0 (idle-room s h) ∙ is_now in
        aside-law s h k l mine hand spawned ended marks turns knows idle_at now (omega arith) told (idle-shows s h k l mine unshown now)
        (keeps-sleep s h.sleep id (held w k) (held w l) mine (set s.words idle_at now) s.homes
        (λ j low. (λ z. bit_at (get_or-set_other s.words idle_at numbers_at now 0 (λ e. omega (arith, e)) z) j + seats-same s h.sleep id (held w k) (held w l) mine worker j z) ∙ h.sleep.single j low)
        (let near = h.sleep.near id (held w k) mine in omega (arith, near, worker))
        (λ j e. inl (was_set n (worker_of d) j (ap (λ x. bit_at x j) (sym there) ∙ e)))
        (λ c e some_shown. dite (ℕ_discrete c d)
        (λ is. absurd (clash (bit_and n (others (worker_of d))) (worker_of d) (ap (λ x. bit_at x (worker_of d)) (sym there) ∙ subst (λ x. is_idle (set s.words idle_at now) (x % 64) ≡ 1) is e) (clear_same n (worker_of d) (omega arith))))
        (λ ne. let same = with-others (λ z. z.owes) s.views id (held w k) (held w l) mine d debt owes c ne in
        let old = get_or-set_other s.words idle_at (summary_at c) now 0 (λ f. omega (arith, f)) in ((λ o. omega (arith, o, same)), inl (omega (arith, some_shown, old)))))
        (λ j c is below. inl (sym worker ∙ is, omega (arith, below, seen)))
        ends)

    pub unparks : Allows (IsLawful shards) slots id (held w k, xs) idle_at (λ n. bit_and n (others (worker_of d))) (Unparks (step slots idle_at (others (worker_of d)) 0 none) (held w k, xs))
    unparks s h _ mine small =
        let n : ℕ = get_or s.words idle_at 0 in let m : Mine = (held w k, xs) in let now : ℕ = bit_and n (others (worker_of d)) in
        let fewer = λ (j : ℕ) (low : j < 64). ap (λ x. bit_at x j + bit_at n (worker_of d) * one (worker_of d) j) (get_or-set_same s.words idle_at now 0 (idle-room s h)) ∙ clear_counts n (worker_of d) j (omega arith) low in
        dite (ℕ_discrete (bit_at n (worker_of d)) 1)
        (λ there. (
          held w (rousing true (worker_of d) (owing 0 k)),
          keeps,
          tt,
          unpark-law s h mine (rousing true (worker_of d) (owing 0 k)) refl refl refl (refl, refl, refl, refl) (refl, refl, refl) (knowing-still shards slots id w s h k mine) refl refl refl refl _ refl
              (record { looks = inr (inr (refl, idle-silent n now)); spawned = inl refl; owed_job = inl refl; ended = inl refl; woken = inl refl; heard = inl refl; blocked = inl refl; unblocked = inl refl; freed = inl refl; hand = inl ([], refl, refl); sleeps = inr (Roused (worker_of d), refl, (refl, there, clear_same n (worker_of d) (omega arith))); splits = refl })
              (λ j low. let was = fewer j low in let one_ : bit_at n (worker_of d) * one (worker_of d) j ≡ one (worker_of d) j = ap (λ x. x * one (worker_of d) j) there ∙ omega arith in
              let more = roused-counts j (worker_of d) k.sleeps in omega (arith, was, one_, more.0, more.1, more.2)),
          λ c e. let is : d ≡ c = omega (arith, debt, e) in (
            refl,
            ap (λ x. others (worker_of x)) is,
            λ _. ap (λ x. knowing m (rousing true (worker_of x) (owing 0 k))) is,
            λ none_there. absurd (clash n (worker_of d) there (subst (λ x. bit_at n (worker_of x) ≡ 0) (sym is) none_there)),
          ),
        ))
        (λ other. let clear = not_one n (worker_of d) other in (
          held w (owing 0 k),
          keeps,
          tt,
          unpark-law s h mine (owing 0 k) refl refl refl (refl, refl, refl, refl) (refl, refl, refl) (knowing-still shards slots id w s h k mine) refl refl refl refl _ refl
              (told-nothing refl (idle-silent n now) (refl, refl, refl, refl, refl, refl, refl, refl, refl, refl) ([], refl, refl))
              (λ j low. let was = fewer j low in let none_ : bit_at n (worker_of d) * one (worker_of d) j ≡ 0 = ap (λ x. x * one (worker_of d) j) clear ∙ omega arith in omega (arith, was, none_)),
          λ c e. let is : d ≡ c = omega (arith, debt, e) in (
            refl,
            ap (λ x. others (worker_of x)) is,
            λ there. absurd (clash n (worker_of d) (subst (λ x. bit_at n (worker_of x) ≡ 1) (sym is) there) clear),
            λ _. refl,
          ),
        ))

  module _ (k : Notes) (xs : List (ℕ × ℕ)) (j : ℕ) where
    -- the worker's own idle bit is cleared
    pub rises : k.worker ≡ j + 1 → Allows (IsLawful shards) slots id (held w k, xs) idle_at (λ n. bit_and n (others j)) (Rises (step slots idle_at (others j) 0 none) (held w k, xs))
    rises is_worker s h _ mine small =
        let n : ℕ = get_or s.words idle_at 0 in let now : ℕ = bit_and n (others j) in let l : Notes = rising j n k in let m : Mine = (held w k, xs) in
        let there : get_or (set s.words idle_at now) idle_at 0 ≡ now = get_or-set_same s.words idle_at now 0 (idle-room s h) in (
          held w l,
          keeps,
          tt,
          aside-law s h k l mine refl refl refl (refl, refl, refl, refl) (refl, refl, refl) (λ p inside has. found-word s.words p idle_at k.looks) idle_at now (omega arith)
              (record { looks = inl (refl, λ d e. omega (arith, e)); spawned = inl refl; owed_job = inl refl; ended = inl refl; woken = inl refl; heard = inl refl; blocked = inl refl; unblocked = inl refl; freed = inl refl; hand = inl ([], refl, refl); sleeps = adds-risen n now j k.sleeps (bit_at n j) refl (bit_at-lt n j) (let near = h.sleep.near id (held w k) mine in clear_same n j (omega (arith, near, is_worker))); splits = refl })
              (idle-shows s h k l mine refl now)
              (keeps-sleep s h.sleep id (held w k) (held w l) mine (set s.words idle_at now) s.homes
              (λ i low. (λ z. bit_at (get_or-set_other s.words idle_at numbers_at now 0 (λ e. omega (arith, e)) z) i + seats-same s h.sleep id (held w k) (held w l) mine refl i z) ∙ h.sleep.single i low)
              (h.sleep.near id (held w k) mine)
              (λ i e. inl (was_set n j i (ap (λ x. bit_at x i) (sym there) ∙ e)))
              (λ c e some_shown. let same = with-same (λ z. z.owes) s.views id (held w k) (held w l) mine refl c in
              let old = get_or-set_other s.words idle_at (summary_at c) now 0 (λ f. omega (arith, f)) in ((λ o. omega (arith, o, same)), inl (omega (arith, some_shown, old))))
              (λ i c is below. absurd (omega (arith, below)))
              (λ i low. let near = h.sleep.near id (held w k) mine in
              let was = ap (λ x. bit_at x i + bit_at n j * one j i) there ∙ clear_counts n j i (omega (arith, near, is_worker)) low in
              let more = risen-counts i (bit_at n j) j k.sleeps (bit_at-lt n j) in omega (arith, was, more.0, more.1, more.2))),
          (refl, (λ e. omega (arith, e, is_worker)), λ c e. let is : j ≡ c = omega (arith, is_worker, e) in (ap others is, ap (λ x. knowing m (rising x n k)) is)),
        )

    -- the worker's idle bit is set
    pub rests : k.worker ≡ j + 1 → Allows (IsLawful shards) slots id (held w k, xs) idle_at (λ n. bit_or n (2 ^ j)) (Rests (step slots idle_at (2 ^ j) 0 none) (held w k, xs))
    rests is_worker s h _ mine small =
        let n : ℕ = get_or s.words idle_at 0 in let now : ℕ = bit_or n (2 ^ j) in let l : Notes = lying j n k in let m : Mine = (held w k, xs) in
        let there : get_or (set s.words idle_at now) idle_at 0 ≡ now = get_or-set_same s.words idle_at now 0 (idle-room s h) in (
          held w l,
          keeps,
          tt,
          aside-law s h k l mine refl refl refl (refl, refl, refl, refl) (refl, refl, refl) (λ p inside has. found-word s.words p idle_at k.looks) idle_at now (omega arith)
              (record { looks = inl (refl, λ d e. omega (arith, e)); spawned = inl refl; owed_job = inl refl; ended = inl refl; woken = inl refl; heard = inl refl; blocked = inl refl; unblocked = inl refl; freed = inl refl; hand = inl ([], refl, refl); sleeps = adds-lain n now j k.sleeps (bit_at n j) refl (bit_at-lt n j) (set_same n j); splits = refl })
              (idle-shows s h k l mine refl now)
              (keeps-sleep s h.sleep id (held w k) (held w l) mine (set s.words idle_at now) s.homes
              (λ i low. (λ z. bit_at (get_or-set_other s.words idle_at numbers_at now 0 (λ e. omega (arith, e)) z) i + seats-same s h.sleep id (held w k) (held w l) mine refl i z) ∙ h.sleep.single i low)
              (h.sleep.near id (held w k) mine)
              (λ i e. dite (ℕ_discrete i j)
              (λ same. inr (is_worker ∙ ap (λ x. x + 1) (sym same), refl))
              (λ ne. inl (sym (set_other n j i ne) ∙ ap (λ x. bit_at x i) (sym there) ∙ e)))
              (λ c e some_shown. let same = with-same (λ z. z.owes) s.views id (held w k) (held w l) mine refl c in
              let old = get_or-set_other s.words idle_at (summary_at c) now 0 (λ f. omega (arith, f)) in ((λ o. omega (arith, o, same)), inl (omega (arith, some_shown, old))))
              (λ i c is below. absurd (omega (arith, below)))
              (λ i low. let more = lain-counts i (bit_at n j) j k.sleeps (bit_at-lt n j) in
              let now_set = ap (λ x. bit_at x i) there ∙ set_counts n j i in omega (arith, more.0, more.1, more.2, now_set))),
          (refl, (λ e. omega (arith, e, is_worker)), λ c e. let is : j ≡ c = omega (arith, is_worker, e) in (ap (λ x. 2 ^ x) is, ap (λ x. knowing m (lying x n k)) is)),
        )

    -- the next one of the worker's summary words is looked at
    pub looks_next : k.worker ≡ j + 1 → k.unshown ≡ 0 → Allows (IsLawful shards) slots id (held w k, xs) (summary_at (j + 64 * k.seen)) (λ n. n) (LooksNext (step slots (summary_at (j + 64 * k.seen)) 0 0 none) (held w k, xs))
    looks_next is_worker free s h _ mine small =
        let i : ℕ = summary_at (j + 64 * k.seen) in let n : ℕ = get_or s.words i 0 in let l : Notes = having_seen (k.seen + 1) k in dite (ℕ_discrete n 0)
        (λ empty. (
          held w l,
          keeps,
          tt,
          unchanged shards slots id w l xs i s (view-law s h k l mine refl refl refl (refl, refl, refl, refl) (refl, refl, refl) (knowing-still shards slots id w s h k mine) i (told-nothing refl (clears-none i (get_or s.words i 0)) (refl, refl, refl, refl, refl, refl, refl, refl, refl, refl) ([], refl, refl)) (view-shows s h k l mine refl)
              (keeps-sleep s h.sleep id (held w k) (held w l) mine s.words s.homes
              (λ c low. ap (λ x. bit_at (get_or s.words numbers_at 0) c + x) (seats-same s h.sleep id (held w k) (held w l) mine refl c) ∙ h.sleep.single c low)
              (h.sleep.near id (held w k) mine)
              (λ c e. inl e)
              (λ c e some_shown. let same = with-same (λ z. z.owes) s.views id (held w k) (held w l) mine refl c in ((λ o. omega (arith, o, same)), inl some_shown))
              (λ g c is below. dite (ℕ_discrete c k.seen)
              (λ e. let at : summary_at (g + 64 * c) ≡ i = omega (arith, is_worker, is, e) in inr (ap (λ x. get_or s.words x 0) at ∙ empty))
              (λ ne. let apart : ¬ (c ≡ k.seen) = ne in inl (is, omega (arith, below, apart))))
              (ends-same k l s.words s.words refl refl))),
          ((λ _. refl), λ full. absurd (full empty)),
        ))
        (λ full. (held w (noted i n k), keeps, tt, noting shards slots id w s h k mine xs i (λ d e. free), ((λ empty. absurd (full empty)), λ _. refl)))

    -- ---- worker numbers

    -- the seat becomes the worker of a number
    pub registers : j < 64 → k.worker ≡ 0 → Allows (IsLawful shards) slots id (held w k, xs) numbers_at (λ n. bit_and n (others j)) (Registers (step slots numbers_at (others j) 0 none) (held w k, xs))
    registers low no_worker s h _ mine small =
        let i : ℕ = numbers_at in let n : ℕ = get_or s.words i 0 in let now : ℕ = bit_and n (others j) in let l : Notes = working (j + 1) (noted i n k) in let m : Mine = (held w k, xs) in
        let there_now : get_or (set s.words i now) i 0 ≡ now = get_or-set_same s.words i now 0 (numbers-room s h) in dite (ℕ_discrete (bit_at n j) 1)
        (λ there. (
          held w l,
          keeps,
          tt,
          aside-law s h k l mine refl refl refl (refl, refl, refl, refl) (refl, refl, refl) (λ p inside has. found-word s.words p i k.looks) i now (omega arith) (told-found refl (λ d e. omega (arith, e)) (refl, refl, refl, refl, refl, refl, refl, refl, refl, refl) ([], refl, refl)) (number-shows s h k l mine refl now)
              (keeps-sleep s h.sleep id (held w k) (held w l) mine (set s.words i now) s.homes
              (λ c below. let more = with-more (λ z. z.worker) s.views id (held w k) (held w l) mine j no_worker refl c in let single = h.sleep.single c below in
              let at : bit_at (get_or (set s.words i now) i 0) c ≡ bit_at now c = ap (λ x. bit_at x c) there_now in dite (ℕ_discrete j c)
              (λ e. let mine_now = one-same (j + 1) (c + 1) (omega (arith, e)) in
              let gone : bit_at now c ≡ 0 = subst (λ x. bit_at now x ≡ 0) e (clear_same n j low) in
              let was : bit_at n c ≡ 1 = subst (λ x. bit_at n x ≡ 1) e there in omega (arith, more, single, at, mine_now, gone, was))
              (λ ne. let mine_now = one-apart (j + 1) (c + 1) (λ e. ne (omega (arith, e))) in
              let same : bit_at now c ≡ bit_at n c = clear_other n j low c below (λ e. ne (sym e)) in omega (arith, more, single, at, mine_now, same)))
              (omega (arith, low))
              (λ c e. inl (ap (λ x. bit_at x c) (sym (get_or-set_other s.words i idle_at now 0 (λ f. omega (arith, f)))) ∙ e))
              (λ c e some_shown. let same = with-same (λ z. z.owes) s.views id (held w k) (held w l) mine refl c in
              let old = get_or-set_other s.words i (summary_at c) now 0 (λ f. omega (arith, f)) in ((λ o. omega (arith, o, same)), inl (omega (arith, some_shown, old))))
              (λ g c is below. absurd (omega (arith, below)))
              (ends-same k l s.words (set s.words i now) (get_or-set_other s.words i idle_at now 0 (λ f. omega (arith, f))) refl)),
          λ c first below. let same : j ≡ c = same_others j c low below first in (
            λ _. ap (λ x. knowing m (working (x + 1) (noted i n k))) same,
            λ none_there. absurd (clash n j there (subst (λ x. bit_at n x ≡ 0) (sym same) none_there)),
          ),
        ))
        (λ other. let clear = not_one n j other in (
          held w (noted i n k),
          keeps,
          tt,
          subst (λ x. IsLawful shards (stepped s i x id xs (held w (noted i n k)) keeps)) (sym (unset n j low small clear)) (noting shards slots id w s h k mine xs i (λ d e. omega (arith, e))),
          λ c first below. let same : j ≡ c = same_others j c low below first in (
            λ there. absurd (clash n j (subst (λ x. bit_at n x ≡ 1) (sym same) there) clear),
            λ _. refl,
          ),
        ))

    -- the seat has no number any more
    pub leaves : j < 64 → k.worker ≡ j + 1 → Allows (IsLawful shards) slots id (held w k, xs) numbers_at (λ n. bit_or n (2 ^ j)) (Leaves (step slots numbers_at (2 ^ j) 0 none) (held w k, xs))
    leaves low is_worker s h _ mine small =
        let i : ℕ = numbers_at in let n : ℕ = get_or s.words i 0 in let now : ℕ = bit_or n (2 ^ j) in let l : Notes = working 0 (noted i n k) in
        let there_now : get_or (set s.words i now) i 0 ≡ now = get_or-set_same s.words i now 0 (numbers-room s h) in (
          held w l,
          keeps,
          tt,
          aside-law s h k l mine refl refl refl (refl, refl, refl, refl) (refl, refl, refl) (λ p inside has. found-word s.words p i k.looks) i now (omega arith) (told-found refl (λ d e. omega (arith, e)) (refl, refl, refl, refl, refl, refl, refl, refl, refl, refl) ([], refl, refl)) (number-shows s h k l mine refl now)
              (keeps-sleep s h.sleep id (held w k) (held w l) mine (set s.words i now) s.homes
              (λ c below. let less = with-less (λ z. z.worker) s.views id (held w k) (held w l) mine j is_worker refl c in let single = h.sleep.single c below in
              let at : bit_at (get_or (set s.words i now) i 0) c ≡ bit_at now c = ap (λ x. bit_at x c) there_now in dite (ℕ_discrete j c)
              (λ e. let was = one-same (j + 1) (c + 1) (omega (arith, e)) in
              let set_now : bit_at now c ≡ 1 = subst (λ x. bit_at now x ≡ 1) e (set_same n j) in omega (arith, less, single, at, was, set_now))
              (λ ne. let was = one-apart (j + 1) (c + 1) (λ e. ne (omega (arith, e))) in
              let same : bit_at now c ≡ bit_at n c = set_other n j c (λ e. ne (sym e)) in omega (arith, less, single, at, was, same)))
              (omega arith)
              (λ c e. inl (ap (λ x. bit_at x c) (sym (get_or-set_other s.words i idle_at now 0 (λ f. omega (arith, f)))) ∙ e))
              (λ c e some_shown. let same = with-same (λ z. z.owes) s.views id (held w k) (held w l) mine refl c in
              let old = get_or-set_other s.words i (summary_at c) now 0 (λ f. omega (arith, f)) in ((λ o. omega (arith, o, same)), inl (omega (arith, some_shown, old))))
              (λ g c is below. absurd (omega (arith, below)))
              (ends-same k l s.words (set s.words i now) (get_or-set_other s.words i idle_at now 0 (λ f. omega (arith, f))) refl)),
          refl,
        )
