-- The rule at first, and where seats are split and joined.
use Rattle.std.proofs.Common.{◌≡◌, ◌≢◌, inl, inr, ⊎_elim, ℕ, zero, suc, ◌+◌, ◌-◌, ◌*◌, ◌/◌, ◌%◌, ◌^◌, ◌≤◌, ◌==◌, min, if◌then◌else◌, List, [], ◌∷◌, ◌++◌, length, get_or, set, sym, refl, ap, ◌∙◌, subst, arith, ◌<◌, map, eq-eqb, ne_eqb}
use Rattle.std.proofs.lemmas.List.{length-map, Sums.{sum_by-cons, sum_by-append}}
use Rattle.std.specs.Int.{bit_at}
use Rattle.std.proofs.lemmas.Nat.Bits.{bit_at-zero, bit_at_ones}
use mathlib.Core.Option.{some, some-injective, some-ne-none}
use mathlib.Core.Option as maybe
use lib.ListN.{get_elem?}
use Rattle.atomic_table.specs.Table.{opening, Splits, Joins}
use Rattle.atomic_table.proofs.Lists.{set_else, at_set, at_snoc, some_there}
use Rattle.arachne_weights.specs.{declared.token.Token.Token, Tokens.{held, spent}}
use Rattle.arachne_weights.proofs.Totals.{total-set, total-snoc}
use Rattle.arachne_exec.specs.declared.view.{Notes.Notes, SleepDeed.SleepDeed}
use Rattle.arachne_exec.specs.Layout.{idle_at, ready_at, free_at, mark_at, last_generation}
use Rattle.arachne_exec.specs.Board.{is_free, is_ready, is_blocked, one, times, one_at, places_in, jobs_in, times_at, is_at_home, by_all, in_hands, unspawned_by, seats_of, is_idle, lies, rises, rouses, ends_at, FoundLast, Board, IsLawful, is_number, at_home, lies_by, rises_by, rouses_by, lies_in, rises_in, rouses_in, begins, splits, joins}
use Rattle.arachne_exec.specs.Changes.{blank, first_view, splitting, first_of, second_of, together, both_of}
use Rattle.arachne_exec.specs.First.{first_word, AreFirstWords}
use Rattle.arachne_exec.proofs.{Bits.one-apart, Naming.found-longer}

full : first_word 8 ≡ 2 ^ 64 - 1
full = refl

full_at : (i : ℕ) → i ≢ 8 → i % 96 ≡ 32 → first_word i ≡ 2 ^ 64 - 1
full_at i ne e = ap (λ b. if b then 2 ^ 64 - 1 else (if i % 96 == 32 then 2 ^ 64 - 1 else 0)) (ne_eqb i 8 ne) ∙ ap (λ b. if b then 2 ^ 64 - 1 else 0) (eq-eqb (i % 96) 32 e)

empty_at : (i : ℕ) → i ≢ 8 → i % 96 ≢ 32 → first_word i ≡ 0
empty_at i ne d = ap (λ b. if b then 2 ^ 64 - 1 else (if i % 96 == 32 then 2 ^ 64 - 1 else 0)) (ne_eqb i 8 ne) ∙ ap (λ b. if b then 2 ^ 64 - 1 else 0) (ne_eqb (i % 96) 32 d)

the_one : (h : ℕ) (v : Token Notes) → get_elem? (first_view ∷ []) h ≡ some v → first_view ≡ v
the_one zero v e = some-injective first_view v e
the_one (suc h) v e = absurd (some-ne-none v (sym e))

one_zero : (n : ℕ) → one 0 (n + 1) ≡ 0
one_zero n = one-apart 0 (n + 1) (λ e. omega (arith, e))

none_home : (job : ℕ) (xs : List ℕ) → 0 < job → ((i : ℕ) → get_or xs i 0 ≡ 0) → at_home job (map some xs) ≡ 0
none_home job [] some_job clear = refl
none_home job (x ∷ xs) some_job clear =
    let rest = none_home job xs some_job (λ i. clear (suc i)) in let first : x ≡ 0 = clear 0 in
    let here : one x job ≡ 0 = one-apart x job (λ e. omega (arith, e, first, some_job)) in
    sum_by-cons (λ (h : maybe.Option ℕ). is_number job h) (some x) (map some xs) ∙ omega (arith, rest, here)

none_there : (place job : ℕ) (xs : List ℕ) → 0 < job → ((i : ℕ) → get_or xs i 0 ≡ 0) → is_at_home place job (map some xs) ≡ 0
none_there place job [] some_job clear = refl
none_there zero job (x ∷ xs) some_job clear = let first : x ≡ 0 = clear 0 in one-apart x job (λ e. omega (arith, e, first, some_job))
none_there (suc place) job (x ∷ xs) some_job clear = none_there place job xs some_job (λ i. clear (suc i))

-- each slot has 0 in it
zero_there : (xs : List ℕ) (i : ℕ) → i < length xs → ((j : ℕ) → get_or xs j 0 ≡ 0) → get_elem? (map some xs) i ≡ some (some 0)
zero_there [] i inside clear = absurd (omega (arith, inside))
zero_there (x ∷ xs) zero inside clear = ap (λ y. some (some y)) (clear 0)
zero_there (x ∷ xs) (suc i) inside clear = zero_there xs i (omega (arith, inside)) (λ j. clear (suc j))

pub opens : (shards : ℕ) (ws xs : List ℕ) → AreFirstWords (64 * shards) ws → length xs ≡ 4096 * shards → ((i : ℕ) → get_or xs i 0 ≡ 0) → IsLawful shards (opening ws xs first_view)
opens shards ws xs a slots clear = record {
  came = begins (opening ws xs first_view) a refl;
  keeper = record {
    sized = a.0;
    room = length-map xs some ∙ slots ∙ omega arith;
    kept = λ p inside.
        let f : is_free ws p ≡ 1 = ap (λ x. bit_at x (p % 64)) (a.1 (free_at (p / 64)) (omega (arith, inside)) ∙ full_at (free_at (p / 64)) (λ e. omega (arith, e)) (omega arith)) ∙ bit_at_ones 64 (p % 64) (omega arith) in
        let r : is_ready ws p ≡ 0 = ap (λ x. bit_at x (p % 64)) (a.1 (ready_at (p / 64)) (omega (arith, inside)) ∙ empty_at (ready_at (p / 64)) (λ e. omega (arith, e)) (λ e. omega (arith, e))) ∙ bit_at-zero (p % 64) in
        let k : is_blocked ws p ≡ 0 = ap (λ x. x / 2 % 2) (a.1 (mark_at p) (omega (arith, inside)) ∙ empty_at (mark_at p) (λ e. omega (arith, e)) (λ e. omega (arith, e))) in
        let n : in_hands p (first_view ∷ []) ≡ 0 = refl in
        omega (arith, f, r, k, n);
    home = λ p inside none_has. some_there xs p (omega (arith, slots, inside));
    away = λ p inside has. let n : in_hands p (first_view ∷ []) ≡ 0 = refl in absurd (omega (arith, n, has));
    empty = λ p inside free. zero_there xs p (omega (arith, slots, inside)) clear;
  };
  balance = record {
    balanced = λ job some_job. let n : at_home job (map some xs) ≡ 0 = none_home job xs some_job clear in
        let p : by_all (λ (k : Notes). jobs_in job k.spawned) (first_view ∷ []) ≡ 0 = refl in let t : by_all (λ (k : Notes). jobs_in job k.ended) (first_view ∷ []) ≡ 0 = refl in
        let d : by_all (λ (k : Notes). jobs_in job k.hand) (first_view ∷ []) ≡ 0 = refl in omega (arith, n, p, t, d);
    placed = λ place job some_job. let n : is_at_home place job (map some xs) ≡ 0 = none_there place job xs some_job clear in
        let p : by_all (λ (k : Notes). times_at place job k.spawned) (first_view ∷ []) ≡ 0 = refl in let t : by_all (λ (k : Notes). times_at place job k.ended) (first_view ∷ []) ≡ 0 = refl in
        let d : by_all (λ (k : Notes). times_at place job k.hand) (first_view ∷ []) ≡ 0 = refl in omega (arith, n, p, t, d);
  };
  turns = record {
    turns = λ p inside.
        let f : is_free ws p ≡ 1 = ap (λ x. bit_at x (p % 64)) (a.1 (free_at (p / 64)) (omega (arith, inside)) ∙ full_at (free_at (p / 64)) (λ e. omega (arith, e)) (omega arith)) ∙ bit_at_ones 64 (p % 64) (omega arith) in
        let s : by_all (λ (k : Notes). places_in p k.spawned) (first_view ∷ []) ≡ 0 = refl in let d : by_all (λ (k : Notes). times p k.freed) (first_view ∷ []) ≡ 0 = refl in
        let u : unspawned_by p (first_view ∷ []) ≡ one 0 (p + 1) = omega arith in omega (arith, f, s, d, u, one_zero p);
  };
  hears = record {
    marks = λ p inside.
        let m : get_or ws (mark_at p) 0 ≡ 0 = a.1 (mark_at p) (omega (arith, inside)) ∙ empty_at (mark_at p) (λ e. omega (arith, e)) (λ e. omega (arith, e)) in
        let w : by_all (λ (k : Notes). times p k.woken) (first_view ∷ []) ≡ 0 = refl in let d : by_all (λ (k : Notes). times p k.heard) (first_view ∷ []) ≡ 0 = refl in omega (arith, m, w, d);
    rests = λ p inside.
        let m : get_or ws (mark_at p) 0 ≡ 0 = a.1 (mark_at p) (omega (arith, inside)) ∙ empty_at (mark_at p) (λ e. omega (arith, e)) (λ e. omega (arith, e)) in
        let w : by_all (λ (k : Notes). times p k.blocked) (first_view ∷ []) ≡ 0 = refl in let d : by_all (λ (k : Notes). times p k.unblocked) (first_view ∷ []) ≡ 0 = refl in omega (arith, m, w, d);
    unheard = λ p inside.
        let m : get_or ws (mark_at p) 0 ≡ 0 = a.1 (mark_at p) (omega (arith, inside)) ∙ empty_at (mark_at p) (λ e. omega (arith, e)) (λ e. omega (arith, e)) in omega (arith, m);
  };
  names = record {
    counted = λ p inside.
        let m : get_or ws (mark_at p) 0 ≡ 0 = a.1 (mark_at p) (omega (arith, inside)) ∙ empty_at (mark_at p) (λ e. omega (arith, e)) (λ e. omega (arith, e)) in
        let n : ends_at p (first_view ∷ []) ≡ 0 = refl in omega (arith, m, n);
    found = λ h v there p inside has. let none_has : places_in p v.known.hand ≡ 0 = ap (λ (x : Token Notes). places_in p x.known.hand) (sym (the_one h v there)) in absurd (omega (arith, has, none_has));
  };
  shows = record {
    shown = λ c inside some_ready.
        let none_ready : get_or ws (ready_at c) 0 ≡ 0 = a.1 (ready_at c) (omega (arith, inside)) ∙ empty_at (ready_at c) (λ e. omega (arith, e)) (λ e. omega (arith, e)) in absurd (omega (arith, none_ready, some_ready));
  };
  sleep = record {
    single = λ w low.
        let f : bit_at (get_or ws 8 0) w ≡ 1 = ap (λ x. bit_at x w) (a.1 8 (omega arith) ∙ full) ∙ bit_at_ones 64 w low in
        let n : seats_of w (first_view ∷ []) ≡ one 0 (w + 1) = omega arith in
        omega (arith, f, n, one_zero w);
    near = λ h v there. subst (λ (x : Token Notes). x.known.worker ≤ 64) (the_one h v there) (omega arith);
    awake = λ h v there w k is below. let none_seen : v.known.seen ≡ 0 = ap (λ (x : Token Notes). x.known.seen) (sym (the_one h v there)) in absurd (omega (arith, below, none_seen));
    ended = λ w low.
        let i : is_idle ws w ≡ 0 = ap (λ x. bit_at x w) (a.1 idle_at (omega arith) ∙ empty_at idle_at (λ e. omega (arith, e)) (λ e. omega (arith, e))) ∙ bit_at-zero w in
        let l : lies w (first_view ∷ []) ≡ 0 = refl in let r : rises w (first_view ∷ []) ≡ 0 = refl in let t : rouses w (first_view ∷ []) ≡ 0 = refl in omega (arith, i, l, r, t);
  };
}

-- ---- totals over seats that are split and joined

module _ (f : Notes → ℕ) (none_blank : f blank ≡ 0) where
  split-total : ((l : Notes) → f (splitting l) ≡ f l) → (views : List (Token Notes)) (id w : ℕ) (k : Notes) → get_elem? views id ≡ some (held w k)
      → by_all f (set views id (first_of (held w k)) ++ second_of (held w k) ∷ []) ≡ by_all f views
  split-total same views id w k mine =
      let one_ = total-set (λ (t : Token Notes). f t.known) views id (held w k) (first_of (held w k)) mine in
      let two = total-snoc (λ (t : Token Notes). f t.known) (set views id (first_of (held w k))) (second_of (held w k)) in omega (arith, one_, two, none_blank, same k)

  join-total : (views : List (Token Notes)) (id w other x : ℕ) (k l : Notes) → get_elem? views id ≡ some (held w k) → other ≢ id → get_elem? views other ≡ some (held x l)
      → f (together k l) ≡ f k + f l
      → by_all f (set (set views id (both_of (held w k) (held x l))) other (spent blank)) ≡ by_all f views
  join-total views id w other x k l mine apart from sum =
      let there = set_else views id other (both_of (held w k) (held x l)) apart ∙ from in
      let one_ = total-set (λ (t : Token Notes). f t.known) views id (held w k) (both_of (held w k) (held x l)) mine in
      let two = total-set (λ (t : Token Notes). f t.known) (set views id (both_of (held w k) (held x l))) other (held x l) (spent blank) there in omega (arith, one_, two, none_blank, sum)

deals-law : (shards id w : ℕ) (k : Notes) (s : Board) → IsLawful shards s → get_elem? s.views id ≡ some (held w k)
    → IsLawful shards (record { words = s.words; homes = s.homes; views = set s.views id (first_of (held w k)) ++ second_of (held w k) ∷ [] })
deals-law shards id w k s h mine = record {
  came = splits h.came id w k mine;
  keeper = record {
    sized = h.keeper.sized;
    room = h.keeper.room;
    kept = λ p inside. let same = split-total (λ l. places_in p l.hand) refl (λ l. refl) s.views id w k mine in let old = h.keeper.kept p inside in omega (arith, old, same);
    home = λ p inside none_has. let same = split-total (λ l. places_in p l.hand) refl (λ l. refl) s.views id w k mine in h.keeper.home p inside (omega (arith, none_has, same));
    away = λ p inside has. let same = split-total (λ l. places_in p l.hand) refl (λ l. refl) s.views id w k mine in h.keeper.away p inside (omega (arith, has, same));
    empty = h.keeper.empty;
  };
  balance = record {
    balanced = λ job some_job.
        let a = split-total (λ l. jobs_in job l.spawned) refl (λ l. refl) s.views id w k mine in let b = split-total (λ l. jobs_in job l.ended) refl (λ l. refl) s.views id w k mine in
        let c = split-total (λ l. jobs_in job l.hand) refl (λ l. refl) s.views id w k mine in let old = h.balance.balanced job some_job in omega (arith, a, b, c, old);
    placed = λ p job some_job.
        let a = split-total (λ l. times_at p job l.spawned) refl (λ l. refl) s.views id w k mine in let b = split-total (λ l. times_at p job l.ended) refl (λ l. refl) s.views id w k mine in
        let c = split-total (λ l. times_at p job l.hand) refl (λ l. refl) s.views id w k mine in let old = h.balance.placed p job some_job in omega (arith, a, b, c, old);
  };
  turns = record {
    turns = λ p inside.
        let a = split-total (λ l. places_in p l.spawned) refl (λ l. refl) s.views id w k mine in let b = split-total (λ l. times p l.freed) refl (λ l. refl) s.views id w k mine in
        let c = split-total (λ l. one l.unspawned (p + 1)) (one_zero p) (λ l. refl) s.views id w k mine in let old = h.turns.turns p inside in omega (arith, a, b, c, old);
  };
  hears = record {
    marks = λ p inside.
        let a = split-total (λ l. times p l.woken) refl (λ l. refl) s.views id w k mine in let b = split-total (λ l. times p l.heard) refl (λ l. refl) s.views id w k mine in let old = h.hears.marks p inside in omega (arith, a, b, old);
    rests = λ p inside.
        let a = split-total (λ l. times p l.blocked) refl (λ l. refl) s.views id w k mine in let b = split-total (λ l. times p l.unblocked) refl (λ l. refl) s.views id w k mine in let old = h.hears.rests p inside in omega (arith, a, b, old);
    unheard = h.hears.unheard;
  };
  names = record {
    counted = λ p inside. let same = split-total (λ l. places_in p l.ended) refl (λ l. refl) s.views id w k mine in h.names.counted p inside ∙ ap (min last_generation) (sym same);
    found = λ j x there p inside has. ⊎_elim
        (λ old. ⊎_elim
        (λ t. subst (λ (y : Token Notes). FoundLast s.words p y.known.looks) t.1 (h.names.found id (held w k) mine p inside (subst (λ (y : Token Notes). 0 < places_in p y.known.hand) (sym t.1) has)))
        (λ t. h.names.found j x t.1 p inside has)
        (at_set s.views id j (first_of (held w k)) x old))
        (λ new. let none_has : places_in p x.known.hand ≡ 0 = ap (λ (y : Token Notes). places_in p y.known.hand) (sym new) in absurd (omega (arith, has, none_has)))
        (at_snoc (set s.views id (first_of (held w k))) (second_of (held w k)) x j there);
  };
  shows = record {
    shown = λ c inside some_ready. ⊎_elim (λ set_. inl set_) (λ o. let same = split-total (λ l. one l.unshown (c + 1)) (one_zero c) (λ l. refl) s.views id w k mine in inr (omega (arith, o, same))) (h.shows.shown c inside some_ready);
  };
  sleep = record {
    single = λ j low. let same = split-total (λ l. one l.worker (j + 1)) (one_zero j) (λ l. refl) s.views id w k mine in let old = h.sleep.single j low in omega (arith, old, same);
    near = λ j x there. ⊎_elim
        (λ old. ⊎_elim (λ t. subst (λ (y : Token Notes). y.known.worker ≤ 64) t.1 (h.sleep.near id (held w k) mine)) (λ t. h.sleep.near j x t.1) (at_set s.views id j (first_of (held w k)) x old))
        (λ new. subst (λ (y : Token Notes). y.known.worker ≤ 64) new (omega arith))
        (at_snoc (set s.views id (first_of (held w k))) (second_of (held w k)) x j there);
    awake = λ j x there g n is below idle some_ready.
        let same = split-total (λ l. one l.owes (g + 64 * n + 1)) (one_zero (g + 64 * n)) (λ l. refl) s.views id w k mine in ⊎_elim
        (λ old. ⊎_elim
        (λ t. let is_mine = ap (λ (y : Token Notes). y.known.worker) t.1 ∙ is in let within : n < k.seen = subst (λ (y : Token Notes). n < y.known.seen) (sym t.1) below in
        let was = h.sleep.awake id (held w k) mine g n is_mine within idle some_ready in omega (arith, was, same))
        (λ t. let was = h.sleep.awake j x t.1 g n is below idle some_ready in omega (arith, was, same))
        (at_set s.views id j (first_of (held w k)) x old))
        (λ new. let none_seen : x.known.seen ≡ 0 = ap (λ (y : Token Notes). y.known.seen) (sym new) in absurd (omega (arith, below, none_seen)))
        (at_snoc (set s.views id (first_of (held w k))) (second_of (held w k)) x j there);
    ended = λ j low.
        let a = split-total (λ l. lies_in j l.sleeps) refl (λ l. refl) s.views id w k mine in let b = split-total (λ l. rises_in j l.sleeps) refl (λ l. refl) s.views id w k mine in
        let c = split-total (λ l. rouses_in j l.sleeps) refl (λ l. refl) s.views id w k mine in let old = h.sleep.ended j low in omega (arith, a, b, c, old);
  };
}

pub deals : (shards id w : ℕ) (k : Notes) → Splits (IsLawful shards) id (held w k) (first_of (held w k)) (second_of (held w k))
deals shards id w k s h mine = deals-law shards id w k s h mine

-- a seat that is taken in has an empty hand, no number, and owes nothing
module _ (shards id w other x : ℕ) (k l : Notes) (nothing : (l.hand ≡ []) × (l.worker ≡ 0) × (l.unspawned ≡ 0) × (l.unshown ≡ 0) × (l.owes ≡ 0)) where
  gathers-law : (s : Board) → IsLawful shards s → get_elem? s.views id ≡ some (held w k) → other ≢ id → get_elem? s.views other ≡ some (held x l)
      → IsLawful shards (record { words = s.words; homes = s.homes; views = set (set s.views id (both_of (held w k) (held x l))) other (spent blank) })
  gathers-law s h mine apart from =
      let hand_of = λ (p : ℕ). join-total (λ m. places_in p m.hand) refl s.views id w other x k l mine apart from (let e = ap (places_in p) nothing.0 in omega (arith, e)) in
      let owes_of = λ (c : ℕ). join-total (λ m. one m.owes (c + 1)) (one_zero c) s.views id w other x k l mine apart from (let e = ap (λ n. one n (c + 1)) nothing.4 ∙ one_zero c in omega (arith, e)) in record {
        came = joins h.came id other w x k l mine apart from;
        keeper = record {
          sized = h.keeper.sized;
          room = h.keeper.room;
          kept = λ p inside. let same = hand_of p in let old = h.keeper.kept p inside in omega (arith, old, same);
          home = λ p inside none_has. let same = hand_of p in h.keeper.home p inside (omega (arith, none_has, same));
          away = λ p inside has. let same = hand_of p in h.keeper.away p inside (omega (arith, has, same));
          empty = h.keeper.empty;
        };
        balance = record {
          balanced = λ job some_job.
              let a = join-total (λ m. jobs_in job m.spawned) refl s.views id w other x k l mine apart from (sum_by-append (λ (y : ℕ × ℕ). one y.1 job) k.spawned l.spawned) in
              let b = join-total (λ m. jobs_in job m.ended) refl s.views id w other x k l mine apart from (sum_by-append (λ (y : ℕ × ℕ). one y.1 job) k.ended l.ended) in
              let c = join-total (λ m. jobs_in job m.hand) refl s.views id w other x k l mine apart from (let e = ap (jobs_in job) nothing.0 in omega (arith, e)) in
              let old = h.balance.balanced job some_job in omega (arith, a, b, c, old);
          placed = λ p job some_job.
              let a = join-total (λ m. times_at p job m.spawned) refl s.views id w other x k l mine apart from (sum_by-append (one_at p job) k.spawned l.spawned) in
              let b = join-total (λ m. times_at p job m.ended) refl s.views id w other x k l mine apart from (sum_by-append (one_at p job) k.ended l.ended) in
              let c = join-total (λ m. times_at p job m.hand) refl s.views id w other x k l mine apart from (let e = ap (times_at p job) nothing.0 in omega (arith, e)) in
              let old = h.balance.placed p job some_job in omega (arith, a, b, c, old);
        };
        turns = record {
          turns = λ p inside.
              let a = join-total (λ m. places_in p m.spawned) refl s.views id w other x k l mine apart from (sum_by-append (λ (y : ℕ × ℕ). one y.0 p) k.spawned l.spawned) in
              let b = join-total (λ m. times p m.freed) refl s.views id w other x k l mine apart from (sum_by-append (λ (y : ℕ). one y p) k.freed l.freed) in
              let c = join-total (λ m. one m.unspawned (p + 1)) (one_zero p) s.views id w other x k l mine apart from (let e = ap (λ n. one n (p + 1)) nothing.2 ∙ one_zero p in omega (arith, e)) in
              let old = h.turns.turns p inside in omega (arith, a, b, c, old);
        };
        hears = record {
          marks = λ p inside.
              let a = join-total (λ m. times p m.woken) refl s.views id w other x k l mine apart from (sum_by-append (λ (y : ℕ). one y p) k.woken l.woken) in
              let b = join-total (λ m. times p m.heard) refl s.views id w other x k l mine apart from (sum_by-append (λ (y : ℕ). one y p) k.heard l.heard) in
              let old = h.hears.marks p inside in omega (arith, a, b, old);
          rests = λ p inside.
              let a = join-total (λ m. times p m.blocked) refl s.views id w other x k l mine apart from (sum_by-append (λ (y : ℕ). one y p) k.blocked l.blocked) in
              let b = join-total (λ m. times p m.unblocked) refl s.views id w other x k l mine apart from (sum_by-append (λ (y : ℕ). one y p) k.unblocked l.unblocked) in
              let old = h.hears.rests p inside in omega (arith, a, b, old);
          unheard = h.hears.unheard;
        };
        names = record {
          counted = λ p inside.
              let same = join-total (λ m. places_in p m.ended) refl s.views id w other x k l mine apart from (sum_by-append (λ (y : ℕ × ℕ). one y.0 p) k.ended l.ended) in h.names.counted p inside ∙ ap (min last_generation) (sym same);
          found = λ j y there p inside has. ⊎_elim
              (λ t. let none_has : places_in p y.known.hand ≡ 0 = ap (λ (z : Token Notes). places_in p z.known.hand) (sym t.1) in absurd (omega (arith, has, none_has)))
              (λ t. ⊎_elim
              (λ u. subst (λ (z : Token Notes). FoundLast s.words p z.known.looks) u.1
              (found-longer s.words p k.looks l.looks (h.names.found id (held w k) mine p inside (subst (λ (z : Token Notes). 0 < places_in p z.known.hand) (sym u.1) has))))
              (λ u. h.names.found j y u.1 p inside has)
              (at_set s.views id j (both_of (held w k) (held x l)) y t.1))
              (at_set (set s.views id (both_of (held w k) (held x l))) other j (spent blank) y there);
        };
        shows = record {
          shown = λ c inside some_ready. ⊎_elim (λ set_. inl set_)
              (λ o. let same = join-total (λ m. one m.unshown (c + 1)) (one_zero c) s.views id w other x k l mine apart from (let e = ap (λ n. one n (c + 1)) nothing.3 ∙ one_zero c in omega (arith, e)) in inr (omega (arith, o, same)))
              (h.shows.shown c inside some_ready);
        };
        sleep = record {
          single = λ j low.
              let same = join-total (λ m. one m.worker (j + 1)) (one_zero j) s.views id w other x k l mine apart from (let e = ap (λ n. one n (j + 1)) nothing.1 ∙ one_zero j in omega (arith, e)) in
              let old = h.sleep.single j low in omega (arith, old, same);
          near = λ j y there. ⊎_elim
              (λ t. subst (λ (z : Token Notes). z.known.worker ≤ 64) t.1 (omega arith))
              (λ t. ⊎_elim (λ u. subst (λ (z : Token Notes). z.known.worker ≤ 64) u.1 (h.sleep.near id (held w k) mine)) (λ u. h.sleep.near j y u.1) (at_set s.views id j (both_of (held w k) (held x l)) y t.1))
              (at_set (set s.views id (both_of (held w k) (held x l))) other j (spent blank) y there);
          awake = λ j y there g n is below idle some_ready. let same = owes_of (g + 64 * n) in ⊎_elim
              (λ t. let none_seen : y.known.seen ≡ 0 = ap (λ (z : Token Notes). z.known.seen) (sym t.1) in absurd (omega (arith, below, none_seen)))
              (λ t. ⊎_elim
              (λ u. let is_mine = ap (λ (z : Token Notes). z.known.worker) u.1 ∙ is in let within : n < k.seen = subst (λ (z : Token Notes). n < z.known.seen) (sym u.1) below in
              let was = h.sleep.awake id (held w k) mine g n is_mine within idle some_ready in omega (arith, was, same))
              (λ u. let was = h.sleep.awake j y u.1 g n is below idle some_ready in omega (arith, was, same))
              (at_set s.views id j (both_of (held w k) (held x l)) y t.1))
              (at_set (set s.views id (both_of (held w k) (held x l))) other j (spent blank) y there);
          ended = λ j low.
              let a = join-total (λ m. lies_in j m.sleeps) refl s.views id w other x k l mine apart from (sum_by-append (λ (y : SleepDeed). lies_by j y) k.sleeps l.sleeps) in
              let b = join-total (λ m. rises_in j m.sleeps) refl s.views id w other x k l mine apart from (sum_by-append (λ (y : SleepDeed). rises_by j y) k.sleeps l.sleeps) in
              let c = join-total (λ m. rouses_in j m.sleeps) refl s.views id w other x k l mine apart from (sum_by-append (λ (y : SleepDeed). rouses_by j y) k.sleeps l.sleeps) in
              let old = h.sleep.ended j low in omega (arith, a, b, c, old);
        };
      }

  pub gathers : Joins (IsLawful shards) id (held w k) other (held x l) (both_of (held w k) (held x l)) (spent blank)
  gathers s h mine apart from = gathers-law s h mine apart (sym (set_else s.views id other (both_of (held w k) (held x l)) apart) ∙ from)
