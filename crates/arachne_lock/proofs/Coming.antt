-- A seat that was never split is the only one, so no step creates another.
use Rattle.std.proofs.Common.{◌≡◌, ⊎_elim, ℕ, zero, suc, ◌^◌, ◌<◌, List, [], ◌∷◌, ◌++◌, length, get_or, set, refl, sym, ap, ◌∙◌, subst, arith, length-set, true}
use Rattle.std.proofs.lemmas.{Bool.false≢true, List.{length-map, length-replicate}, List.Elements.All-replicate}
use mathlib.Core.Option.{some, some-ne-none}
use lib.ListN.{get_elem?, replicate}
use Rattle.atomic_table.specs.Table.{opening}
use Rattle.atomic_table.proofs.Lists.{at_set}
use Rattle.arachne_lock.specs.{declared.view.KnownLocks.KnownLocks, State.{unused, IsLeftBy}}
use Rattle.arachne_lock.specs.{Logs.{split_log, cut_log, joined_log}, Views.{Guarded, word_of}}
use Rattle.arachne_lock.specs.Rule.{Board, known, idle_known, spent, HaveCome, begins, acts, splits, joins, blank, IsKept}
use Rattle.arachne_lock.proofs.{GoingOn.nothing-yet, Keeps.opens}

at-inside : {A : Type 0} (l : List A) (i : ℕ) (a : A) → get_elem? l i ≡ some a → i < length l
at-inside [] i a e = absurd (some-ne-none a (sym e))
at-inside (x ∷ xs) zero a e = omega arith
at-inside (x ∷ xs) (suc i) a e = let inner = at-inside xs i a e in omega (arith, inner)

first-of : {A : Type 0} (l m : List A) → 0 < length l → get_elem? (l ++ m) 0 ≡ get_elem? l 0
first-of [] m some_there = absurd (omega (arith, some_there))
first-of (x ∷ xs) m some_there = refl

abbrev HasSplit : KnownLocks → Type 0
HasSplit v = 0 < v.log.splits

-- the first seat, if it is in use and not the only one, was split
first-split : {seats : List KnownLocks} → HaveCome seats → (v : KnownLocks) → get_elem? seats 0 ≡ some v → v.live ≡ true → 1 < length seats → HasSplit v
first-split begins v e live more = absurd (omega (arith, more))
first-split (acts {seats} come i out now before after at same) v e live more =
    let long = length-set seats i (known now after) in ⊎_elim
    (λ t. let was = first-split come (known out before) (subst (λ (n : ℕ). get_elem? seats n ≡ some (known out before)) (sym t.0) at) refl (omega (arith, more, long)) in
    subst HasSplit t.1 (omega (arith, was, same)))
    (λ t. first-split come v t.1 live (omega (arith, more, long)))
    (at_set seats i 0 (known now after) v e)
first-split (splits {seats} come i log at) v e live more =
    let first : KnownLocks = idle_known (split_log log) in let inside = at-inside seats i (idle_known log) at in let long = length-set seats i first in ⊎_elim
    (λ t. subst HasSplit t.1 (omega arith))
    (λ t. let apart : ¬ (0 ≡ i) = t.0 in first-split come v t.1 live (omega (arith, inside, apart)))
    (at_set seats i 0 first v (sym (first-of (set seats i first) (idle_known (cut_log log) ∷ []) (omega (arith, inside, long))) ∙ e))
first-split (joins {seats} come i j log other at apart from) v e live more =
    let both : KnownLocks = idle_known (joined_log log other) in let long = length-set seats i both in let again = length-set (set seats i both) j spent in ⊎_elim
    (λ t. absurd (false≢true (ap (λ (x : KnownLocks). x.live) t.1 ∙ live)))
    (λ t. ⊎_elim
    (λ mine. let was = first-split come (idle_known log) (subst (λ (n : ℕ). get_elem? seats n ≡ some (idle_known log)) (sym mine.0) at) refl (omega (arith, more, long, again)) in
    subst HasSplit mine.1 (omega (arith, was)))
    (λ old. first-split come v old.1 live (omega (arith, more, long, again)))
    (at_set seats i 0 both v t.1))
    (at_set (set seats i both) j 0 spent v e)

-- there is no other seat beside one that was never split
pub alone : (other : KnownLocks) → HaveCome (blank ∷ other ∷ []) → ⊥
alone other come = let was = first-split come blank refl refl (omega arith) in omega (arith, was)

-- ---- new locks

zeros-clear : (n i : ℕ) → ◌≡◌ {A = ℕ} (get_or (replicate n 0) i 0) 0
zeros-clear zero i = refl
zeros-clear (suc n) zero = refl
zeros-clear (suc n) (suc i) = zeros-clear n i

abbrev fresh : Guarded
fresh = record { lock = unused; events = [] }

-- the table of `locks` new locks
module _ (locks : ℕ) where
  abbrev pub new_locks : Board
  new_locks = opening (replicate (word_of locks) 0) (replicate locks fresh) blank

  pub new-kept : IsKept locks new_locks
  new-kept = opens locks (replicate (word_of locks) 0) (replicate locks fresh) (length-replicate (word_of locks) 0) (zeros-clear (word_of locks))
      (length-replicate locks fresh, All-replicate (λ (g : Guarded). IsLeftBy [] g.lock) locks fresh nothing-yet.1)

  pub new-long : length new_locks.homes ≡ locks
  new-long = length-map (replicate locks fresh) some ∙ length-replicate locks fresh

  pub new-wide : (i : ℕ) → get_or new_locks.words i 0 < 2 ^ 64
  new-wide i = let clear = zeros-clear (word_of locks) i in omega (arith, clear)
