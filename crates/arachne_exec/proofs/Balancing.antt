-- Each kind of step keeps that what was spawned has ended, is in a hand, or lies in a slot.
use Rattle.std.proofs.Common.{◌≡◌, ◌≢◌, ℕ, zero, suc, ◌+◌, ◌<◌, List, [], ◌∷◌, set, if◌then◌else◌, refl, sym, ap, ◌∙◌, subst, arith, eq-eqb, ne_eqb}
use Rattle.std.proofs.lemmas.List.Sums.{sum_by-cons}
use mathlib.Core.{Logic.dite, Option.{some, none, some-ne-none}}
use mathlib.Core.Option as maybe
use native.Mathlib.Decide.{ℕ_discrete}
use lib.ListN.{get_elem?}
use Rattle.atomic_table.proofs.Lists.{set_else}
use Rattle.arachne_weights.specs.declared.token.Token.{Token}
use Rattle.arachne_exec.specs.declared.view.Notes.{Notes}
use Rattle.arachne_weights.proofs.Totals.{total-set}
use Rattle.arachne_exec.specs.Board.{one, times, jobs_in, one_at, times_at, is_number, at_home, is_at_home, in_slot, Board, IsBalanced}
use Rattle.arachne_exec.proofs.Bits.{one-apart}

pub more-times : (job x : ℕ) (xs : List ℕ) → times job (x ∷ xs) ≡ one x job + times job xs
more-times job x xs = sum_by-cons (λ (other : ℕ). one other job) x xs

pub more-jobs : (job q x : ℕ) (xs : List (ℕ × ℕ)) → jobs_in job ((q, x) ∷ xs) ≡ one x job + jobs_in job xs
more-jobs job q x xs = sum_by-cons (λ (y : ℕ × ℕ). one y.1 job) (q, x) xs

pub more-at : (p job q x : ℕ) (xs : List (ℕ × ℕ)) → times_at p job ((q, x) ∷ xs) ≡ one_at p job (q, x) + times_at p job xs
more-at p job q x xs = sum_by-cons (λ (y : ℕ × ℕ). one_at p job y) (q, x) xs

-- 0 is no job
none-zero : (job : ℕ) → 0 < job → one 0 job ≡ 0
none-zero job some_job = one-apart 0 job (λ e. omega (arith, some_job, e))

-- a job at its own place, and at another
pub at-here : (p job q x : ℕ) → q ≡ p → one_at p job (q, x) ≡ one x job
at-here p job q x e = ap (λ b. if b then one x job else 0) (eq-eqb q p e)

pub at-else : (p job q x : ℕ) → q ≢ p → one_at p job (q, x) ≡ 0
at-else p job q x ne = ap (λ b. if b then one x job else 0) (ne_eqb q p ne)

none-zero-at : (p job q : ℕ) → 0 < job → one_at p job (q, 0) ≡ 0
none-zero-at p job q some_job = dite (ℕ_discrete q p) (λ e. at-here p job q 0 e ∙ none-zero job some_job) (λ ne. at-else p job q 0 ne)

-- ---- a slot that changes

abbrev lies : ℕ → ℕ → ℕ → maybe.Option ℕ → ℕ
lies p job q none = 0
lies p job q (some x) = one_at p job (q, x)

lies-here : (p job q : ℕ) (h : maybe.Option ℕ) → q ≡ p → lies p job q h ≡ is_number job h
lies-here p job q none e = refl
lies-here p job q (some x) e = at-here p job q x e

lies-else : (p job q : ℕ) (h : maybe.Option ℕ) → q ≢ p → lies p job q h ≡ 0
lies-else p job q none ne = refl
lies-else p job q (some x) ne = at-else p job q x ne

set-there : {A : Type 0} (l : List A) (i : ℕ) (old new : A) → get_elem? l i ≡ some old → get_elem? (set l i new) i ≡ some new
set-there [] i old new e = absurd (some-ne-none old (sym e))
set-there (x ∷ xs) zero old new e = refl
set-there (x ∷ xs) (suc i) old new e = set-there xs i old new e

slot-set : (p job q : ℕ) (homes : List (maybe.Option ℕ)) (old new : maybe.Option ℕ) → get_elem? homes q ≡ some old → is_at_home p job (set homes q new) + lies p job q old ≡ is_at_home p job homes + lies p job q new
slot-set p job q homes old new there = dite (ℕ_discrete q p)
    (λ e. let now : is_at_home p job (set homes q new) ≡ is_number job new = ap (in_slot job) (subst (λ y. get_elem? (set homes q new) y ≡ some new) e (set-there homes q old new there)) in
    let was : is_at_home p job homes ≡ is_number job old = ap (in_slot job) (subst (λ y. get_elem? homes y ≡ some old) e there) in
    omega (arith, now, was, lies-here p job q old e, lies-here p job q new e))
    (λ ne. let same : is_at_home p job (set homes q new) ≡ is_at_home p job homes = ap (in_slot job) (set_else homes q p new (λ s. ne (sym s))) in
    omega (arith, same, lies-else p job q old ne, lies-else p job q new ne))

module _ (b : Board) (r : IsBalanced b) (h : ℕ) (v u : Token Notes) (mine : get_elem? b.views h ≡ some v) (ws : List ℕ) where
  -- what a step has to keep of each job, of this view and of what lies in slots
  balanced-by : (homes : List (maybe.Option ℕ))
      → ((job : ℕ) → 0 < job → jobs_in job u.known.spawned + jobs_in job v.known.ended + jobs_in job v.known.hand + at_home job b.homes
      ≡ jobs_in job v.known.spawned + jobs_in job u.known.ended + jobs_in job u.known.hand + at_home job homes)
      → ((p job : ℕ) → 0 < job → times_at p job u.known.spawned + times_at p job v.known.ended + times_at p job v.known.hand + is_at_home p job b.homes
      ≡ times_at p job v.known.spawned + times_at p job u.known.ended + times_at p job u.known.hand + is_at_home p job homes)
      → IsBalanced (record { words = ws; homes = homes; views = set b.views h u })
  balanced-by homes keeps stays = record {
    balanced = λ job some_job.
        let one_ = total-set (λ (t : Token Notes). jobs_in job t.known.spawned) b.views h v u mine in
        let two = total-set (λ (t : Token Notes). jobs_in job t.known.ended) b.views h v u mine in
        let three = total-set (λ (t : Token Notes). jobs_in job t.known.hand) b.views h v u mine in
        omega (arith, one_, two, three, r.balanced job some_job, keeps job some_job);
    placed = λ p job some_job.
        let one_ = total-set (λ (t : Token Notes). times_at p job t.known.spawned) b.views h v u mine in
        let two = total-set (λ (t : Token Notes). times_at p job t.known.ended) b.views h v u mine in
        let three = total-set (λ (t : Token Notes). times_at p job t.known.hand) b.views h v u mine in
        omega (arith, one_, two, three, r.placed p job some_job, stays p job some_job);
  }

  -- a job that is laid into a free slot
  laid : (job q x : ℕ) → get_elem? b.homes q ≡ some none → at_home job (set b.homes q (some x)) + 0 ≡ at_home job b.homes + one x job
  laid job q x away = total-set (is_number job) b.homes q none (some x) away

  laid-at : (p job q x : ℕ) → get_elem? b.homes q ≡ some none → is_at_home p job (set b.homes q (some x)) + 0 ≡ is_at_home p job b.homes + one_at p job (q, x)
  laid-at p job q x away = slot-set p job q b.homes none (some x) away

  pub balanced-same : u.known.spawned ≡ v.known.spawned → u.known.ended ≡ v.known.ended → u.known.hand ≡ v.known.hand → IsBalanced (record { words = ws; homes = b.homes; views = set b.views h u })
  balanced-same spawned ended hand = balanced-by b.homes
      (λ job some_job. let s = ap (jobs_in job) spawned in let t = ap (jobs_in job) ended in let g = ap (jobs_in job) hand in omega (arith, s, t, g))
      (λ p job some_job. let s = ap (times_at p job) spawned in let t = ap (times_at p job) ended in let g = ap (times_at p job) hand in omega (arith, s, t, g))

  pub balanced-taken : (q x : ℕ) → get_elem? b.homes q ≡ some (some x) → u.known.spawned ≡ v.known.spawned → u.known.ended ≡ v.known.ended → u.known.hand ≡ (q, x) ∷ v.known.hand → IsBalanced (record { words = ws; homes = set b.homes q none; views = set b.views h u })
  balanced-taken q x there spawned ended hand = balanced-by (set b.homes q none)
      (λ job some_job. let four : at_home job (set b.homes q none) + one x job ≡ at_home job b.homes + 0 = total-set (is_number job) b.homes q (some x) none there in
      let s = ap (jobs_in job) spawned in let t = ap (jobs_in job) ended in let g = ap (jobs_in job) hand ∙ more-jobs job q x v.known.hand in
      omega (arith, four, s, t, g))
      (λ p job some_job. let four : is_at_home p job (set b.homes q none) + one_at p job (q, x) ≡ is_at_home p job b.homes + 0 = slot-set p job q b.homes (some x) none there in
      let s = ap (times_at p job) spawned in let t = ap (times_at p job) ended in let g = ap (times_at p job) hand ∙ more-at p job q x v.known.hand in
      omega (arith, four, s, t, g))

  pub balanced-put : (q x : ℕ) → get_elem? b.homes q ≡ some none → u.known.spawned ≡ v.known.spawned → u.known.ended ≡ v.known.ended → v.known.hand ≡ (q, x) ∷ u.known.hand → IsBalanced (record { words = ws; homes = set b.homes q (some x); views = set b.views h u })
  balanced-put q x away spawned ended hand = balanced-by (set b.homes q (some x))
      (λ job some_job. let four = laid job q x away in
      let s = ap (jobs_in job) spawned in let t = ap (jobs_in job) ended in let g = ap (jobs_in job) hand ∙ more-jobs job q x u.known.hand in
      omega (arith, four, s, t, g))
      (λ p job some_job. let four = laid-at p job q x away in
      let s = ap (times_at p job) spawned in let t = ap (times_at p job) ended in let g = ap (times_at p job) hand ∙ more-at p job q x u.known.hand in
      omega (arith, four, s, t, g))

  pub balanced-spawned : (q x : ℕ) → get_elem? b.homes q ≡ some none → u.known.spawned ≡ (q, x) ∷ v.known.spawned → u.known.ended ≡ v.known.ended → v.known.hand ≡ (q, 0) ∷ u.known.hand → IsBalanced (record { words = ws; homes = set b.homes q (some x); views = set b.views h u })
  balanced-spawned q x away spawned ended hand = balanced-by (set b.homes q (some x))
      (λ job some_job. let four = laid job q x away in
      let s = ap (jobs_in job) spawned ∙ more-jobs job q x v.known.spawned in let t = ap (jobs_in job) ended in let g = ap (jobs_in job) hand ∙ more-jobs job q 0 u.known.hand in
      omega (arith, four, s, t, g, none-zero job some_job))
      (λ p job some_job. let four = laid-at p job q x away in
      let s = ap (times_at p job) spawned ∙ more-at p job q x v.known.spawned in let t = ap (times_at p job) ended in let g = ap (times_at p job) hand ∙ more-at p job q 0 u.known.hand in
      omega (arith, four, s, t, g, none-zero-at p job q some_job))

  -- the job that was laid into the newest place is in hand
  pub balanced-begun : (q x : ℕ) (zs : List (ℕ × ℕ)) → u.known.spawned ≡ (q, x) ∷ v.known.spawned → u.known.ended ≡ v.known.ended → v.known.hand ≡ (q, 0) ∷ zs → u.known.hand ≡ (q, x) ∷ zs → IsBalanced (record { words = ws; homes = b.homes; views = set b.views h u })
  balanced-begun q x zs spawned ended was now = balanced-by b.homes
      (λ job some_job. let s = ap (jobs_in job) spawned ∙ more-jobs job q x v.known.spawned in let t = ap (jobs_in job) ended in
      let g = ap (jobs_in job) was ∙ more-jobs job q 0 zs in let j = ap (jobs_in job) now ∙ more-jobs job q x zs in
      omega (arith, s, t, g, j, none-zero job some_job))
      (λ p job some_job. let s = ap (times_at p job) spawned ∙ more-at p job q x v.known.spawned in let t = ap (times_at p job) ended in
      let g = ap (times_at p job) was ∙ more-at p job q 0 zs in let j = ap (times_at p job) now ∙ more-at p job q x zs in
      omega (arith, s, t, g, j, none-zero-at p job q some_job))

  -- the newest job has ended, and its place stays in hand
  pub balanced-ended : (q x : ℕ) (zs : List (ℕ × ℕ)) → u.known.spawned ≡ v.known.spawned → u.known.ended ≡ (q, x) ∷ v.known.ended → v.known.hand ≡ (q, x) ∷ zs → u.known.hand ≡ (q, 0) ∷ zs → IsBalanced (record { words = ws; homes = b.homes; views = set b.views h u })
  balanced-ended q x zs spawned ended was now = balanced-by b.homes
      (λ job some_job. let s = ap (jobs_in job) spawned in let t = ap (jobs_in job) ended ∙ more-jobs job q x v.known.ended in
      let g = ap (jobs_in job) was ∙ more-jobs job q x zs in let j = ap (jobs_in job) now ∙ more-jobs job q 0 zs in
      omega (arith, s, t, g, j, none-zero job some_job))
      (λ p job some_job. let s = ap (times_at p job) spawned in let t = ap (times_at p job) ended ∙ more-at p job q x v.known.ended in
      let g = ap (times_at p job) was ∙ more-at p job q x zs in let j = ap (times_at p job) now ∙ more-at p job q 0 zs in
      omega (arith, s, t, g, j, none-zero-at p job q some_job))

  -- the same, and the place is out of hand
  pub balanced-retired : (q x : ℕ) → get_elem? b.homes q ≡ some none → u.known.spawned ≡ v.known.spawned → u.known.ended ≡ (q, x) ∷ v.known.ended → v.known.hand ≡ (q, x) ∷ u.known.hand → IsBalanced (record { words = ws; homes = set b.homes q (some 0); views = set b.views h u })
  balanced-retired q x away spawned ended hand = balanced-by (set b.homes q (some 0))
      (λ job some_job. let four = laid job q 0 away in
      let s = ap (jobs_in job) spawned in let t = ap (jobs_in job) ended ∙ more-jobs job q x v.known.ended in let g = ap (jobs_in job) hand ∙ more-jobs job q x u.known.hand in
      omega (arith, four, s, t, g, none-zero job some_job))
      (λ p job some_job. let four = laid-at p job q 0 away in
      let s = ap (times_at p job) spawned in let t = ap (times_at p job) ended ∙ more-at p job q x v.known.ended in let g = ap (times_at p job) hand ∙ more-at p job q x u.known.hand in
      omega (arith, four, s, t, g, none-zero-at p job q some_job))
