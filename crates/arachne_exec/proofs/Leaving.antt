-- How the list of what is left grows, place by place, and that it is what was spawned and hasn't ended.
use Rattle.std.proofs.Common.{◌≡◌, ℕ, zero, suc, ◌+◌, ◌<◌, ◌≤◌, ◌∙◌, ap, sym, refl, arith, List, [], ◌∷◌, ◌++◌, length, drop, set, get_or, get_or-set_other, Bool, true, false, inl, inr}
use Rattle.std.proofs.lemmas.{List.drop_all, Bool.cases_eq, List.Sums.{sum_by-cons, sum_by-append}}
use mathlib.Core.Option.{some, some-injective}
use mathlib.Core.Option as maybe
use lib.ListN.{get_elem?}
use Rattle.atomic_table.specs.Table.{Final, Seen}
use Rattle.atomic_table.proofs.Lists.{drop_at}
use Rattle.arachne_weights.specs.{declared.token.Token.Token, Tokens.held, Weight.whole}
use Rattle.arachne_weights.proofs.Tokens.{whole-total}
use Rattle.arachne_exec.specs.declared.view.Notes.{Notes}
use Rattle.arachne_exec.specs.Board.{one, times, places_in, jobs_in, is_number, at_home, Board, IsLawful}
use Rattle.arachne_exec.specs.{Changes.blank, Ending.IsSettled}
use Rattle.arachne_exec.proofs.{Bits.one-apart, Coming.reached, Balancing.more-times}

set-false : (fs : List Bool) (i : ℕ) → get_or (set fs i false) i false ≡ false
set-false [] i = refl
set-false (f ∷ fs) zero = refl
set-false (f ∷ fs) (suc i) = set-false fs i

pub none-taken : (fs gs : List Bool) (x : ℕ) → gs ≡ set fs x false → ((k : ℕ) → k < x → get_or fs k false ≡ false) → (k : ℕ) → k < x + 1 → get_or gs k false ≡ false
none-taken fs gs x is below k h = ap (λ (l : List Bool). get_or l k false) is ∙ elim (cases_eq k x) [
  | inl e ↦ ap (λ (j : ℕ). get_or (set fs x false) j false) e ∙ set-false fs x
  | inr n ↦ get_or-set_other fs x k false false n ∙ below k (omega (arith, h, n))
]

pub still-filled : (fs gs : List Bool) (x n : ℕ) → gs ≡ set fs x false → ((k : ℕ) → x ≤ k → k < n → get_or fs k false ≡ true) → (k : ℕ) → x + 1 ≤ k → k < n → get_or gs k false ≡ true
still-filled fs gs x n is above k lo hi = ap (λ (l : List Bool). get_or l k false) is ∙ get_or-set_other fs x k false false (λ e. omega (arith, lo, e)) ∙ above k (omega (arith, lo)) hi

-- the jobs so far, and those that lie in the slots from here on, are those in all slots
pub record SoFar (left : List ℕ) (x : ℕ) (slots : List ℕ) : Type 0 where
  pub jobs : (job : ℕ) → 0 < job → times job left + times job (drop x slots) ≡ times job slots
  pub numbers : times 0 left ≡ 0

pub so-far-none : (slots : List ℕ) → SoFar [] 0 slots
so-far-none slots = record { jobs = λ job some_job. let z : times job [] ≡ 0 = refl in omega (arith, z); numbers = refl }

module _ (left : List ℕ) (x job_there : ℕ) (slots : List ℕ) (there : get_elem? slots x ≡ some job_there) (so_far : SoFar left x slots) where
  next-drop : (job : ℕ) → times job (drop x slots) ≡ one job_there job + times job (drop (suc x) slots)
  next-drop job = ap (times job) (drop_at slots x job_there there) ∙ more-times job job_there (drop (suc x) slots)

  pub so-far-zero : job_there ≡ 0 → SoFar left (suc x) slots
  so-far-zero nothing = record {
    jobs = λ job some_job. let old = so_far.jobs job some_job in let next = next-drop job in let z = one-apart job_there job (λ e. omega (arith, e, nothing, some_job)) in omega (arith, old, next, z);
    numbers = so_far.numbers;
  }

  pub so-far-some : 0 < job_there → SoFar (left ++ job_there ∷ []) (suc x) slots
  so-far-some some_there = record {
    jobs = λ job some_job. let old = so_far.jobs job some_job in let next = next-drop job in let more = sum_by-append (λ (y : ℕ). one y job) left (job_there ∷ []) in
        let last = more-times job job_there [] in let z : times job [] ≡ 0 = refl in omega (arith, old, next, more, last, z);
    numbers = let old = so_far.numbers in let more = sum_by-append (λ (y : ℕ). one y 0) left (job_there ∷ []) in
        let last = more-times 0 job_there [] in let z : times 0 [] ≡ 0 = refl in let n = one-apart job_there 0 (λ e. omega (arith, e, some_there)) in omega (arith, old, more, last, z, n);
  }

-- slots that are all at home
same-home : (job : ℕ) (homes : List (maybe.Option ℕ)) (xs : List ℕ) → length homes ≡ length xs
    → ((k : ℕ) → k < length homes → (y : ℕ) × (get_elem? homes k ≡ some (some y)) × (get_elem? xs k ≡ some y)) → at_home job homes ≡ times job xs
same-home job [] [] long all = refl
same-home job [] (x ∷ xs) long all = absurd (omega (arith, long))
same-home job (h ∷ hs) [] long all = absurd (omega (arith, long))
same-home job (h ∷ hs) (x ∷ xs) long all =
    let first = all 0 (omega arith) in let is : h ≡ some first.0 = some-injective h (some first.0) first.1 in let here : x ≡ first.0 = some-injective x first.0 first.2 in
    let others = same-home job hs xs (omega (arith, long)) (λ k inside. all (suc k) (omega (arith, inside))) in
    let a = sum_by-cons (λ (y : maybe.Option ℕ). is_number job y) h hs in let b = more-times job x xs in
    let c : is_number job h ≡ one x job = ap (is_number job) is ∙ ap (λ y. one y job) (sym here) in omega (arith, others, a, b, c)

-- the state at the end is one where a seat with the whole weight knows k
abbrev pub EndsWith : ℕ → Notes → List ℕ → List ℕ → Type 0
EndsWith shards k words slots = (id : ℕ) × Final (Seen (IsLawful shards) id (held whole k)) words slots

pub all-settled : (shards : ℕ) (k : Notes) → k.hand ≡ [] → (left words slots : List ℕ) (n : ℕ) → EndsWith shards k words slots → length slots ≤ n → SoFar left n slots → IsSettled k left
all-settled shards k none left words slots n ends past so_far =
    let id : ℕ = ends.0 in let s : Board = ends.1.0 in let h : IsLawful shards s = ends.1.1.0 in let mine = ends.1.1.1 in let long = ends.1.3 in let values = ends.1.4 in
    let alone = λ (f : Notes → ℕ) (e : f blank ≡ 0). whole-total blank (λ (t : Token Notes). f t.known) e (reached h.came) id (held whole k) mine refl in
    let nothing = λ (p : ℕ). alone (λ l. places_in p l.hand) refl ∙ ap (places_in p) none in
    let at = λ (p : ℕ) (inside : p < length s.homes). h.keeper.home p (omega (arith, inside, h.keeper.room)) (nothing p) in
    let home = λ (job : ℕ). same-home job s.homes slots long (λ p inside. ((at p inside).0, (at p inside).1, values p (at p inside).0 (at p inside).1)) in record {
      settled = λ job some_job.
          let a = alone (λ l. jobs_in job l.spawned) refl in let b = alone (λ l. jobs_in job l.ended) refl in let c = alone (λ l. jobs_in job l.hand) refl ∙ ap (jobs_in job) none in
          let old = h.balance.balanced job some_job in let lie = home job in let jobs = so_far.jobs job some_job in let rest = ap (times job) (drop_all n slots past) in
          let d : jobs_in job [] ≡ 0 = refl in let z : times job [] ≡ 0 = refl in omega (arith, a, b, c, d, z, old, lie, jobs, rest);
      numbers = so_far.numbers;
    }
