-- Counts of jobs, one more at a time.
use Rattle.std.proofs.Common.{◌≡◌, ℕ, ◌+◌, ◌<◌, ◌≤◌, List, [], ◌∷◌, ◌++◌, Option, None, Some, length, get_or, take, sym, ap, ◌∙◌, subst, arith}
use Rattle.std.proofs.lemmas.List.Sums.{sum_by_push, sum_by_more, sum_by_more_le, sum_by-take-drop}
use Rattle.std.proofs.lemmas.List.{at_drop_all}
use Rattle.arachne_core.specs.declared.thread_id.ThreadId.{ThreadId}
use Rattle.arachne_pool.specs.Frames.{count_one}
use Rattle.arachne_pool.specs.Jobs.{Being, children_of, count_near}
use Rattle.arachne_pool.specs.Leftover.{count_placed}

module _ {Job : Type 0} where
  pub count_near_push : (near : List (Being Job)) (job : Being Job) → count_near (near ++ job ∷ []) ≡ count_near near + job.many
  count_near_push near job = sum_by_push (λ s. s.many) near job

  -- with the next one
  pub count_near_next : (near : List (Being Job)) (n : ℕ) (job : Being Job) → (n < length near) × (job ≡ get_or near n job)
      → count_near (take (n + 1) near) ≡ count_near (take n near) + job.many
  count_near_next near n job at_n =
      sum_by_more (λ (s : Being Job). s.many) near n job at_n.0 ∙ ap (λ (s : Being Job). count_near (take n near) + s.many) (sym at_n.1)

  pub count_near_least : (near : List (Being Job)) (n : ℕ) (job : Being Job) → (n < length near) × (job ≡ get_or near n job)
      → count_near (take n near) + job.many ≤ count_near near
  count_near_least near n job at_n = subst (λ (s : Being Job). count_near (take n near) + s.many ≤ count_near near) (sym at_n.1)
      (sum_by_more_le (λ (s : Being Job). s.many) near n job at_n.0)

  pub count_near_all : (near : List (Being Job)) (n : ℕ) → n ≡ length near → count_near (take n near) ≡ count_near near
  count_near_all near n all =
      let whole = sum_by-take-drop (λ (s : Being Job). s.many) near n in
      let none = at_drop_all (count_near {Job = Job}) near n (omega (arith, all)) in omega (arith, whole, none)

  pub count_placed_next : (placed : List (ThreadId × Being Job)) (n : ℕ) (entry : ThreadId × Being Job) → n < length placed
      → entry ≡ get_or placed n entry → count_placed (take (n + 1) placed) ≡ count_placed (take n placed) + entry.1.many
  count_placed_next placed n entry within same =
      sum_by_more (λ (p : ThreadId × Being Job). p.1.many) placed n entry within
      ∙ ap (λ (p : ThreadId × Being Job). count_placed (take n placed) + p.1.many) (sym same)

  pub count_placed_least : (placed : List (ThreadId × Being Job)) (n : ℕ) (entry : ThreadId × Being Job) → n < length placed
      → entry ≡ get_or placed n entry → count_placed (take n placed) + entry.1.many ≤ count_placed placed
  count_placed_least placed n entry within same = subst (λ (p : ThreadId × Being Job). count_placed (take n placed) + p.1.many ≤ count_placed placed)
      (sym same) (sum_by_more_le (λ (p : ThreadId × Being Job). p.1.many) placed n entry within)

pub ruleset placed_counts = (count_placed_next, count_placed_least)

-- one that may be there is one more in a list
pub length-children : {A : Type 0} (child : Option A) (others : List A) → length (children_of child others) ≡ count_one child + length others
length-children None others = omega arith
length-children (Some child) others = omega arith
