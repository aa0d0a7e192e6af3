-- How jobs that run together go on together.
use Rattle.std.proofs.Common.{◌≡◌, refl, ℕ, ◌+◌, List, [], ◌∷◌, take, drop, Option, None, Some, arith, add-one}
use Rattle.arachne_pool.specs.Frames.{CountsEach, Framed, RunTogether}
use Rattle.arachne_pool.specs.declared.tally.Tally.{Tally}

module _ {A : Type 0} where
  pub take-first : (n : ℕ) (x : A) (xs : List A) → take (n + 1) (x ∷ xs) ≡ x ∷ take n xs
  take-first n x xs = rw add-one refl

  pub drop-first : (n : ℕ) (x : A) (xs : List A) → drop (n + 1) (x ∷ xs) ≡ drop n xs
  drop-first n x xs = rw add-one refl

pub CountsEach-none : (tally : Tally) (many : ℕ) → CountsEach tally tally many many
CountsEach-none tally many = record { spawned = omega arith; ended = omega arith; each = λ s e. omega arith }

pub CountsEach-then : (a b c : Tally) (x y z : ℕ) → CountsEach a b x y → CountsEach b c y z → CountsEach a c x z
CountsEach-then a b c x y z one two = record {
  spawned = omega (arith, one.spawned, two.spawned);
  ended = omega (arith, one.ended, two.ended);
  each = λ s e. let first = one.each (omega (arith, two.spawned)) (omega (arith, two.ended)) in let second = two.each s e in omega (arith, first, second);
}

pub ruleset counting = (CountsEach-none, CountsEach-then)

module _ {Job Output : Type 0} (is_result : Job → Output → Type 0) (awaits : Job → List Job → Type 0) where
  -- the child that was forked just now is the newest of the children
  pub RunTogether-aside : (top new : Framed Job) (below : List (Framed Job)) (children all : List Job) (child : Job) (before after : Option Job)
      (ended : Option Output) (first : Job) → before ≡ Some child → after ≡ None → ended ≡ None → new.as_spawned ≡ top.as_spawned → new.job ≡ top.job
      → new.awaited ≡ top.awaited + 1 → all ≡ child ∷ children
      → RunTogether is_result awaits top below children before ended first → RunTogether is_result awaits new below all after ended first
  RunTogether-aside top new below children all child before after ended first was gone running same_spawned same_job one alls together = record {
    keeps = rw same_spawned (rw same_job together.keeps);
    hangs = rw same_spawned (rw one (rw alls (rw (drop-first top.awaited child children) together.hangs)));
    awaited = λ e. let old = together.awaited e in let whole = rw was at old in
        rw same_job (rw gone (rw one (rw alls (rw (take-first top.awaited child children) whole))));
    fresh = rw gone tt;
    result = rw running tt;
  }

  -- the newest child begins above the job that awaits it
  pub RunTogether-enter : (top begun frame : Framed Job) (below more : List (Framed Job)) (children all : List Job) (child : Job)
      (nobody : Option Job) (ended : Option Output) (first : Job) → nobody ≡ None → ended ≡ None
      → begun ≡ record { as_spawned = child; job = child; awaited = 0 } → frame.as_spawned ≡ top.as_spawned → frame.job ≡ top.job
      → top.awaited ≡ frame.awaited + 1 → more ≡ frame ∷ below → all ≡ child ∷ children → awaits child []
      → RunTogether is_result awaits top below all nobody ended first
      → RunTogether is_result awaits begun more children nobody ended first
  RunTogether-enter top begun frame below more children all child nobody ended first is_none running is_begun same_spawned same_job one pushed alls fresh together =
      let own = together.awaited running in let own = rw is_none at own in let own = rw one at own in let own = rw alls at own in
      let own = rw (take-first frame.awaited child children) at own in
      let hung = together.hangs in let hung = rw one at hung in let hung = rw alls at hung in
      let hung = rw (drop-first frame.awaited child children) at hung in record {
        keeps = rw is_begun (λ output r. r);
        hangs = rw is_begun (rw pushed (rw same_job own, rw same_spawned (rw same_job together.keeps), rw same_spawned hung));
        awaited = λ e. rw is_begun (rw is_none fresh);
        fresh = rw is_none tt;
        result = rw running tt;
      }
