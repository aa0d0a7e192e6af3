-- What a pass may do at the queue that it came from.
use Rattle.std.proofs.Common.{◌≡◌, ℕ, List, sym, ap, ◌∙◌, subst, Option, Some, None, MatchOption, IfNone, Result, Ok, Err, MatchResult, OnErr, length, ◌+◌}
use Rattle.crossbeam_queue.specs.{Fifo.{Pushes, Pops, Forks, Merges, Learns, Held}, Passes.{Pass, view}}
use Rattle.arachne_weights.specs.{declared.token.Token.Token, Tokens.{held, spent}, Weight.whole}
use Rattle.arachne_jobs.specs.declared.spill.Known.{Known}
use Rattle.arachne_jobs.specs.Balance.{blank, times, IsBalanced, IsMoment, Pushed, Popped, first_pass, second_pass, joined_pass}
use Rattle.arachne_jobs.{specs.Passes.IsHeld, proofs.Keeps.{pushes, pops, deals, gathers, sees, all-out, ahead}}

module _ {T : Type 0} (tag_of : T → ℕ) where
  pub push-allowed : (weight : ℕ) (pass : Pass T (Token Known)) → IsHeld weight pass → (n : ℕ) (item : T)
      → Pushes (IsBalanced tag_of) n pass.id (view pass) item (Pushed tag_of (view pass) item) × Learns (IsBalanced tag_of) pass.id (view pass) (IsMoment tag_of (view pass))
  push-allowed weight pass is n item = (
    subst (λ (v : Token Known). Pushes (IsBalanced tag_of) n pass.id v item (Pushed tag_of v item)) (sym is.mine) (pushes tag_of n pass.id weight (view pass).known item),
    sees tag_of pass.id (view pass),
  )

  pub pop-allowed : (weight : ℕ) (pass : Pass T (Token Known)) → IsHeld weight pass
      → Pops (IsBalanced tag_of) pass.id (view pass) (Popped tag_of (view pass)) × Learns (IsBalanced tag_of) pass.id (view pass) (IsMoment tag_of (view pass))
  pop-allowed weight pass is = (
    subst (λ (v : Token Known). Pops (IsBalanced tag_of) pass.id v (Popped tag_of v)) (sym is.mine) (pops tag_of pass.id weight (view pass).known),
    sees tag_of pass.id (view pass),
  )

  pub split-allowed : (weight : ℕ) (pass : Pass T (Token Known)) → IsHeld weight pass → Forks (IsBalanced tag_of) pass.id (view pass) (first_pass (view pass)) (second_pass (view pass))
  split-allowed weight pass is = subst (λ (v : Token Known). Forks (IsBalanced tag_of) pass.id v (first_pass v) (second_pass v)) (sym is.mine) (deals tag_of pass.id weight (view pass).known)

  pub join-allowed : (weight : ℕ) (pass : Pass T (Token Known)) (added : ℕ) (other : Pass T (Token Known)) → IsHeld weight pass → IsHeld added other
      → Merges (IsBalanced tag_of) pass.id (view pass) other.id (view other) (joined_pass (view pass) (view other)) (spent blank)
  join-allowed weight pass added other is has =
      subst (λ (v : Token Known × Token Known). Merges (IsBalanced tag_of) pass.id v.0 other.id v.1 (joined_pass v.0 v.1) (spent blank)) (λ i. (sym is.mine i, sym has.mine i))
      (gathers tag_of pass.id weight (view pass).known other.id added (view other).known)

  -- what a look through a whole pass saw, it saw as the whole pass
  whole-moment : (weight : ℕ) (pass : Pass T (Token Known)) (items : List T) → IsHeld weight pass → weight ≡ whole → IsMoment tag_of (view pass) items → IsMoment tag_of (held whole (view pass).known) items
  whole-moment weight pass items is all moment = subst (λ (v : Token Known). IsMoment tag_of v items) (is.mine ∙ ap (λ w. held w (view pass).known) all) moment

  -- a whole pass that found the queue empty knows that all came out
  pub settled : (weight : ℕ) (pass : Pass T (Token Known)) → IsHeld weight pass → weight ≡ whole → Held 0 (IsMoment tag_of (view pass)) → (tag : ℕ) → times tag (view pass).known.pushed ≡ times tag (view pass).known.popped
  settled weight pass is all (items, none, moment) = all-out tag_of (view pass).known items none (whole-moment weight pass items is all moment)

  -- a whole pass that found so many items knows that so many more went in than came out
  pub counted : (count room weight : ℕ) (pass : Pass T (Token Known)) → room ≡ count → IsHeld weight pass → weight ≡ whole → Held room (IsMoment tag_of (view pass))
      → length (view pass).known.pushed ≡ length (view pass).known.popped + count
  counted count room weight pass same is all (items, many, moment) =
      ahead tag_of (view pass).known items (whole-moment weight pass items is all moment) ∙ ap (λ n. length (view pass).known.popped + n) (many ∙ same)

-- what follows where there is none
pub where-none : {T : Type 0} (P : T → Type 0) {Q R : Type 0} (found : Option T) → MatchOption found Q P → (Q → R) → IfNone found R
where-none P None q f = f q
where-none P (Some x) p f = tt

-- what follows where it was refused
pub where-refused : {A B : Type 0} (answer : Result A B) (P : A → Type 0) {Q : B → Type 0} {R : Type 0} → MatchResult answer P Q → ((x : B) → Q x → R) → OnErr answer R
where-refused (Ok x) P p f = tt
where-refused (Err x) P q f = f x q
