-- The claims and threads that are out with a seat, in the terms of the trait of context tables.
use Rattle.std.specs.Prelude.{◌≡◌, ℕ, ◌+◌, ◌<◌, ◌≤◌, List, [], ◌∷◌, count_by}
use Rattle.arachne_core.specs.World.{Thread as ThreadOf, same_thread}
use Rattle.arachne_contexts.specs.Out.{Out, Claim, Thread}
use Rattle.arachne_rule.specs.{declared.view.{Carried.Carried, Known.Known}, Layout.Contexts}
use Rattle.arachne_rule.specs.Views.{carried_at, without}
use Rattle.arachne_words.specs.{Seats.{SeatView, ClaimView, HoldView, claimed_by, held_by}, Sizes.IsPlaceIn}

-- a context of the table that a seat carries is out as this claim, or as this thread
abbrev pub IsOutAs : Contexts → Carried → Out ClaimView HoldView → Type 0
IsOutAs c a (Claim claim) = (x generation : ℕ) × (x < c.table.slots) × IsPlaceIn c.shape claim.place × (a ≡ claimed_by claim x generation)
IsOutAs c a (Thread hold tag) = (hold.id.context < c.table.slots) × IsPlaceIn c.shape hold.place × (a ≡ held_by hold tag)

-- the contexts that a seat carries are out as these, in any order
abbrev pub AreOutAs : Contexts → List Carried → List (Out ClaimView HoldView) → Type 0
AreOutAs c cs [] = cs ≡ []
AreOutAs c cs (o ∷ outs) = (a : Carried) × IsOutAs c a o × (carried_at a.context cs ≡ a ∷ []) × AreOutAs c (without a.context cs) outs

-- these are out with the seat
abbrev pub IsOutWith : Contexts → SeatView → List (Out ClaimView HoldView) → Type 0
IsOutWith c seat outs = AreOutAs c seat.known.carried outs

-- each thread that was posted has ended or is one of these, once, by its id and its tag
pub record AreAllLeft (k : Known) (left : List ThreadOf) : Type 0 where
  pub once : (t : ThreadOf) → count_by (same_thread t) k.given ≤ 1
  pub settled : (t : ThreadOf) → count_by (same_thread t) k.given ≡ count_by (same_thread t) k.ended + count_by (same_thread t) left
