-- The conditions of a call's steps on the seat within it. The seat's slots are those that are out, the one taken last
-- first.
use Rattle.std.specs.Prelude.{◌≡◌, ℕ, ◌<◌, true, false, List, ◌∷◌, Option, Some, None}
use Rattle.atomic_table.specs.Table.{rest}
use Rattle.arachne_core.specs.{declared.place.Place.Place, Marked.Marked}
use Rattle.arachne_core.specs.declared.mark.Mark.TheVariants as mark
use Rattle.arachne_rule.specs.{declared.view.{Carried.Carried, Known.Known}, Changes.marked_as, Layout.Contexts}
use Rattle.arachne_rule.specs.Plays.{Carries}
use Rattle.arachne_words.specs.Seats.{CallView}

-- the seat carries a context at the place, which is named there, and its slot is at home
pub record IsAtHome (c : Contexts) (p : Place) (k : Known) (a : Carried) : Type 0 where
  pub inside : a.context < c.table.slots
  pub carried : Carries k a
  pub place : a.place ≡ p
  pub named : a.named ≡ true
  pub home : a.away ≡ false

-- the slot that was taken last is the context's, and has the value
abbrev pub HasLast : {T : Type 0} → List (ℕ × Option T) → ℕ → Option T → Type 0
HasLast slots x v = slots ≡ (x, v) ∷ rest slots

-- the seat has claimed the context, and the value is in its slot
pub record IsPostable {T : Type 0} (c : Contexts) (s : CallView T) (context : ℕ) (ready : Marked) (a : Carried) (value : T) : Type 0 where
  pub context_is : context ≡ a.context
  pub inside : context < c.table.slots
  pub carried : Carries s.known a
  pub claimed : a.held ≡ false
  pub named : a.named ≡ true
  pub slot : HasLast s.slots a.context (Some value)
  pub ready_is : ready ≡ marked_as mark.Ready a

-- the seat has just taken the context's thread at the place, and its slot is empty
pub record IsTaken {T : Type 0} (c : Contexts) (s : CallView T) (context : ℕ) (p : Place) (a : Carried) : Type 0 where
  pub context_is : context ≡ a.context
  pub inside : context < c.table.slots
  pub carried : Carries s.known a
  pub held : a.held ≡ true
  pub place : a.place ≡ p
  pub slot : HasLast s.slots a.context None

-- the seat holds the context's thread, and the value, with the thread's tag, is in its slot
pub record IsRestable {T : Type 0} (tag_of : T → ℕ) (c : Contexts) (s : CallView T) (context : ℕ) (a : Carried) (value : T) : Type 0 where
  pub context_is : context ≡ a.context
  pub inside : context < c.table.slots
  pub carried : Carries s.known a
  pub held : a.held ≡ true
  pub tagged : tag_of value ≡ a.tag
  pub shown : a.shown ≡ a.place
  pub slot : HasLast s.slots a.context (Some value)

-- the seat has claimed the context
pub record IsClaimed (c : Contexts) (k : Known) (a : Carried) : Type 0 where
  pub inside : a.context < c.table.slots
  pub carried : Carries k a
  pub claimed : a.held ≡ false
