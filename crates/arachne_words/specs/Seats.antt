-- The models of a seat, of a claim and of a hold, and what a seat knows of them.
use Rattle.std.specs.Prelude.{◌≡◌, ℕ, ◌<◌, ◌≤◌, Bool, true, false, List, [], length, Option}
use Rattle.atomic_table.specs.Seated.{TableId}
use Rattle.arachne_core.specs.{declared.{place.Place.Place, thread_id.ThreadId.ThreadId, mark.Mark.Mark}, Marked.Marked}
use Rattle.arachne_rule.specs.{declared.view.{Carried.Carried, Known.Known}, Views.carried_at, Layout.Contexts}
use Rattle.arachne_rule.specs.Plays.{Carries}
use Rattle.arachne_words.specs.Sizes.{IsPlaceIn}

-- a seat: the identity of its table, its part of the whole weight, and what it knows
pub record SeatView : Type 0 where
  pub table : TableId
  pub weight : ℕ
  pub known : Known

-- the same within a call, with the slots that are out with it, the one taken last first
pub record CallView (T : Type 0) : Type 0 where
  pub table : TableId
  pub weight : ℕ
  pub known : Known
  pub slots : List (ℕ × Option T)

-- a claimed place, and whether its core was claimed whole
pub record ClaimView : Type 0 where
  pub place : Place
  pub alone : Bool

-- the handle of a held thread: its id, the place at which it was taken, and whether its core is exclusive to it
pub record HoldView : Type 0 where
  pub id : ThreadId
  pub place : Place
  pub alone : Bool

-- the context of a claim, as its seat knows it
abbrev pub claimed_by : ClaimView → ℕ → ℕ → Carried
claimed_by claim context generation = record {
  context = context;
  place = claim.place;
  shown = claim.place;
  generation = generation;
  held = false;
  tag = 0;
  alone = claim.alone;
  named = true;
  away = false;
}

-- the context of a held thread with this tag, as its seat knows it
abbrev pub held_by : HoldView → ℕ → Carried
held_by hold tag = record {
  context = hold.id.context;
  place = hold.place;
  shown = hold.place;
  generation = hold.id.generation;
  held = true;
  tag = tag;
  alone = hold.alone;
  named = true;
  away = false;
}

-- the fields of the mark word of the thread that a hold names
abbrev pub marked_by : Mark → HoldView → Marked
marked_by mark hold = record { mark = mark; alone = hold.alone; place = hold.place; generation = hold.id.generation }

-- the claim is out with the seat
pub record HasClaim (c : Contexts) (k : Known) (claim : ClaimView) : Type 0 where
  pub context : ℕ
  pub generation : ℕ
  pub placed : IsPlaceIn c.shape claim.place
  pub inside : context < c.table.slots
  pub carried : Carries k (claimed_by claim context generation)

-- the thread is out with the seat, and its value has this tag
pub record HasThread (c : Contexts) (k : Known) (hold : HoldView) (tag : ℕ) : Type 0 where
  pub placed : IsPlaceIn c.shape hold.place
  pub inside : hold.id.context < c.table.slots
  pub carried : Carries k (held_by hold tag)

-- no claim and no held thread is out with the seat
abbrev pub HasNothingOut : Known → Type 0
HasNothingOut k = k.carried ≡ []

-- `out` contexts are out with a seat of a table with n contexts, each once
pub record AreOut (n out : ℕ) (k : Known) : Type 0 where
  pub counted : length k.carried ≡ out
  pub once : (x : ℕ) → length (carried_at x k.carried) ≤ 1
  pub inside : (x : ℕ) → n ≤ x → carried_at x k.carried ≡ []
