-- The rule of a table, which is true between any two steps.
use Rattle.std.specs.Prelude.{◌≡◌, ℕ, ◌∷◌, List, length, Option}
use mathlib.Core.Option.{some}
use lib.ListN.{get_elem?}
use Rattle.atomic_table.specs.Table.{State, Me, Act, stepped}
use Rattle.arachne_core.specs.World.{World, after}
use Rattle.arachne_weights.specs.{declared.token.Token.Token, Tokens.held}
use Rattle.arachne_rule.specs.{declared.view.Known.Known, declared.view.Shape.Shape, Views.noted, Rule.{Phase, Shows}}
use Rattle.arachne_rule.specs.Layout.{contexts_in, words_in, board_of, AreFirstWords}
use Rattle.arachne_rule.specs.History.{Entry, opening_world, world_after, words_after, records_of, IsHistory, AreOfSeats}

-- the words, slots and views of a table of values of T
abbrev pub Table : Type 0 → Type 0
Table T = State (Option T) (Token Known)

-- a seat's view, and the slots that are out with it
abbrev pub Mine : Type 0 → Type 0
Mine T = Me (Option T) (Token Known)

-- The World has the table's shape, and the table has the words and slots for it.
pub record Fits {T : Type 0} (shape : Shape) (w : World) (s : Table T) : Type 0 where
  pub cores : w.cores ≡ shape.cores
  pub slots : w.slots ≡ shape.places_per_core
  pub last : w.last ≡ shape.last
  pub words : length s.words ≡ words_in shape
  pub homes : length s.homes ≡ contexts_in shape

-- The history has all steps since the first words: it leads to the words as they are, its events make the World that is
-- shown, and the steps that a seat in use has noted are exactly its own.
pub record Tells {T : Type 0} (bits : ℕ) (shape : Shape) (w : World) (first : List ℕ) (history : List Entry) (s : Table T) : Type 0 where
  pub first_words : AreFirstWords bits shape first
  pub lawful : IsHistory bits (opening_world shape) first history
  pub world : w ≡ world_after (opening_world shape) history
  pub words : s.words ≡ words_after first history
  pub seats : AreOfSeats (length s.views) history
  pub records : (h weight : ℕ) (k : Known) → get_elem? s.views h ≡ some (held weight k) → k.records ≡ records_of h history

-- The rule of the table: its words, slots and views show a World that is owned once, to which its history leads.
pub record Holds {T : Type 0} (tag_in : T → ℕ) (bits : ℕ) (shape : Shape) (s : Table T) : Type 0 where
  pub world : World
  pub phase : ℕ → Phase
  pub first : List ℕ
  pub history : List Entry
  pub fits : Fits shape world s
  pub shows : Shows tag_in bits world phase (board_of (contexts_in shape) s)
  pub tells : Tells bits shape world first history s

-- the table after a step of a seat, which then knows `known` and this step, and has moved slots
abbrev pub after_step : {T : Type 0} → Table T → Entry → ℕ → Known → List (ℕ × Option T) → Act (Option T) → Table T
after_step s e weight known slots act =
    stepped s e.step.word e.step.after e.seat slots (held weight (noted e.step.kind e.step.word e.step.before e.step.after known)) act

-- the rule holds after one more step, which is the newest of the history, and the World is the one after its event
pub record HoldsAfter {T : Type 0} (tag_in : T → ℕ) (bits : ℕ) (shape : Shape) {s : Table T} (old : Holds tag_in bits shape s) (e : Entry) (t : Table T) : Type 0 where
  pub rule : Holds tag_in bits shape t
  pub history : rule.history ≡ e ∷ old.history
  pub world : rule.world ≡ after old.world e.event
