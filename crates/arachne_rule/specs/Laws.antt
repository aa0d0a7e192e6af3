-- The parts of the laws: to what each applies, and that a step is an allowed event after which the board shows the
-- World.
use Rattle.std.specs.Prelude.{◌≡◌, ◌≢◌, ℕ, ◌<◌, true, false, Option, None, List, [], length, replicate}
use mathlib.Core.Option as slot
use lib.ListN.{get_elem?}
use Rattle.atomic_table.specs.Table.{Act, homes_after, opening}
use Rattle.arachne_core.specs.{World.{World, IsContext, IsPlace, Allowed, after}, declared.thread_id.ThreadId.ThreadId}
use Rattle.arachne_core.specs.{declared.{place.Place.Place, event.Event.Event, mark.Mark.Mark}, Run.{IsRun, after_all}}
use Rattle.arachne_core.specs.declared.event.Event.TheVariants as event
use Rattle.arachne_weights.specs.{Weight.whole, Tokens.held}
use Rattle.arachne_rule.specs.{declared.view.{Carried.Carried, Known.Known, Record.Record, Shape.Shape}, Views.blank}
use Rattle.arachne_rule.specs.Rule.{Phase, Board, Knows, is_closed, is_exclusive, is_occupied, Shows}
use Rattle.arachne_rule.specs.{Plays.{Carries, IsRestMark, IsGone}, Table.{Table, Holds, after_step}}
use Rattle.arachne_rule.specs.{Layout.{IsShape, AreFirstWords, contexts_in, board_of}, Left.{Seated, Left, mark_at}}
use Rattle.arachne_rule.specs.History.{Entry, opening_world, words_after, events_of, IsNext, IsStepOf}

-- ---- a step as an event

-- the event is allowed in the World w, and the board b, in the phases d, shows the World after it
abbrev pub StepsTo : {T : Type 0} → (T → ℕ) → ℕ → World → Event → (ℕ → Phase) → Board T → Type 0
StepsTo tag_in bits w e d b = Allowed w e × Shows tag_in bits (after w e) d b

-- the same for the board that a step finds and the one that it leaves
abbrev pub Steps : {T : Type 0} → Seated T → Event → Left T → Type 0
Steps s e left = StepsTo s.tag_in s.bits s.world e left.phases left.board

-- the thread in context x, by the generation of its mark word
abbrev pub thread_at : {T : Type 0} → Seated T → ℕ → ThreadId
thread_at s x = record { context = x; generation = (mark_at s x).generation }

-- the thread of this id is no longer in its context, and can't be woken
abbrev pub IsGoneForGood : {T : Type 0} → Seated T → ThreadId → Type 0
IsGoneForGood s id = IsGone s.bits id (s.board.mark id.context) × (Allowed s.world (event.Wake id) → ⊥)

module _ (T : Type 0) where
  -- ---- quantifiers over boards and seats

  -- Q is true of each core of each board that shows a World
  abbrev pub EachCore : ((T → ℕ) → ℕ → World → (ℕ → Phase) → Board T → ℕ → Type 0) → Type 0
  EachCore Q = (tag_in : T → ℕ) (bits : ℕ) (w : World) (d : ℕ → Phase) (b : Board T) → Shows tag_in bits w d b
      → (core : ℕ) → core < w.cores → Q tag_in bits w d b core

  -- Q is true of each seat in use of each board that shows a World
  abbrev pub EachSeat : (Seated T → Type 0) → Type 0
  EachSeat Q = (tag_in : T → ℕ) (bits : ℕ) (w : World) (d : ℕ → Phase) (b : Board T) → Shows tag_in bits w d b
      → (h weight : ℕ) (k : Known) → Knows b h weight k
      → Q (record { tag_in = tag_in; bits = bits; world = w; phases = d; board = b; seat = h; weight = weight; known = k })

  -- .. of each seat, and each knowledge that differs from the seat's only in the noted steps
  abbrev pub EachNoting : (Seated T → Known → Type 0) → Type 0
  EachNoting Q = EachSeat (λ s. (noting : Known) → noting.carried ≡ s.known.carried → noting.given ≡ s.known.given → noting.ended ≡ s.known.ended → Q s noting)

  -- .. of each free place on a core that is open and not exclusive
  abbrev pub EachFreePlace : (Seated T → Place → Type 0) → Type 0
  EachFreePlace Q = EachSeat (λ s. (p : Place) → IsPlace s.world p → is_occupied (s.board.occ p.core) p.index ≡ false
      → is_closed (s.board.occ p.core) ≡ false → is_exclusive (s.board.occ p.core) ≡ false → Q s p)

  -- .. of each core whose word is 0
  abbrev pub EachEmptyCore : (Seated T → ℕ → Type 0) → Type 0
  EachEmptyCore Q = EachSeat (λ s. (core : ℕ) → core < s.world.cores → 0 < s.world.slots → s.board.occ core ≡ 0 → Q s core)

  -- .. of each context whose mark word has this mark
  abbrev pub EachMarked : Mark → (Seated T → ℕ → Type 0) → Type 0
  EachMarked m Q = EachSeat (λ s. (x : ℕ) → IsContext s.world x → (mark_at s x).mark ≡ m → Q s x)

  -- .. of each context that the seat carries
  abbrev pub EachCarried : (Seated T → Carried → Type 0) → Type 0
  EachCarried Q = EachSeat (λ s. (c : Carried) → IsContext s.world c.context → Carries s.known c → Q s c)

  -- .. of each context that the seat carries, and each value
  abbrev pub EachValue : (Seated T → Carried → T → Type 0) → Type 0
  EachValue Q = EachSeat (λ s. (c : Carried) (value : T) → IsContext s.world c.context → Carries s.known c → Q s c value)

  -- .. of each context whose thread the seat holds, and each value with the thread's tag
  abbrev pub EachHeld : (Seated T → Carried → T → Type 0) → Type 0
  EachHeld Q = EachValue (λ s c value. c.held ≡ true → s.tag_in value ≡ c.tag → Q s c value)

  -- .. of each thread at rest whose core is not exclusive to it, and each named context that the seat has claimed
  abbrev pub EachTarget : (Seated T → ℕ → Carried → Type 0) → Type 0
  EachTarget Q = EachSeat (λ s. (x : ℕ) (c : Carried) → IsContext s.world x → IsContext s.world c.context → IsRestMark (mark_at s x).mark
      → (mark_at s x).alone ≡ false → Carries s.known c → c.held ≡ false → c.named ≡ true → Q s x c)

  -- .. of each place word that names a context which the seat has claimed and its move has left unnamed, and each
  -- context
  abbrev pub EachUnnamed : (Seated T → Place → ℕ → Type 0) → Type 0
  EachUnnamed Q = EachSeat (λ s. (p : Place) (x : ℕ) (c : Carried) → IsContext s.world x → IsContext s.world c.context
      → s.board.name p ≡ c.context → Carries s.known c → c.held ≡ false → c.named ≡ false → Q s p x)

  -- .. of each two seats in use, which may be the same
  abbrev pub EachTwoSeats : (Seated T → ℕ → Known → Type 0) → Type 0
  EachTwoSeats Q = EachSeat (λ s. (other added : ℕ) (o : Known) → Knows s.board other added o → Q s other o)

  -- .. of each two different seats
  abbrev pub EachOtherSeat : (Seated T → ℕ → ℕ → Known → Type 0) → Type 0
  EachOtherSeat Q = EachSeat (λ s. (other added : ℕ) (o : Known) → other ≢ s.seat → Knows s.board other added o → Q s other added o)

  -- .. of each two contexts that two seats carry
  abbrev pub EachTwoCarried : (Seated T → Carried → ℕ → Carried → Type 0) → Type 0
  EachTwoCarried Q = EachTwoSeats (λ s other o. (c f : Carried) → IsContext s.world c.context → IsContext s.world f.context
      → Carries s.known c → Carries o f → Q s c other f)

-- ---- quantifiers over whole tables

-- a table, and the rule that holds of it
pub record Ruled (T : Type 0) : Type 0 where
  pub tag_in : T → ℕ
  pub bits : ℕ
  pub shape : Shape
  pub table : Table T
  pub rule : Holds tag_in bits shape table

-- a run of the history's events from the World at first gives the World that is shown, and the history's steps from the
-- first words give the words
abbrev pub IsReplayed : {T : Type 0} → Ruled T → Type 0
IsReplayed t = IsRun (opening_world t.shape) (events_of t.rule.history) × (after_all (opening_world t.shape) (events_of t.rule.history) ≡ t.rule.world)
    × (t.table.words ≡ words_after t.rule.first t.rule.history)

-- seat h has made the step, and the history has it
abbrev pub IsStepIn : {T : Type 0} → Ruled T → ℕ → Record → Type 0
IsStepIn t h r = IsStepOf t.bits (opening_world t.shape) t.rule.first t.rule.history h r

-- a new table: it has no value, and one seat with the whole weight
abbrev pub first_table : {T : Type 0} → Shape → List ℕ → Table T
first_table shape words = opening words (replicate (contexts_in shape) None) (held whole blank)

module _ (T : Type 0) where
  -- Q is true of the first words of each table
  abbrev pub EachFirst : ((T → ℕ) → ℕ → Shape → List ℕ → Type 0) → Type 0
  EachFirst Q = (tag_in : T → ℕ) (bits : ℕ) (shape : Shape) (words : List ℕ) → IsShape bits shape → AreFirstWords bits shape words → Q tag_in bits shape words

  -- Q is true of each table of which the rule holds
  abbrev pub EachTable : (Ruled T → Type 0) → Type 0
  EachTable Q = (tag_in : T → ℕ) (bits : ℕ) (shape : Shape) (s : Table T) → (rule : Holds tag_in bits shape s)
      → Q (record { tag_in = tag_in; bits = bits; shape = shape; table = s; rule = rule })

  -- .. of each seat in use of such a table, by its number, and what it knows
  abbrev pub EachKnown : (Ruled T → ℕ → Known → Type 0) → Type 0
  EachKnown Q = EachTable (λ t. (h weight : ℕ) (k : Known) → get_elem? t.table.views h ≡ slot.some (held weight k) → Q t h k)

  -- .. of each step that may come next, and the table after it, which shows the World after its event
  abbrev pub EachStep : (Ruled T → Entry → Table T → Type 0) → Type 0
  EachStep Q = EachTable (λ t. (weight : ℕ) (k known : Known) (e : Entry) → (slots : List (ℕ × Option T)) (act : Act (Option T)) (d : ℕ → Phase)
      → get_elem? t.table.views e.seat ≡ slot.some (held weight k) → known.records ≡ k.records → IsNext t.bits t.rule.world t.table.words e
      → length (homes_after t.table.homes slots act) ≡ length t.table.homes
      → Shows t.tag_in t.bits (after t.rule.world e.event) d (board_of (contexts_in t.shape) (after_step t.table e weight known slots act))
      → Q t e (after_step t.table e weight known slots act))

  -- .. of each whole seat that carries nothing, and each list of slots that has what is at home in the table
  abbrev pub EachWhole : (Ruled T → Known → List (Option T) → Type 0) → Type 0
  EachWhole Q = EachTable (λ t. (h : ℕ) (k : Known) → get_elem? t.table.views h ≡ slot.some (held whole k) → k.carried ≡ []
      → (slots : List (Option T)) → length t.table.homes ≡ length slots
      → ((x : ℕ) (o : Option T) → get_elem? t.table.homes x ≡ slot.some (slot.some o) → get_elem? slots x ≡ slot.some o) → Q t k slots)
