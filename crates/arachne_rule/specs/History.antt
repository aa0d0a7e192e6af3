-- The history of a table: every step on its words so far, the seat that made it, and its event of the World.
use Rattle.std.specs.Prelude.{◌≡◌, ℕ, ◌+◌, ◌-◌, ◌*◌, ◌<◌, ◌^◌, ◌⊎◌, if◌then◌else◌, ◌==◌, List, [], ◌∷◌, ◌++◌, slice_index, slice_set, bit_and, bit_or, false}
use Rattle.arachne_core.specs.{declared.state.State.TheVariants.Free, declared.event.Event.Event, Place.first_place}
use Rattle.arachne_core.specs.declared.state.Rest.TheVariants as rest
use Rattle.arachne_core.specs.declared.event.Event.TheVariants as event
use Rattle.arachne_core.specs.{ContextTable.marked, Marked.{mark_word, marked_of}}
use Rattle.arachne_core.specs.World.{World, core_of, Allowed, after}
use Rattle.arachne_rule.specs.declared.view.{Kind.Kind, Record.Record, Shape.Shape}
use Rattle.arachne_rule.specs.declared.view.Kind.TheVariants as kind
use Rattle.arachne_rule.specs.{Changes.index_sum, Layout.occ_index}

-- a step, the seat that made it, and its event
pub record Entry : Type 0 where
  pub seat : ℕ
  pub step : Record
  pub event : Event

-- ---- the event of a step

-- the kind is an exchange, which changes nothing if it found another word than the expected one
abbrev pub IsExchange : Kind → Type 0
IsExchange kind.Claim = Unit {0}
IsExchange kind.Alone = Unit {0}
IsExchange kind.Take = Unit {0}
IsExchange kind.RestBlocked = Unit {0}
IsExchange kind.Wake = Unit {0}
IsExchange kind.MarkWoken = Unit {0}
IsExchange kind.Move = Unit {0}
IsExchange kind.NameTarget = Unit {0}
IsExchange k = ⊥

-- the word is the mark word of context x, with its place and its generation
abbrev pub IsMarkOf : ℕ → World → ℕ → ℕ → Type 0
IsMarkOf bits w x word = word ≡ mark_word bits (marked w x)

-- The event of a step of seat h on word i, which changes the word from b to a. The event is at the place, core or
-- context of that word. The World w is the one before the step.
abbrev pub EventOf : ℕ → World → ℕ → Kind → ℕ → ℕ → ℕ → Event → Type 0
EventOf bits w h kind.Look i b a e = (a ≡ b) × (e ≡ event.Still)
EventOf bits w h kind.Learn i b a e = (a ≡ b) × (e ≡ event.Still)
EventOf bits w h kind.Claim i b a e = (x : ℕ) × (i ≡ occ_index (w.cores * w.slots) (core_of w x)) × (a ≡ b + index_sum (w.at x).index) × (e ≡ event.Claim h x)
EventOf bits w h kind.Alone i b a e = (x : ℕ) × (i ≡ occ_index (w.cores * w.slots) (core_of w x)) × (b ≡ 0) × (a ≡ 2 ^ 63 + index_sum 0) × (e ≡ event.Alone h x)
EventOf bits w h kind.Post i b a e = (tag : ℕ) × (e ≡ event.Post h i tag) × IsMarkOf bits (after w e) i a
EventOf bits w h kind.Take i b a e = (e ≡ event.Take h i) × IsMarkOf bits (after w e) i a
EventOf bits w h kind.KeepName i b a e = e ≡ event.Still
EventOf bits w h kind.Retire i b a e = (e ≡ event.Retire h i) × IsMarkOf bits (after w e) i a
EventOf bits w h kind.Release i b a e = (x : ℕ) × (i ≡ occ_index (w.cores * w.slots) (core_of w x))
    × (a ≡ b - (if w.alone (core_of w x) then 2 ^ 63 + index_sum (w.at x).index else index_sum (w.at x).index)) × (e ≡ event.Release h x)
EventOf bits w h kind.RestReady i b a e = (e ≡ event.Rest h i rest.Ready) × IsMarkOf bits (after w e) i a
EventOf bits w h kind.RestBlocked i b a e = (e ≡ event.Rest h i rest.Blocked) × IsMarkOf bits (after w e) i a
EventOf bits w h kind.Wake i b a e = (e ≡ event.Wake (record { context = i; generation = (marked_of bits b).generation })) × IsMarkOf bits (after w e) i a
EventOf bits w h kind.MarkWoken i b a e = (e ≡ event.Wake (record { context = i; generation = (marked_of bits b).generation })) × IsMarkOf bits (after w e) i a
EventOf bits w h kind.Close i b a e = (c : ℕ) × (i ≡ occ_index (w.cores * w.slots) c) × (a ≡ bit_or b (2 ^ 62)) × (e ≡ event.CloseCore c)
EventOf bits w h kind.Open i b a e = (c : ℕ) × (i ≡ occ_index (w.cores * w.slots) c) × (a ≡ bit_and b (2 ^ 64 - 1 - 2 ^ 62)) × (e ≡ event.OpenCore c)
EventOf bits w h kind.Move i b a e = (y : ℕ) × ((marked_of bits b).place ≡ w.at i) × ((marked_of bits a).place ≡ w.at y) × (e ≡ event.Move h i y) × IsMarkOf bits (after w e) i a
EventOf bits w h kind.NameTarget i b a e = e ≡ event.Still
EventOf bits w h kind.Replace i b a e = e ≡ event.Still
EventOf bits w h kind.NameSource i b a e = e ≡ event.Still

-- the step is an event of the World, or a lost exchange, which is `Still`
abbrev pub Makes : ℕ → World → Entry → Type 0
Makes bits w e = (IsExchange e.step.kind × (e.step.after ≡ e.step.before) × (e.event ≡ event.Still))
    ⊎ EventOf bits w e.seat e.step.kind e.step.word e.step.before e.step.after e.event

-- ---- a history, the newest step first

-- the World at first: each context is free at the place of its number, and each core open
abbrev pub opening_world : Shape → World
opening_world shape = record {
  cores = shape.cores;
  slots = shape.places_per_core;
  last = shape.last;
  at = first_place shape.places_per_core;
  occupied = λ p. false;
  generation = λ x. shape.first;
  state = λ x. Free;
  closed = λ c. false;
  alone = λ c. false;
  given = λ t. 0;
  ended = λ t. 0;
}

abbrev pub world_after : World → List Entry → World
world_after w [] = w
world_after w (e ∷ es) = after (world_after w es) e.event

abbrev pub words_after : List ℕ → List Entry → List ℕ
words_after words [] = words
words_after words (e ∷ es) = slice_set (words_after words es) e.step.word e.step.after

-- the events of a history, in the order in which they were made
abbrev pub events_of : List Entry → List Event
events_of [] = []
events_of (e ∷ es) = events_of es ++ e.event ∷ []

-- the steps of seat h
abbrev pub records_of : ℕ → List Entry → List Record
records_of h [] = []
records_of h (e ∷ es) = if e.seat == h then e.step ∷ records_of h es else records_of h es

-- the step may come next: it found the number that is in its word, and its event is allowed
pub record IsNext (bits : ℕ) (w : World) (words : List ℕ) (e : Entry) : Type 0 where
  pub found : slice_index words e.step.word ≡ e.step.before
  pub allowed : Allowed w e.event
  pub makes : Makes bits w e

abbrev pub IsHistory : ℕ → World → List ℕ → List Entry → Type 0
IsHistory bits w words [] = Unit {0}
IsHistory bits w words (e ∷ es) = IsHistory bits w words es × IsNext bits (world_after w es) (words_after words es) e

-- seat h has made the step, and it is in the history at its place, after all that came before it
pub record IsStepOf (bits : ℕ) (w : World) (words : List ℕ) (history : List Entry) (h : ℕ) (step : Record) : Type 0 where
  pub newer : List Entry
  pub older : List Entry
  pub entry : Entry
  pub whole : history ≡ newer ++ entry ∷ older
  pub by_seat : entry.seat ≡ h
  pub is : entry.step ≡ step
  pub next : IsNext bits (world_after w older) (words_after words older) entry

-- each step was made by one of the first n seats
abbrev pub AreOfSeats : ℕ → List Entry → Type 0
AreOfSeats n [] = Unit {0}
AreOfSeats n (e ∷ es) = (e.seat < n) × AreOfSeats n es
