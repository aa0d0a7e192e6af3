-- For each kind of step, a relation between the step, the seat before it, the number that was found (for a store, the
-- number that was stored), and the seat after it.
use Rattle.std.specs.Prelude.{◌≡◌, ◌≢◌, ℕ, ◌+◌, ◌-◌, ◌<◌, ◌⊎◌, true, false, if◌then◌else◌, ◌==◌, [], ◌∷◌, count_by, bit_and, bit_or, Option, Some, None}
use Rattle.atomic_table.specs.Table.{Step, rest}
use Rattle.arachne_core.specs.declared.{place.Place.Place, thread_id.ThreadId.ThreadId, mark.Mark.Mark}
use Rattle.arachne_core.specs.{Occupancy.IsOccupancyWord, Marked.{marked_of, IsMarkWord}, World.{Thread, same_thread}}
use Rattle.arachne_core.specs.declared.mark.Mark.TheVariants as mark
use Rattle.arachne_weights.specs.Tokens.{held}
use Rattle.arachne_rule.specs.{declared.view.{Carried.Carried, Kind.Kind, Known.Known}, Layout.{occ_index, name_index}}
use Rattle.arachne_rule.specs.{Views.{noted, with_context, without_context, carried_at}, Table.Mine}
use Rattle.arachne_rule.specs.Changes.{claimed_context, alone_context, taken_context, left_context, posted, retired, spent_known, marked_as, marked_free, index_sum, release_sum}
use Rattle.arachne_rule.specs.declared.view.Kind.TheVariants as kind

-- the seat carries this context
abbrev pub Carries : Known → Carried → Type 0
Carries k c = carried_at c.context k.carried ≡ c ∷ []

-- the mark of a context whose thread is held
abbrev pub IsHeldMark : Mark → Type 0
IsHeldMark mark.Held = Unit {0}
IsHeldMark mark.Woken = Unit {0}
IsHeldMark m = ⊥

-- the mark of a context whose thread is ready or blocked
abbrev pub IsRestMark : Mark → Type 0
IsRestMark mark.Ready = Unit {0}
IsRestMark mark.Blocked = Unit {0}
IsRestMark m = ⊥

-- the mark word shows the context as the seat that carries it knows it
abbrev pub SaysCarried : ℕ → Carried → ℕ → Type 0
SaysCarried bits c word = (c.held ≡ false → marked_of bits word ≡ record (marked_free c) { place = c.shown })
    × (c.held ≡ true → IsHeldMark (marked_of bits word).mark × (marked_of bits word ≡ record (marked_as (marked_of bits word).mark c) { place = c.shown }))

-- the mark word shows that the thread of this id is no longer in its context
abbrev pub IsGone : ℕ → ThreadId → ℕ → Type 0
IsGone bits id word = ((marked_of bits word).generation ≢ id.generation) ⊎ (((marked_of bits word).mark ≡ mark.Free) ⊎ ((marked_of bits word).mark ≡ mark.Spent))

-- the seat has ended the thread
abbrev pub HasEnded : Known → Thread → Type 0
HasEnded k t = 0 < count_by (same_thread t) k.ended

module _ {T : Type 0} where
  -- the seat in use after it has learned k
  abbrev pub knowing : Mine T → Known → Mine T
  knowing me k = (held me.0.weight k, me.1)

  -- the same, after the slot that was taken last has gone home
  abbrev pub knowing_home : Mine T → Known → Mine T
  knowing_home me k = (held me.0.weight k, rest me.1)

  -- the seat after it has seen a word and changed nothing
  abbrev pub saw : Kind → Step (Option T) → ℕ → Mine T → Mine T
  saw k step found me = knowing me (noted k step.word found found me.0.known)

  -- the seat is in use
  abbrev pub IsLive : Mine T → Type 0
  IsLive me = me.0 ≡ held me.0.weight me.0.known

  -- ---- loads

  abbrev pub LooksCore : Step (Option T) → Mine T → ℕ → Mine T → Type 0
  LooksCore step before found after = IsOccupancyWord found × (after ≡ saw kind.Look step found before)

  -- a mark word shows what the seat knows of the context that it carries, and that a thread which it has ended is gone
  abbrev pub LooksMark : ℕ → Step (Option T) → Mine T → ℕ → Mine T → Type 0
  LooksMark bits step before found after = IsMarkWord bits found × (after ≡ saw kind.Look step found before)
      × ((c : Carried) → c.context ≡ step.word → Carries before.0.known c → SaysCarried bits c found)
      × ((t : Thread) → t.0.context ≡ step.word → HasEnded before.0.known t → IsGone bits t.0 found)

  -- a place word names a context: the one that the seat carries, if that is named at its place
  abbrev pub LearnsName : Step (Option T) → Mine T → ℕ → Mine T → Type 0
  LearnsName step before found after = (found < step.slots) × (after ≡ saw kind.Learn step found before)
      × ((c : Carried) → c.context < step.slots → Carries before.0.known c → c.named ≡ true → step.word ≡ name_index step.slots c.place → found ≡ c.context)

  -- the empty slot of a context that is named at its place is then out with its carrier
  abbrev pub TakesSlot : Step (Option T) → Mine T → ℕ → Mine T → Type 0
  TakesSlot step before found after = (c : Carried) → c.context < step.slots → Carries before.0.known c → c.named ≡ true → c.away ≡ false
      → step.word ≡ name_index step.slots c.place
      → (found ≡ c.context) × (after ≡ (held before.0.weight (noted kind.Learn step.word found found (with_context before.0.known (record c { away = true }))), (c.context, None) ∷ before.1))

  -- ---- claims

  -- if the word was the expected one, the seat has claimed the context that stands at that place, which it didn't carry
  -- before
  abbrev pub Claims : Step (Option T) → Mine T → ℕ → Mine T → Type 0
  Claims step before found after = (p : Place) → step.word ≡ occ_index step.slots p.core → step.second ≡ step.first + index_sum p.index
      → (found ≡ step.first → (x generation : ℕ) × (x < step.slots) × (carried_at x before.0.known.carried ≡ []) × (after ≡ knowing before (noted kind.Claim step.word found step.second (with_context before.0.known (claimed_context x p generation)))))
      × (found ≢ step.first → after ≡ saw kind.Claim step found before)

  -- if the word was the expected one, 0, the seat has claimed the whole core, by its context at index 0
  abbrev pub ClaimsAlone : Step (Option T) → Mine T → ℕ → Mine T → Type 0
  ClaimsAlone step before found after = (core : ℕ) → step.word ≡ occ_index step.slots core
      → (found ≡ step.first → (x generation : ℕ) × (x < step.slots) × (carried_at x before.0.known.carried ≡ []) × (after ≡ knowing before (noted kind.Alone step.word found step.second (with_context before.0.known (alone_context x core generation)))))
      × (found ≢ step.first → after ≡ saw kind.Alone step found before)

  -- the seat has given up a claim
  abbrev pub Releases : Step (Option T) → Mine T → ℕ → Mine T → Type 0
  Releases step before found after = (c : Carried) → c.context < step.slots → Carries before.0.known c → step.word ≡ occ_index step.slots c.place.core → step.first ≡ release_sum c
      → after ≡ knowing before (noted kind.Release step.word found (found - step.first) (without_context before.0.known c))

  -- ---- threads come and go

  -- a thread with this value, which went home, is ready in the context
  abbrev pub Posts : (T → ℕ) → Step (Option T) → Mine T → ℕ → Mine T → Type 0
  Posts tag_in step before found after = (c : Carried) (value : T) → c.context ≡ step.word → Carries before.0.known c → before.1 ≡ (c.context, Some value) ∷ rest before.1
      → (was : ℕ) × (after ≡ knowing_home before (noted kind.Post step.word was step.first (posted before.0.known c (tag_in value))))

  -- if the word was the expected one, the seat has taken the thread that it shows, with its value; it didn't carry the
  -- context before
  abbrev pub Takes : (T → ℕ) → ℕ → Step (Option T) → Mine T → ℕ → Mine T → Type 0
  Takes tag_in bits step before found after =
      (found ≡ step.first → (value : T) × (carried_at step.word before.0.known.carried ≡ []) × (after ≡ (held before.0.weight (noted kind.Take step.word found step.second (with_context before.0.known (taken_context step.word (marked_of bits step.first) (tag_in value)))), (step.word, Some value) ∷ before.1)))
      × (found ≢ step.first → after ≡ saw kind.Take step found before)

  -- the empty slot is at home, and the place word names the context
  abbrev pub KeepsName : Step (Option T) → Mine T → ℕ → Mine T → Type 0
  KeepsName step before found after = (c : Carried) → c.context ≡ step.first → Carries before.0.known c
      → (was : ℕ) × (after ≡ knowing_home before (noted kind.KeepName step.word was step.first (with_context before.0.known (record c { named = true; away = false }))))

  -- the thread has ended, and its context is claimed for the next generation
  abbrev pub Retires : Step (Option T) → Mine T → ℕ → Mine T → Type 0
  Retires step before found after = (c : Carried) → c.context ≡ step.word → Carries before.0.known c
      → after ≡ knowing before (noted kind.Retire step.word found step.first (retired before.0.known c))

  -- the thread has ended, and its context is spent
  abbrev pub Spends : Step (Option T) → Mine T → ℕ → Mine T → Type 0
  Spends step before found after = (c : Carried) → c.context ≡ step.word → Carries before.0.known c
      → after ≡ knowing before (noted kind.Retire step.word found step.first (spent_known before.0.known c))

  -- the thread is ready again, and its value at home
  abbrev pub RestsReady : Step (Option T) → Mine T → ℕ → Mine T → Type 0
  RestsReady step before found after = (c : Carried) → c.context ≡ step.word → Carries before.0.known c
      → (was : ℕ) × (after ≡ knowing_home before (noted kind.RestReady step.word was step.first (without_context before.0.known c)))

  -- if the word was the expected one, the thread is blocked and its value at home; otherwise the word that was found is
  -- that of the seat's own thread
  abbrev pub RestsBlocked : ℕ → Step (Option T) → Mine T → ℕ → Mine T → Type 0
  RestsBlocked bits step before found after = (c : Carried) → c.context ≡ step.word → Carries before.0.known c
      → (found ≡ step.first → after ≡ knowing_home before (noted kind.RestBlocked step.word found step.second (without_context before.0.known c)))
      × (found ≢ step.first → IsMarkWord bits found × SaysCarried bits c found × (after ≡ saw kind.RestBlocked step found before))

  -- a wake, of either kind, after which the seat knows nothing new
  abbrev pub Wakes : Kind → Step (Option T) → Mine T → ℕ → Mine T → Type 0
  Wakes k step before found after =
      (found ≡ step.first → after ≡ knowing before (noted k step.word found step.second before.0.known))
      × (found ≢ step.first → after ≡ saw k step found before)

  -- ---- cores

  abbrev pub Closes : Step (Option T) → Mine T → ℕ → Mine T → Type 0
  Closes step before found after = IsOccupancyWord found × (after ≡ knowing before (noted kind.Close step.word found (bit_or found step.first) before.0.known))

  abbrev pub Opens : Step (Option T) → Mine T → ℕ → Mine T → Type 0
  Opens step before found after = IsOccupancyWord found × (after ≡ knowing before (noted kind.Open step.word found (bit_and found step.first) before.0.known))

  -- ---- a move

  -- if the word was the expected one, its context has moved to the place of c, and c stands at the place that it left
  abbrev pub Moves : ℕ → Step (Option T) → Mine T → ℕ → Mine T → Type 0
  Moves bits step before found after = (c : Carried) → c.context < step.slots → Carries before.0.known c → (marked_of bits step.second).place ≡ c.place
      → (found ≡ step.first → after ≡ knowing before (noted kind.Move step.word found step.second (with_context before.0.known (left_context c (marked_of bits step.first).place))))
      × (found ≢ step.first → after ≡ saw kind.Move step found before)

  abbrev pub NamesTarget : Step (Option T) → Mine T → ℕ → Mine T → Type 0
  NamesTarget step before found after = after ≡ knowing before (noted kind.NameTarget step.word found (if found == step.first then step.second else found) before.0.known)

  abbrev pub Replaces : Step (Option T) → Mine T → ℕ → Mine T → Type 0
  Replaces step before found after = (c : Carried) → c.context ≡ step.word → Carries before.0.known c
      → (was : ℕ) × (after ≡ knowing before (noted kind.Replace step.word was step.first (with_context before.0.known (record c { shown = c.place }))))

  abbrev pub NamesSource : Step (Option T) → Mine T → ℕ → Mine T → Type 0
  NamesSource step before found after = (c : Carried) → c.context ≡ step.first → Carries before.0.known c
      → (was : ℕ) × (after ≡ knowing before (noted kind.NameSource step.word was step.first (with_context before.0.known (record c { named = true }))))
