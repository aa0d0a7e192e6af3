-- The effect of a table's calls on its World.
use Rattle.std.specs.Prelude.{◌≡◌, ◌≢◌, ℕ, ◌<◌, List, [], ◌∷◌, if◌then◌else◌, nat_lt, Bool, true, false, Option, Some, None, slice_set}
use Rattle.arachne_core.specs.declared.{place.Place.Place, thread_id.ThreadId.ThreadId, state.{State.State, Rest.Rest}}
use Rattle.arachne_core.specs.{declared.{event.Event.Event, layout.TheConstants.CORE_BITS}, Occupancy.occupancy_of}
use Rattle.arachne_core.specs.{Marked.marked_of, ContextTable.{ShowsCore, marked, is_live_state}}
use Rattle.arachne_core.specs.World.{World, IsContext, IsPlace, IsReady, IsAtRest, MayClaim, core_of, id_of}
use Rattle.arachne_core.specs.Run.{IsRun, after_all}
use Rattle.arachne_core.specs.declared.state.State.TheVariants as state
use Rattle.arachne_core.specs.declared.state.Rest.TheVariants as rest
use Rattle.arachne_core.specs.declared.event.Event.TheVariants as event
use Rattle.arachne_contexts.specs.Words.{ShowsFull, ShowsClosed, ShowsInUse, ShowsNoRoom, ShowsReadyAt, ShowsWoken}
use Rattle.arachne_contexts.specs.declared.answers.{Claimed.Claimed, Taken.Taken, Rested.Rested, Woken.Woken}
use Rattle.arachne_contexts.specs.declared.{answers.Moved.Moved, held.Held.Held}
use Rattle.arachne_contexts.specs.declared.answers.Claimed.TheVariants as claimed
use Rattle.arachne_contexts.specs.declared.answers.Taken.TheVariants as taken
use Rattle.arachne_contexts.specs.declared.answers.Rested.TheVariants as rested
use Rattle.arachne_contexts.specs.declared.answers.Woken.TheVariants as woken
use Rattle.arachne_contexts.specs.declared.answers.Moved.TheVariants as moved
use Rattle.arachne_locked.specs.{declared.tokens.{LockedClaim.LockedClaim, LockedHold.LockedHold}, AtHome.value_at}

-- the World changes by these events, in order, each of which is allowed
pub record Takes (old : World) (events : List Event) (new : World) : Type 0 where
  pub allowed : IsRun old events
  pub made : new ≡ after_all old events

-- nothing has changed, and the word is that of the core, if the World has it
pub record IsRefusedBy (old new : World) (core word : ℕ) : Type 0 where
  pub same : new ≡ old
  pub shows : core < old.cores → ShowsCore old core (occupancy_of word)

-- the place is its core's lowest free one
pub record IsLowestFree (w : World) (p : Place) : Type 0 where
  pub place : IsPlace w p
  pub free : w.occupied p ≡ false
  pub lowest : (i : ℕ) → i < p.index → w.occupied (record { core = p.core; index = i }) ≡ true

-- the state of the context at the place passes the test
pub record HasAt (w : World) (p : Place) (test : State → Type 0) : Type 0 where
  pub context : ℕ
  pub within : IsContext w context
  pub at : w.at context ≡ p
  pub state : test (w.state context)

-- ---- claims

-- h has claimed the lowest free place of the core
pub record HasClaimedOn (old new : World) (h core : ℕ) (claim : LockedClaim) : Type 0 where
  pub takes : Takes old (event.Claim h claim.context ∷ []) new
  pub at : old.at claim.context ≡ claim.place
  pub on : claim.place.core ≡ core
  pub lowest : IsLowestFree old claim.place

abbrev pub Claims : World → World → ℕ → ℕ → Claimed LockedClaim → Type 0
Claims w u h core (claimed.Place claim) = HasClaimedOn w u h core claim
Claims w u h core (claimed.Full word) = IsRefusedBy w u core word × ShowsFull w.slots word
Claims w u h core (claimed.Closed word) = IsRefusedBy w u core word × ShowsClosed word
Claims w u h core (claimed.Lost word) = ⊥

-- h has claimed the whole core, at its index 0
pub record HasClaimedWhole (old new : World) (h core : ℕ) (claim : LockedClaim) : Type 0 where
  pub takes : Takes old (event.Alone h claim.context ∷ []) new
  pub at : old.at claim.context ≡ claim.place
  pub first : claim.place ≡ record { core = core; index = 0 }

abbrev pub ClaimsWholeCore : World → World → ℕ → ℕ → Claimed LockedClaim → Type 0
ClaimsWholeCore w u h core (claimed.Place claim) = HasClaimedWhole w u h core claim
ClaimsWholeCore w u h core (claimed.Full word) = IsRefusedBy w u core word × ShowsInUse word
ClaimsWholeCore w u h core (claimed.Closed word) = IsRefusedBy w u core word × ShowsClosed word
ClaimsWholeCore w u h core (claimed.Lost word) = ⊥

-- ---- threads

module _ {T : Type 0} where
  -- h has taken the thread at a place, with the value that was at home
  pub record HasTaken (old new : World) (before after : List (Option T)) (h : ℕ) (p : Place) (held : Held T LockedHold) : Type 0 where
    pub takes : Takes old (event.Take h held.hold.id.context ∷ []) new
    pub at : old.at held.hold.id.context ≡ p
    pub place : held.hold.place ≡ p
    pub id : held.hold.id ≡ id_of old held.hold.id.context
    pub value : value_at before held.hold.id.context ≡ Some held.value
    pub out : after ≡ slice_set before held.hold.id.context None

  -- nothing has changed, and the word shows that no thread at the place is ready: it is the word of the context there
  pub record HasNoneReady (old new : World) (before after : List (Option T)) (p : Place) (word : ℕ) : Type 0 where
    pub same : new ≡ old
    pub values : after ≡ before
    pub shows : ShowsReadyAt p word → ⊥
    pub reads : IsPlace old p → (x : ℕ) × IsContext old x × (old.at x ≡ p) × (marked_of CORE_BITS word ≡ marked old x) × (IsReady (old.state x) → ⊥)

  abbrev pub TakesFrom : World → World → List (Option T) → List (Option T) → ℕ → Place → Taken T LockedHold → Type 0
  TakesFrom w u old new h p (taken.Run held) = HasTaken w u old new h p held
  TakesFrom w u old new h p (taken.NotReady word) = HasNoneReady w u old new p word
  TakesFrom w u old new h p (taken.Lost word) = ⊥

-- the events by which h's thread in x ends: the second one frees its place, unless the context is spent
abbrev pub ends : World → ℕ → ℕ → List Event
ends w h x = if nat_lt (w.generation x) w.last then event.Retire h x ∷ event.Release h x ∷ [] else event.Retire h x ∷ []

-- the thread was woken while it was held
abbrev pub was_woken : State → Bool
was_woken (state.Held h woken tag) = woken
was_woken s = false

-- the result of putting back a thread that was in this state
abbrev pub rests_as : Rest → State → Rested
rests_as rest.Ready s = rested.AsAsked
rests_as rest.Blocked s = if was_woken s then rested.WokenMeanwhile else rested.AsAsked

-- nothing has changed, and the context's word shows that its thread is ready or was woken
pub record IsWoken (old new : World) (id : ThreadId) (word : ℕ) : Type 0 where
  pub same : new ≡ old
  pub context : IsContext old id.context
  pub reads : marked_of CORE_BITS word ≡ marked old id.context
  pub shows : ShowsWoken id word

-- nothing has changed, and no live thread has the id
pub record IsGone (old new : World) (id : ThreadId) : Type 0 where
  pub same : new ≡ old
  pub gone : IsContext old id.context → old.generation id.context ≡ id.generation → is_live_state (old.state id.context) ≡ false

abbrev pub Wakes : World → World → ThreadId → Woken → Type 0
Wakes w u id woken.Woken = Takes w (event.Wake id ∷ []) u
Wakes w u id (woken.Already word) = IsWoken w u id word
Wakes w u id woken.Gone = IsGone w u id
Wakes w u id (woken.Lost word) = ⊥

-- ---- moves

-- the thread at p has moved to the lowest free place of a core, by h, and p is free
pub record HasMoved (old new : World) (h : ℕ) (p : Place) (to : ℕ) : Type 0 where
  pub from : ℕ
  pub target : ℕ
  pub at : old.at from ≡ p
  pub core : (old.at target).core ≡ to
  pub lowest : IsLowestFree old (old.at target)
  pub takes : Takes old (event.Claim h target ∷ event.Move h from target ∷ event.Release h target ∷ []) new

abbrev pub HasNoThread : State → Type 0
HasNoThread s = is_live_state s ≡ false

abbrev pub HasThread : State → Type 0
HasThread s = is_live_state s ≡ true

abbrev pub IsHeld : State → Type 0
IsHeld (state.Held h woken tag) = Unit {0}
IsHeld s = ⊥

-- the result of a move of the thread at p: the first refusal that applies, or `Moved`
abbrev pub Moves : World → World → ℕ → Place → ℕ → Moved → Type 0
Moves w u h p to moved.Moved = HasMoved w u h p to
Moves w u h p to moved.Unposted = (u ≡ w) × (IsPlace w p → HasAt w p HasNoThread)
Moves w u h p to moved.Alone = (u ≡ w) × HasAt w p HasThread × (w.alone p.core ≡ true)
Moves w u h p to moved.Running = (u ≡ w) × HasAt w p IsHeld × (w.alone p.core ≡ false)
Moves w u h p to (moved.NoRoom word) = IsRefusedBy w u to word × ShowsNoRoom w.slots word × HasAt w p IsAtRest × (w.alone p.core ≡ false)
Moves w u h p to (moved.Lost word) = ⊥

-- the event claims a context
abbrev pub IsClaim : Event → Type 0
IsClaim (event.Claim h x) = Unit {0}
IsClaim (event.Alone h x) = Unit {0}
IsClaim e = ⊥

-- the thread in x is at rest on a core that is not exclusive, and y may be claimed on another core
pub record CanMove (w : World) (x y : ℕ) : Type 0 where
  pub context : IsContext w x
  pub at_rest : IsAtRest (w.state x)
  pub shared : w.alone (core_of w x) ≡ false
  pub target : MayClaim w y
  pub apart : core_of w x ≢ core_of w y
