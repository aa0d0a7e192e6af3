-- The contracts of a table's results.
use Rattle.std.specs.Prelude.{◌≡◌, ℕ, ◌<◌, Bool, true, false, List, [], ◌∷◌, map, Option, None, Some}
use Rattle.arachne_core.specs.declared.{place.Place.Place, state.Rest.Rest, thread_id.ThreadId.ThreadId}
use Rattle.arachne_core.specs.declared.state.Rest.TheVariants as rest
use Rattle.arachne_contexts.specs.declared.answers.{Claimed.Claimed, Taken.Taken, Rested.Rested, Woken.Woken}
use Rattle.arachne_contexts.specs.declared.answers.Claimed.TheVariants as claimed
use Rattle.arachne_contexts.specs.declared.answers.Taken.TheVariants as taken
use Rattle.arachne_contexts.specs.declared.answers.Rested.TheVariants as rested
use Rattle.arachne_contexts.specs.declared.answers.Woken.TheVariants as woken
use Rattle.arachne_contexts.specs.declared.answers.Moved.{Moved}
use Rattle.arachne_contexts.specs.declared.answers.Moved.TheVariants as moved
use Rattle.arachne_contexts.specs.Words.{ShowsFull, ShowsClosed, ShowsInUse, ShowsNoRoom, ShowsReadyAt, ShowsWoken}

-- the result of a claim on a core of `slots` places: a place there, or a word that shows why there is none
abbrev pub ClaimsOn : {C : Type 0} → ℕ → (C → Place) → ℕ → Claimed C → Type 0
ClaimsOn slots place_of core (claimed.Place claim) = (place_of claim).core ≡ core
ClaimsOn slots place_of core (claimed.Full word) = ShowsFull slots word
ClaimsOn slots place_of core (claimed.Closed word) = ShowsClosed word
ClaimsOn slots place_of core (claimed.Lost word) = Unit {0}

-- the place of a claim, or no place if the core had none; None if the claim was lost
abbrev pub settled_claim : {C : Type 0} → Claimed C → Option (Option C)
settled_claim (claimed.Place claim) = Some (Some claim)
settled_claim (claimed.Full word) = Some None
settled_claim (claimed.Closed word) = Some None
settled_claim (claimed.Lost word) = None

-- the result of a claim of a whole core: its index 0, or a word that shows why it was refused
abbrev pub ClaimsWhole : {C : Type 0} → (C → Place) → ℕ → Claimed C → Type 0
ClaimsWhole place_of core (claimed.Place claim) = place_of claim ≡ record { core = core; index = 0 }
ClaimsWhole place_of core (claimed.Full word) = ShowsInUse word
ClaimsWhole place_of core (claimed.Closed word) = ShowsClosed word
ClaimsWhole place_of core (claimed.Lost word) = Unit {0}

-- the result of a take at a place: the thread there, or a word that shows that none is ready
abbrev pub TakesAt : {T H : Type 0} → (H → Place) → Place → Taken T H → Type 0
TakesAt place_of p (taken.Run held) = place_of held.hold ≡ p
TakesAt place_of p (taken.NotReady word) = ShowsReadyAt p word → ⊥
TakesAt place_of p (taken.Lost word) = Unit {0}

-- the result of a put-back: `WokenMeanwhile` only if the caller put the thread back as blocked
abbrev pub RestsAs : Rest → Rested → Type 0
RestsAs rest.Ready rested.AsAsked = Unit {0}
RestsAs rest.Ready rested.WokenMeanwhile = ⊥
RestsAs rest.Blocked rested.AsAsked = Unit {0}
RestsAs rest.Blocked rested.WokenMeanwhile = Unit {0}

-- the result of a wake of an id: `Already` has a word that shows that the thread is ready or woken
abbrev pub WakesAs : ThreadId → Woken → Type 0
WakesAs id woken.Woken = Unit {0}
WakesAs id (woken.Already word) = ShowsWoken id word
WakesAs id woken.Gone = Unit {0}
WakesAs id (woken.Lost word) = Unit {0}

-- true if the call woke the thread, false if that was woken already or has ended, None if the wake was lost
abbrev pub settled_wake : Woken → Option Bool
settled_wake woken.Woken = Some true
settled_wake (woken.Already word) = Some false
settled_wake woken.Gone = Some false
settled_wake (woken.Lost word) = None

-- the result of a move to a core of `slots` places: `NoRoom` has a word that shows that none may move there
abbrev pub MovesAs : ℕ → Moved → Type 0
MovesAs slots (moved.NoRoom word) = ShowsNoRoom slots word
MovesAs slots answer = Unit {0}

-- the contexts are in ascending order, so no thread is in the list twice
abbrev pub IsByContext : {T : Type 0} → List (ThreadId × T) → Type 0
IsByContext [] = Unit {0}
IsByContext (t ∷ []) = Unit {0}
IsByContext (t ∷ u ∷ ts) = (t.0.context < u.0.context) × IsByContext (u ∷ ts)

-- the ids and tags of the threads
abbrev pub tagged_threads : {T : Type 0} → (T → ℕ) → List (ThreadId × T) → List (ThreadId × ℕ)
tagged_threads tag_of threads = map (λ (t : _). (t.0, tag_of t.1)) threads
