-- The changes of the daemon's state.
use Rattle.std.specs.Prelude.{◌≡◌, ◌≢◌, ℕ, ◌<◌, ◌≤◌, Bool, true, false, Some, List, map, position, replicate, count_by, slice_index}
use Rattle.arachne_grants.specs.declared.sessions.Session.{Session}
use Rattle.arachne_grants.specs.declared.sessions.ClientThread.TheVariants.{Absent, Waits}
use Rattle.arachne_grants.specs.Grants.{AreGrants, IsAnswer}
use Rattle.arachne_grants.specs.Sessions.{core_at, gives_way, has_core, held_in, is_ready, is_usable, placed, session_at, thread_at, unplaced, wants_of, with_thread, IsFree, IsTaken}
use Rattle.arachne_grants.specs.declared.state.CoreArbiter.{CoreArbiter}
use Rattle.arachne_grants.specs.declared.state.Grant.{Grant}
use Rattle.arachne_grants.specs.declared.state.TakenCore.{TakenCore}

-- a client's record, without threads
abbrev pub new_session : Bool → ℕ → ℕ → ℕ → Session
new_session taken priority reserved most = record {
  taken = taken;
  priority = priority;
  reserved = reserved;
  most = most;
  asks = 0;
  threads = replicate 64 Absent;
}

-- there are as many cores as before, and each client is allowed as many of them
abbrev pub KeepsAllowed : CoreArbiter → CoreArbiter → Type 0
KeepsAllowed old new = (new.cores ≡ old.cores) × (new.allowed ≡ old.allowed)

-- the numbers that clients are allowed keep the properties of `targets`, and still are its result if they were before
abbrev pub StaysAnswered : CoreArbiter → CoreArbiter → Type 0
StaysAnswered old new =
    (AreGrants (map wants_of old.sessions) old.cores old.allowed → AreGrants (map wants_of new.sessions) new.cores new.allowed)
    × (IsAnswer (map wants_of old.sessions) old.cores old.allowed → IsAnswer (map wants_of new.sessions) new.cores new.allowed)

-- a client has less than it is allowed
abbrev pub HasFewer : List Session → List ℕ → ℕ → Type 0
HasFewer sessions allowed client = held_in (session_at sessions client) < slice_index allowed client

-- a free core went to the first thread that can take one, of a client that had less than it is allowed and that no
-- other such client has the priority over
pub record IsGrant (old new : List Session) (allowed : List ℕ) (cores : ℕ) (grant : Grant) : Type 0 where
  pub fewer : HasFewer old allowed grant.client
  pub free : IsFree old grant.core
  pub core : grant.core < cores
  pub ready : is_ready (thread_at old grant.client grant.place) ≡ true
  pub place : position is_ready (session_at old grant.client).threads ≡ Some grant.place
  pub waited : grant.waited ≡ true → thread_at old grant.client grant.place ≡ Waits
  pub unasked : grant.waited ≡ false → thread_at old grant.client grant.place ≢ Waits
  pub first : (other : ℕ) → HasFewer old allowed other
      → (session_at old other).priority < (session_at old grant.client).priority → ⊥
  pub placed : new ≡ with_thread old grant.client grant.place (placed (thread_at old grant.client grant.place) grant.core)

-- the last of a client's threads that has a core has none now, as the client has more than it is allowed
pub record IsTake (old new : List Session) (allowed : List ℕ) (client : ℕ) (late : Bool) (taken : TakenCore) : Type 0 where
  pub more : slice_index allowed client < held_in (session_at old client)
  pub core : core_at old client taken.place ≡ Some taken.core
  pub later : (place : ℕ) → taken.place < place → place < 64 → has_core (thread_at old client place) ≡ false
  pub way : gives_way (thread_at old client taken.place) late ≡ true
  pub unplaced : new ≡ with_thread old client taken.place (unplaced (thread_at old client taken.place))

-- no core is free while a client has less than it is allowed, if each has threads for what it is allowed
abbrev pub AllGiven : List Session → List ℕ → ℕ → Type 0
AllGiven sessions allowed cores =
    ((client : ℕ) → slice_index allowed client ≤ count_by is_usable (session_at sessions client).threads)
    → (client core : ℕ) → HasFewer sessions allowed client → core < cores → IsTaken sessions core
