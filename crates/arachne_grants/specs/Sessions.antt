-- The states of the threads of the daemon's clients.
use Rattle.std.specs.Prelude.{◌≡◌, ◌⊎◌, ℕ, ◌<◌, Bool, true, false, ◌||◌, Option, Some, None, is_some, MatchOption, List, [], length, min, count_by, slice_index_or, slice_set}
use Rattle.arachne_grants.specs.declared.claims.Client.{Client}
use Rattle.arachne_grants.specs.declared.sessions.Session.{Session}
use Rattle.arachne_grants.specs.declared.sessions.ClientThread.{ClientThread}
use Rattle.arachne_grants.specs.declared.sessions.ClientThread.TheVariants.{Absent, Runs, Waits, On, Floats, FloatsOn}

-- the core that a thread has
abbrev pub core_of : ClientThread → Option ℕ
core_of Absent = None
core_of Runs = None
core_of Waits = None
core_of (On core) = Some core
core_of Floats = None
core_of (FloatsOn core) = Some core

-- it has a core
abbrev pub has_core : ClientThread → Bool
has_core thread = is_some (core_of thread)

-- it has no core and can take one
abbrev pub is_ready : ClientThread → Bool
is_ready Absent = false
is_ready Runs = false
is_ready Waits = true
is_ready (On core) = false
is_ready Floats = true
is_ready (FloatsOn core) = false

-- it waits for a core
abbrev pub is_waiting : ClientThread → Bool
is_waiting Absent = false
is_waiting Runs = false
is_waiting Waits = true
is_waiting (On core) = false
is_waiting Floats = false
is_waiting (FloatsOn core) = false

-- it may begin to wait for a core, as it doesn't wait already and doesn't float
abbrev pub can_wait : ClientThread → Bool
can_wait Absent = false
can_wait Runs = true
can_wait Waits = false
can_wait (On core) = true
can_wait Floats = false
can_wait (FloatsOn core) = false

-- it has a core or can take one
abbrev pub is_usable : ClientThread → Bool
is_usable thread = has_core thread || is_ready thread

-- its core may be taken from it: always if it floats and has one, and otherwise if its client is late
abbrev pub gives_way : ClientThread → Bool → Bool
gives_way Absent late = late || false
gives_way Runs late = late || false
gives_way Waits late = late || false
gives_way (On core) late = late || false
gives_way Floats late = late || false
gives_way (FloatsOn core) late = late || true

-- its state once it has this core
abbrev pub placed : ClientThread → ℕ → ClientThread
placed Absent core = On core
placed Runs core = On core
placed Waits core = On core
placed (On other) core = On core
placed Floats core = FloatsOn core
placed (FloatsOn other) core = On core

-- its state once its core is taken from it
abbrev pub unplaced : ClientThread → ClientThread
unplaced Absent = Absent
unplaced Runs = Runs
unplaced Waits = Waits
unplaced (On core) = Runs
unplaced Floats = Floats
unplaced (FloatsOn core) = Floats

-- the number of a client's threads that have a core
abbrev pub held_in : Session → ℕ
held_in session = count_by has_core session.threads

-- a client as `targets` sees it: it asks for at most the cores that it may have, and has threads for
abbrev pub wants_of : Session → Client
wants_of session = record {
  priority = session.priority;
  reserved = session.reserved;
  asks = min (min session.asks session.most) (count_by is_usable session.threads);
  held = held_in session;
}

-- the session at a place below the list's length
abbrev pub session_at : List Session → ℕ → Session
session_at sessions client =
    slice_index_or sessions client (record { taken = false; priority = 0; reserved = 0; most = 0; asks = 0; threads = [] })

-- the thread at a place
abbrev pub slice_thread : List ClientThread → ℕ → ClientThread
slice_thread threads place = slice_index_or threads place Absent

-- the state of a client's thread
abbrev pub thread_at : List Session → ℕ → ℕ → ClientThread
thread_at sessions client place = slice_thread (session_at sessions client).threads place

-- the core that a client's thread has
abbrev pub core_at : List Session → ℕ → ℕ → Option ℕ
core_at sessions client place = core_of (thread_at sessions client place)

-- a core has one thread
abbrev pub IsSound : List Session → Type 0
IsSound sessions =
    (client place other place_of_other core : ℕ) → core_at sessions client place ≡ Some core
    → core_at sessions other place_of_other ≡ Some core → (client ≡ other) × (place ≡ place_of_other)

-- threads have only cores below this number
abbrev pub AreBelow : List Session → ℕ → Type 0
AreBelow sessions cores = (client place core : ℕ) → core_at sessions client place ≡ Some core → core < cores

-- no thread has the core
abbrev pub IsFree : List Session → ℕ → Type 0
IsFree sessions core = (client place : ℕ) → core_at sessions client place ≡ Some core → ⊥

-- a thread has the core
abbrev pub IsTaken : List Session → ℕ → Type 0
IsTaken sessions core = (client : ℕ) × ((place : ℕ) × (core_at sessions client place ≡ Some core))

-- a session with this state of the thread at a place
abbrev pub with_thread_in : Session → ℕ → ClientThread → Session
with_thread_in session place thread = record session { threads = slice_set session.threads place thread }

-- a client's thread has this state, and all else is as it was
abbrev pub with_thread : List Session → ℕ → ℕ → ClientThread → List Session
with_thread sessions client place thread = slice_set sessions client (with_thread_in (session_at sessions client) place thread)

-- the marks with one for a core, if there is one
abbrev pub with_mark : Option ℕ → List Bool → List Bool
with_mark None marks = marks
with_mark (Some core) marks = slice_set marks core true

-- the marks of the cores that the first n threads have are added
pub record AreMarked (old new : List Bool) (threads : List ClientThread) (n : ℕ) : Type 0 where
  pub same : length new ≡ length old
  pub marked : (place core : ℕ) → place < n → core < length old → core_of (slice_thread threads place) ≡ Some core
      → slice_index_or new core false ≡ true
  pub kept : (core : ℕ) → slice_index_or old core false ≡ true → slice_index_or new core false ≡ true
  pub only : (core : ℕ) → slice_index_or new core false ≡ true
      → (slice_index_or old core false ≡ true) ⊎ ((place : ℕ) × (core_of (slice_thread threads place) ≡ Some core))

-- of the first n threads this one is the last that has a core
pub record IsLast (threads : List ClientThread) (n : ℕ) (place : ℕ) : Type 0 where
  pub within : place < n
  pub has : has_core (slice_thread threads place) ≡ true
  pub later : (k : ℕ) → place < k → k < n → has_core (slice_thread threads k) ≡ false

-- the last of the first n threads that has a core, if one has
abbrev pub IsLastPlaced : List ClientThread → ℕ → Option ℕ → Type 0
IsLastPlaced threads n last = MatchOption last ((k : ℕ) → k < n → has_core (slice_thread threads k) ≡ false) (IsLast threads n)
