-- The results that C gets from an arbiter, and the effect of each call on the arbiter that a handle holds.
use Rattle.std.specs.Prelude.{◌≡◌, ◌⊎◌, ℕ, ◌<◌, ◌≤◌, Bool, true, false, if◌then◌else◌, List, map, replicate, slice_index, slice_set}
use Rattle.std.specs.declared.option.Option.{Option}
use Rattle.std.specs.declared.option.Option.TheVariants.{None, Some}
use Rattle.arachne_grants.specs.declared.sessions.Session.{Session}
use Rattle.arachne_grants.specs.declared.sessions.ClientThread.TheVariants.{Absent, Runs, Waits, Floats}
use Rattle.arachne_grants.specs.declared.state.CoreArbiter.{CoreArbiter}
use Rattle.arachne_grants.specs.declared.state.Grant.{Grant}
use Rattle.arachne_grants.specs.declared.state.TakenCore.{TakenCore}
use Rattle.arachne_grants.specs.Grants.{AreGrants, IsAnswer, IsLeast}
use Rattle.arachne_grants.specs.Sessions.{can_wait, held_in, session_at, thread_at, wants_of, with_thread}
use Rattle.arachne_grants.specs.Steps.{new_session, AllGiven, IsGrant, IsTake, KeepsAllowed, StaysAnswered}
use Rattle.arachne_grants_c.specs.Codes as code
use Rattle.arachne_grants_c.specs.declared.arbiter_told.ArachneAction.{ArachneAction}
use Rattle.arachne_grants_c.specs.declared.arbiter_told.ArachneShare.{ArachneShare}

abbrev pub action_alone : ℕ → ArachneAction
action_alone k = record { code = k; core = 0; client = 0; place = 0 }

abbrev pub told_given : Grant → ArachneAction
told_given grant = record {
  code = if grant.waited then code.granted else code.placed;
  core = grant.core;
  client = grant.client;
  place = grant.place;
}

abbrev pub told_taken : ℕ → TakenCore → ArachneAction
told_taken client taken = record { code = code.taken; core = taken.core; client = client; place = taken.place }

-- an arbiter of this many cores, without clients
pub record IsNew (count : ℕ) (arbiter : CoreArbiter) : Type 0 where
  pub few : count ≤ 1024
  pub cores : arbiter.cores ≡ count
  pub sessions : arbiter.sessions ≡ replicate 64 (new_session false 0 0 0)

-- A handle that holds nothing gets a new arbiter, of at most 1,024 cores. Any other handle is refused. If memory is
-- refused, nothing changes.
abbrev pub IsMade : ℕ → Option CoreArbiter → Option CoreArbiter → ℕ → Type 0
IsMade cores (Some old) new told = (told ≡ code.refused) × (new ≡ Some old)
IsMade cores None None told = (told ≡ code.no_memory) ⊎ ((told ≡ code.refused) × (1024 < cores))
IsMade cores None (Some new) told = (told ≡ code.done) × IsNew cores new

-- a call on the arbiter that a handle holds; a handle that holds nothing is refused, and still holds nothing
abbrev pub IsTold : {A : Type 0} → (CoreArbiter → CoreArbiter → A → Type 0) → A → Option CoreArbiter → Option CoreArbiter → A → Type 0
IsTold Does refusal None new told = (new ≡ None) × (told ≡ refusal)
IsTold Does refusal (Some old) new told = (after : CoreArbiter) × (new ≡ Some after) × Does old after told

-- an event that is allowed changes the clients into these, and nothing else; another is refused, and changes nothing
pub record Changes (May : CoreArbiter → Type 0) (made : CoreArbiter → List Session) (old new : CoreArbiter) (told : ℕ) : Type 0 where
  pub done : May old → (told ≡ code.done) × (new.sessions ≡ made old)
  pub refused : (May old → ⊥) → (told ≡ code.refused) × (new.sessions ≡ old.sessions)
  pub kept : KeepsAllowed old new

-- ---- the condition of each event, and its effect on the clients

abbrev pub HasNumber : ℕ → CoreArbiter → Type 0
HasNumber client old = client < 64

abbrev pub HasPlace : ℕ → ℕ → CoreArbiter → Type 0
HasPlace client place old = (client < 64) × (place < 64)

abbrev pub IsVacant : ℕ → CoreArbiter → Type 0
IsVacant client old = (client < 64) × ((session_at old.sessions client).taken ≡ false)

abbrev pub IsClient : ℕ → CoreArbiter → Type 0
IsClient client old = (client < 64) × ((session_at old.sessions client).taken ≡ true)

abbrev pub MayJoin : ℕ → ℕ → CoreArbiter → Type 0
MayJoin client place old = IsClient client old × ((place < 64) × (thread_at old.sessions client place ≡ Absent))

abbrev pub MayWait : ℕ → ℕ → CoreArbiter → Type 0
MayWait client place old = HasPlace client place old × (can_wait (thread_at old.sessions client place) ≡ true)

abbrev pub begun : ℕ → ℕ → ℕ → ℕ → CoreArbiter → List Session
begun client priority reserved most old = slice_set old.sessions client (new_session true priority reserved most)

abbrev pub asking : ℕ → ℕ → CoreArbiter → List Session
asking client cores old = slice_set old.sessions client (record (session_at old.sessions client) { asks = cores })

abbrev pub gone : ℕ → CoreArbiter → List Session
gone client old = slice_set old.sessions client (new_session false 0 0 0)

abbrev pub joined : ℕ → ℕ → Bool → CoreArbiter → List Session
joined client place floats old = with_thread old.sessions client place (if floats then Floats else Runs)

abbrev pub waiting : ℕ → ℕ → CoreArbiter → List Session
waiting client place old = with_thread old.sessions client place Waits

abbrev pub ended : ℕ → ℕ → CoreArbiter → List Session
ended client place old = with_thread old.sessions client place Absent

-- ---- the decision, and the cores that change hands for it

-- clients may have the targets of what they ask for
pub record Decides (old new : CoreArbiter) (told : ℕ) : Type 0 where
  pub done : told ≡ code.done
  pub sessions : new.sessions ≡ old.sessions
  pub cores : new.cores ≡ old.cores
  pub promises : AreGrants (map wants_of new.sessions) new.cores new.allowed
  pub answer : IsAnswer (map wants_of new.sessions) new.cores new.allowed
  pub least : IsLeast (map wants_of new.sessions) new.cores new.allowed

-- a core was taken from the client's last thread that has one; NOTHING only if the client need not give one, or not yet
abbrev pub TakesOrNot : ℕ → Bool → CoreArbiter → CoreArbiter → ArachneAction → Type 0
TakesOrNot client late old new told =
    ((told ≡ action_alone code.nothing) × (new.sessions ≡ old.sessions)
    × (late ≡ true → client < 64 → held_in (session_at old.sessions client) ≤ slice_index old.allowed client))
    ⊎ ((taken : TakenCore) × (told ≡ told_taken client taken) × IsTake old.sessions new.sessions old.allowed client late taken)

pub record Takes (client : ℕ) (late : Bool) (old new : CoreArbiter) (told : ArachneAction) : Type 0 where
  pub takes : TakesOrNot client late old new told
  pub kept : KeepsAllowed old new
  pub stands : StaysAnswered old new

-- a free core was given to a thread; NOTHING only if no core is free for a client that has fewer than it may have
abbrev pub GivesOrNot : CoreArbiter → CoreArbiter → ArachneAction → Type 0
GivesOrNot old new told =
    ((told ≡ action_alone code.nothing) × (new.sessions ≡ old.sessions) × AllGiven old.sessions old.allowed old.cores)
    ⊎ ((grant : Grant) × (told ≡ told_given grant) × IsGrant old.sessions new.sessions old.allowed old.cores grant)

pub record Gives (old new : CoreArbiter) (told : ArachneAction) : Type 0 where
  pub gives : GivesOrNot old new told
  pub kept : KeepsAllowed old new
  pub stands : StaysAnswered old new

abbrev pub share_of : ℕ → CoreArbiter → ArachneShare
share_of client arbiter = record {
  allowed = slice_index arbiter.allowed client;
  held = held_in (session_at arbiter.sessions client);
}

abbrev pub Shows : ℕ → CoreArbiter → CoreArbiter → ArachneShare → Type 0
Shows client old new told = (new ≡ old) × (told ≡ share_of client old)
