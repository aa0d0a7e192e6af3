-- The owner of each core.
use Rattle.std.specs.Prelude.{◌≡◌, ℕ, ◌+◌, ◌<◌, ◌≤◌, ◌⊎◌, ◌==◌, ◌&&◌, Bool, true, false, if◌then◌else◌, Option, Some, None, is_some, MatchOption, List, [], ◌∷◌, length, min, slice_index_or, slice_index, count_by}
use Rattle.arachne_grants.specs.declared.claims.Client.{Client}
use Rattle.arachne_grants.specs.Grants.{client_at, target_at, IsHigher}

-- the owner of a core, if it has one
abbrev pub owner_at : List (Option ℕ) → ℕ → Option ℕ
owner_at owners core = slice_index_or owners core None

-- the client is the owner
abbrev pub is_of : ℕ → Option ℕ → Bool
is_of client None = false
is_of client (Some owner) = owner == client

-- the number of cores that a client has
abbrev pub held_by : List (Option ℕ) → ℕ → ℕ
held_by owners client = count_by (is_of client) owners

-- the number of cores that have an owner
abbrev pub owned : List (Option ℕ) → ℕ
owned owners = count_by is_some owners

-- the number of cores that a client has both before and after
abbrev pub stay_by : List (Option ℕ) → List (Option ℕ) → ℕ → ℕ
stay_by [] new client = 0
stay_by (before ∷ old) [] client = 0
stay_by (before ∷ old) (after ∷ new) client = (if is_of client before && is_of client after then 1 else 0) + stay_by old new client

-- each core has the owner that it had, or none
abbrev pub TakesOnly : List (Option ℕ) → List (Option ℕ) → Type 0
TakesOnly old new = (core : ℕ) → (owner_at new core ≡ owner_at old core) ⊎ (owner_at new core ≡ None)

-- each core has the owner that it had, if it had one
abbrev pub GivesOnly : List (Option ℕ) → List (Option ℕ) → Type 0
GivesOnly old new = (core : ℕ) → (owner_at new core ≡ owner_at old core) ⊎ (owner_at old core ≡ None)

-- each client keeps the cores that it has, up to its target
abbrev pub KeepsTargets : List (Option ℕ) → List (Option ℕ) → List ℕ → Type 0
KeepsTargets old new targets = (client : ℕ) → client < 256 → held_by new client ≡ min (held_by old client) (target_at targets client)

-- no client gets more than its target
abbrev pub IsWithin : List (Option ℕ) → List ℕ → Type 0
IsWithin owners targets = (client : ℕ) → client < 256 → held_by owners client ≤ target_at targets client

-- each client has its target
abbrev pub IsSettled : List (Option ℕ) → List ℕ → Type 0
IsSettled owners targets = (client : ℕ) → client < 256 → held_by owners client ≡ target_at targets client

-- no core is free while a client has less than its target
abbrev pub IsGiven : List (Option ℕ) → List ℕ → Type 0
IsGiven owners targets =
    (client core : ℕ) → client < 256 → held_by owners client < target_at targets client → core < length owners
    → is_some (owner_at owners core) ≡ true

-- of each client's cores, those that it has no target for change hands, and no others
abbrev pub MovesLeast : List (Option ℕ) → List (Option ℕ) → List ℕ → Type 0
MovesLeast old new targets = (client : ℕ) → client < 256 → stay_by old new client ≡ min (held_by old client) (target_at targets client)

-- if a client has less than its target, no client of lower priority got a core
abbrev pub IsGivenByPriority : List Client → List (Option ℕ) → List (Option ℕ) → List ℕ → Type 0
IsGivenByPriority clients old new targets =
    (client other : ℕ) → client < length clients → other < 256 → held_by new client < target_at targets client
    → IsHigher clients client other → held_by new other ≡ held_by old other

-- the client has less than its target, by these counts
abbrev pub IsShort : List Client → List ℕ → List ℕ → ℕ → Type 0
IsShort clients targets held client = (client < length clients) × (slice_index held client < target_at targets client)

-- of the first n clients that have less than their targets this one is of the highest priority
pub record IsHighestShort (clients : List Client) (targets held : List ℕ) (n : ℕ) (next : ℕ) : Type 0 where
  pub within : next < n
  pub short : IsShort clients targets held next
  pub highest : (client : ℕ) → client < n → IsShort clients targets held client → IsHigher clients client next → ⊥

-- the client of the first n that gets a free core, if one of them has less than its target
abbrev pub IsNextShort : List Client → List ℕ → List ℕ → ℕ → Option ℕ → Type 0
IsNextShort clients targets held n next =
    MatchOption next ((client : ℕ) → client < n → IsShort clients targets held client → ⊥) (IsHighestShort clients targets held n)

-- each owner of a core is one of the first clients
abbrev pub AreAmong : List (Option ℕ) → ℕ → Type 0
AreAmong owners clients = (core client : ℕ) → client < 256 → owner_at owners core ≡ Some client → client < clients

-- each of the first n clients holds as many cores as it has, and the others are as they were
pub record AreHeld (old new : List Client) (owners : List (Option ℕ)) (n : ℕ) : Type 0 where
  pub held : (client : ℕ) → client < n → client_at new client ≡ record (client_at old client) { held = held_by owners client }
  pub rest : (client : ℕ) → n ≤ client → client_at new client ≡ client_at old client
