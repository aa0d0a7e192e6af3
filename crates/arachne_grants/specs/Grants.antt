-- The number of cores that each client gets.
use Rattle.std.specs.Prelude.{true, ◌≡◌, ℕ, ◌+◌, ◌<◌, ◌≤◌, false, Option, MatchOption, List, [], ◌∷◌, length, min, slice_index, slice_index_or, sum, sum_by}
use Rattle.arachne_grants.specs.declared.claims.Client.{Client}
use Rattle.arachne_grants.specs.declared.claims.Claim.{Claim}
use Rattle.arachne_grants.specs.Claims.{claim_of, gets_before, goes_before, reserve_of}

-- the client at a place below the list's length
abbrev pub client_at : List Client → ℕ → Client
client_at clients place = slice_index_or clients place (record { priority = 0; reserved = 0; asks = 0; held = 0 })

-- the number of cores that the client at a place gets
abbrev pub target_at : List ℕ → ℕ → ℕ
target_at targets place = slice_index targets place

-- the claim of the client at a place to one more core
abbrev pub claim_at : List Client → List ℕ → ℕ → Claim
claim_at clients targets place = claim_of (client_at clients place) (target_at targets place)

-- the client there asks for more than it gets
abbrev pub AsksForMore : List Client → List ℕ → ℕ → Type 0
AsksForMore clients targets place = (place < length clients) × (target_at targets place < (client_at clients place).asks)

-- the client there gets less than its reserve
abbrev pub IsBelowReserve : List Client → List ℕ → ℕ → Type 0
IsBelowReserve clients targets place =
    (place < length clients) × (target_at targets place < reserve_of (client_at clients place))

-- the client there gets more than its reserve
abbrev pub IsBeyondReserve : List Client → List ℕ → ℕ → Type 0
IsBeyondReserve clients targets place =
    (place < length clients) × (reserve_of (client_at clients place) < target_at targets place)

-- the first has the higher priority
abbrev pub IsHigher : List Client → ℕ → ℕ → Type 0
IsHigher clients place other = (client_at clients place).priority < (client_at clients other).priority

-- of those among the first n who ask for more, the one at this place has the first claim
pub record IsFirst (clients : List Client) (targets : List ℕ) (n : ℕ) (next : ℕ) : Type 0 where
  pub within : next < n
  pub asks : AsksForMore clients targets next
  pub first : (place : ℕ) → place < n → AsksForMore clients targets place
      → goes_before (claim_at clients targets place) (claim_at clients targets next) ≡ false
  pub earlier : (place : ℕ) → place < next → AsksForMore clients targets place
      → goes_before (claim_at clients targets next) (claim_at clients targets place) ≡ true

-- none of the first n asks for more
abbrev pub IsServed : List Client → List ℕ → ℕ → Type 0
IsServed clients targets n = (place : ℕ) → place < n → AsksForMore clients targets place → ⊥

-- the client of the first n that gets the next core, if one of them asks for more
abbrev pub IsNext : List Client → List ℕ → ℕ → Option ℕ → Type 0
IsNext clients targets n next = MatchOption next (IsServed clients targets n) (IsFirst clients targets n)

-- whoever asks for more had no claim before the one by which another got its last core
abbrev pub IsInOrder : List Client → List ℕ → Type 0
IsInOrder clients targets =
    (place other before : ℕ) → AsksForMore clients targets place → other < length clients
    → target_at targets other ≡ before + 1
    → goes_before (claim_at clients targets place) (claim_of (client_at clients other) before) ≡ false

-- of equal claims that of the client with the lower index went first: whoever asks for more had a later claim than the
-- one by which another with a higher index got its last core
abbrev pub IsInTurn : List Client → List ℕ → Type 0
IsInTurn clients targets =
    (place other before : ℕ) → AsksForMore clients targets place → place < other → other < length clients
    → target_at targets other ≡ before + 1
    → goes_before (claim_of (client_at clients other) before) (claim_at clients targets place) ≡ true

-- no client gets more than it asks for, and all together get at most the cores that there are
pub record IsBounded (clients : List Client) (cores : ℕ) (targets : List ℕ) : Type 0 where
  pub each : (place : ℕ) → place < length clients → target_at targets place ≤ (client_at clients place).asks
  pub together : sum targets ≤ cores

-- no core is left while someone asks for more
abbrev pub IsUsed : List Client → ℕ → List ℕ → Type 0
IsUsed clients cores targets = (place : ℕ) → AsksForMore clients targets place → sum targets ≡ cores

-- nobody gets more than its reserve while another gets less than its own; and while one of a higher priority does,
-- nobody of a lower one gets any
pub record IsReserved (clients : List Client) (targets : List ℕ) : Type 0 where
  pub first : (place other : ℕ) → IsBelowReserve clients targets place → IsBeyondReserve clients targets other → ⊥
  pub short : (place other : ℕ) → IsBelowReserve clients targets place → other < length clients
      → IsHigher clients place other → target_at targets other ≡ 0

-- nobody gets more than its reserve while one of a higher priority asks for more
abbrev pub IsByPriority : List Client → List ℕ → Type 0
IsByPriority clients targets =
    (place other : ℕ) → AsksForMore clients targets place → IsHigher clients place other
    → IsBeyondReserve clients targets other → ⊥

-- a client that asks for more gets at most one core less than another of its priority, if it gets less than its reserve
-- or the other gets more than its own
pub record IsFair (clients : List Client) (targets : List ℕ) : Type 0 where
  pub beyond : (place other : ℕ) → AsksForMore clients targets place → IsBeyondReserve clients targets other
      → (client_at clients place).priority ≡ (client_at clients other).priority
      → target_at targets other ≤ target_at targets place + 1
  pub below : (place other : ℕ) → IsBelowReserve clients targets place → other < length clients
      → (client_at clients place).priority ≡ (client_at clients other).priority
      → target_at targets other ≤ target_at targets place + 1

-- the properties of the numbers of cores that clients get
pub record AreGrants (clients : List Client) (cores : ℕ) (targets : List ℕ) : Type 0 where
  pub sized : length targets ≡ length clients
  pub bounded : IsBounded clients cores targets
  pub used : IsUsed clients cores targets
  pub reserved : IsReserved clients targets
  pub priority : IsByPriority clients targets
  pub fair : IsFair clients targets

-- the number of cores that stay with their clients
abbrev pub kept : List Client → List ℕ → ℕ
kept [] targets = 0
kept (client ∷ clients) [] = 0
kept (client ∷ clients) (target ∷ targets) = min target client.held + kept clients targets

-- no other numbers with these properties let more cores stay with their clients
abbrev pub IsLeast : List Client → ℕ → List ℕ → Type 0
IsLeast clients cores targets =
    (other : List ℕ) → AreGrants clients cores other → kept clients other ≤ kept clients targets

-- an answer in the order of claims
pub record IsAnswer (clients : List Client) (cores : ℕ) (targets : List ℕ) : Type 0 where
  pub sized : length targets ≡ length clients
  pub bounded : IsBounded clients cores targets
  pub used : IsUsed clients cores targets
  pub order : IsInOrder clients targets
  pub turn : IsInTurn clients targets

-- any two such answers give each client as many cores
abbrev pub IsDecided : List Client → ℕ → Type 0
IsDecided clients cores =
    (targets other : List ℕ) → IsAnswer clients cores targets → IsAnswer clients cores other
    → (place : ℕ) → place < length clients → target_at targets place ≡ target_at other place

-- at most as many claims go before this one as there are cores
abbrev pub AreEnough : List Client → ℕ → Claim → Type 0
AreEnough clients cores claim = sum_by (gets_before claim) clients ≤ cores

-- each client gets the cores of its claims that go before some claim
abbrev pub AreFilled : List Client → List ℕ → Type 0
AreFilled clients targets =
    (claim : Claim) × ((place : ℕ) → place < length clients → target_at targets place ≡ gets_before claim (client_at clients place))
