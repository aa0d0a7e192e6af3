-- A client's claim to one more core.
use Rattle.std.specs.Prelude.{ℕ, ◌+◌, Bool, true, false, not, ◌&&◌, ◌==◌, max, min, nat_le, nat_lt, if◌then◌else◌}
use Rattle.arachne_grants.specs.declared.claims.Client.{Client}
use Rattle.arachne_grants.specs.declared.claims.Claim.{Claim}

-- a client's reserve: the cores reserved for it, but no more than it asks for
abbrev pub reserve_of : Client → ℕ
reserve_of client = min client.reserved client.asks

-- the claim of a client that gets this many
abbrev pub claim_of : Client → ℕ → Claim
claim_of client gets = record {
  beyond = nat_le (reserve_of client) gets;
  priority = client.priority;
  gets = gets;
  moves = nat_le client.held gets;
}

-- of two claims of which both or neither are below the reserve, the first has the higher priority; or else its client
-- gets fewer cores; or else its client holds the core already
abbrev pub goes_before_alike : Claim → Claim → Bool
goes_before_alike claim other =
    if claim.priority == other.priority
    then (if claim.gets == other.gets then not claim.moves && other.moves else nat_lt claim.gets other.gets)
    else nat_lt claim.priority other.priority

-- a claim goes before another: first those of clients that have less than their reserve
abbrev pub goes_before : Claim → Claim → Bool
goes_before claim other =
    if claim.beyond then (if other.beyond then goes_before_alike claim other else false)
    else (if other.beyond then true else goes_before_alike claim other)

-- the number of cores up to which a client's claims go before another claim of its priority
abbrev pub level_before : Claim → Client → ℕ
level_before claim client = if claim.moves && nat_lt claim.gets client.held then claim.gets + 1 else claim.gets

-- the number of a client's first `most` cores that go before a claim, if all of these or none are below its reserve
abbrev pub before_alike : Claim → Client → ℕ → ℕ
before_alike claim client most =
    if client.priority == claim.priority
    then min most (level_before claim client)
    else (if nat_lt client.priority claim.priority then most else 0)

-- the number of cores that a client gets by its claims that go before this one
abbrev pub gets_before : Claim → Client → ℕ
gets_before claim client =
    if claim.beyond then max (reserve_of client) (before_alike claim client client.asks)
    else before_alike claim client (reserve_of client)
