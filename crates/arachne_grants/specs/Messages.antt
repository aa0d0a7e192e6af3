-- The messages that a client sends.
use Rattle.std.specs.Prelude.{◌≡◌, ◌≢◌, ℕ, ◌+◌, ◌*◌, ◌^◌, ◌<◌, ◌≤◌, ◌⊎◌, Bool, List, [], ◌∷◌, if◌then◌else◌, length, slice_index}
use Rattle.std.specs.Int.{w32, from_le_bytes}
use Rattle.arachne_grants.specs.declared.messages.ClientMessage.{ClientMessage}
use Rattle.arachne_grants.specs.declared.messages.ClientMessage.TheVariants.{Hello, Join, Wait, Ask}
use Rattle.arachne_grants.specs.declared.messages.MessageFault.{MessageFault}
use Rattle.arachne_grants.specs.declared.messages.MessageFault.TheVariants.{Short, Kind, Version, Priority, Place, Unused}
use Rattle.arachne_grants.specs.declared.messages.Numbers.{Numbers}

-- the number that four bytes give, the lowest first
abbrev pub number_at : List ℕ → ℕ → ℕ
number_at bytes at =
    from_le_bytes w32 (slice_index bytes at ∷ slice_index bytes (at + 1) ∷ slice_index bytes (at + 2) ∷ slice_index bytes (at + 3) ∷ [])

-- the four numbers that bytes begin with
abbrev pub numbers_in : List ℕ → Numbers
numbers_in bytes = record {
  kind = number_at bytes 0;
  first = number_at bytes 4;
  second = number_at bytes 8;
  third = number_at bytes 12;
}

abbrev pub flag : Bool → ℕ
flag set = if set then 1 else 0

-- the four numbers are those of the message
abbrev pub AreOf : Numbers → ClientMessage → Type 0
AreOf n (Hello priority reserved most) =
    (n.kind ≡ 1) × (n.first ≡ 1) × (n.second ≡ priority) × (n.third ≡ reserved * 2 ^ 16 + most) × (priority < 8) × (most < 2 ^ 16)
AreOf n (Join client thread place floats) =
    (n.kind ≡ 2) × (n.first ≡ client) × (n.second ≡ thread) × (n.third ≡ place * 2 + flag floats) × (place < 64)
AreOf n Wait = (n.kind ≡ 3) × (n.first ≡ 0) × (n.second ≡ 0) × (n.third ≡ 0)
AreOf n (Ask cores) = (n.kind ≡ 4) × (n.first ≡ cores) × (n.second ≡ 0) × (n.third ≡ 0)

-- the fault of the first of the four numbers that no message has after the numbers before it
abbrev pub IsFirstWrong : Numbers → MessageFault → Type 0
IsFirstWrong n Short = ⊥
IsFirstWrong n Kind = (n.kind ≢ 1) × (n.kind ≢ 2) × (n.kind ≢ 3) × (n.kind ≢ 4)
IsFirstWrong n Version = (n.kind ≡ 1) × (n.first ≢ 1)
IsFirstWrong n Priority = (n.kind ≡ 1) × (n.first ≡ 1) × (8 ≤ n.second)
IsFirstWrong n Place = (n.kind ≡ 2) × (128 ≤ n.third)
IsFirstWrong n Unused = ((n.kind ≡ 3) × (0 < n.first + n.second + n.third)) ⊎ ((n.kind ≡ 4) × (0 < n.second + n.third))

-- the bytes begin with this message
abbrev pub IsMessageOf : List ℕ → ClientMessage → Type 0
IsMessageOf bytes message = (16 ≤ length bytes) × AreOf (numbers_in bytes) message

-- the reason why the bytes begin with no message
abbrev pub IsFaultOf : List ℕ → MessageFault → Type 0
IsFaultOf bytes fault =
    ((length bytes < 16) × (fault ≡ Short)) ⊎ ((16 ≤ length bytes) × IsFirstWrong (numbers_in bytes) fault)

-- bytes that begin with a message begin with no other, and have no fault
pub record IsUnambiguous (bytes : List ℕ) : Type 0 where
  pub one : (message other : ClientMessage) → IsMessageOf bytes message → IsMessageOf bytes other → message ≡ other
  pub no_fault : (message : ClientMessage) (fault : MessageFault) → IsMessageOf bytes message → IsFaultOf bytes fault → ⊥
