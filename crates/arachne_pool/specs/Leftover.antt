-- The number of unfinished jobs of a closed pool, and the weights of seats.
use Rattle.std.specs.Prelude.{◌≡◌, ℕ, ◌+◌, List, Option, None, Some}
use Rattle.std.specs.List.{sum_by}
use Rattle.arachne_core.specs.declared.thread_id.ThreadId.{ThreadId}
use Rattle.arachne_pool.specs.Jobs.{Being, count_near}
use Rattle.arachne_pool.specs.declared.closing.Left.{Left}
use Rattle.arachne_weights.specs.Weight.{whole, first_part, second_part, joined}

-- the number of unfinished jobs in slots, with the children that run or wait there
abbrev pub count_placed : {Job : Type 0} → List (ThreadId × Being Job) → ℕ
count_placed placed = sum_by (λ p. p.1.many) placed

-- the number of all unfinished jobs, with those that wait for a slot
abbrev pub count_of : {Job Output : Type 0} → Left Job Output → ℕ
count_of left = count_placed left.placed.items + count_near left.near.items

-- true if a seat, if there is one, was split in two, each with its part of the weight
abbrev pub HalvesWeight : {Seat : Type 0} → (Seat → ℕ) → Option Seat → Option Seat → Option Seat → Type 0
HalvesWeight weight (Some seat) (Some first) (Some second) =
    (weight first ≡ first_part (weight seat)) × (weight second ≡ second_part (weight seat))
HalvesWeight weight (Some seat) first second = ⊥
HalvesWeight weight None first second = (first ≡ None) × (second ≡ None)

-- true if two seats, if both are there, were joined into one with the weight of both
abbrev pub JoinsWeights : {Seat : Type 0} → (Seat → ℕ) → Option Seat → Option Seat → Option Seat → Type 0
JoinsWeights weight (Some first) (Some second) (Some both) = weight both ≡ joined (weight first) (weight second)
JoinsWeights weight (Some first) (Some second) None = ⊥
JoinsWeights weight (Some first) None both = both ≡ None
JoinsWeights weight None second both = both ≡ None

-- true if there is a seat, and it has the whole weight, so that there is no other seat
abbrev pub IsWhole : {Seat : Type 0} → (Seat → ℕ) → Option Seat → Type 0
IsWhole weight None = ⊥
IsWhole weight (Some seat) = weight seat ≡ whole
