-- The core at which a new thread's place is sought first.
use Rattle.std.specs.Prelude.{◌≡◌, ℕ, zero, suc, List, [], ◌∷◌, ◌++◌, Bool, false, not, ◌||◌, if◌then◌else◌, slice_index_or, Option, Some, None}
use Rattle.arachne_core.specs.Occupancy.{Occupancy, count_of, vacant}
use Rattle.arachne_contexts.specs.Words.{HasNoPlace}
use Rattle.arachne_policy.specs.{declared.choices.CoreLoad.CoreLoad, Choice.chosen_core}

-- the core is open, and no thread has it exclusively
abbrev pub is_candidate_at : Occupancy → Bool
is_candidate_at occupancy = not (occupancy.closed || occupancy.exclusive)

-- the core, of `slots` places, is open and has one for a thread that shares it
abbrev pub HasPlace : ℕ → Occupancy → Type 0
HasPlace slots occupancy = (occupancy.closed ≡ false) × (HasNoPlace slots occupancy → ⊥)

-- a core with its number of threads, if it is a candidate
abbrev pub load_of : ℕ → Occupancy → List CoreLoad
load_of core occupancy = if is_candidate_at occupancy then record { core = core; count = count_of occupancy.occupied } ∷ [] else []

-- the candidates among the first n cores
abbrev pub loads_of : List Occupancy → ℕ → List CoreLoad
loads_of occupancies zero = []
loads_of occupancies (suc n) = loads_of occupancies n ++ load_of n (slice_index_or occupancies n vacant)

-- the core that the word chooses among these loads, if there are any
abbrev pub core_chosen : ℕ → List CoreLoad → Option ℕ
core_chosen word [] = None
core_chosen word (load ∷ loads) = Some (chosen_core word (load ∷ loads))
