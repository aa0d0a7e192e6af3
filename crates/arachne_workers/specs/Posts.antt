-- Threads that a worker has put on other cores without waking the workers there.
use Rattle.std.specs.Prelude.{◌≡◌, ◌≤◌, ◌<◌, ◌⊎◌, ℕ, [], ◌∷◌, ◌++◌, List, Option, None, Some}
use Rattle.arachne_workers.specs.declared.policy.TheConstants.{TOLD_AT_ONCE}
use Rattle.arachne_workers.specs.declared.queue.PostedThread.{PostedThread}

-- For the first threads that a worker puts on other cores, it wakes at once. For a later one, it delays the wake, or
-- makes the oldest delayed wake instead. No wake is forgotten.
abbrev pub IsKeptBack : ℕ → List PostedThread → PostedThread → Option PostedThread → List PostedThread → Type 0
IsKeptBack posted before post None after = (TOLD_AT_ONCE ≤ posted) × (after ≡ before ++ post ∷ [])
IsKeptBack posted before post (Some told) after =
    ((posted < TOLD_AT_ONCE) × (told ≡ post) × (after ≡ before)) ⊎ ((TOLD_AT_ONCE ≤ posted) × (told ∷ after ≡ before ++ post ∷ []))
