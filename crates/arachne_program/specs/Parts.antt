-- The recursion by which a sweep is split.
use Rattle.std.specs.Prelude.{ℕ, zero, suc, ◌+◌, ◌-◌, ◌/◌, max, nat_le, if◌then◌else◌}

-- A function of n numbers of a sweep from a first one on, by recursion. If they are no more than the grain, it is
-- `whole`; otherwise it is `split` of their two halves. A grain of 0 counts as 1. A fuel of n is enough.
abbrev pub by_halves : {X : Type 0} → (ℕ → ℕ → X) → (ℕ → ℕ → X → X → X) → ℕ → ℕ → ℕ → ℕ → X
by_halves whole split grain zero first n = whole first n
by_halves whole split grain (suc fuel) first n =
    if nat_le n (max 1 grain)
    then whole first n
    else split first n (by_halves whole split grain fuel first (n / 2)) (by_halves whole split grain fuel (first + n / 2) (n - n / 2))
