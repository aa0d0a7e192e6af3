-- Weights, with their split and join.
use Rattle.std.specs.Prelude.{ℕ, ◌+◌, ◌/◌, ◌^◌, min, nat_le, if◌then◌else◌}

-- the weight of the first token
abbrev pub whole : ℕ
whole = 2 ^ 127

-- half of a weight, rounded down; 0 for a weight of 1 or 0
abbrev pub second_part : ℕ → ℕ
second_part w = if nat_le w 1 then 0 else w / 2

-- half of a weight, rounded up; 0 for a weight of 1 or 0
abbrev pub first_part : ℕ → ℕ
first_part w = if nat_le w 1 then 0 else (w + 1) / 2

-- the sum of both weights, at most the whole
abbrev pub joined : ℕ → ℕ → ℕ
joined a b = min (a + b) whole
