-- The labels of lines, without their tags' two highest bits.
use Rattle.std.proofs.Common.{ℕ, ◌+◌, ◌*◌, ◌/◌, ◌%◌, ◌^◌, ◌≡◌, List, ap, ◌∙◌, arith}
use Rattle.arachne_machine.specs.declared.line.Ran.{Ran}
use Rattle.arachne_machine.specs.Lines.{line_with, ran_of}

-- a tag is its two highest bits and the others
pub whole-tag : (quarter lower tag : ℕ) → lower ≡ tag % 2 ^ 62 → tag / 2 ^ 62 ≡ quarter → quarter * 2 ^ 62 + lower ≡ tag
whole-tag quarter lower tag is high = omega (arith, is, high)

-- the line whose label was packed
pub line-packed : (quarter packed tag : ℕ) (ran : Ran) (name holds : List ℕ) → packed / 4 ≡ tag % 2 ^ 62 → ran_of (packed % 4) ≡ ran → tag / 2 ^ 62 ≡ quarter →
    line_with quarter (record { name = name; label = packed }) holds ≡ record { name = name; tag = tag; holds = holds; ran = ran }
line-packed quarter packed tag ran name holds is kind high =
    ap (λ (n : ℕ). record { name = name; tag = n; holds = holds; ran = ran_of (packed % 4) }) (whole-tag quarter (packed / 4) tag is high)
    ∙ ap (λ (way : Ran). record { name = name; tag = tag; holds = holds; ran = way }) kind
