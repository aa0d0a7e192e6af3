use Rattle.std.proofs.Common.{[], ◌≡◌, length, map}
use Rattle.arachne_lang.specs.Reading.{arrays_at}
use Rattle.arachne_lang.proofs.reading.arrays.array_lines.Given as goal

-- The rest of the bytes is read behind the arrays so far.
abbrev pub invariant-loop-rest : goal.invariant-loop-rest
invariant-loop-rest l = arrays_at [] l.fn.text ≡ arrays_at (map (λ array. array.items) l.arrays.items) l.rest

abbrev pub decreases-loop-rest : goal.decreases-loop-rest
decreases-loop-rest l = length l.rest
