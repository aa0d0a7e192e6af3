use Rattle.std.proofs.Common.{◌≡◌, [], ◌∷◌, take, sum}
use Rattle.example_parts.proofs.ledger.add_all.Given as goal

-- the share has added the numbers so far
abbrev pub invariant-loop-number : goal.invariant-loop-number
invariant-loop-number l = l.share ≡ record l.fn.share { sums = sum (take l.number-index l.numbers) ∷ [] }
