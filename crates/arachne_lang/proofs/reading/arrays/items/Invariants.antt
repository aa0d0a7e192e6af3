use Rattle.std.proofs.Common.{[], ◌≡◌, length}
use Rattle.arachne_lang.specs.Reading.{items_at}
use Rattle.arachne_lang.proofs.reading.arrays.items.Given as goal

-- The rest of the bytes is read behind the items so far.
abbrev pub invariant-loop-rest : goal.invariant-loop-rest
invariant-loop-rest l = items_at [] l.fn.text ≡ items_at l.items.items l.rest

abbrev pub decreases-loop-rest : goal.decreases-loop-rest
decreases-loop-rest l = length l.rest
