use Rattle.arachne_program.proofs.SameParts.{arrays-Decides}
use Rattle.arachne_program.proofs.program.are_same_arrays.Goals as goal

pub returns : goal.returns
returns c = rw c.eq.ensures (arrays-Decides c.args.some.now c.args.others.now)
