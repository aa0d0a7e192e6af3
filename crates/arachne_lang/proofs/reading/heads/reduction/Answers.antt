use Rattle.std.proofs.Common.{arith}
use Rattle.arachne_lang.proofs.WordSteps.{sweep_in_x}
use Rattle.arachne_lang.proofs.reading.heads.reduction.Goals as goal

pub returns-in-120 : goal.returns-in-120
returns-in-120 c = rw (sweep_in_x c.args.text.now c.in-120.len_at_least (omega arith)) c.ending-in-120.ensures
