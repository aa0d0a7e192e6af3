use Rattle.arachne_exec.proofs.Turning.{first-round, first-ahead}
use Rattle.arachne_exec.proofs.turns.first_from.Goals as goal

pub returns-then-ahead-eq0 : goal.returns-then-ahead-eq0
returns-then-ahead-eq0 c =
    let it = c.lowest_index in
    first-round c.args.word c.args.from c.ranges.word.fits it.result c.if-ahead-eq0.true it.ensures.low it.ensures.there it.ensures.lowest

pub returns-else-ahead-eq0 : goal.returns-else-ahead-eq0
returns-else-ahead-eq0 c =
    let it = c.lowest_index-else-ahead-eq0 in
    first-ahead c.args.word c.args.from c.ranges.word.fits it.result it.ensures.there it.ensures.lowest
