use Rattle.std.proofs.Common.{rules}
use Rattle.arachne_join.proofs.BlockLaws.{sends_still}
use Rattle.arachne_join.proofs.ends.UnusedCell.open.Goals as goal

pub invariant_of-sender : goal.invariant_of-sender
invariant_of-sender g c = (search rules, sends_still _ _ _ _ _ c.open-receiving.ensures.sending c.of-2.ensures)
