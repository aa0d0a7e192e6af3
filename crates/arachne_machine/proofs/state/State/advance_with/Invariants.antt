use Rattle.std.proofs.Common.{◌≡◌, true}
use Rattle.arachne_machine.specs.Kept.{Went}
use Rattle.arachne_machine.proofs.state.State.advance_with.Given as goal

abbrev pub invariant-loop-left : goal.invariant-loop-left
invariant-loop-left g l = Went (g.P.Placing.gives_all ≡ true) l.fn.left l.left l.fn.self l.fn.placed.items l.self l.placed.items

abbrev pub decreases-loop-left : goal.decreases-loop-left
decreases-loop-left g l = l.left
