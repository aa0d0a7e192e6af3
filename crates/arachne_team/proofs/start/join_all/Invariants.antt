use Rattle.std.proofs.Common.{◌≡◌, All, IfSome}
use Rattle.std.specs.Vec.Iter.{into_iter_items}
use Rattle.arachne_team.proofs.start.join_all.Given as goal

abbrev pub invariant-loop-other : goal.invariant-loop-other
invariant-loop-other g l = IfSome l.all (g.W.Team.has l.team) × All (λ h. h.promise.team.value ≡ l.team) (into_iter_items l.other-iterator)
