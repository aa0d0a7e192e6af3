use Rattle.std.proofs.Common.{◌≡◌, All, vec_items}
use Rattle.arachne_team.proofs.start.fn.work_together.scope.Given as goal

abbrev pub invariant-loop-number : goal.invariant-loop-number
invariant-loop-number g l = g.W.Team.has l.team.now l.share × All (λ h. h.promise.team.value ≡ l.team.now) (vec_items l.others)
