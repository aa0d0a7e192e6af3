use Rattle.std.proofs.Common.{◌≤◌, subst}
use Rattle.arachne_exec.proofs.executor.Executor.few.Goals as goal

pub returns : goal.returns
returns c = subst (λ v. v.shards ≤ 256) c.self.view_is c.self.invariant.few
