use Rattle.std.proofs.Common.{◌∙◌, ap}
use Rattle.arachne_exec_c.specs.Executing.{Exec}
use Rattle.arachne_exec_c.proofs.Hands.{newest}
use Rattle.arachne_exec_c.proofs.executing.Executing.start.Goals as goal

pub start-requires-clause-newest : goal.start-requires-clause-newest
start-requires-clause-newest c = (newest _ _ _ _ _ _ c.self.invariant (ap (λ (e : Exec). e.hand) c.self.view_is ∙ c.requires)).0
