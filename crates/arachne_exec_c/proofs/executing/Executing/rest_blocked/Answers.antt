use Rattle.std.proofs.Common.{◌∙◌, ap}
use Rattle.arachne_exec_c.specs.Executing.{Exec}
use Rattle.arachne_exec_c.proofs.Hands.{kept-laid-by, newest}
use Rattle.arachne_exec_c.proofs.executing.Executing.rest_blocked.Goals as goal

pub rest_blocked-rested-requires-clause-newest : goal.rest_blocked-rested-requires-clause-newest
rest_blocked-rested-requires-clause-newest c = (newest _ _ _ _ _ _ c.self.invariant (ap (λ (e : Exec). e.hand) c.self.view_is ∙ c.requires)).0

pub invariant_of-self : goal.invariant_of-self
invariant_of-self c = kept-laid-by _ _ _ _ _ _ c.self.invariant c.rest_blocked-rested.ensures.seat _ c.args.place c.in_hand.ensures (ap (λ (e : Exec). e.hand) c.self.view_is ∙ c.requires) c.rest_blocked-rested.ensures.hand
