use Rattle.std.proofs.Common.{◌∙◌, ap, sym}
use Rattle.arachne_exec.specs.declared.view.Notes.{Notes}
use Rattle.arachne_exec.specs.Seats.{SeatView}
use Rattle.arachne_exec_c.specs.Executing.{Exec}
use Rattle.arachne_exec_c.proofs.Hands.{kept-laid-by, newest}
use Rattle.arachne_exec_c.proofs.executing.Executing.rest_ready.Goals as goal

pub rest_ready-unpark-requires-clause-newest : goal.rest_ready-unpark-requires-clause-newest
rest_ready-unpark-requires-clause-newest c = (newest _ _ _ _ _ _ c.self.invariant (ap (λ (e : Exec). e.hand) c.self.view_is ∙ c.requires)).0

pub invariant_of-self : goal.invariant_of-self
invariant_of-self c =
    let e = c.rest_ready-unpark.ensures in let old : SeatView = c.self.inside.seat in
    kept-laid-by _ _ _ _ _ _ c.self.invariant (e ∙ ap (λ (k : Notes). record old { known = k }) (sym (ap (λ (s : SeatView). s.known) e))) _ c.args.place c.in_hand.ensures (ap (λ (x : Exec). x.hand) c.self.view_is ∙ c.requires)
    (ap (λ (s : SeatView). s.known.hand) e, ap (λ (s : SeatView). s.known.worker) e)
