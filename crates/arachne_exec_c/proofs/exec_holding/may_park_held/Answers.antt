use Rattle.std.proofs.Common.{inl, inr, refl, sym, subst, Option, Some}
use Rattle.arachne_exec_c.specs.Codes.{refused, park, again}
use Rattle.arachne_exec_c.specs.Executing.{Exec, IsWorker}
use Rattle.arachne_exec_c.specs.ExecTold.{IsTold, ParksOrNot}
use Rattle.arachne_exec_c.proofs.exec_holding.may_park_held.Goals as goal

pub returns-then-may_park : goal.returns-then-may_park
returns-then-may_park c =
    subst (λ (o : Option Exec). IsTold IsWorker ParksOrNot refused o (Some c.may_park.new.self) park) (sym c.in-Some.is) (
      (λ may. (c.may_park.new.self, refl, (c.may_park.ensures.known, inl (refl, c.may_park.ensures.parks c.if-may_park.true)))),
      (λ no_worker. absurd (no_worker (c.is_worker.ensures.0 c.if-is_worker.true))),
    )

pub returns-else-may_park : goal.returns-else-may_park
returns-else-may_park c =
    subst (λ (o : Option Exec). IsTold IsWorker ParksOrNot refused o (Some c.may_park.new.self) again) (sym c.in-Some.is) (
      (λ may. (c.may_park.new.self, refl, (c.may_park.ensures.known, inr (refl, c.may_park.ensures.stays c.if-may_park.false)))),
      (λ no_worker. absurd (no_worker (c.is_worker.ensures.0 c.if-is_worker.true))),
    )
