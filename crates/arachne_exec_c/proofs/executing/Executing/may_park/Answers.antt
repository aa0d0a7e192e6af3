use Rattle.std.proofs.Common.{◌≡◌, ℕ, ◌-◌, ◌∙◌, ap, subst, arith}
use Rattle.arachne_exec.specs.declared.view.Notes.{Notes}
use Rattle.arachne_exec.specs.Calls.{HasFoundNone, HasFoundSome}
use Rattle.arachne_exec.specs.Seats.{Places}
use Rattle.arachne_exec_c.specs.Executing.{Exec}
use Rattle.arachne_exec_c.proofs.executing.Executing.may_park.Goals as goal

pub returns-clause-parks : goal.returns-clause-parks
returns-clause-parks c = λ yes worker is.
    let same = ap (λ (x : Exec). x.worker) c.self.view_is in let number : c.self.inside.worker - 1 ≡ worker = omega (arith, same, is) in
    subst (λ (z : Places × Notes × ℕ). HasFoundNone z.0.shards z.2 z.1 c.may_park.new.seat.known)
    (λ i. ((c.deref.ensures ∙ ap (λ (x : Exec). x.executor) c.self.view_is) i, ap (λ (x : Exec). x.seat.known) c.self.view_is i, number i)) (c.may_park.ensures.parks yes)

pub returns-clause-stays : goal.returns-clause-stays
returns-clause-stays c = λ no worker is.
    let same = ap (λ (x : Exec). x.worker) c.self.view_is in let number : c.self.inside.worker - 1 ≡ worker = omega (arith, same, is) in
    subst (λ (z : Places × Notes × ℕ). HasFoundSome z.0.shards z.2 z.1 c.may_park.new.seat.known)
    (λ i. ((c.deref.ensures ∙ ap (λ (x : Exec). x.executor) c.self.view_is) i, ap (λ (x : Exec). x.seat.known) c.self.view_is i, number i)) (c.may_park.ensures.stays no)
