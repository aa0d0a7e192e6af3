use Rattle.std.proofs.Common.{◌≡◌, ◌∙◌, ap, subst}
use mathlib.Core.Option.{some}
use Rattle.arachne_weights.specs.{Tokens.held, Weight.whole}
use Rattle.arachne_sleep.{specs.Rule.{IsKept, idle_known}, proofs.Keeps.settled}
use Rattle.arachne_sleep.proofs.sleep_lock.SleepLock.into_history.Goals as goal

pub returns-clause-told : goal.returns-clause-told
returns-clause-told c =
    let seat = c.seat.inside.seat in
    settled c.self.inside.table.shared.key seat.id c.seat.inside.weight seat.me c.args.seat.log _ _ c.close_with-closed.ensures.values.2 c.seat.invariant
    (ap (λ v. v.weight) c.seat.view_is ∙ c.requires.whole) (ap (λ v. v.log) c.seat.view_is)
    c.take-guarded.result c.take-guarded.ensures.value c.into_history.result.items c.into_history.ensures.events

pub returns-clause-lawful : goal.returns-clause-lawful
returns-clause-lawful c =
    let end = c.close_with-closed.ensures.values.2 in let weight = ap (λ v. v.weight) c.seat.view_is ∙ c.requires.whole in let log = ap (λ v. v.log) c.seat.view_is in
    let is : c.seat.inside.seat.me.0 ≡ held whole (idle_known c.args.seat.log) = ap (λ m. m.0) c.seat.invariant ∙ (λ i. held (weight i) (idle_known (log i))) in record {
      board = end.0;
      kept = subst (λ n. IsKept n end.0) (c.self.invariant.keyed ∙ ap (λ v. v.number) c.self.view_is) end.1.0;
      place = c.seat.inside.seat.id;
      there = end.1.1 ∙ ap some is;
    }
