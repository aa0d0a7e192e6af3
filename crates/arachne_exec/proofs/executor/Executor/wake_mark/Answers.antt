use Rattle.std.proofs.Common.{◌∷◌, ◌∙◌, eqb-true, refl}
use Rattle.arachne_exec.specs.{Changes.{unblocking, noted}, Seats.CallView}
use Rattle.arachne_exec.proofs.{Told.told-view, Allowed.wake-asks}
use Rattle.arachne_exec.proofs.executor.Executor.wake_mark.Goals as goal

pub compare_exchange-found-requires : goal.compare_exchange-found-requires
compare_exchange-found-requires c = wake-asks _ _ _ c.self.invariant _ c.self.view_is _ _ _ c.seat.invariant _ c.seat.view_is c.requires.own c.args.place c.requires.place _ _ _ c.mark_word.ensures c.requires.blocked refl

pub returns-clause-took : goal.returns-clause-took
returns-clause-took c = λ e.
    let hit = eqb-true c.compare_exchange-found.result c.args.old e in let got = (c.compare_exchange-found.ensures.2 c.args.place c.mark_word.ensures).0 hit in
    let old : CallView = c.args.seat.now in (
      got.0,
      told-view c.seat.inside.seat.table_id c.compare_exchange-found.new.seat.table_id c.seat.inside.seat.me c.compare_exchange-found.new.seat.me c.args.seat.now c.seat.view_is c.compare_exchange-found.ensures.0
          (λ k. unblocking c.args.place got.0 (noted c.mark_word.result c.compare_exchange-found.result k)) (λ l. (c.args.place, got.0) ∷ l) got.1
          ∙ (λ i. record old { known = unblocking c.args.place got.0 (noted (c.mark_word.ensures i) (hit i) old.known); slots = (c.args.place, got.0) ∷ old.slots }),
    )
