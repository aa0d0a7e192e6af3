use Rattle.std.proofs.Common.{ℕ, ◌%◌, ◌∙◌, ◌∷◌}
use Rattle.arachne_exec.specs.{Changes.{gained, noted}, Seats.CallView}
use Rattle.arachne_exec.proofs.{Allowed.{bit_true, take-asks}, Told.told-view}
use Rattle.arachne_exec.proofs.executor.Executor.take_bit.Goals as goal

pub fetch_and-found-requires : goal.fetch_and-found-requires
fetch_and-found-requires c = take-asks _ _ _ c.self.invariant _ c.self.view_is _ _ _ c.seat.invariant _ c.seat.view_is c.requires.own c.args.place c.requires.place _ _ c.ready_word.ensures c.all_but.ensures

pub returns-clause-took : goal.returns-clause-took
returns-clause-took c = λ e.
    let n : ℕ = c.fetch_and-found.result in let place : ℕ = c.args.place in let there = bit_true n (place % 64) e in let old : CallView = c.args.seat.now in
    let got = (c.fetch_and-found.ensures.2 place c.ready_word.ensures c.all_but.ensures).0 there in (
      n,
      got.0,
      there,
      told-view c.seat.inside.seat.table_id c.fetch_and-found.new.seat.table_id c.seat.inside.seat.me c.fetch_and-found.new.seat.me c.args.seat.now c.seat.view_is c.fetch_and-found.ensures.0
          (λ k. gained place got.0 (noted c.ready_word.result n k)) (λ l. (place, got.0) ∷ l) got.1
          ∙ (λ i. record old { known = gained place got.0 (noted (c.ready_word.ensures i) n old.known); slots = (place, got.0) ∷ old.slots }),
    )
