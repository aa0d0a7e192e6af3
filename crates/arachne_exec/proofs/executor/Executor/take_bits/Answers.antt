use Rattle.std.proofs.Common.{ℕ, ◌∙◌, List, ◌++◌, arith, refl}
use Rattle.arachne_exec.specs.{declared.view.Notes.Notes, Changes.{gaining, noted}, Seats.CallView}
use Rattle.arachne_exec.proofs.{Told.{live-told, told-view}, Allowed.take-many-asks}
use Rattle.arachne_exec.proofs.executor.Executor.take_bits.Goals as goal

pub fetch_and-found-requires : goal.fetch_and-found-requires
fetch_and-found-requires c = take-many-asks _ _ _ c.self.invariant _ c.self.view_is _ _ _ c.seat.invariant _ c.seat.view_is c.requires.own c.args.block c.args.pick c.requires.block (omega arith) _ _ c.ready_word.ensures (omega arith)

pub invariant_of-seat : goal.invariant_of-seat
invariant_of-seat c =
    let got = c.fetch_and-found.ensures.2 c.args.block c.args.pick (omega arith) c.ready_word.ensures (omega arith) in
    live-told c.fetch_and-found.new.seat.me c.seat.inside.seat.me.0.weight (gaining got.0 (noted c.ready_word.result c.fetch_and-found.result c.seat.inside.seat.me.0.known)) (got.0 ++ c.seat.inside.seat.me.1) got.2

pub returns : goal.returns
returns c =
    let got = c.fetch_and-found.ensures.2 c.args.block c.args.pick (omega arith) c.ready_word.ensures (omega arith) in
    let found : ℕ = c.fetch_and-found.result in
    let now = told-view c.seat.inside.seat.table_id c.fetch_and-found.new.seat.table_id c.seat.inside.seat.me c.fetch_and-found.new.seat.me c.args.seat.now c.seat.view_is c.fetch_and-found.ensures.0
    (λ (k : Notes). gaining got.0 (noted c.ready_word.result found k)) (λ (l : List (ℕ × ℕ)). got.0 ++ l) got.2 in
    let old : CallView = c.args.seat.now in
    record { took = (got.0, found, refl, got.1, now ∙ (λ i. record old { known = gaining got.0 (noted (c.ready_word.ensures i) found old.known); slots = got.0 ++ old.slots })) }
