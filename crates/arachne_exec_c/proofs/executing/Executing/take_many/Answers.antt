use Rattle.std.proofs.Common.{◌∙◌, ap, subst, arith}
use Rattle.std.specs.Arc.{arc_value}
use Rattle.arachne_exec.specs.Calls.{HasTakenMany}
use Rattle.arachne_exec_c.specs.Executing.{Exec, holding}
use Rattle.arachne_exec_c.proofs.Hands.{kept-many-by}
use Rattle.arachne_exec_c.proofs.executing.Executing.take_many.Goals as goal

pub invariant_of-self : goal.invariant_of-self
invariant_of-self c = kept-many-by _ _ _ _ _ _ c.self.invariant c.take_many-bits.ensures.seat _ c.args.block c.take_many-bits.result c.in_hand.ensures (ap (λ (e : Exec). e.hand) c.self.view_is ∙ c.requires.0)
    (omega (arith, c.requires.1, ap (λ (e : Exec). e.executor.shards) c.self.view_is)) (omega arith) c.take_many-bits.ensures.hand

pub returns : goal.returns
returns c =
    let took = c.take_many-bits in record {
      stays = (λ i. record { executor = arc_value c.self.inside.executor; seat = took.ensures.seat i; hand = (c.in_hand.ensures i).0; more = (c.in_hand.ensures i).1; worker = c.self.inside.worker })
          ∙ ap (λ (e : Exec). holding e took.new.seat.known c.args.block took.result) c.self.view_is;
      did = subst (λ (e : Exec). HasTakenMany took.result c.args.block c.args.most e.seat.known took.new.seat.known) c.self.view_is took.ensures.took;
    }
