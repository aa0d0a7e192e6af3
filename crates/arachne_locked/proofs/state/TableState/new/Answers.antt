use Rattle.std.proofs.Common.{◌*◌, sym, ap, subst, arith}
use Rattle.arachne_core.specs.{ContextTable.{ContextTable, world_of}, World.World, Run.IsOpening}
use Rattle.arachne_locked.proofs.Room.{full_room}
use Rattle.arachne_locked.proofs.state.TableState.new.Goals as goal

pub invariant_of-result : goal.invariant_of-result
invariant_of-result g c =
    let k = c.reserve.new.self.table in
    let sizes = ap (λ (t : ContextTable). (world_of t).cores * (world_of t).slots) c.reserve.ensures.kept in
    let ok = c.in_ok-reserve.ensures.ok in
    let p = ok.0 in
    let r = ok.1 in
    let n = c.contexts-contexts.ensures in
    full_room k (omega (arith, sizes, p, n)) (omega (arith, sizes, r, n))

pub returns-clause-opening : goal.returns-clause-opening
returns-clause-opening g c =
    subst (λ (w : World). IsOpening w c.args.first_generation) (sym (ap world_of c.reserve.ensures.kept)) c.in_ok-homes.ensures.opening
