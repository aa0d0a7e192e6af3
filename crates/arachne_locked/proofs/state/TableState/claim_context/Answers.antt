use Rattle.std.proofs.Common.{◌≡◌, ◌*◌, ap, ◌∙◌, arith}
use Rattle.arachne_core.specs.{ContextTable.{ContextTable, world_of}, World.{World, after}}
use Rattle.arachne_locked.{specs.AtHome.TableView, proofs.Room.claimed_room}
use Rattle.arachne_locked.proofs.state.TableState.claim_context.Goals as goal

pub invariant_of-self-2 : goal.invariant_of-self-2
invariant_of-self-2 g c =
    let k = c.reserve.new.self.table in
    let sizes : (world_of k).cores * (world_of k).slots ≡ (world_of c.self.inside.homes.table).cores * (world_of c.self.inside.homes.table).slots =
    ap (λ (t : ContextTable). (world_of t).cores * (world_of t).slots) c.reserve.ensures.kept in
    let ok = c.in_ok-reserve.ensures.ok in
    let p = ok.0 in
    let r = ok.1 in
    let n = c.contexts-contexts.ensures in
    claimed_room k c.apply.new.self.table c.args.claim c.requires.claim c.in-Ok.ensures.answer (omega (arith, sizes, p, n)) (omega (arith, sizes, r, n))

pub returns-clause-ok : goal.returns-clause-ok
returns-clause-ok g c =
    let same : world_of c.reserve.new.self.table ≡ world_of c.args.self.now.table =
    ap world_of c.reserve.ensures.kept ∙ ap (λ (v : TableView _). world_of v.table) c.self.view_is in
    record {
      allowed = (c.requires.allowed, tt);
      made = c.in-Ok.ensures.answer.1 ∙ ap (λ (w : World). after w c.args.claim) same;
    }
