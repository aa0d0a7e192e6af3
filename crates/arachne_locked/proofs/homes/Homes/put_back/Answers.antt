use Rattle.std.proofs.Common.{sym, subst}
use Rattle.arachne_core.specs.ContextTable.{world_of}
use Rattle.arachne_locked.{specs.AtHome.{TableView, HoldsThread}, proofs.AtHome.rest_home}
use Rattle.arachne_locked.proofs.homes.Homes.put_back.Goals as goal

pub invariant_of-self : goal.invariant_of-self
invariant_of-self g c =
    let a = c.in-Ok.ensures.answer in
    let h = subst (λ (b : TableView _). HoldsThread (world_of b.table) c.args.carrier c.args.id (g.T.Tagged.tag_of c.args.value)) (sym c.self.view_is) c.requires in
    rest_home g.T.Tagged.tag_of (world_of c.self.inside.world) (world_of c.apply.new.self) c.self.inside.values.items c.args.carrier c.args.id.context c.args.rest c.args.value
    c.self.invariant a.0 h.tagged a.1
