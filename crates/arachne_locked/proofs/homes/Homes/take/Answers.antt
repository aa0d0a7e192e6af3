use Rattle.std.proofs.Common.{sym, subst, set}
use Rattle.arachne_core.specs.ContextTable.{world_of}
use Rattle.arachne_locked.{specs.AtHome.IsHome, proofs.AtHome.take_home}
use Rattle.arachne_locked.proofs.homes.Homes.take.Goals as goal

pub invariant_of-self : goal.invariant_of-self
invariant_of-self g c =
    let a = c.in-Ok.ensures.answer in
    let w = world_of c.apply.new.self in
    let xs = c.self.inside.values.items in
    subst (λ o. IsHome g.T.Tagged.tag_of w (set xs c.args.context o)) (sym c.take.ensures.after)
    (take_home g.T.Tagged.tag_of (world_of c.self.inside.world) w xs c.args.carrier c.args.context c.self.invariant a.0 a.1)
