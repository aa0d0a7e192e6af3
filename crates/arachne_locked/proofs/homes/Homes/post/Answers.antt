use Rattle.std.proofs.Common.{sym}
use Rattle.arachne_core.specs.ContextTable.{world_of}
use Rattle.arachne_locked.proofs.AtHome.{post_home}
use Rattle.arachne_locked.proofs.homes.Homes.post.Goals as goal

pub invariant_of-self : goal.invariant_of-self
invariant_of-self g c =
    let a = c.in-Ok.ensures.answer in
    post_home g.T.Tagged.tag_of (world_of c.self.inside.world) (world_of c.apply.new.self) c.self.inside.values.items c.args.carrier c.args.context c.tag-tag.result c.args.value
    c.self.invariant a.0 a.1 (sym c.tag-tag.ensures)
