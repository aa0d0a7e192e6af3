use Rattle.arachne_locked.proofs.AtHome.{answered_home}
use Rattle.arachne_locked.proofs.homes.Homes.apply.Goals as goal

pub invariant_of-self : goal.invariant_of-self
invariant_of-self g c =
    answered_home g.T.Tagged.tag_of c.args.event c.self.inside.world c.apply.new.self c.apply.result c.self.inside.values.items c.requires c.self.invariant
    c.apply.ensures.answer c.apply.ensures.err
