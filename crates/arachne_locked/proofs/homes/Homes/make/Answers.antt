use Rattle.std.proofs.Common.{sym, subst}
use Rattle.arachne_core.specs.{ContextTable.world_of, World.Allowed}
use Rattle.arachne_locked.{specs.AtHome.TableView, proofs.AtHome.{plain_made, answered_home}}
use Rattle.arachne_locked.proofs.homes.Homes.make.Goals as goal

pub unreachable-requires : goal.unreachable-requires
unreachable-requires g c =
    plain_made c.args.event c.self.inside.world c.apply.new.self c.in-Err.field-0 c.requires.memory
    (subst (λ (v : TableView _). Allowed (world_of v.table) c.args.event) (sym c.self.view_is) c.requires.allowed) c.in-Err.ensures.answer

pub invariant_of-self : goal.invariant_of-self
invariant_of-self g c =
    answered_home g.T.Tagged.tag_of c.args.event c.self.inside.world c.apply.new.self c.apply.result c.self.inside.values.items c.requires.values c.self.invariant
    c.apply.ensures.answer c.apply.ensures.err
