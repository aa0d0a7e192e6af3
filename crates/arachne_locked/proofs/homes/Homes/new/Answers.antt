use Rattle.std.proofs.Common.{◌≡◌, ◌*◌, sym, ◌∙◌}
use Rattle.arachne_core.specs.ContextTable.{world_of}
use Rattle.arachne_locked.proofs.AtHome.{new_home}
use Rattle.arachne_locked.proofs.homes.Homes.new.Goals as goal

pub invariant_of-result : goal.invariant_of-result
invariant_of-result g c =
    let w = world_of c.in_ok-world.world in
    let size : c.from.result * c.from-2.result ≡ w.cores * w.slots =
    λ i. (c.from.ensures ∙ sym c.in_ok-world.ensures.cores) i * (c.from-2.ensures ∙ sym c.in_ok-world.ensures.slots) i in
    new_home g.T.Tagged.tag_of w c.args.first_generation (c.from.result * c.from-2.result) c.in_ok-values.values.items c.in_ok-world.ensures.opening c.in_ok-values.ensures size
