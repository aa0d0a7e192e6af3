use Rattle.std.proofs.Common.{refl, ap, ◌∙◌}
use Rattle.std.specs.declared.option.Option.TheVariants.{Some}
use Rattle.arachne_grants_c.specs.ArbiterHeld.{held}
use Rattle.arachne_grants_c.specs.ArbiterTold.{share_of, Shows}
use Rattle.arachne_grants_c.proofs.Held.{is_told}
use Rattle.arachne_grants_c.proofs.arbiter.arachne_arbiter_share.Goals as goal

pub returns : goal.returns
returns c =
    let value = c.in-Some.value.value in
    is_told (Shows c.args.client) (record { allowed = 0; held = 0 }) c.share-told.result (held c.args.arbiter.now) (held c.put.new.self) value value
    c.in-Some.ensures.some c.put.ensures (refl, c.share-told.ensures ∙ ap (share_of c.args.client) c.deref.ensures)
