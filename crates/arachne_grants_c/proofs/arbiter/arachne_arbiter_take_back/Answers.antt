use Rattle.std.proofs.Common.{◌≡◌}
use Rattle.std.specs.declared.option.Option.TheVariants.{Some}
use Rattle.arachne_grants_c.specs.ArbiterHeld.{held}
use Rattle.arachne_grants_c.specs.ArbiterTold.{action_alone, Takes}
use Rattle.arachne_grants_c.specs.Codes.{refused}
use Rattle.arachne_grants_c.proofs.Held.{is_told}
use Rattle.arachne_grants_c.proofs.arbiter.arachne_arbiter_take_back.Goals as goal

pub returns : goal.returns
returns c =
    let was : held c.args.arbiter.now ≡ Some c.deref_mut.result.now = cc (c.in-Some.ensures.some, c.deref_mut.ensures.value) in
    let now : held c.put.new.self ≡ Some c.take_back-told.new.arbiter = cc (c.put.ensures) in
    is_told (Takes c.args.client c.args.late) (action_alone refused) c.take_back-told.result (held c.args.arbiter.now) (held c.put.new.self) c.deref_mut.result.now c.take_back-told.new.arbiter was now
    c.take_back-told.ensures
