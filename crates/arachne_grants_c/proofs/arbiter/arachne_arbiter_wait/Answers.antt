use Rattle.std.proofs.Common.{◌≡◌}
use Rattle.std.specs.declared.option.Option.TheVariants.{Some}
use Rattle.arachne_grants_c.specs.ArbiterHeld.{held}
use Rattle.arachne_grants_c.specs.ArbiterTold.{waiting, Changes, MayWait}
use Rattle.arachne_grants_c.specs.Codes.{refused}
use Rattle.arachne_grants_c.proofs.Held.{is_told}
use Rattle.arachne_grants_c.proofs.arbiter.arachne_arbiter_wait.Goals as goal

pub returns : goal.returns
returns c =
    let was : held c.args.arbiter.now ≡ Some c.deref_mut.result.now = cc (c.in-Some.ensures.some, c.deref_mut.ensures.value) in
    let now : held c.put.new.self ≡ Some c.wait-told.new.arbiter = cc (c.put.ensures) in
    is_told (Changes (MayWait c.args.client c.args.place) (waiting c.args.client c.args.place)) refused c.wait-told.result (held c.args.arbiter.now) (held c.put.new.self) c.deref_mut.result.now c.wait-told.new.arbiter was now
    c.wait-told.ensures
