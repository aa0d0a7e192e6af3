use Rattle.std.proofs.Common.{◌≡◌}
use Rattle.std.specs.declared.option.Option.TheVariants.{Some}
use Rattle.arachne_grants_c.specs.ArbiterHeld.{held}
use Rattle.arachne_grants_c.specs.ArbiterTold.{begun, Changes, IsVacant}
use Rattle.arachne_grants_c.specs.Codes.{refused}
use Rattle.arachne_grants_c.proofs.Held.{is_told}
use Rattle.arachne_grants_c.proofs.arbiter.arachne_arbiter_hello.Goals as goal

pub returns : goal.returns
returns c =
    let was : held c.args.arbiter.now ≡ Some c.deref_mut.result.now = cc (c.in-Some.ensures.some, c.deref_mut.ensures.value) in
    let now : held c.put.new.self ≡ Some c.hello-told.new.arbiter = cc (c.put.ensures) in
    is_told (Changes (IsVacant c.args.client) (begun c.args.client c.args.priority c.args.reserved c.args.most)) refused c.hello-told.result (held c.args.arbiter.now) (held c.put.new.self) c.deref_mut.result.now c.hello-told.new.arbiter was now
    c.hello-told.ensures
