use Rattle.std.proofs.Common.{◌≡◌}
use Rattle.std.specs.declared.option.Option.TheVariants.{Some}
use Rattle.arachne_grants_c.specs.ArbiterHeld.{held}
use Rattle.arachne_grants_c.specs.ArbiterTold.{ended, Changes, HasPlace}
use Rattle.arachne_grants_c.specs.Codes.{refused}
use Rattle.arachne_grants_c.proofs.Held.{is_told}
use Rattle.arachne_grants_c.proofs.arbiter.arachne_arbiter_end.Goals as goal

pub returns : goal.returns
returns c =
    let was : held c.args.arbiter.now ≡ Some c.deref_mut.result.now = cc (c.in-Some.ensures.some, c.deref_mut.ensures.value) in
    let now : held c.put.new.self ≡ Some c.end-told.new.arbiter = cc (c.put.ensures) in
    is_told (Changes (HasPlace c.args.client c.args.place) (ended c.args.client c.args.place)) refused c.end-told.result (held c.args.arbiter.now) (held c.put.new.self) c.deref_mut.result.now c.end-told.new.arbiter was now
    c.end-told.ensures
