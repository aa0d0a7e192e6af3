use Rattle.std.proofs.Common.{◌<◌, length, arith}
use Rattle.arachne_grants.proofs.Held.{AreHeld-none, AreHeld-more}
use Rattle.arachne_grants.proofs.owners.count_held.Goals as goal

pub fill-init : goal.fill-init
fill-init c = AreHeld-none c.args.clients.now c.args.owners.now

pub fill-preserved : goal.fill-preserved
fill-preserved c =
    let below : c.fill.client < length c.fill.clients = (let same = c.fill.auto.clients in let test = c.fill-test.true in omega arith) in
    let few : c.fill.client < 256 = (let small = c.requires.clients in let same = c.fill.auto.clients in omega arith) in
    AreHeld-more c.args.clients.now c.fill.clients c.args.owners.now c.fill.client _ c.fill.invariant below (c.count_all.ensures.counts c.fill.client few)
