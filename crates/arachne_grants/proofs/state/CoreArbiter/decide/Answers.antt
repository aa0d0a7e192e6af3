use Rattle.std.proofs.Common.{ℕ, List, length, ap, subst, arith}
use Rattle.std.proofs.lemmas.List.{length-map}
use Rattle.arachne_grants.specs.declared.claims.Client.{Client}
use Rattle.arachne_grants.specs.Grants.{AreGrants, IsAnswer, IsLeast}
use Rattle.arachne_grants.specs.Sessions.{wants_of}
use Rattle.arachne_grants.proofs.state.CoreArbiter.decide.Goals as goal

pub returns-clause-promises : goal.returns-clause-promises
returns-clause-promises c =
    let state = c.args.self.now in
    let clients : List Client = c.clients-clients.result in
    let targets : List ℕ = c.targets.new.targets in
    subst (λ (cs : List Client). AreGrants cs state.cores targets) c.clients-clients.ensures
    (subst (λ (cores : ℕ). AreGrants clients cores targets) c.from.ensures
    (record {
      sized = (let same = c.targets.auto.targets in let l = ap length c.clients-clients.ensures in let m = length-map state.sessions wants_of in omega arith);
      bounded = c.targets.ensures.bounded;
      used = c.targets.ensures.used;
      reserved = c.targets.ensures.reserved;
      priority = c.targets.ensures.priority;
      fair = c.targets.ensures.fair;
    }))

pub returns-clause-answer : goal.returns-clause-answer
returns-clause-answer c =
    let state = c.args.self.now in
    let clients : List Client = c.clients-clients.result in
    let targets : List ℕ = c.targets.new.targets in
    subst (λ (cs : List Client). IsAnswer cs state.cores targets) c.clients-clients.ensures
    (subst (λ (cores : ℕ). IsAnswer clients cores targets) c.from.ensures
    (record {
      sized = (let same = c.targets.auto.targets in let l = ap length c.clients-clients.ensures in let m = length-map state.sessions wants_of in omega arith);
      bounded = c.targets.ensures.bounded;
      used = c.targets.ensures.used;
      order = c.targets.ensures.order;
      turn = c.targets.ensures.turn;
    }))

pub returns-clause-least : goal.returns-clause-least
returns-clause-least c =
    let state = c.args.self.now in
    let clients : List Client = c.clients-clients.result in
    let targets : List ℕ = c.targets.new.targets in
    subst (λ (cs : List Client). IsLeast cs state.cores targets) c.clients-clients.ensures
    (subst (λ (cores : ℕ). IsLeast clients cores targets) c.from.ensures
    (c.targets.ensures.least))
