-- Free cores are given. The idea: the counts of all together are the cores that have owners, so once no core is free no
-- client can be short of targets that fit into the cores (`AreGiven-settled`).
use Rattle.std.proofs.Common.{ℕ, ◌≤◌, ◌<◌, length, ◌∙◌, arith}
use Rattle.std.proofs.lemmas.List.{length-replicate}
use Rattle.arachne_grants.proofs.Counts.{AreGiven-none, AreGiven-more, AreGiven-all, AreGiven-settled, AreGiven-priority}
use Rattle.arachne_grants.proofs.owners.give_free.Goals as goal

pub hand-init : goal.hand-init
hand-init c =
    AreGiven-none c.args.clients.now c.args.owners.now c.args.targets.now c.count_all.new.held (c.count_all.auto.held ∙ length-replicate {A = ℕ} 256 0)
    c.count_all.ensures.counts c.count_all.ensures.all

pub hand-preserved : goal.hand-preserved
hand-preserved c =
    let below : c.hand.core < length c.hand.owners = (let same = c.hand.auto.owners in let test = c.hand-test.true in omega arith) in
    let small : (client : ℕ) → client < length c.args.clients.now → client < 256 = λ client h. (let few = c.requires.clients in omega arith) in
    AreGiven-more c.args.clients.now c.args.owners.now c.hand.owners c.args.targets.now c.hand.held c.give.new.held c.hand.core c.give.result c.hand.invariant small below
    (c.give.auto.held ∙ c.hand.invariant.sized) c.give.ensures.only c.give.ensures.counts c.give.ensures.all c.give.ensures.within
    c.give.ensures.rises c.give.ensures.enough c.give.ensures.highest

pub returns-clause-given : goal.returns-clause-given
returns-clause-given c =
    let all : length c.hand.owners ≤ c.hand.core = (let same = c.hand.auto.owners in let test = c.hand-test.false in omega arith) in
    AreGiven-all c.args.clients.now c.args.owners.now c.hand.owners c.args.targets.now c.hand.held c.hand.core c.hand.invariant all

pub returns-clause-settled : goal.returns-clause-settled
returns-clause-settled c =
    let all : length c.hand.owners ≤ c.hand.core = (let same = c.hand.auto.owners in let test = c.hand-test.false in omega arith) in
    AreGiven-settled c.args.clients.now c.args.owners.now c.hand.owners c.args.targets.now c.hand.held c.hand.core c.hand.invariant all

pub returns-clause-priority : goal.returns-clause-priority
returns-clause-priority c =
    AreGiven-priority c.args.clients.now c.args.owners.now c.hand.owners c.args.targets.now c.hand.held c.hand.core c.hand.invariant c.requires.clients
