use Rattle.std.proofs.Common.{◌≤◌, length, sum, ◌∙◌, arith}
use Rattle.arachne_grants.specs.Owners.{IsSettled, IsWithin}
use Rattle.arachne_grants.proofs.Stays.{MovesLeast-both, AreAmong-settled}
use Rattle.arachne_grants.proofs.owners.moves.Goals as goal

pub returns-clause-least : goal.returns-clause-least
returns-clause-least c =
    let targets = c.args.targets.now in
    let within : IsWithin c.take_back.new.owners targets = λ client few. (let keeps = c.take_back.ensures.keeps client few in omega arith) in
    let fit : sum targets ≤ length c.take_back.new.owners = (let same = c.take_back.auto.owners in let fits = c.requires.fit in omega arith) in
    let settled : IsSettled c.give_free.new.owners targets = c.give_free.ensures.settled within fit in
    MovesLeast-both c.args.owners.now c.take_back.new.owners c.give_free.new.owners targets c.take_back.auto.owners
    (c.give_free.auto.owners ∙ c.take_back.auto.owners) c.take_back.ensures.only c.take_back.ensures.keeps c.give_free.ensures.only settled

pub returns-clause-whole : goal.returns-clause-whole
returns-clause-whole c =
    let targets = c.args.targets.now in
    let within : IsWithin c.take_back.new.owners targets = λ client few. (let keeps = c.take_back.ensures.keeps client few in omega arith) in
    let fit : sum targets ≤ length c.take_back.new.owners = (let same = c.take_back.auto.owners in let fits = c.requires.fit in omega arith) in
    AreAmong-settled c.give_free.new.owners targets (c.give_free.ensures.settled within fit)
