-- The number of cores that each client gets. The idea: the client with the first claim gets the next core, so no client
-- that asks for more had an earlier claim to any core than the one that got it (`AreSoFar-more`), and each property
-- follows from that (`Promises`, `Least`). Another order of claims changes `ClaimOrder`.
use Rattle.std.proofs.Common.{arith}
use Rattle.arachne_grants.specs.Grants.{IsUsed}
use Rattle.arachne_grants.proofs.Order.{AreSoFar-more, IsUsed-served}
use Rattle.arachne_grants.proofs.Levels.{AreSoFar-filled}
use Rattle.arachne_grants.proofs.Promises.{IsReserved-in_order, IsByPriority-in_order, IsFair-in_order}
use Rattle.arachne_grants.proofs.Least.{IsLeast-in_order}
use Rattle.arachne_grants.proofs.grants.targets.Goals as goal

pub grant-init : goal.grant-init
grant-init c =
    AreSoFar-filled c.args.clients.now c.fill_levels-given.result c.fill_levels-given.new.targets (omega arith)
    c.fill_levels-given.ensures.sum c.fill_levels-given.ensures.filled

pub grant-preserved : goal.grant-preserved
grant-preserved c = AreSoFar-more c.args.clients.now c.grant._core c.grant.targets c.in-Some.next c.grant.invariant c.in-Some.ensures

pub returns-in_default-clause-least : goal.returns-in_default-clause-least
returns-in_default-clause-least c =
    IsLeast-in_order c.args.clients.now c.args.cores c.grant.targets c.grant.invariant.sized c.grant.invariant.each
    (IsUsed-served c.args.clients.now c.args.cores c.grant.targets c.in_default.ensures) c.grant.invariant.order

pub returns-clause-reserved : goal.returns-clause-reserved
returns-clause-reserved c = IsReserved-in_order c.args.clients.now c.grant.targets c.grant.invariant.order

pub returns-clause-priority : goal.returns-clause-priority
returns-clause-priority c = IsByPriority-in_order c.args.clients.now c.grant.targets c.grant.invariant.order

pub returns-clause-fair : goal.returns-clause-fair
returns-clause-fair c = IsFair-in_order c.args.clients.now c.grant.targets c.grant.invariant.order

pub returns-clause-least : goal.returns-clause-least
returns-clause-least c =
    let all : IsUsed c.args.clients.now c.args.cores c.grant.targets = λ place more. (let t = c.grant.invariant.total in omega arith) in
    IsLeast-in_order c.args.clients.now c.args.cores c.grant.targets c.grant.invariant.sized c.grant.invariant.each all c.grant.invariant.order
