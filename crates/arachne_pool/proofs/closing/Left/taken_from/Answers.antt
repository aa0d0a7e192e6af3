use Rattle.std.proofs.Common.{◌≡◌, ◌<◌, length, arith, rules}
use Rattle.std.proofs.lemmas.List.{length_push}
use Rattle.std.proofs.lemmas.Iterator.Consumers.{YieldsList-from_deque, YieldsList-turn, YieldsList-end}
use Rattle.arachne_pool.specs.Jobs.{count_near}
use Rattle.arachne_pool.specs.Leftover.{count_of, count_placed}
use Rattle.arachne_pool.proofs.Counts.{count_near_all, count_near_next, count_near_least, count_placed_next, count_placed_least}
use Rattle.arachne_pool.proofs.closing.Left.taken_from.Goals as goal

pub returns-in_err-rest : goal.returns-in_err-rest
returns-in_err-rest g c =
    let least = count_placed_least c.as_slice-placed.result.now c.loop-entry.entry-index c.entry-item.result c.loop-entry-test.true c.entry-item.is in
    let whole : count_placed c.as_slice-placed.result.now ≡ count_placed c.args.self.now.placed.items = cc in
    let fewer : c.args.count < count_of c.args.self.now = omega (arith, least, whole, c.loop-entry.invariant, c.in_err-rest.ensures) in search rules

pub loop-entry-preserved : goal.loop-entry-preserved
loop-entry-preserved g c =
    let next = count_placed_next c.as_slice-placed.result.now c.loop-entry.entry-index c.entry-item.result c.loop-entry-test.true c.entry-item.is in
    omega (arith, next, c.loop-entry.invariant, c.in_ok-rest.ensures)

pub returns-in_err-rest-2 : goal.returns-in_err-rest-2
returns-in_err-rest-2 g c =
    let t = YieldsList-turn (YieldsList-from_deque c.args.self.now.near.items cc) c.loop-job.yielded _ c.loop-job.yielded_by _ _ c.in-Some.job c.in-Some.is c.next.ensures.steps in
    let least = count_near_least c.args.self.now.near.items (length c.loop-job.yielded) c.in-Some.job.now t in
    let fewer : c.args.count < count_of c.args.self.now = omega (arith, least, c.loop-job.invariant, c.in_err-rest-2.ensures) in search rules

pub loop-job-preserved : goal.loop-job-preserved
loop-job-preserved g c =
    let t = YieldsList-turn (YieldsList-from_deque c.args.self.now.near.items cc) c.loop-job.yielded _ c.loop-job.yielded_by _ _ c.in-Some.job c.in-Some.is c.next.ensures.steps in
    let next = count_near_next c.args.self.now.near.items (length c.loop-job.yielded) c.in-Some.job.now t in
    let n = length_push c.loop-job.yielded c.in-Some.job in
    rw n (omega (arith, next, c.loop-job.invariant, c.in_ok-rest-2.ensures))

pub returns : goal.returns
returns g c =
    let t = YieldsList-end (YieldsList-from_deque c.args.self.now.near.items cc) c.loop-job.yielded _ c.loop-job.yielded_by _ _ c.in-None.is c.next.ensures.steps in
    omega (arith, count_near_all c.args.self.now.near.items (length c.loop-job.yielded) t.1, c.loop-job.invariant)
