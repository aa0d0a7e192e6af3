use Rattle.std.proofs.Common.{◌<◌, length, arith, get_or-set_other, get_or-set_same, below_more, ◌∙◌}
use Rattle.std.proofs.lemmas.List.Sums.{sum_by_more}
use Rattle.arachne_grants.specs.Claims.{gets_before}
use Rattle.arachne_grants.proofs.Levels.{no_client, sum-filled, sum-taken}
use Rattle.arachne_grants.proofs.grants.fill_levels.Goals as goal

pub fill-preserved : goal.fill-preserved
fill-preserved c =
    let clients = c.args.clients.now in
    let claim = c.last_filled-claim.result in
    let within : c.fill.place < length clients = omega arith in
    let room : c.fill.place < length c.fill.targets = omega arith in
    record {
      given = (let more = sum_by_more (gets_before claim) clients c.fill.place no_client within in let e = c.gets_before-gets.ensures in let before = c.fill.invariant.given in omega arith);
      filled = below_more _ c.fill.place
          (λ k h. get_or-set_other c.fill.targets c.fill.place k _ 0 (omega arith) ∙ c.fill.invariant.filled k h)
          (get_or-set_same c.fill.targets c.fill.place _ 0 room ∙ c.gets_before-gets.ensures);
    }

pub returns-clause-sum : goal.returns-clause-sum
returns-clause-sum c =
    let clients = c.args.clients.now in
    let claim = c.last_filled-claim.result in
    let all = sum-filled claim clients c.fill.targets (omega arith) (λ k h. c.fill.invariant.filled k (omega arith)) in
    let taken = sum-taken claim clients c.fill.place (omega arith) in
    let before = c.fill.invariant.given in
    omega arith
