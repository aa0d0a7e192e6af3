-- The core for a new thread. The idea: each turn lists the loads of one core more, a candidate's or none
-- (`loads_of-push`, `loads_of-skip`), and a choice among cores below the number of all is below it. Which cores are
-- candidates is in `is_candidate_at`; another list of loads changes `Loads`, another choice among them nothing here.
use Rattle.std.proofs.Common.{◌≡◌, ◌<◌, ◌≤◌, true, false, length, get_or, take, ap, ◌∙◌, arith, rules}
use Rattle.std.proofs.lemmas.List.{get_or_default}
use Rattle.arachne_core.specs.{declared.layout.TheConstants.CORES, Occupancy.vacant}
use Rattle.arachne_arbiter.specs.Choice.{is_candidate_at}
use Rattle.arachne_arbiter.proofs.Loads.{AreBelow, AreBelow-found, loads_of-push, loads_of-skip, loads_of-below}
use Rattle.arachne_arbiter.proofs.choice.first_core.Goals.{then-is_candidate, else-is_candidate}
use Rattle.arachne_arbiter.proofs.choice.first_core.Goals as goal

pub loop-core-preserved : goal.loop-core-preserved
loop-core-preserved c =
    let occupancies = c.args.occupancies.now in
    let core = c.loop-core.core in
    let occupancy = c.index-occupancies-core.result in
    let was = c.loop-core.invariant in
    let is : occupancy ≡ get_or occupancies core vacant =
    c.index-occupancies-core.is ∙ get_or_default occupancies core occupancy vacant c.loop-core-test.true in
    record {
      room = elim c.if-is_candidate.branch [
        | then-is_candidate w ↦ search rules
        | else-is_candidate w ↦ search rules
      ];
      fewer = elim c.if-is_candidate.branch [
        | then-is_candidate w ↦ search rules
        | else-is_candidate w ↦ search rules
      ];
      listed = elim c.if-is_candidate.branch [
        | then-is_candidate w ↦
            let few : length occupancies ≤ CORES = c.requires in
            let room : c.loop-core.candidates < length c.loop-core.loads = omega arith in
            let candidate : is_candidate_at occupancy ≡ true = cc in
            rw (w.candidates-is, w.loads-is)
            (loads_of-push occupancies core c.loop-core.candidates c.loop-core.loads occupancy _ room was.listed is candidate
            (ap (λ count. record { core = core; count = count }) w.count.ensures.bits))
        | else-is_candidate w ↦
            let none : is_candidate_at occupancy ≡ false = cc in
            rw (w.candidates-is, w.loads-is)
            (loads_of-skip occupancies core occupancy _ was.listed is none)
      ];
    }

pub returns-else-candidates-eq0-clause-within : goal.returns-else-candidates-eq0-clause-within
returns-else-candidates-eq0-clause-within c =
    let count = length c.args.occupancies.now in
    let end : c.loop-core.core ≡ count = omega arith in
    let below : AreBelow count (take c.loop-core.candidates c.loop-core.loads) =
    rw (c.loop-core.invariant.listed, end) (loads_of-below c.args.occupancies.now count) in
    AreBelow-found count _ c.two_choices.result below c.two_choices.ensures.listed
