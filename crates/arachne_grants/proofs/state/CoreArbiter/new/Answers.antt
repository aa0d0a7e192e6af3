use Rattle.std.proofs.Common.{refl}
use Rattle.arachne_grants.proofs.Sound.{none-at}
use Rattle.arachne_grants.proofs.state.CoreArbiter.new.Goals as goal

pub invariant_of-result-clause-sound : goal.invariant_of-result-clause-sound
invariant_of-result-clause-sound c = λ client place other place_of_other core first second. absurd (none-at 64 64 _ refl client place core first)

pub invariant_of-result-clause-below : goal.invariant_of-result-clause-below
invariant_of-result-clause-below c = λ client place core is. absurd (none-at 64 64 _ refl client place core is)
