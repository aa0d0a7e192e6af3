use Rattle.arachne_grants.proofs.Sound.{none-in}
use Rattle.arachne_grants.proofs.state.CoreArbiter.hello.Goals as goal

pub set-requires-clause-sound : goal.set-requires-clause-sound
set-requires-clause-sound c = λ place core is. absurd (none-in 64 place core is)
