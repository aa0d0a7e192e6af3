use Rattle.arachne_grants.proofs.state.CoreArbiter.ask.Goals as goal

pub set-requires-clause-sound : goal.set-requires-clause-sound
set-requires-clause-sound c = λ place core is. is
