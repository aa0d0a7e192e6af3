use Rattle.std.proofs.Common.{arith}
use Rattle.arachne_grants.proofs.Sound.{AreBelow-set, IsSound-set}
use Rattle.arachne_grants.proofs.state.CoreArbiter.set.Goals as goal

pub invariant_of-self-clause-sound : goal.invariant_of-self-clause-sound
invariant_of-self-clause-sound c =
    let state = c.args.self.now in
    IsSound-set state.sessions c.args.client c.args.session (omega arith) state.sound c.requires.sound

pub invariant_of-self-clause-below : goal.invariant_of-self-clause-below
invariant_of-self-clause-below c =
    let state = c.args.self.now in
    AreBelow-set state.sessions state.cores c.args.client c.args.session (omega arith) state.below c.requires.sound
