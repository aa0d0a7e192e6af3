use Rattle.std.proofs.Common.{arith}
use Rattle.arachne_grants.proofs.Sound.{AreBelow-with_thread, IsSound-with_thread}
use Rattle.arachne_grants.proofs.state.CoreArbiter.set_thread.Goals as goal

pub invariant_of-self-clause-sound : goal.invariant_of-self-clause-sound
invariant_of-self-clause-sound c =
    let state = c.args.self.now in
    IsSound-with_thread state.sessions c.args.client c.args.place c.args.thread (omega arith) state.sound (λ core is. (c.requires.sound core is).1)

pub invariant_of-self-clause-below : goal.invariant_of-self-clause-below
invariant_of-self-clause-below c =
    let state = c.args.self.now in
    AreBelow-with_thread state.sessions state.cores c.args.client c.args.place c.args.thread (omega arith) state.below (λ core is. (c.requires.sound core is).0)
