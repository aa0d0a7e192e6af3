use Rattle.std.proofs.Common.{arith, sym}
use Rattle.arachne_grants.proofs.Sound.{thread_at-past}
use Rattle.arachne_grants.proofs.state.CoreArbiter.thread.Goals as goal

pub returns-then-client-ge-MAX_CLIENTS : goal.returns-then-client-ge-MAX_CLIENTS
returns-then-client-ge-MAX_CLIENTS c = sym (thread_at-past c.args.self.now.sessions c.args.client c.args.place (omega arith))
