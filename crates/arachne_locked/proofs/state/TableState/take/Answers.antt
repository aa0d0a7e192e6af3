use Rattle.arachne_locked.proofs.Room.{taken_room}
use Rattle.arachne_locked.proofs.state.TableState.take.Goals as goal

pub invariant_of-self : goal.invariant_of-self
invariant_of-self g c =
    taken_room c.self.inside.homes c.take.new.self c.self.invariant c.args.carrier c.context_at-context.result c.take.result c.take.ensures.made c.take.ensures.none
