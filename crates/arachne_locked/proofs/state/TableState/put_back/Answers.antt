use Rattle.arachne_core.specs.declared.event.Event.TheVariants as event
use Rattle.arachne_locked.proofs.Room.{event_room}
use Rattle.arachne_locked.proofs.state.TableState.put_back.Goals as goal

pub invariant_of-self : goal.invariant_of-self
invariant_of-self g c =
    event_room c.self.inside.homes.table c.put_back.new.self.table c.self.invariant (event.Rest c.args.carrier c.args.held.hold.id.context c.args.rest) tt c.put_back.ensures.made
