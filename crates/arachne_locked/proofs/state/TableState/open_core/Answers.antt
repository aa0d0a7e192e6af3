use Rattle.arachne_core.specs.declared.event.Event.TheVariants as event
use Rattle.arachne_locked.proofs.Room.{answered_room}
use Rattle.arachne_locked.proofs.state.TableState.open_core.Goals as goal

pub invariant_of-self : goal.invariant_of-self
invariant_of-self g c =
    answered_room c.self.inside.homes c.apply.new.self c.self.invariant (event.OpenCore c.args.core) c.apply.result tt c.apply.ensures.answer c.apply.ensures.err
