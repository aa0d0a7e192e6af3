use Rattle.arachne_core.specs.declared.event.Event.TheVariants as event
use Rattle.arachne_locked.proofs.Room.{answered_room}
use Rattle.arachne_locked.proofs.state.TableState.give_back.Goals as goal

pub invariant_of-self : goal.invariant_of-self
invariant_of-self g c =
    answered_room c.self.inside.homes c.apply.new.self c.self.invariant (event.Release c.args.carrier c.args.claim.context) c.apply.result tt c.apply.ensures.answer c.apply.ensures.err
