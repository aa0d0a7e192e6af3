-- The events that a call adds to a lock's history.
use Rattle.std.specs.{Prelude.{ℕ, List, [], ◌∷◌}, declared.option.Option.Option}
use Rattle.std.specs.declared.{option.Option.TheVariants.{None, Some}, result.Result.Result}
use Rattle.std.specs.declared.result.Result.TheVariants.{Ok, Err}
use Rattle.arachne_lock.specs.declared.answer.Admitted.{Admitted, TheVariants.{Granted, Queued}}
use Rattle.arachne_lock.specs.declared.answer.{AskRefusal.AskRefusal, Released.Released, NotOwner.NotOwner}
use Rattle.arachne_lock.specs.declared.answer.Withdrawn.{Withdrawn, TheVariants.{Left, Holds, Outside}}
use Rattle.arachne_lock.specs.declared.event.QueueEvent.{QueueEvent, TheVariants.{Ask, Grant, Free, Leave}}
use Rattle.arachne_lock.specs.declared.event.LockDeed.{LockDeed}
use Rattle.arachne_lock.specs.declared.event.LockDeed.TheVariants as deed

abbrev pub events_of : LockDeed → List QueueEvent
events_of deed.Nothing = []
events_of (deed.Queued who) = Ask who ∷ []
events_of (deed.Granted who) = Ask who ∷ Grant who ∷ []
events_of (deed.Freed who) = Free who ∷ []
events_of (deed.Handed who next) = Free who ∷ Grant next ∷ []
events_of (deed.Left who) = Leave who ∷ []

abbrev pub asked_events : ℕ → Result Admitted AskRefusal → List QueueEvent
asked_events who (Ok (Granted at)) = Ask who ∷ Grant who ∷ []
asked_events who (Ok (Queued at)) = Ask who ∷ []
asked_events who (Err fault) = []

-- a free, and the grant that follows it, if a task waits
abbrev pub handed_events : ℕ → Option ℕ → List QueueEvent
handed_events who None = Free who ∷ []
handed_events who (Some next) = Free who ∷ Grant next ∷ []

abbrev pub freed_events : ℕ → Result Released NotOwner → List QueueEvent
freed_events who (Ok freed) = handed_events who freed.next
freed_events who (Err fault) = []

abbrev pub withdrawn_events : ℕ → Withdrawn → List QueueEvent
withdrawn_events who (Left at) = Leave who ∷ []
withdrawn_events who (Holds at) = []
withdrawn_events who Outside = []
