use Rattle.arachne_lock.specs.Rule.{AreFirstSlots}
use Rattle.arachne_lock.proofs.locks.first_slots.Given as goal

abbrev pub invariant-loop : goal.invariant-loop
invariant-loop l = AreFirstSlots l.counter l.slots.items
