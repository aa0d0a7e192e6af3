use Rattle.std.proofs.Common.{◌≡◌, ℕ, ◌+◌, ◌⊎◌, true, false, get_or, length, vec_len, Contains}
use Rattle.arachne_sleep.specs.declared.{event.LockEvent.TheVariants.Grant, who.Who.Who}
use Rattle.arachne_run.specs.Histories.{grants_to}
use Rattle.arachne_run.proofs.report.grants_by_tag.Given as goal

abbrev pub invariant-loop-event : goal.invariant-loop-event
invariant-loop-event l = record {
  counted : (tag : ℕ) → get_or l.grants.items tag 0 + grants_to tag l.event-iterator ≡ grants_to tag l.history.items;
  marked : (who : Who) → Contains l.history.items (Grant who) → Contains l.event-iterator (Grant who) ⊎ (get_or l.marks who.tag false ≡ true);
  as_long : vec_len l.grants ≡ length l.marks;
}
