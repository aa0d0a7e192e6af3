-- An order is applied. The idea: the core that waits for its threads to leave is the one that the order closes, and no
-- other (`AreDraining-closes`, `AreDraining-opens`). A new kind of order is another arm with such a lemma in
-- `DrainingCores`.
use Rattle.std.proofs.Common.{◌≡◌, rules}
use Rattle.arachne_arbiter.specs.{declared.orders.Effect.TheVariants.{Closes, Opens}, Orders.{next_effect, with_next}}
use Rattle.arachne_arbiter.proofs.DrainingCores.{AreDraining-closes, AreDraining-opens}
use Rattle.arachne_arbiter.proofs.arbiter.Arbiter.apply_next.Goals as goal

pub invariant_of-self-in-Closes : goal.invariant_of-self-in-Closes
invariant_of-self-in-Closes g c =
    let old = c.self.inside.orders in
    let waiting = c.self.inside.draining.waiting.items in
    let closes : next_effect old ≡ Closes c.in-Closes.core = search rules in
    let next : c.next_due.new.self ≡ with_next old = search rules in
    rw (next, c.start.ensures) (AreDraining-closes old waiting c.in-Closes.core c.self.invariant closes)

pub invariant_of-self-in-Opens : goal.invariant_of-self-in-Opens
invariant_of-self-in-Opens g c =
    let old = c.self.inside.orders in
    let waiting = c.self.inside.draining.waiting.items in
    let opens : next_effect old ≡ Opens c.in-Opens.core = search rules in
    let next : c.next_due.new.self ≡ with_next old = search rules in
    rw (next, c.stop.ensures) (AreDraining-opens old waiting c.in-Opens.core c.self.invariant opens)
