use Rattle.std.proofs.Common.{◌≡◌, ◌∙◌, ℕ, List, [], Option, None, Some, is_some, false, sym, rules}
use Rattle.arachne_contexts.specs.Out.{Out}
use Rattle.arachne_contexts.specs.declared.held.Held.{Held}
use Rattle.arachne_pool.specs.Grounds.{in_hand}
use Rattle.arachne_pool.specs.Workers.{IsArbiterFor}
use Rattle.arachne_pool.proofs.pool.Pool.leave.Goals as goal

-- nothing is out where no job is in hand
of_none : {C T H : Type 0} (tag : T → ℕ) (P : List (Out C H) → Type 0) (held : Option (Held T H)) → is_some held ≡ false → P (in_hand tag held) → P []
of_none tag P None e p = p
of_none tag P (Some held) e p = cc

-- the seat is idle, as it has no job in hand and the table has rejected nothing
pub returns-clause-worker : goal.returns-clause-worker
returns-clause-worker g c =
    let table : c.dispatch.inside.pool.now.table ≡ c.args.self.now.table = search rules in
    let sits : g.C.Seats.sits c.args.self.now.table c.dispatch.inside.seat = search rules in
    let orders : IsArbiterFor c.args.self.now.cores c.dispatch.inside.state.orders = search rules in
    let out = of_none _ (g.C.Contexts.has c.dispatch.inside.pool.now.table c.dispatch.inside.seat) c.dispatch.inside.held (sym c.is_some.ensures ∙ c.if-is_some.false)
    (c.dispatch.invariant.3 c.if-is_broken.false) in
    let idle = g.met.C.Contexts.is_idle c.dispatch.inside.pool.now.table c.dispatch.inside.seat out in
    ((sits, rw table at idle), orders)
