use Rattle.std.proofs.Common.{true, ap, arith}
use Rattle.arachne_core.specs.{declared.state.State.TheVariants.Claimed, ContextTable.ContextTable}
use Rattle.arachne_core.proofs.TableEvents.{alone_makes}
use Rattle.arachne_core.proofs.tables.Tables.claim_alone.Goals as goal

pub returns : goal.returns
returns c =
    let old = c.args.self.now in (
      alone_makes old c.set_occupied.new.self c.set_exclusive.new.self c.set_context.new.self c.args.carrier c.args.number c.context-found.result (Claimed c.args.carrier) true
          c.context-found.ensures.within c.context-found.ensures.value c.context-found.ensures.place c.set_occupied.ensures c.set_exclusive.ensures c.set_context.ensures,
      omega (arith, ap (λ (t : ContextTable). t.posts) c.set_context.ensures, ap (λ (t : ContextTable). t.posts) c.set_exclusive.ensures, ap (λ (t : ContextTable). t.posts) c.set_occupied.ensures),
      omega (arith, ap (λ (t : ContextTable). t.retires) c.set_context.ensures, ap (λ (t : ContextTable). t.retires) c.set_exclusive.ensures, ap (λ (t : ContextTable). t.retires) c.set_occupied.ensures),
    )
