use Rattle.std.proofs.Common.{ap, arith}
use Rattle.arachne_core.{specs.ContextTable.ContextTable, proofs.TableEvents.claim_makes}
use Rattle.arachne_core.proofs.tables.Tables.claim.Goals as goal

pub returns : goal.returns
returns c =
    let old = c.args.self.now in (
      claim_makes old c.set_occupied.new.self c.set_context.new.self c.args.carrier c.args.number c.context-found.result c.context-found.ensures.within c.context-found.ensures.value c.context-found.ensures.place c.set_occupied.ensures c.set_context.ensures,
      omega (arith, ap (λ (t : ContextTable). t.posts) c.set_context.ensures, ap (λ (t : ContextTable). t.posts) c.set_occupied.ensures),
      omega (arith, ap (λ (t : ContextTable). t.retires) c.set_context.ensures, ap (λ (t : ContextTable). t.retires) c.set_occupied.ensures),
    )
