use Rattle.std.proofs.Common.{ap, ◌∙◌, arith}
use Rattle.arachne_core.specs.{declared.state.Context.Context, ContextTable.ContextTable, World.taken}
use Rattle.arachne_core.proofs.TableEvents.{state_makes}
use Rattle.arachne_core.proofs.tables.Tables.take.Goals as goal

pub returns : goal.returns
returns c =
    let old = c.args.self.now in (
      state_makes old c.set_context.new.self c.args.number c.context-found.result c.taken-state.result _ c.context-found.ensures.within c.context-found.ensures.value
          (c.taken-state.ensures ∙ ap (λ (e : Context). taken c.args.carrier e.state) c.context-found.ensures.value) c.set_context.ensures,
      omega (arith, ap (λ (t : ContextTable). t.posts) c.set_context.ensures),
      omega (arith, ap (λ (t : ContextTable). t.retires) c.set_context.ensures),
    )
