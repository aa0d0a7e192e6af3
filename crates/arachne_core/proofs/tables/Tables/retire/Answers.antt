use Rattle.std.proofs.Common.{ap, arith}
use Rattle.arachne_core.{specs.ContextTable.ContextTable, proofs.TableEvents.retire_makes}
use Rattle.arachne_core.proofs.tables.Tables.retire.Goals as goal

pub returns : goal.returns
returns c =
    let old = c.args.self.now in
    let pushed = c.in_ok-push_ended.ensures.ok in (
      c.requires,
      retire_makes old c.push_ended.new.self c.set_context.new.self c.args.carrier c.args.number c.tag.result c.context-found.result c.retired.result c.context-found.ensures.within c.context-found.ensures.value c.tag.ensures
          pushed.0 c.retired.ensures.place c.retired.ensures.state c.retired.ensures.generation c.set_context.ensures,
      omega (arith, ap (λ (t : ContextTable). t.posts) c.set_context.ensures, ap (λ (t : ContextTable). t.posts) pushed.0),
      omega (arith, pushed.1, ap (λ (t : ContextTable). t.retires) c.set_context.ensures),
    )
