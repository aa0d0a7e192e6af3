use Rattle.std.proofs.Common.{ap, arith}
use Rattle.arachne_core.{specs.ContextTable.ContextTable, proofs.TableEvents.post_makes}
use Rattle.arachne_core.proofs.tables.Tables.post.Goals as goal

pub returns : goal.returns
returns c =
    let old = c.args.self.now in
    let pushed = c.in_ok-push_given.ensures.ok in (
      c.requires,
      post_makes old c.push_given.new.self c.set_context.new.self c.args.carrier c.args.number c.args.tag c.context-found.result c.context-found.ensures.within c.context-found.ensures.value pushed.0 c.set_context.ensures,
      omega (arith, pushed.1, ap (λ (t : ContextTable). t.posts) c.set_context.ensures),
      omega (arith, ap (λ (t : ContextTable). t.retires) c.set_context.ensures, ap (λ (t : ContextTable). t.retires) pushed.0),
    )
