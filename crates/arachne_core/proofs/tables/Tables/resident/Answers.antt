use Rattle.std.proofs.Common.{◌<◌, length, sym, subst, arith, ap, ◌∙◌}
use Rattle.arachne_core.specs.{World.IsContext, ContextTable.{ContextTable, context, world_of}}
use Rattle.arachne_core.proofs.TableInvariant.{resident_at}
use Rattle.arachne_core.proofs.tables.Tables.resident.Goals as goal

pub returns : goal.returns
returns c x x_in there =
    let a = c.self.inside in
    let inside = subst (λ (t : ContextTable). IsContext (world_of t) x) (sym c.self.view_is) x_in in
    let within : x < length a.contexts.items = omega (arith, inside, c.self.invariant.contexts) in
    resident_at a.slots a.contexts.items a.cores.items a.residents.items x c.args.place c.number.result c.index.result.now c.self.invariant within
    (ap (λ (t : ContextTable). (context t x).place) c.self.view_is ∙ there) c.number.ensures c.index.ensures
