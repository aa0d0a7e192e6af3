use Rattle.arachne_core.specs.{ContextTable.{ContextTable, world_of}, World.IsPlace}
use Rattle.std.proofs.Common.{ℕ, sym, ap, ◌∙◌, subst}
use Rattle.arachne_core.proofs.world.World.context_at.Goals as goal

pub returns-clause-at : goal.returns-clause-at
returns-clause-at c =
    let k = c.self.inside.tables in
    let f = c.self.invariant.filled c.args.place (subst (λ (t : ContextTable). IsPlace (world_of t) c.args.place) (sym c.self.view_is) c.requires) in
    ap (λ (t : ContextTable). (world_of t).at c.resident.result) (sym c.self.view_is) ∙ ap (λ (x : ℕ). (world_of k).at x) (c.resident.ensures f.0 f.1 f.2) ∙ f.2
