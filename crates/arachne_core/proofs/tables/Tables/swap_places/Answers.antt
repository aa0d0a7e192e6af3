use Rattle.arachne_core.specs.{ContextTable.{ContextTable, world_of}, World.IsContext, ContextTable.no_context}
use Rattle.std.proofs.{Common.{◌<◌, length, sym, subst, arith}, lemmas.List.get_or_read}
use Rattle.arachne_core.proofs.TableInvariant.{swap_invariant, number_in}
use Rattle.arachne_core.proofs.tables.Tables.swap_places.Goals as goal

pub invariant_of-self : goal.invariant_of-self
invariant_of-self c =
    let a = c.self.inside in
    let from_in = subst (λ (t : ContextTable). IsContext (world_of t) c.args.from) (sym c.self.view_is) c.requires.from in
    let to_in = subst (λ (t : ContextTable). IsContext (world_of t) c.args.to) (sym c.self.view_is) c.requires.to in
    swap_invariant a.slots a.contexts.items a.cores.items a.residents.items c.args.from c.args.to c.index-first.result.now c.index-second.result.now c.number-2.result c.number.result
    c.self.invariant (omega (arith, from_in, c.self.invariant.contexts)) (omega (arith, to_in, c.self.invariant.contexts)) c.requires.apart
    (get_or_read a.contexts.items c.args.from c.index-first.result.now (omega (arith, from_in, c.self.invariant.contexts)) c.index-first.ensures no_context)
    (get_or_read a.contexts.items c.args.to c.index-second.result.now (omega (arith, to_in, c.self.invariant.contexts)) c.index-second.ensures no_context)
    c.number-2.ensures c.number.ensures

pub index_mut-requires-3 : goal.index_mut-requires-3
index_mut-requires-3 c =
    let a = c.self.inside in
    let to_in = subst (λ (t : ContextTable). IsContext (world_of t) c.args.to) (sym c.self.view_is) c.requires.to in
    let within : c.args.to < length a.contexts.items = omega (arith, to_in, c.self.invariant.contexts) in
    let there = number_in a.slots a.contexts.items a.cores.items a.residents.items c.args.to c.index-second.result.now c.number.result c.self.invariant within
    (get_or_read a.contexts.items c.args.to c.index-second.result.now within c.index-second.ensures no_context) c.number.ensures in
    omega (arith, there, a.residents.ok.0)

pub index_mut-requires-4 : goal.index_mut-requires-4
index_mut-requires-4 c =
    let a = c.self.inside in
    let from_in = subst (λ (t : ContextTable). IsContext (world_of t) c.args.from) (sym c.self.view_is) c.requires.from in
    let within : c.args.from < length a.contexts.items = omega (arith, from_in, c.self.invariant.contexts) in
    let there = number_in a.slots a.contexts.items a.cores.items a.residents.items c.args.from c.index-first.result.now c.number-2.result c.self.invariant within
    (get_or_read a.contexts.items c.args.from c.index-first.result.now within c.index-first.ensures no_context) c.number-2.ensures in
    omega (arith, there, a.residents.ok.0)
