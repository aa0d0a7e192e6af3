use Rattle.arachne_core.specs.{ContextTable.world_of, declared.state.Context.Context, Occupancy.Occupancy, World.Thread}
use Rattle.arachne_core.specs.{Run.IsOpening, TableChanges.{IsTable, first_context}}
use Rattle.arachne_core.proofs.TableInvariant.{first_table, first_world}
use Rattle.std.{proofs.Common.{◌≡◌, ℕ, ◌*◌, List, map, sym, ap, ◌∙◌, subst}, specs.List.range_with_len}
use Rattle.arachne_core.proofs.tables.Tables.new.Goals as goal

pub invariant_of-result : goal.invariant_of-result
invariant_of-result c =
    let g : ℕ = c.args.first_generation in
    let m : ℕ = c.args.slots in
    let count : c.from.result * c.from-2.result ≡ c.args.cores * c.args.slots = λ i. c.from.ensures i * c.from-2.ensures i in
    let contexts = c.in_ok-contexts.ensures ∙ ap (λ (n : ℕ). map (first_context m g) (range_with_len 0 n)) count in
    let residents = c.in_ok-residents.ensures ∙ ap (λ (n : ℕ). range_with_len 0 n) count in
    let T : List Context × List Occupancy × List ℕ → Type 0 = λ q. IsTable m q.0 q.1 q.2 in
    subst T (λ i. (sym contexts i, sym c.in_ok-cores.ensures i, sym residents i)) (first_table m c.args.cores g c.requires.cores c.requires.some_slots c.requires.slots c.requires.generation)

pub returns-clause-opening : goal.returns-clause-opening
returns-clause-opening c =
    let g : ℕ = c.args.first_generation in
    let m : ℕ = c.args.slots in
    let count : c.from.result * c.from-2.result ≡ c.args.cores * c.args.slots = λ i. c.from.ensures i * c.from-2.ensures i in
    let contexts = c.in_ok-contexts.ensures ∙ ap (λ (n : ℕ). map (first_context m g) (range_with_len 0 n)) count in
    let T : List Context × List Occupancy × List Thread × List Thread → Type 0 =
    λ q. IsOpening (world_of (record { contexts = q.0; cores = q.1; slots = m; given = q.2; ended = q.3; posts = 0; retires = 0 })) g in
    subst T (λ i. (sym contexts i, sym c.in_ok-cores.ensures i, sym c.new.ensures.items i, sym c.new-2.ensures.items i)) (first_world m c.args.cores g 0 0 c.requires.generation)
