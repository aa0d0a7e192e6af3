use Rattle.std.proofs.Common.{◌≡◌, ◌<◌, ◌≤◌, ◌+◌, ℕ, length, Some, None, set, sym, ap, ◌∙◌, subst, rules, arith}
use Rattle.std.proofs.lemmas.List.{length-set, get_or-set_other, get_or_default}
use Rattle.arachne_core.specs.{Marked.Marked, World.id_of, ContextTable.world_of}
use Rattle.arachne_locked.{specs.AtHome.{TableView, value_at}, proofs.Closed.{rest_with, rest_without}}
use Rattle.arachne_locked.proofs.homes.Homes.close.Goals.{in-Some, in_default-take}
use Rattle.arachne_locked.proofs.homes.Homes.close.Goals as goal

pub loop-context-preserved : goal.loop-context-preserved
loop-context-preserved g c =
    let n = c.loop-context.context in
    let xs = c.loop-context.values.items in
    let w = world_of c.args.self.table in
    let vs = c.args.self.values in
    let left : (x : ℕ) → n + 1 ≤ x → value_at (set xs n c.take.new.self) x ≡ value_at vs x =
    λ x h. get_or-set_other xs n x c.take.new.self None (λ e. absurd (omega (arith, e, h))) ∙ c.loop-context.invariant.left x (omega (arith, h)) in
    let within : n < length xs = search rules in
    let sized = length-set xs n c.take.new.self ∙ c.loop-context.invariant.sized in
    elim c.match-take.branch [
      | in-Some t ↦
          let here : value_at vs n ≡ Some t.in-Some.value = sym (c.loop-context.invariant.left n (omega arith)) ∙ get_or_default xs n None c.index_mut.result.now within ∙ (search rules) in
          let generation : t.generation-generation.result ≡ w.generation n =
          t.generation-generation.ensures.value ∙ ap (λ (m : Marked). m.generation) t.mark.ensures ∙ ap (λ (v : TableView _). (world_of v.table).generation n) c.self.view_is in
          let id : record { context = n; generation = t.generation-generation.result } ≡ id_of w n = (λ i. record { context = n; generation = generation i }) in
          let pushed = rw t.unwrap.ensures at t.push.ensures.items in
          record {
            so_far = rest_with w vs n c.loop-context.rest.items c.match-take.rest.items (record { context = n; generation = t.generation-generation.result }) t.in-Some.value
                c.loop-context.invariant.so_far here id (ap (λ v. v.items) t.rest-is ∙ pushed);
            left = left;
            sized = sized;
            counted = search rules;
            room = search rules;
          }
      | in_default-take t ↦
          let here : value_at vs n ≡ None = sym (c.loop-context.invariant.left n (omega arith)) ∙ get_or_default xs n None c.index_mut.result.now within ∙ (search rules) in
          let same = t.rest-is in
          record {
            so_far = rest_without w vs n c.loop-context.rest.items c.match-take.rest.items c.loop-context.invariant.so_far here (ap (λ v. v.items) t.rest-is);
            left = left;
            sized = sized;
            counted = (let k = ap (λ v. v.len) t.rest-is in let h = c.loop-context.invariant.counted in omega (arith, k, h));
            room = subst (λ v. length vs ≤ Rattle.std.specs.Vec.vec_capacity v) (sym t.rest-is) c.loop-context.invariant.room;
          }
    ]
