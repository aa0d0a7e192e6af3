use Rattle.std.proofs.Common.{◌++◌, [], ◌∷◌, ℕ, List, ap, sym, ◌∙◌, append_assoc, add-one, arith, append-nil}
use Rattle.arachne_program.specs.Effects.{tabulated}
use Rattle.arachne_machine.proofs.tables.push_zeros.Goals as goal

pub loop-init : goal.loop-init
loop-init c = record {
  items = c.try_reserve.ensures.items ∙ sym (append-nil c.args.numbers.now.items);
  room = omega (arith, c.in_ok-try_reserve.ensures.ok);
}

pub loop-preserved : goal.loop-preserved
loop-preserved c =
    let old : List ℕ = c.args.numbers.now.items in
    let k : ℕ = c.loop.counter in
    record {
      items = c.push_reserved.ensures.items ∙ ap (λ (l : List ℕ). l ++ 0 ∷ []) c.loop.invariant.items ∙ append_assoc old (tabulated k (λ _. 0)) (0 ∷ [])
          ∙ ap (λ (n : ℕ). old ++ tabulated n (λ _. 0)) (sym (add-one k));
      room = omega (arith, c.loop.invariant.room, c.push_reserved.ensures.len, c.push_reserved.ensures.capacity);
    }
