use Rattle.std.proofs.Common.{◌≡◌, ℕ, ◌*◌, ◌∙◌, ap, sym, subst, arith, None, replicate, get_or}
use Rattle.arachne_core.specs.declared.layout.TheConstants.{CORE_BITS, LAST_GENERATION}
use Rattle.atomic_table.specs.Table.{opening}
use Rattle.arachne_weights.specs.{Tokens.held, Weight.whole}
use Rattle.arachne_rule.specs.{declared.view.Shape.Shape, Layout.IsShape, Table.Holds, Views.blank}
use Rattle.arachne_rule.proofs.Opening.{opens}
use Rattle.arachne_words.proofs.FirstTable.{are-first}
use Rattle.arachne_words.proofs.table.WordContexts.new.Goals as goal

pub vacant-made-requires : goal.vacant-made-requires
vacant-made-requires g c =
    let shape : Shape = record { cores = c.args.cores; places_per_core = c.args.slots; first = c.args.first_generation; last = LAST_GENERATION } in
    let made = c.in_ok-words.ensures in
    let is : IsShape CORE_BITS shape = record {
      cores = omega (arith, c.requires.cores);
      some = omega (arith, c.requires.some_slots);
      slots = omega (arith, c.requires.slots);
      last = omega arith;
      first = omega (arith, c.requires.generation);
    } in
    let words = are-first c.args.cores c.args.slots c.args.first_generation LAST_GENERATION c.as_slice.result.now c.requires.slots (c.as_slice.ensures.len ∙ made.length)
    (λ i h. ap (λ xs. get_or xs i 0) c.as_slice.ensures.value ∙ made.words i h) in
    let count : c.args.cores * c.args.slots ≡ c.from.result * c.from-2.result = λ i. sym c.from.ensures i * sym c.from-2.ensures i in
    subst (λ (n : ℕ). Holds g.T.Tagged.tag_of CORE_BITS shape (opening c.as_slice.result.now (replicate n None) (held whole blank))) count
    (opens g.T.Tagged.tag_of CORE_BITS shape c.as_slice.result.now is words)
