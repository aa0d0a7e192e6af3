use Rattle.std.proofs.{Common.{◌/◌, ◌^◌, refl, sym, ap, ◌∙◌, arith}, lemmas.{Nat.and_mask, Bool.false≢true}}
use Rattle.std.specs.Int.RustNames.{count_ones}
use Rattle.arachne_core.{specs.declared.layout.TheConstants.MASK_BITS, proofs.OccupancyWords.{counted, counts}}
use Rattle.arachne_core.proofs.occ_word.OccWord.from_word.Goals as goal

pub invariant_of-result : goal.invariant_of-result
invariant_of-result c =
    let w = c.args.word in
    counted w (omega arith) (ap count_ones (sym (and_mask w MASK_BITS)) ∙ sym c.from.ensures ∙ c.if-from-word.true ∙ and_mask (w / 2 ^ MASK_BITS) 6)

pub returns-then-from-word-clause-some : goal.returns-then-from-word-clause-some
returns-then-from-word-clause-some c =
    let w = c.args.word in
    (λ _. counted w (omega arith) (ap count_ones (sym (and_mask w MASK_BITS)) ∙ sym c.from.ensures ∙ c.if-from-word.true ∙ and_mask (w / 2 ^ MASK_BITS) 6), λ _. refl)

pub returns-else-from-word-clause-some : goal.returns-else-from-word-clause-some
returns-else-from-word-clause-some c =
    let w = c.args.word in
    (λ e. absurd (false≢true e), λ h. absurd (c.if-from-word.false (c.from.ensures ∙ ap count_ones (and_mask w MASK_BITS) ∙ counts w h ∙ sym (and_mask (w / 2 ^ MASK_BITS) 6))))
