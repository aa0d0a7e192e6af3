use Rattle.std.proofs.{Common.{ℕ, ◌/◌, ◌^◌, ap, ◌∙◌}, lemmas.Nat.and_mask}
use Rattle.arachne_core.{specs.Marked.mark_named, proofs.OccupancyWords.bit_test}
use Rattle.arachne_core.proofs.mark_word.MarkWord.from_first.Goals as goal

pub returns-then-generation-le-LAST_GENERATION-clause-value : goal.returns-then-generation-le-LAST_GENERATION-clause-value
returns-then-generation-le-LAST_GENERATION-clause-value c =
    let w : ℕ = c.args.word in
    let mark = c.from_code.ensures ∙ ap mark_named (and_mask w 3) in
    let alone = bit_test w 3 in
    let core = and_mask (w / 2 ^ 10) 4 in
    let index = and_mask (w / 2 ^ 4) 6 in
    c.new.ensures ∙ (λ i. record { mark = mark i; alone = alone i; place = record { core = core i; index = index i }; generation = w / 2 ^ 14 })
