use Rattle.std.proofs.{Common.{ℕ, ◌+◌, ◌*◌, ◌/◌, ◌^◌, ap, ◌∙◌, arith}, lemmas.Nat.Bits.and_high_mask}
use Rattle.arachne_core.specs.{declared.layout.TheConstants.CORE_BITS, Marked.{Marked, marked_of}}
use Rattle.arachne_core.proofs.MarkWords.{marking}
use Rattle.arachne_core.proofs.mark_word.MarkWord.with_mark.Goals as goal

pub returns : goal.returns
returns c =
    let w = c.self.inside.word in
    ap (λ (n : ℕ). marked_of CORE_BITS (n + c.code.result)) (and_high_mask 64 3 (omega arith) w (omega arith))
    ∙ ap (λ (n : ℕ). marked_of CORE_BITS (w / 2 ^ 3 * 2 ^ 3 + n)) c.code.ensures ∙ marking CORE_BITS w c.args.mark ∙ ap (λ (m : Marked). record m { mark = c.args.mark }) c.self.view_is
