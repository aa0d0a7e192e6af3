-- Words of which the letters are known.
use Rattle.std.proofs.Common.{◌≡◌, ℕ, suc, ◌-◌, ◌≤◌, List, [], ◌∷◌, length, get_or, take, drop, refl, arith, codes}
use Rattle.std.proofs.Math.Seq.{take-length}
use Rattle.arachne_program.specs.declared.program.Operation.TheVariants as operation
use Rattle.arachne_program.specs.declared.program.Reduction.TheVariants as reduction
use Rattle.arachne_lang.specs.declared.reading.heads.Head.TheVariants as head
use Rattle.arachne_lang.specs.Reading.{words_at, ending, form_words, words_of_sweeps}

pub form_in_e : (bytes : List ℕ) → 1 ≤ length bytes → get_or bytes 0 0 ≡ 101
    → words_at form_words bytes ≡ words_at (ending (codes "q ") (head.Binary operation.Eq)) (take (length bytes - 1) (drop 1 bytes))
unfolding form_words
form_in_e [] le e = absurd (omega arith)
form_in_e (byte ∷ bytes) le e = let n : suc (length bytes) - 1 ≡ length bytes = omega arith in rw (e, n, take-length bytes) refl

pub sweep_in_x : (bytes : List ℕ) → 1 ≤ length bytes → get_or bytes 0 0 ≡ 120
    → words_at words_of_sweeps bytes ≡ words_at (ending (codes "or ") (head.Sweep reduction.Parity)) (take (length bytes - 1) (drop 1 bytes))
unfolding words_of_sweeps
sweep_in_x [] le e = absurd (omega arith)
sweep_in_x (byte ∷ bytes) le e = let n : suc (length bytes) - 1 ≡ length bytes = omega arith in rw (e, n, take-length bytes) refl
