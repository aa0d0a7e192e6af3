use Rattle.std.proofs.Common.{◌≡◌, ◌<◌, ℕ, vec_len, slice_index}
use Rattle.arachne_exec.specs.First.{first_word}
use Rattle.arachne_exec.proofs.layout.first_words.Given as goal

abbrev pub invariant-loop-index : goal.invariant-loop-index
invariant-loop-index l = record {
  counted : vec_len l.words ≡ l.index;
  each : (i : ℕ) → i < l.index → slice_index l.words.items i ≡ first_word i;
}
