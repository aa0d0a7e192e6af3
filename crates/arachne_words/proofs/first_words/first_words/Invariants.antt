use Rattle.std.proofs.Common.{◌≡◌, ◌<◌, ℕ, vec_len, slice_index}
use Rattle.arachne_words.specs.FirstWords.{first_word}
use Rattle.arachne_words.proofs.first_words.first_words.Given as goal

abbrev pub invariant-loop-index : goal.invariant-loop-index
invariant-loop-index l = record {
  counted : vec_len l.words ≡ l.index;
  each : (i : ℕ) → i < l.index → slice_index l.words.items i ≡ first_word l.fn.slots l.contexts l.fn.generation i;
}
