use Rattle.std.proofs.Common.{◌≡◌, ℕ, vec_len, slice_index}
use Rattle.arachne_lock.specs.Views.{word_of}
use Rattle.arachne_lock.proofs.locks.first_words.Given as goal

abbrev pub invariant-loop : goal.invariant-loop
invariant-loop l = (vec_len l.words ≡ word_of l.counter) × ((i : ℕ) → slice_index l.words.items i ≡ 0)
