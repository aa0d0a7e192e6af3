use Rattle.std.proofs.Common.{◌≡◌, ℕ, vec_len, slice_index}
use Rattle.arachne_ledger.specs.Balance.{word_of}
use Rattle.arachne_ledger.proofs.ledgers.zeros.Given as goal

abbrev pub invariant-loop : goal.invariant-loop
invariant-loop l = (vec_len l.zeros ≡ word_of l.counter) × ((i : ℕ) → slice_index l.zeros.items i ≡ 0)
