use Rattle.std.proofs.{Common.arith, lemmas.Nat.Bits.bit_at-trailing_zeros}
use Rattle.std.specs.Int.{w64}
use Rattle.arachne_exec.proofs.turns.lowest_index.Goals as goal

pub returns : goal.returns
returns c = let it = bit_at-trailing_zeros w64 c.args.word c.requires (omega arith) in record { low = it.0; there = it.1; lowest = it.2 }
