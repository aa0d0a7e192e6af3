use Rattle.std.proofs.Common.{◌<◌, ◌^◌, arith, rules}
use Rattle.std.proofs.lemmas.Nat.Bits.{bit_at-trailing_zeros}
use Rattle.std.specs.Int.{w64}
use Rattle.arachne_workers.proofs.queue.RunQueue.next_index.Goals as goal

-- as many zeros stand below the lowest bit as its index says
pub returns-clause-lowest : goal.returns-clause-lowest
returns-clause-lowest c =
    let n = c.args.self.now.scan in
    let some : 0 < n = omega (arith, c.if-self-eq0.false) in
    let small : n < 2 ^ 64 = search rules in
    let t = bit_at-trailing_zeros w64 n some small in record { member = t.1; lowest = t.2 }
