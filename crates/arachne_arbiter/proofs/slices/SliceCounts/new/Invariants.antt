use Rattle.std.proofs.Common.{◌≡◌, vec_len}
use Rattle.arachne_arbiter.proofs.slices.SliceCounts.new.Given as goal

abbrev pub invariant-loop : goal.invariant-loop
invariant-loop l = vec_len l.counts ≡ l.counter
