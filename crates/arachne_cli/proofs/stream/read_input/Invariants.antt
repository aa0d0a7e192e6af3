use Rattle.std.{proofs.Common.{◌-◌, ◌≤◌, vec_len}, specs.Io.KnownBytes.Consumes}
use Rattle.arachne_cli.proofs.stream.read_input.Given as goal

abbrev pub invariant-loop-chunk : goal.invariant-loop-chunk
invariant-loop-chunk g l = record {
  within : vec_len l.bytes ≤ 33554433;
  read : Consumes (g.R.Read.remaining l.fn.input) (g.R.Read.remaining l.input) l.bytes.items;
}

abbrev pub decreases-loop-chunk : goal.decreases-loop-chunk
decreases-loop-chunk g l = 33554433 - vec_len l.bytes
