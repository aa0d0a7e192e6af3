use Rattle.std.proofs.Common.{◌≤◌, ◌+◌, ◌++◌, length, take, arith, length-take}
use Rattle.arachne_cli.proofs.KnownBytes.{consumes_both, length_read}
use Rattle.arachne_cli.proofs.stream.read_input.Goals as goal

pub returns-in_default-extend_from_slice-clause-no_more : goal.returns-in_default-extend_from_slice-clause-no_more
returns-in_default-extend_from_slice-clause-no_more g c =
    let room : length c.loop-chunk.bytes.items + length c.read.new.buf ≤ 33554433 =
    omega (arith, c.read.auto.buf, length-take c.min-room.result c.loop-chunk.chunk, c.loop-chunk.bytes.ok.0) in (
      c.loop-chunk.bytes.items ++ take c.in-Ok.count c.read.new.buf,
      consumes_both _ _ _ _ _ c.loop-chunk.invariant.read c.in-Ok.ensures.bytes.0,
      length_read _ _ _ _ room,
    )
