use Rattle.std.{proofs.Common.{arith, sym, subst, List, ℕ}, specs.Io.KnownBytes.Appends}
use Rattle.arachne_cli.proofs.KnownBytes.{appends_both, take_rest}
use Rattle.arachne_cli.proofs.stream.write_bytes.Goals as goal

pub loop-written-preserved : goal.loop-written-preserved
loop-written-preserved g c = record {
  within = omega (arith, c.in-Ok.ensures.bound);
  front = subst (λ (bytes : List ℕ). Appends (g.W.Write.contents c.args.writer.now) (g.W.Write.contents c.write.new.self) bytes)
      (sym (take_rest c.args.bytes.now c.loop-written.written c.in-Ok.count))
      (appends_both _ _ _ _ _ c.loop-written.invariant.front c.in-Ok.ensures.bytes);
}
