use Rattle.std.proofs.Common.{List, ℕ, subst}
use Rattle.arachne_cli.{specs.Ends.AppendsFront, proofs.KnownBytes.front_kept}
use Rattle.arachne_cli.proofs.ending.finish.Goals as goal

pub returns-in-Err-clause-front : goal.returns-in-Err-clause-front
returns-in-Err-clause-front g c =
    subst (λ (bytes : List ℕ). AppendsFront (g.W.Write.contents c.args.output.now) (g.W.Write.contents c.flush.new.self) bytes) c.as_bytes.ensures.value
    (front_kept _ _ _ _ c.in_ok-write_bytes.ensures.ok c.flush.ensures.bytes)
