use Rattle.std.proofs.{Common.{◌≡◌, ◌∙◌, ◌++◌, [], List, ℕ, subst, ap, rules}, lemmas.Fmt.contents_after_writes}
use Rattle.arachne_cli.{specs.{Ends.AppendsFront, Fault.line_text}, proofs.KnownBytes.front_either}
use Rattle.arachne_cli.proofs.ending.refuse.Goals as goal

pub returns-in-Ok-clause-line : goal.returns-in-Ok-clause-line
returns-in-Ok-clause-line g c =
    let wrote = contents_after_writes _ (λ line. line.bytes) (λ line bytes later written. written) _ _ _ c.in-Ok.ensures.writes in
    let empty : c.new-text.result.bytes ≡ [] = search rules in
    let line : c.as_bytes.result.now ≡ line_text c.args.line =
    c.as_bytes.ensures.value ∙ c.deref.ensures.0 ∙ wrote ∙ ap (λ (front : List ℕ). front ++ line_text c.args.line) empty in
    subst (λ (bytes : List ℕ). AppendsFront (g.W.Write.contents c.args.faults.now) (g.W.Write.contents c.write_bytes.new.writer) bytes) line
    (front_either c.write_bytes.result _ _ _ c.write_bytes.ensures.ok c.write_bytes.ensures.front)
