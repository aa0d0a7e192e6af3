use Rattle.std.proofs.Common.{◌∙◌, List, ℕ, ap, map, refl, subst}
use Rattle.arachne_cli.specs.CommandLine.{asked_by}
use Rattle.arachne_cli.specs.declared.fault.Fault.TheVariants.{Memory, Write}
use Rattle.arachne_cli.specs.declared.fault.FaultLine.{FaultLine}
use Rattle.arachne_cli.specs.Fault.{line_of, line_text}
use Rattle.arachne_cli.specs.Ends.{AppendsFront}
use Rattle.arachne_commands.specs.declared.fault.Fault.TheVariants.{Cli}
use Rattle.arachne_commands.proofs.Causes.{cut_short, memory_is_wanting, writing_may_fail}
use Rattle.arachne_cli.proofs.KnownBytes.{keeps_same}
use Rattle.arachne_cli.proofs.Refusals.{refused_asks_nothing, refused_tells_no_order}
use Rattle.arachne_commands.proofs.program.drive.Goals as goal

pub returns-in-Err-clause-fault : goal.returns-in-Err-clause-fault
returns-in-Err-clause-fault g c = λ status. (
  Cli Memory,
  (
    memory_is_wanting (g.I.Read.remaining c.args.input.now) (asked_by (map g.S.AsStr.text c.args.words.now)),
    (λ differs. keeps_same (g.W.Write.contents c.args.output.now)),
    (λ same. cc),
    (λ differs. absurd (differs refl)),
  ),
  c.refuse_request.ensures.memory status,
)

pub returns-in-Err-clause-words : goal.returns-in-Err-clause-words
returns-in-Err-clause-words g c = λ status taken.
    refused_asks_nothing (map g.S.AsStr.text c.args.words.now) c.in-Err.why _ _ c.in-Err.ensures.refused (c.refuse_request.ensures.told status) taken

pub returns-in-Err-clause-no_order : goal.returns-in-Err-clause-no_order
returns-in-Err-clause-no_order g c = λ status taken index found.
    refused_tells_no_order (map g.S.AsStr.text c.args.words.now) c.in-Err.why _ _ c.in-Err.ensures.refused (c.refuse_request.ensures.told status) taken index found

pub returns-clause-fault : goal.returns-clause-fault
returns-clause-fault g c = λ status. (
  Cli Write,
  (
    writing_may_fail (g.I.Read.remaining c.args.input.now) (asked_by (map g.S.AsStr.text c.args.words.now)) c.in-Ok.request c.in-Ok.ensures.asked,
    (λ differs. absurd (differs refl)),
    (λ same. cut_short (map g.S.AsStr.text c.args.words.now) _ _ _ c.in-Ok.request _ c.in-Ok.ensures.asked c.in-Ok-answer.ensures.answers
        (subst (λ (bytes : List ℕ). AppendsFront (g.W.Write.contents c.args.output.now) (g.W.Write.contents c.finish.new.output) bytes) c.as_str.ensures.value
        c.in-Err-finish.ensures.front)),
    (λ differs. rw (c.in-Ok.ensures.asked) refl),
  ),
  subst (λ (line : FaultLine). AppendsFront (g.E.Write.contents c.args.faults.now) (g.E.Write.contents c.refuse-in-Err-finish.new.faults) (line_text line))
      (c.line-in-Err-finish.ensures ∙ ap line_of c.in-Err-finish.ensures.err) c.refuse-in-Err-finish.ensures.line,
)
