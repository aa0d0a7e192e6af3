use Rattle.std.proofs.Common.{map, ap, refl}
use Rattle.arachne_cli.{specs.CommandLine.{asked_serially, serial_in}, proofs.Causes.memory_is_wanting}
use Rattle.arachne_cli.proofs.{KnownBytes.keeps_same, Refusals.refused_asks_nothing}
use Rattle.arachne_cli.specs.declared.fault.Fault.TheVariants as fault
use Rattle.arachne_cli.proofs.serial.drive.Goals as goal

pub returns-in-Err-clause-fault : goal.returns-in-Err-clause-fault
returns-in-Err-clause-fault g c = λ status. (
  fault.Memory,
  (
    memory_is_wanting (g.I.Read.remaining c.args.input.now) (asked_serially (map g.S.AsStr.text c.args.words.now)),
    (λ differs. keeps_same (g.W.Write.contents c.args.output.now)),
    (λ same. cc),
    (λ differs. absurd (differs refl)),
  ),
  c.refuse_request.ensures.memory status,
)

pub returns-in-Err-clause-words : goal.returns-in-Err-clause-words
returns-in-Err-clause-words g c = λ status taken.
    ap serial_in (refused_asks_nothing (map g.S.AsStr.text c.args.words.now) c.in-Err.why _ _ c.in-Err.ensures.refused (c.refuse_request.ensures.told status) taken)
