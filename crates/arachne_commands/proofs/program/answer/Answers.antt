use Rattle.std.proofs.lemmas.Result.{err_from_is_err_and}
use Rattle.arachne_cli.specs.declared.command_line.SerialRequest.TheVariants.{Check}
use Rattle.arachne_commands.proofs.program.answer.Goals as goal

pub returns-in_err-text-in-Run-clause-cause : goal.returns-in_err-text-in-Run-clause-cause
returns-in_err-text-in-Run-clause-cause g c =
    let p = err_from_is_err_and c.from_residual.result c.from_residual.ensures.1 in
    let cause = c.in_err-text-in-Run.ensures.cause Check in
    rw (p.1, p.2, c.in-Run.is) ((λ same. cause.0 (cc)), cause.1)
