use Rattle.std.proofs.lemmas.Result.{err_from_is_err_and}
use Rattle.arachne_cli.proofs.serial.answer.Goals as goal

pub returns-in_err-text-clause-cause : goal.returns-in_err-text-clause-cause
returns-in_err-text-clause-cause g c =
    let p = err_from_is_err_and c.from_residual.result c.from_residual.ensures.1 in rw (p.1, p.2) (c.in_err-text.ensures.cause c.args.request)
