use Rattle.clap.specs.Words.{found_of}
use Rattle.arachne_cli.proofs.Options.{number_read, number_refused, number_absent}
use Rattle.arachne_cli.proofs.command_line.number_in.Goals as goal

pub returns-in_default : goal.returns-in_default
returns-in_default c = number_absent (found_of c.args.matches.now) c.args.option.now c.in_default.ensures

pub returns-in-Ok : goal.returns-in-Ok
returns-in-Ok c = number_read (found_of c.args.matches.now) c.args.option.now c.in-Some.text.now c.in-Ok.number c.in-Some.ensures c.in-Ok.ensures.value.0

pub returns-in-Err : goal.returns-in-Err
returns-in-Err c = number_refused (found_of c.args.matches.now) c.args.option.now c.in-Some.text.now c.in-Some.ensures c.in-Err.ensures.value.0
