use Rattle.std.proofs.Common.{sym, ◌∙◌}
use Rattle.clap.specs.Words.{found_of}
use Rattle.arachne_cli.proofs.CommandLines.{flag_by_text, flag_by_none}
use Rattle.arachne_cli.proofs.command_line.is_flag_set.Goals as goal

pub returns-in-Some : goal.returns-in-Some
returns-in-Some c = c.eq.ensures ∙ sym (flag_by_text (found_of c.args.matches.now) c.args.flag.now c.in-Some.text.now c.in-Some.ensures)

pub returns-in-None : goal.returns-in-None
returns-in-None c = sym (flag_by_none (found_of c.args.matches.now) c.args.flag.now c.in-None.ensures)
