use Rattle.std.proofs.Common.{rules}
use Rattle.clap.specs.Words.{found_of}
use Rattle.arachne_cli.proofs.Options.{some_words, no_words}
use Rattle.arachne_cli.proofs.command_line.orders_met.Goals as goal

pub returns-in-Some-clause-orders : goal.returns-in-Some-clause-orders
returns-in-Some-clause-orders c = rw (← some_words (found_of c.args.matches.now) _ c.in-Some.ensures) c.orders_in.ensures.orders

pub returns-in-Some-clause-none : goal.returns-in-Some-clause-none
returns-in-Some-clause-none c = rw (← some_words (found_of c.args.matches.now) _ c.in-Some.ensures) c.orders_in.ensures.none

pub returns-in-None-clause-orders : goal.returns-in-None-clause-orders
returns-in-None-clause-orders c = rw (← no_words (found_of c.args.matches.now) c.in-None.ensures) (search rules)
