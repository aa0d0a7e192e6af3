use Rattle.arachne_lang.proofs.NamesDiffer.{names_differ as differ}
use Rattle.arachne_lang.proofs.laws.names_differ.Goals as goal

pub returns : goal.returns
returns c program = differ program
