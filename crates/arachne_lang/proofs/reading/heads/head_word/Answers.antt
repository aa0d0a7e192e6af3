use Rattle.std.proofs.Common.{arith}
use Rattle.arachne_lang.proofs.WordSteps.{form_in_e}
use Rattle.arachne_lang.proofs.reading.heads.head_word.Goals as goal

pub returns-in-101 : goal.returns-in-101
returns-in-101 c = rw (form_in_e c.args.text.now c.in-101.len_at_least (omega arith)) c.ending-in-101.ensures
