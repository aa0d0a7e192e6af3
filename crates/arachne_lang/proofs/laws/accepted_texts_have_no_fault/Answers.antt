use Rattle.std.proofs.Common.{refl}
use Rattle.arachne_lang.{specs.Spelling.text_of, proofs.FirstFault.accepted_has_no_fault}
use Rattle.arachne_lang.proofs.laws.accepted_texts_have_no_fault.Goals as goal

pub returns : goal.returns
returns c program fault accepted has = accepted_has_no_fault (text_of program) program accepted refl fault has
