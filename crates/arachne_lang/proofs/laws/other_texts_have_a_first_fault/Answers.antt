use Rattle.arachne_lang.proofs.FirstFault.{judged_each}
use Rattle.arachne_lang.proofs.laws.other_texts_have_a_first_fault.Goals as goal

pub returns : goal.returns
returns c bytes = judged_each bytes
