use Rattle.arachne_core.proofs.MarkWords.{is_mark_word}
use Rattle.arachne_core.proofs.laws.mark_words_pack_as_read.Goals as goal

pub returns : goal.returns
returns c = is_mark_word
