use Rattle.arachne_core.proofs.MarkWords.{marked_of-mark_word}
use Rattle.arachne_core.proofs.laws.mark_words_read_as_packed.Goals as goal

pub returns : goal.returns
returns c = marked_of-mark_word
