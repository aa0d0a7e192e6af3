use Rattle.std.proofs.Common.{length}
use Rattle.arachne_lang.proofs.reading.words.+word.Given as goal

abbrev pub decreases-word : goal.decreases-word
decreases-word l = length l.word.now
