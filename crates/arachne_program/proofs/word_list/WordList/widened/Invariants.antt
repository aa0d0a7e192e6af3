use Rattle.std.proofs.Common.{◌≡◌, take}
use Rattle.arachne_program.proofs.word_list.WordList.widened.Given as goal

abbrev pub invariant-loop-word : goal.invariant-loop-word
invariant-loop-word l = l.longer.items ≡ take l.word-index l.words
