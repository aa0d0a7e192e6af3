use Rattle.std.proofs.Common.{◌≡◌, ◌≤◌, take}
use Rattle.arachne_program.proofs.word_list.WordList.of_bytes.Given as goal

abbrev pub invariant-loop-byte : goal.invariant-loop-byte
invariant-loop-byte l = (l.list ≡ take l.byte-index l.bytes) × (l.byte-index ≤ 6)
