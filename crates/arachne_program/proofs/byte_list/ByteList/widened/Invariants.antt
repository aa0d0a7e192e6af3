use Rattle.std.proofs.Common.{◌≡◌, take}
use Rattle.arachne_program.proofs.byte_list.ByteList.widened.Given as goal

abbrev pub invariant-loop-byte : goal.invariant-loop-byte
invariant-loop-byte l = l.longer.items ≡ take l.byte-index l.bytes
