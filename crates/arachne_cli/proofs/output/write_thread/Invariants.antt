use Rattle.std.proofs.Common.{◌≡◌, ◌++◌, take, string_bytes, map, decimal}
use Rattle.arachne_lang.specs.Spelling.{after_spaces}
use Rattle.arachne_cli.proofs.output.write_thread.Given as goal

-- the counts so far are written
abbrev pub invariant-loop-hold : goal.invariant-loop-hold
invariant-loop-hold l = string_bytes l.text ≡ string_bytes l.initial.text ++ after_spaces (map decimal (take l.hold-index l.holds))
