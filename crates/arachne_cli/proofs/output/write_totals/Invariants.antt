use Rattle.std.proofs.Common.{◌≡◌, ◌++◌, take, string_bytes}
use Rattle.arachne_cli.specs.Output.{ledger_lines}
use Rattle.arachne_cli.proofs.output.write_totals.Given as goal

-- the lines of the ledgers so far are written
abbrev pub invariant-loop-ledger : goal.invariant-loop-ledger
invariant-loop-ledger l = string_bytes l.text ≡ string_bytes l.initial.text ++ ledger_lines 0 (take l.ledger-counter l.totals)
