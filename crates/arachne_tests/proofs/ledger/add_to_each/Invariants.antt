use Rattle.arachne_ledger.specs.Views.{IsShareOf}
use Rattle.arachne_tests.proofs.ledger.add_to_each.Given as goal

abbrev pub invariant-loop-ledger : goal.invariant-loop-ledger
invariant-loop-ledger l = IsShareOf l.ledgers l.share × IsShareOf l.ledgers l.other
