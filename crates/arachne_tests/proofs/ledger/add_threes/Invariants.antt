use Rattle.arachne_ledger.specs.Views.{IsShareOf}
use Rattle.arachne_tests.proofs.ledger.add_threes.Given as goal

abbrev pub invariant-loop : goal.invariant-loop
invariant-loop l = IsShareOf l.ledgers l.share
