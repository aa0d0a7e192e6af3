use Rattle.std.proofs.Common.{◌≡◌, ◌≤◌, ◌%◌, ◌^◌, map, take, vec_len}
use Rattle.std.specs.Vec.{vec_capacity}
use Rattle.arachne_ledger.proofs.ledgers.Ledgers.close.Given as goal

abbrev pub invariant-loop-ledger : goal.invariant-loop-ledger
invariant-loop-ledger l = record {
  so_far : l.totals.items ≡ map (λ sum. sum % 2 ^ 64) (take l.ledger l.fn.share.sums);
  counted : vec_len l.totals ≡ l.ledger;
  room : l.count ≤ vec_capacity l.totals;
}
