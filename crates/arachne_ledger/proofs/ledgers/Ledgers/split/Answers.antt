use Rattle.std.proofs.Common.{◌∙◌, ap, sym, arith}
use Rattle.arachne_ledger.proofs.Seated.{split-allowed}
use Rattle.arachne_ledger.proofs.ledgers.Ledgers.split.Goals as goal

pub split_seat-other-requires : goal.split_seat-other-requires
split_seat-other-requires c = (
  ap (λ v. v.table) c.share.view_is ∙ c.requires ∙ sym (ap (λ v. v.table) c.self.view_is),
  omega (arith, c.self.invariant.sized),
  split-allowed _ _ _ _ c.share.invariant _,
)
