use Rattle.std.proofs.Common.{◌∙◌, ap, sym, arith}
use Rattle.arachne_ledger.proofs.Seated.{join-allowed, seated-joined}
use Rattle.arachne_ledger.proofs.ledgers.Ledgers.join_shares.Goals as goal

pub join_seat-requires : goal.join_seat-requires
join_seat-requires c = (
  ap (λ v. v.table) c.share.view_is ∙ c.requires.share ∙ sym (ap (λ v. v.table) c.self.view_is),
  ap (λ v. v.table) c.other.view_is ∙ c.requires.other ∙ sym (ap (λ v. v.table) c.self.view_is),
  ap (λ m. m.1) c.other.invariant.mine,
  omega (arith, c.self.invariant.sized),
  join-allowed _ _ _ _ _ _ _ c.share.invariant c.other.invariant _ _,
)

pub invariant_of-result : goal.invariant_of-result
invariant_of-result c = let told = c.join_seat.ensures in
    let same = ap (λ v. v.table) c.other.view_is ∙ c.requires.other ∙ sym c.requires.share ∙ sym (ap (λ v. v.table) c.share.view_is) in
    rw (c.join.ensures, told.0) (seated-joined _ _ _ _ _ _ _ c.share.invariant c.other.invariant same told.2)
