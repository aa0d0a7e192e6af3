use Rattle.std.proofs.Common.{◌<◌, ◌∙◌, ap, sym, subst, arith}
use Rattle.arachne_ledger.specs.Seats.{IsSeated}
use Rattle.arachne_ledger.proofs.Seated.{long, add-allowed, seated-added}
use Rattle.arachne_ledger.proofs.ledgers.Ledgers.add.Goals as goal

pub fetch_add-requires : goal.fetch_add-requires
fetch_add-requires c =
    let same = ap (λ v. v.table) c.share.view_is ∙ c.requires.own ∙ sym (ap (λ v. v.table) c.self.view_is) in
    let inside : c.args.ledger < c.self.inside.count = subst (λ n. c.args.ledger < n) (sym (ap (λ v. v.count) c.self.view_is)) c.requires.ledger in (
      same,
      omega (arith, inside, c.self.invariant.sized, c.ledger_word.ensures),
      add-allowed _ _ _ c.self.invariant _ _ _ same c.share.invariant _ _ c.args.ledger _ c.ledger_word.ensures inside,
    )

pub invariant_of-share : goal.invariant_of-share
invariant_of-share c = let told = c.fetch_add.ensures in
    subst (λ t. IsSeated t c.share.inside.weight c.fetch_add.new.seat.me) (sym told.0)
    (seated-added _ _ _ _ c.share.invariant c.args.ledger c.args.amount (told.2 c.args.ledger c.ledger_word.ensures))

pub returns-clause-counted : goal.returns-clause-counted
returns-clause-counted c =
    let same = ap (λ v. v.table) c.share.view_is ∙ c.requires.own ∙ sym (ap (λ v. v.table) c.self.view_is) in
    long _ _ _ c.self.invariant _ _ _ (c.fetch_add.ensures.0 ∙ same) (invariant_of-share c) ∙ c.self.invariant.keyed ∙ ap (λ v. v.count) c.self.view_is
