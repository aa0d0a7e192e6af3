use Rattle.std.proofs.Common.{◌<◌, ◌∙◌, Some, ap, sym, subst, arith}
use Rattle.arachne_ledger.specs.{Seats.IsSeated, Views.ShareView}
use Rattle.arachne_ledger.proofs.Seated.{read-allowed, seated-told}
use Rattle.arachne_ledger.proofs.ledgers.Ledgers.read.Goals as goal

pub load-requires : goal.load-requires
load-requires c =
    let same = ap (λ v. v.table) c.share.view_is ∙ c.requires.own ∙ sym (ap (λ v. v.table) c.self.view_is) in
    let inside : c.args.ledger < c.self.inside.count = subst (λ n. c.args.ledger < n) (sym (ap (λ v. v.count) c.self.view_is)) c.requires.ledger in (
      same,
      omega (arith, inside, c.self.invariant.sized, c.ledger_word.ensures),
      read-allowed _ _ _ c.self.invariant _ _ _ same c.share.invariant _ _ c.args.ledger c.ledger_word.ensures,
    )

pub invariant_of-share : goal.invariant_of-share
invariant_of-share c = let told = c.load.ensures in
    subst (λ t. IsSeated t c.share.inside.weight c.load.new.seat.me) (sym told.0)
    (seated-told _ _ _ _ c.share.invariant c.args.ledger c.load.result (told.2 c.args.ledger c.ledger_word.ensures).0)

pub returns-clause-found : goal.returns-clause-found
returns-clause-found c = let told = c.load.ensures in let knows = (told.2 c.args.ledger c.ledger_word.ensures).0 in
    let here : ShareView → ShareView = λ v. record v { last_read = Some (record { ledger = c.args.ledger; number = c.load.result }) } in
    (λ i. record { table = told.0 i; weight = c.share.inside.weight; sums = (knows i).0.known.sums; last_read = (knows i).0.known.last_read })
    ∙ ap here c.share.view_is
