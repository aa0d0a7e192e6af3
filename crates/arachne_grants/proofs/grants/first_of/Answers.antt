use Rattle.std.proofs.Common.{◌≡◌, true, false, ap, sym, ◌∙◌, arith}
use Rattle.arachne_grants.specs.Claims.{goes_before}
use Rattle.arachne_grants.specs.Grants.{claim_at, IsFirst}
use Rattle.arachne_grants.proofs.Next.{IsFirst-take, IsFirst-keep}
use Rattle.arachne_grants.proofs.grants.first_of.Goals as goal

pub returns-then-goes_before : goal.returns-then-goes_before
returns-then-goes_before c =
    let clients = c.args.clients.now in
    let targets = c.args.targets.now in
    let was : IsFirst clients targets c.args.place c.in-Some.other = rw c.in-Some.is at c.requires.next in
    let before : goes_before (claim_at clients targets c.args.place) (claim_at clients targets c.in-Some.other) ≡ true =
    ap (λ x. goes_before x (claim_at clients targets c.in-Some.other)) (sym c.claim-claim.ensures)
    ∙ ap (λ y. goes_before c.claim-claim.result y) (sym c.claim.ensures) ∙ sym c.goes_before.ensures ∙ c.if-goes_before.true in
    IsFirst-take clients targets c.args.place c.in-Some.other was (c.requires.within, omega arith) before

pub returns-else-goes_before : goal.returns-else-goes_before
returns-else-goes_before c =
    let clients = c.args.clients.now in
    let targets = c.args.targets.now in
    let was : IsFirst clients targets c.args.place c.in-Some.other = rw c.in-Some.is at c.requires.next in
    let before : goes_before (claim_at clients targets c.args.place) (claim_at clients targets c.in-Some.other) ≡ false =
    ap (λ x. goes_before x (claim_at clients targets c.in-Some.other)) (sym c.claim-claim.ensures)
    ∙ ap (λ y. goes_before c.claim-claim.result y) (sym c.claim.ensures) ∙ sym c.goes_before.ensures ∙ c.if-goes_before.false in
    IsFirst-keep clients targets c.args.place c.in-Some.other was before
