use Rattle.std.proofs.Common.{ap, sym, subst, refl}
use Rattle.arachne_rule.specs.{Plays.Carries, declared.view.Known.Known}
use Rattle.arachne_words.{specs.Seats.{ClaimView, claimed_by}, proofs.Out.keeps-less}
use Rattle.arachne_words.proofs.table.WordContexts.give_back.Goals as goal

pub invariant_of-seat : goal.invariant_of-seat
invariant_of-seat g c =
    let has = c.requires.claim in
    let a = claimed_by (record { place = c.claim.inside.place; alone = c.claim.inside.alone }) has.context has.generation in
    let mine = subst (λ (v : ClaimView). Carries c.args.seat.now.known (claimed_by v has.context has.generation)) (sym c.claim.view_is) has.carried in
    let here = subst (λ (k : Known). Carries k a) (sym (ap (λ v. v.known) c.seat.view_is)) mine in
    let told = c.release.ensures has.context has.generation has.inside here in
    keeps-less c.seat.inside.at c.release.new.seat c.seat.inside.weight c.seat.inside.out _ c.seat.invariant told.1 a here refl
