use Rattle.std.proofs.Common.{ℕ, ◌<◌, ◌∙◌, ap, sym, subst, refl, arith, true}
use Rattle.arachne_rule.specs.declared.view.Kind.TheVariants as kind
use Rattle.arachne_rule.specs.{Layout.occ_index, Views.{noted, with_context, carried_at}}
use Rattle.arachne_words.specs.{Seats.{CallView, claimed_by}, Calls.sum_of}
use Rattle.arachne_words.proofs.Out.{out-bound, keeps-more}
use Rattle.arachne_words.proofs.table.WordContexts.claim_alone.Goals as goal

pub overflow_add-seat : goal.overflow_add-seat
overflow_add-seat g c = omega (arith, out-bound _ _ _ c.seat.invariant.2, ap (λ v. v.table.slots) c.seat.view_is, ap (λ t. t.slots) c.requires.own, ap (λ v. v.table.slots) c.self.view_is, c.self.invariant.laid_out.few)

pub invariant_of-seat-in-Ok : goal.invariant_of-seat-in-Ok
invariant_of-seat-in-Ok g c =
    let won = c.in-Ok.ensures.won in
    let i : ℕ = occ_index c.args.self.now.table.slots c.args.core in
    let a = claimed_by (record { place = record { core = c.args.core; index = 0 }; alone = true }) won.0 won.1 in
    let inside = subst (λ t. won.0 < t.slots) (sym (ap (λ v. v.table) c.seat.view_is ∙ c.requires.own)) won.2 in
    keeps-more c.seat.inside.at c.try_claim_alone.new.seat c.seat.inside.weight c.seat.inside.out _ c.seat.invariant
    (won.4 ∙ ap (λ (v : CallView g.row.T.Denot). record v { known = noted kind.Alone i 0 (sum_of true 0) (with_context v.known a) }) c.see_core-seen.ensures.seat) a inside
    (ap (λ v. carried_at won.0 v.known.carried) (sym c.see_core-seen.ensures.seat) ∙ won.3) refl
