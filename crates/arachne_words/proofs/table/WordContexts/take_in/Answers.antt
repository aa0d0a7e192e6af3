use Rattle.std.proofs.Common.{◌∙◌, ap, sym, arith}
use Rattle.arachne_core.specs.declared.layout.TheConstants.{CORE_BITS}
use Rattle.arachne_words.specs.Seats.{CallView}
use Rattle.arachne_rule.proofs.SeatSteps.{join-allowed}
use Rattle.arachne_words.proofs.table.WordContexts.take_in.Goals as goal

pub join_seat-requires : goal.join_seat-requires
join_seat-requires g c = (
  ap (λ v. v.table) c.seat.view_is ∙ c.requires.own.0 ∙ sym (ap (λ v. v.table) c.self.view_is),
  ap (λ v. v.table) c.other.view_is ∙ c.requires.own.1 ∙ sym (ap (λ v. v.table) c.self.view_is),
  ap (λ v. v.slots) c.other.view_is ∙ c.requires.nothing_out.1,
  omega (arith, c.self.invariant.laid_out.words, c.self.invariant.some_core),
  join-allowed g.T.Tagged.tag_of CORE_BITS c.self.inside.table.shared.key _ _ _ _ c.seat.invariant c.other.invariant (ap (λ (v : CallView g.row.T.Denot). v.known.carried) c.other.view_is ∙ c.requires.nothing_out.0),
)
