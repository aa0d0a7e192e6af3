use Rattle.std.proofs.Common.{◌∙◌, ap, sym, arith}
use Rattle.arachne_core.specs.declared.layout.TheConstants.{CORE_BITS}
use Rattle.arachne_rule.proofs.SeatSteps.{split-allowed}
use Rattle.arachne_words.proofs.table.WordContexts.cut.Goals as goal

pub split_seat-other-requires : goal.split_seat-other-requires
split_seat-other-requires g c = (
  ap (λ v. v.table) c.seat.view_is ∙ c.requires.own ∙ sym (ap (λ v. v.table) c.self.view_is),
  omega (arith, c.self.invariant.laid_out.words, c.self.invariant.some_core),
  split-allowed g.T.Tagged.tag_of CORE_BITS c.self.inside.table.shared.key _ _ c.seat.invariant,
)
