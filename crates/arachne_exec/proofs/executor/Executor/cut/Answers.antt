use Rattle.std.proofs.Common.{◌∙◌, ap, sym, arith}
use Rattle.arachne_exec.proofs.Allowed.{split-allowed}
use Rattle.arachne_exec.proofs.executor.Executor.cut.Goals as goal

pub split_seat-other-requires : goal.split_seat-other-requires
split_seat-other-requires c = (
  ap (λ v. v.table) c.seat.view_is ∙ c.requires.own ∙ sym (ap (λ v. v.table) c.self.view_is),
  omega (arith, c.self.invariant.words),
  split-allowed _ _ c.seat.inside.seat.me c.seat.invariant,
)
