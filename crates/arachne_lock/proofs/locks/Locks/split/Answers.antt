use Rattle.std.proofs.Common.{◌∙◌, ap, sym, subst, arith}
use Rattle.atomic_table.specs.Table.{Splits}
use Rattle.arachne_lock.specs.{Rule.{IsKept, split_view, second_view}, Steps.Mine}
use Rattle.arachne_lock.proofs.Keeps.{splits-allowed}
use Rattle.arachne_lock.proofs.locks.Locks.split.Goals as goal

pub split_seat-other-requires : goal.split_seat-other-requires
split_seat-other-requires c =
    let t = c.self.inside.table.shared in
    let it = c.seat.inside.seat in (
      ap (λ v. v.table) c.seat.view_is ∙ c.requires ∙ sym (ap (λ v. v.table) c.self.view_is),
      omega (arith, c.self.invariant.words),
      subst (λ (m : Mine). Splits (IsKept t.key) it.id m.0 (split_view m.0) (second_view m.0)) (sym c.seat.invariant) (splits-allowed t.key it.id it.me.0.log),
    )
