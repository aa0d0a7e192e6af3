use Rattle.std.proofs.Common.{◌∙◌, ap, sym, subst, arith}
use Rattle.atomic_table.specs.Table.{Joins}
use Rattle.arachne_lock.specs.{Rule.{IsKept, joined_view, spent}, Steps.Mine}
use Rattle.arachne_lock.proofs.Keeps.{joins-allowed}
use Rattle.arachne_lock.proofs.locks.Locks.join.Goals as goal

pub join_seat-requires : goal.join_seat-requires
join_seat-requires c =
    let t = c.self.inside.table.shared in
    let it = c.seat.inside.seat in
    let other = c.other.inside.seat in (
      ap (λ v. v.table) c.seat.view_is ∙ c.requires.seat ∙ sym (ap (λ v. v.table) c.self.view_is),
      ap (λ v. v.table) c.other.view_is ∙ c.requires.other ∙ sym (ap (λ v. v.table) c.self.view_is),
      ap (λ (m : Mine). m.1) c.other.invariant,
      omega (arith, c.self.invariant.words),
      subst (λ (m : Mine × Mine). Joins (IsKept t.key) it.id m.0.0 other.id m.1.0 (joined_view m.0.0 m.1.0) spent) (λ i. (sym c.seat.invariant i, sym c.other.invariant i))
          (joins-allowed t.key it.id it.me.0.log other.id other.me.0.log),
    )
