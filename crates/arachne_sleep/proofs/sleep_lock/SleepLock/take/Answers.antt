use Rattle.std.proofs.Common.{ap, sym, subst, ◌∙◌, arith, eqb}
use prog.Atomic.{either}
use Rattle.atomic_table.specs.Table.{Allows}
use Rattle.arachne_sleep.specs.{Words.guard_word, Rule.IsKept, Steps.{Mine, Takes}}
use Rattle.arachne_sleep.proofs.Keeps.{takes-allowed}
use Rattle.arachne_sleep.proofs.sleep_lock.SleepLock.take.Goals as goal

pub compare_exchange-requires : goal.compare_exchange-requires
compare_exchange-requires c =
    let t = c.self.inside.table.shared in
    let it = c.args.seat.now in (
      c.requires.own ∙ sym (ap (λ v. v.table) c.self.view_is),
      omega (arith, c.self.invariant.words),
      subst (λ (m : Mine). Allows (IsKept t.key) t.table_id.slots it.id m guard_word (λ n. either (eqb n 0) 1 n) (Takes m)) (sym c.requires.idle)
          (takes-allowed t.key t.table_id.slots it.id it.me.0.weight it.me.0.known.log),
    )
