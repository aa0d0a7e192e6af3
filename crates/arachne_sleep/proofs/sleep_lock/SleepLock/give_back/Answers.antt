use Rattle.std.proofs.Common.{ap, sym, subst, ◌∙◌, arith}
use Rattle.atomic_table.specs.Table.{Allows}
use Rattle.arachne_sleep.specs.{Words.guard_word, Rule.IsKept, Steps.{Mine, GivesBack}}
use Rattle.arachne_sleep.proofs.Keeps.{gives-allowed}
use Rattle.arachne_sleep.proofs.sleep_lock.SleepLock.give_back.Goals as goal

pub store-requires : goal.store-requires
store-requires c =
    let t = c.self.inside.table.shared in
    let it = c.args.seat.now in
    let guarded = c.requires.guarded.0 in
    let before = c.requires.guarded.1 in
    let r = c.requires.guarded.2 in (
      c.requires.own ∙ sym (ap (λ v. v.table) c.self.view_is),
      omega (arith, c.self.invariant.words),
      subst (λ (m : Mine). Allows (IsKept t.key) t.table_id.slots it.id m guard_word (λ _. 0) (λ _ w. GivesBack m w)) (sym r.mine)
          (gives-allowed t.key t.table_id.slots it.id it.me.0.weight it.me.0.known.log guarded before c.self.invariant.slots r.seen r.numbered r.begins r.sound r.granted),
    )
