use Rattle.std.proofs.Common.{ℕ, ap, sym, subst, ◌∙◌, ◌<◌, arith}
use mathlib.Core.Option.{none}
use Rattle.atomic_table.specs.Table.{Allows, step}
use Rattle.arachne_lock.specs.{Views.word_of, declared.view.EventLog.EventLog, Rule.{IsKept, IsLawfulSeat}}
use Rattle.arachne_lock.specs.Steps.{Mine, GivesBack}
use Rattle.arachne_lock.proofs.Keeps.{gives-allowed}
use Rattle.arachne_lock.proofs.locks.Locks.give_back.Goals as goal

pub store-requires : goal.store-requires
store-requires c =
    let t = c.self.inside.table.shared in
    let it = c.args.seat.now in
    let inside : c.args.lock < c.self.inside.count = subst (λ (n : ℕ). c.args.lock < n) (sym (ap (λ v. v.count) c.self.view_is)) c.requires.at.1 in
    let below : c.args.lock < t.key = omega (arith, inside, c.self.invariant.keyed) in
    let history = c.requires.guarded.0 in
    let guarded = c.requires.guarded.1 in
    let r = c.requires.guarded.2 in (
      c.requires.at.0 ∙ sym (ap (λ v. v.table) c.self.view_is),
      omega (arith, inside, c.self.invariant.words, c.guard_word.ensures),
      subst (λ (w : ℕ). Allows (IsKept t.key) t.table_id.slots it.id it.me w (λ _. 0) (λ _ a. GivesBack (step t.table_id.slots w 0 0 none) it.me a)) (sym c.guard_word.ensures)
          (subst (λ (m : Mine). Allows (IsKept t.key) t.table_id.slots it.id m (word_of c.args.lock) (λ _. 0) (λ _ a. GivesBack (step t.table_id.slots (word_of c.args.lock) 0 0 none) m a)) (sym r.mine)
          (gives-allowed t.key t.table_id.slots it.id c.args.lock history it.me.0.log guarded below (c.self.invariant.slots ∙ sym c.self.invariant.keyed) r.sound r.left)),
    )

pub returns-clause-told : goal.returns-clause-told
returns-clause-told c = λ history guarded r. (c.store.ensures.2 c.args.lock history guarded r.mine).0

pub returns-clause-lawful : goal.returns-clause-lawful
returns-clause-lawful c =
    let r = c.requires.guarded in let then = c.store.ensures.2 c.args.lock r.0 r.1 r.2.mine in
    subst (λ (z : ℕ × EventLog). IsLawfulSeat z.0 z.1) (λ i. ((c.self.invariant.slots ∙ ap (λ v. v.count) c.self.view_is) i, (sym then.0 i).0.log)) then.1
