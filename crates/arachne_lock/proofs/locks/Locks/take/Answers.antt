use Rattle.std.proofs.Common.{◌≡◌, ◌≢◌, ℕ, Bool, inl, inr, ap, sym, subst, ◌∙◌, ◌<◌, arith, eqb, eqb-true, eq-eqb, nat_eq, MatchBool}
use Rattle.std.proofs.lemmas.Bool.{cases_Bool, true≢false}
use prog.Atomic.{either}
use mathlib.Core.Option.{none}
use Rattle.atomic_table.specs.Table.{Allows, step}
use Rattle.arachne_lock.specs.{Views.word_of, Logs.contended_log, Rule.{IsKept, IsLawfulSeat}, Steps.{Mine, Takes}}
use Rattle.arachne_lock.proofs.Keeps.{takes-allowed}
use Rattle.arachne_lock.proofs.locks.Locks.take.Goals as goal

pub compare_exchange-requires : goal.compare_exchange-requires
compare_exchange-requires c =
    let t = c.self.inside.table.shared in
    let it = c.args.seat.now in
    let inside : c.args.lock < c.self.inside.count = subst (λ (n : ℕ). c.args.lock < n) (sym (ap (λ v. v.count) c.self.view_is)) c.requires.at.1 in
    let below : c.args.lock < t.key = omega (arith, inside, c.self.invariant.keyed) in (
      c.requires.at.0 ∙ sym (ap (λ v. v.table) c.self.view_is),
      omega (arith, inside, c.self.invariant.words, c.guard_word.ensures),
      subst (λ (w : ℕ). Allows (IsKept t.key) t.table_id.slots it.id it.me w (λ n. either (eqb n 0) 1 n) (Takes (step t.table_id.slots w 0 1 none) it.me)) (sym c.guard_word.ensures)
          (subst (λ (m : Mine). Allows (IsKept t.key) t.table_id.slots it.id m (word_of c.args.lock) (λ n. either (eqb n 0) 1 n) (Takes (step t.table_id.slots (word_of c.args.lock) 0 1 none) m)) (sym c.requires.idle)
          (takes-allowed t.key t.table_id.slots it.id c.args.lock it.me.0.log below (c.self.invariant.slots ∙ sym c.self.invariant.keyed))),
    )

-- by whether a number is 0
decided : (n : ℕ) (A B : Type 0) → (n ≡ 0 → A) × (n ≢ 0 → B) → MatchBool (nat_eq n 0) A B
decided n A B f =
    elim (cases_Bool (nat_eq n 0)) [
      | inl same ↦ subst (λ (b : Bool). MatchBool b A B) (sym same) (f.0 (eqb-true n 0 same))
      | inr apart ↦ subst (λ (b : Bool). MatchBool b A B) (sym apart) (f.1 (λ e. true≢false (sym (eq-eqb n 0 e) ∙ apart)))
    ]

pub returns-clause-told : goal.returns-clause-told
returns-clause-told c = let then = c.compare_exchange.ensures.2 c.args.lock c.guard_word.ensures in decided c.compare_exchange.result _ _ (then.0, λ ne. (then.1 ne).0)

pub returns-clause-lawful : goal.returns-clause-lawful
returns-clause-lawful c = λ no.
    let lawful = ((c.compare_exchange.ensures.2 c.args.lock c.guard_word.ensures).1 (λ e. true≢false (sym (eq-eqb c.compare_exchange.result 0 e) ∙ no))).1 in
    subst (λ (n : ℕ). IsLawfulSeat n (contended_log c.args.seat.now.me.0.log c.args.lock)) (c.self.invariant.slots ∙ ap (λ v. v.count) c.self.view_is) lawful
