use Rattle.std.proofs.Common.{◌≡◌, ◌<◌, ◌∙◌, ap, sym, subst, map, take, ◌+◌, ◌%◌, ◌^◌, rules, arith}
use mathlib.Core.Option.{some}
use Rattle.arachne_weights.specs.{Tokens.held, Weight.whole}
use Rattle.arachne_ledger.specs.Balance.{IsBalanced}
use Rattle.arachne_ledger.proofs.{Seated.{long, settled}, Sums.reduced-more}
use Rattle.arachne_ledger.proofs.ledgers.Ledgers.close.Goals as goal

pub loop-ledger-preserved : goal.loop-ledger-preserved
loop-ledger-preserved c =
    let same = ap (λ v. v.table) c.share.view_is ∙ c.requires.own ∙ sym (ap (λ v. v.table) c.self.view_is) in
    let all = ap (λ v. v.weight) c.share.view_is ∙ c.requires.whole in
    let sums = ap (λ v. v.sums) c.share.view_is in
    let inside : c.loop-ledger.ledger < c.self.inside.count = c.loop-ledger-test.true in
    let counted = long _ _ _ c.self.invariant _ _ _ same c.share.invariant in
    let found = settled _ _ _ c.self.invariant _ _ _ same c.share.invariant all _ _ _ c.close_with-closed.ensures.values.2 _ _ _ c.ledger_word.ensures inside c.word.ensures in
    record {
      so_far = subst (λ xs. c.push.new.self.items ≡ map (λ sum. sum % 2 ^ 64) (take (c.loop-ledger.ledger + 1) xs)) sums
          (reduced-more c.share.inside.seat.me.0.known.sums _ _ _ _ (omega (arith, counted, c.self.invariant.keyed)) (subst (λ xs. c.loop-ledger.totals.items ≡ map (λ sum. sum % 2 ^ 64) (take c.loop-ledger.ledger xs)) (sym sums) c.loop-ledger.invariant.so_far) found (rw c.unwrap.ensures at c.push.ensures.items));
      counted = search rules;
      room = search rules;
    }

pub returns-clause-lawful : goal.returns-clause-lawful
returns-clause-lawful c =
    let end = c.close_with-closed.ensures.values.2 in let weight = ap (λ v. v.weight) c.share.view_is ∙ c.requires.whole in
    let sums = ap (λ v. v.sums) c.share.view_is in let read = ap (λ v. v.last_read) c.share.view_is in
    let is : c.share.inside.seat.me.0 ≡ held whole (record { sums = c.args.share.sums; last_read = c.args.share.last_read })
    = ap (λ m. m.0) c.share.invariant.mine ∙ (λ i. held (weight i) (record { sums = sums i; last_read = read i })) in record {
      board = end.0;
      balanced = subst (λ n. IsBalanced n end.0) (c.self.invariant.keyed ∙ ap (λ v. v.count) c.self.view_is) end.1.0;
      place = c.share.inside.seat.id;
      there = end.1.1 ∙ ap some is;
    }
