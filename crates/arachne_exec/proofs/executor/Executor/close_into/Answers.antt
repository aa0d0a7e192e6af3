use Rattle.std.proofs.Common.{◌≡◌, ℕ, suc, ◌+◌, ◌<◌, ◌∙◌, ◌++◌, ap, sym, subst, arith, rules, List, [], ◌∷◌}
use Rattle.std.specs.Slots.{slots_items, slots_filled}
use Rattle.atomic_table.specs.Table.{Final, Seen}
use Rattle.arachne_weights.specs.{declared.token.Token.Token, Tokens.held, Weight.whole}
use Rattle.arachne_exec.specs.{declared.view.Notes.Notes, Board.IsLawful}
use Rattle.arachne_exec.proofs.Leaving.{EndsWith, SoFar, so-far-none, so-far-zero, so-far-some, all-settled, still-filled, none-taken}
use Rattle.arachne_exec.proofs.executor.Executor.close_into.Goals as goal

pub loop-place-init : goal.loop-place-init
loop-place-init c =
    let values = c.close_with-closed.ensures.values in
    let id : ℕ = c.at.inside.seat.id in
    let weight = ap (λ v. v.weight) c.at.view_is ∙ c.seat.invariant.0 ∙ ap (λ v. v.weight) c.seat.view_is ∙ c.requires.whole in
    let known = ap (λ v. v.known) c.at.view_is ∙ ap (λ v. v.known) c.seat.view_is in
    let me : c.at.inside.seat.me.0 ≡ held whole c.args.seat.known = c.at.invariant ∙ (λ i. held (weight i) (known i)) in
    let shards = c.self.invariant.keyed ∙ ap (λ v. v.shards) c.self.view_is in
    let long = c.close_with-closed.ensures.counts.1 ∙ sym c.slot_count-places.ensures in record {
      ends = (
        id,
        subst (λ (z : ℕ × Token Notes). Final (Seen (IsLawful z.0) id z.1) (slots_items c.close_with-closed.result.words) (slots_items c.close_with-closed.result.slots))
            (λ i. (shards i, me i)) values.2,
      );
      long = long;
      filled = λ k lo hi. values.1 k lo (subst (λ (n : ℕ). k < n) (sym long) hi);
      taken = λ k h. absurd (omega (arith, h));
      so_far = subst (λ (l : List ℕ). SoFar l 0 (slots_items c.close_with-closed.result.slots)) (sym c.requires.empty) (so-far-none (slots_items c.close_with-closed.result.slots));
      counted = search rules;
      room = omega (arith, c.requires.room, c.slot_count-places.ensures, c.self.invariant.slots, ap (λ v. v.shards) c.self.view_is);
    }

pub loop-place-preserved-then-job-eq0 : goal.loop-place-preserved-then-job-eq0
loop-place-preserved-then-job-eq0 c =
    let inv = c.loop-place.invariant in
    let o = c.take-job.ensures.others in
    let x : ℕ = c.loop-place.place in
    let next : suc x ≡ x + 1 = omega arith in
    let same = λ (P : List ℕ → List ℕ → Type 0) (p : P (slots_items c.loop-place.closed.words) (slots_items c.loop-place.closed.slots)).
    subst (λ (z : List ℕ × List ℕ). P z.0 z.1) (λ i. (ap slots_items (sym o.3) i, sym o.0 i)) p in
    record {
      ends = same (λ ws ss. EndsWith c.args.self.shards c.args.seat.known ws ss) inv.ends;
      long = o.2 ∙ inv.long;
      filled = still-filled (slots_filled c.loop-place.closed.slots) (slots_filled c.take-job.new.self.slots) x c.slot_count-places.result o.1 inv.filled;
      taken = none-taken (slots_filled c.loop-place.closed.slots) (slots_filled c.take-job.new.self.slots) x o.1 inv.taken;
      so_far = same (λ ws ss. SoFar c.loop-place.left.items (x + 1) ss)
          (subst (λ (n : ℕ). SoFar c.loop-place.left.items n (slots_items c.loop-place.closed.slots)) next
          (so-far-zero c.loop-place.left.items x c.take-job.result (slots_items c.loop-place.closed.slots) c.take-job.ensures.value inv.so_far c.if-job-eq0.true));
      counted = search rules;
      room = search rules;
    }

pub loop-place-preserved : goal.loop-place-preserved
loop-place-preserved c =
    let inv = c.loop-place.invariant in
    let o = c.take-job.ensures.others in
    let x : ℕ = c.loop-place.place in
    let next : suc x ≡ x + 1 = omega arith in
    let same = λ (P : List ℕ → List ℕ → Type 0) (p : P (slots_items c.loop-place.closed.words) (slots_items c.loop-place.closed.slots)).
    subst (λ (z : List ℕ × List ℕ). P z.0 z.1) (λ i. (ap slots_items (sym o.3) i, sym o.0 i)) p in
    let pushed : c.push.new.self.items ≡ c.loop-place.left.items ++ c.take-job.result ∷ [] = rw c.unwrap.ensures at c.push.ensures.items in
    let more = so-far-some c.loop-place.left.items x c.take-job.result (slots_items c.loop-place.closed.slots) c.take-job.ensures.value inv.so_far (omega (arith, c.if-job-eq0.false)) in
    record {
      ends = same (λ ws ss. EndsWith c.args.self.shards c.args.seat.known ws ss) inv.ends;
      long = o.2 ∙ inv.long;
      filled = still-filled (slots_filled c.loop-place.closed.slots) (slots_filled c.take-job.new.self.slots) x c.slot_count-places.result o.1 inv.filled;
      taken = none-taken (slots_filled c.loop-place.closed.slots) (slots_filled c.take-job.new.self.slots) x o.1 inv.taken;
      so_far = same (λ ws ss. SoFar c.push.new.self.items (x + 1) ss)
          (subst (λ (n : ℕ). SoFar c.push.new.self.items n (slots_items c.loop-place.closed.slots)) next
          (subst (λ (l : List ℕ). SoFar l (suc x) (slots_items c.loop-place.closed.slots)) (sym pushed) more));
      counted = search rules;
      room = search rules;
    }

pub returns-clause-settled : goal.returns-clause-settled
returns-clause-settled c =
    let inv = c.loop-place.invariant in
    let e = inv.ends.1 in
    all-settled c.args.self.shards c.args.seat.known c.requires.nothing_in_hand c.loop-place.left.items (slots_items c.loop-place.closed.words) (slots_items c.loop-place.closed.slots) c.loop-place.place inv.ends
    (omega (arith, e.3, e.1.0.keeper.room, c.self.invariant.slots, ap (λ v. v.shards) c.self.view_is, c.slot_count-places.ensures, c.loop-place-test.false)) inv.so_far

pub returns-clause-lawful : goal.returns-clause-lawful
returns-clause-lawful c = let ends = c.loop-place.invariant.ends in record { board = ends.1.0; lawful = ends.1.1.0; seat = ends.0; there = ends.1.1.1 }
