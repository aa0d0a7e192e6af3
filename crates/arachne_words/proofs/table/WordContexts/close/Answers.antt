-- The end of a table. The idea: `close_with` returns its words and slots as they were, and each turn of the loop leaves
-- them so except for one slot (`stays`), whose value is appended to the list (`so-on`); at the end each was looked at
-- (`all-seen`). Another order of the list, or more values in a slot, changes `left_from` and `Leaving`.
use Rattle.std.proofs.Common.{◌≡◌, ℕ, suc, ◌+◌, ◌<◌, ◌≤◌, ◌∙◌, ◌++◌, ap, sym, subst, arith, rules, Option, List, [], ◌∷◌, true, false, get_or, length}
use Rattle.std.specs.Slots.{IsFull, slots_items, slots_filled, slots_len}
use mathlib.Core.Option as opt
use Rattle.atomic_table.specs.Table.{Final, Seen}
use Rattle.arachne_core.specs.{declared.{layout.TheConstants.CORE_BITS, thread_id.ThreadId.ThreadId}, Marked.marked_of}
use Rattle.arachne_weights.specs.{declared.token.Token.Token, Tokens.held, Weight.whole}
use Rattle.arachne_rule.specs.{declared.view.{Known.Known, Shape.Shape}, Layout.contexts_in, Table.Holds}
use Rattle.arachne_rule.specs.Ending.{left_from}
use Rattle.arachne_words.proofs.Leaving.{EndsWith, SoFar, so-far-none, so-far-some, all-listed, all-by-context, still-filled, none-taken, word-there}
use Rattle.arachne_words.proofs.table.WordContexts.close.Goals.{After-take, After-free}
use Rattle.arachne_words.proofs.table.WordContexts.close.Given as given
use Rattle.arachne_words.proofs.table.WordContexts.close.Goals as goal

pub loop-context-init : goal.loop-context-init
loop-context-init g c =
    let values = c.close_with-closed.ensures.values in
    let id : ℕ = c.at.inside.seat.id in
    let weight = ap (λ v. v.weight) c.at.view_is ∙ c.seat.invariant.0 ∙ ap (λ v. v.weight) c.seat.view_is ∙ c.requires.whole in
    let known = ap (λ v. v.known) c.at.view_is ∙ ap (λ v. v.known) c.seat.view_is in
    let me : c.at.inside.seat.me.0 ≡ held whole c.args.seat.known = c.at.invariant ∙ (λ i. held (weight i) (known i)) in
    let long = c.close_with-closed.ensures.counts.1 ∙ sym c.slot_count-contexts.ensures in record {
      ends = (
        id,
        subst (λ (z : Shape × Token Known). Final (Seen (Holds g.T.Tagged.tag_of CORE_BITS z.0) id z.1) (slots_items c.close_with-closed.result.words) (slots_items c.close_with-closed.result.slots))
            (λ i. (ap (λ v. v.shape) c.self.view_is i, me i)) values.2,
      );
      words = values.0;
      long = (c.close_with-closed.ensures.counts.0 ∙ ap (λ v. v.table.words) c.self.view_is, long);
      filled = λ k lo hi. values.1 k lo (subst (λ (n : ℕ). k < n) (sym long) hi);
      taken = λ k h. absurd (omega (arith, h));
      so_far = ap (λ (l : List (ThreadId × g.row.T.Denot)). l ++ left_from CORE_BITS 0 (slots_items c.close_with-closed.result.words) (slots_items c.close_with-closed.result.slots)) c.in-Ok.ensures.items;
      counted = search rules;
      room = search rules;
    }

-- the words and slots after a slot's value was taken
same-words : (g : given.Over) (c : goal.After-take g) (P : List ℕ → List (Option g.row.T.Denot) → Type 0)
    → P (slots_items c.loop-context.closed.words) (slots_items c.loop-context.closed.slots) → P (slots_items c.take.new.self.words) (slots_items c.take.new.self.slots)
same-words g c P p =
    let o = c.take.ensures.others in
    subst (λ (z : List ℕ × List (Option g.row.T.Denot)). P z.0 z.1) (λ i. (ap slots_items (sym o.3) i, sym o.0 i)) p

stays : (g : given.Over) (c : goal.After-take g) → EndsWith g.T.Tagged.tag_of c.args.self.shape c.args.seat.known (slots_items c.take.new.self.words) (slots_items c.take.new.self.slots)
    × IsFull c.take.new.self.words
    × ((slots_len c.take.new.self.words ≡ c.args.self.table.words) × (slots_len c.take.new.self.slots ≡ c.slot_count-contexts.result))
    × ((k : ℕ) → c.loop-context.context + 1 ≤ k → k < c.slot_count-contexts.result → get_or (slots_filled c.take.new.self.slots) k false ≡ true)
    × ((k : ℕ) → k < c.loop-context.context + 1 → get_or (slots_filled c.take.new.self.slots) k false ≡ false)
stays g c =
    let inv = c.loop-context.invariant in
    let o = c.take.ensures.others in
    let x : ℕ = c.loop-context.context in (
      same-words g c (λ ws ss. EndsWith g.T.Tagged.tag_of c.args.self.shape c.args.seat.known ws ss) inv.ends,
      subst IsFull (sym o.3) inv.words,
      (ap slots_len o.3 ∙ inv.long.0, o.2 ∙ inv.long.1),
      still-filled (slots_filled c.loop-context.closed.slots) (slots_filled c.take.new.self.slots) x c.slot_count-contexts.result o.1 inv.filled,
      none-taken (slots_filled c.loop-context.closed.slots) (slots_filled c.take.new.self.slots) x o.1 inv.taken,
    )

so-on : (g : given.Over) (c : goal.After-take g) (left : List (ThreadId × g.row.T.Denot)) → SoFar left (suc c.loop-context.context) (slots_items c.loop-context.closed.words) (slots_items c.loop-context.closed.slots)
    → SoFar left (c.loop-context.context + 1) (slots_items c.take.new.self.words) (slots_items c.take.new.self.slots)
so-on g c left more =
    let next : suc c.loop-context.context ≡ c.loop-context.context + 1 = omega arith in
    same-words g c (λ ws ss. SoFar left (c.loop-context.context + 1) ws ss)
    (subst (λ (n : ℕ). SoFar left n (slots_items c.loop-context.closed.words) (slots_items c.loop-context.closed.slots)) next more)

pub loop-context-preserved-in_default-take : goal.loop-context-preserved-in_default-take
loop-context-preserved-in_default-take g c =
    let at = (goal.at.loop-context-preserved-in_default-take g c).After-take in
    let as_before = stays g at in
    let none = so-far-none c.loop-context.left.items c.loop-context.context (slots_items c.loop-context.closed.words) (slots_items c.loop-context.closed.slots) (c.take.ensures.value ∙ ap (λ v. opt.some v) c.in_default-take.is) c.loop-context.invariant.so_far in record {
      ends = as_before.0;
      words = as_before.1;
      long = as_before.2;
      filled = as_before.3;
      taken = as_before.4;
      so_far = so-on g at c.loop-context.left.items none;
      counted = search rules;
      room = search rules;
    }

pub loop-context-preserved : goal.loop-context-preserved
loop-context-preserved g c =
    let at = (goal.at.loop-context-preserved g c).After-take in
    let as_before = stays g at in
    let x : ℕ = c.loop-context.context in
    let pair : ℕ → ThreadId × g.row.T.Denot = λ n. (record { context = x; generation = n }, c.in-Some.value) in
    let generation = ap (λ (w : ℕ). (marked_of CORE_BITS w).generation) (word-there (slots_items c.loop-context.closed.words) x c.word-word.result c.word-word.ensures) ∙ sym c.generation_in.ensures in
    let pushed : c.push.new.self.items ≡ c.loop-context.left.items ++ pair c.generation_in.result ∷ [] = rw c.unwrap.ensures at c.push.ensures.items in
    let more = so-far-some c.loop-context.left.items x (slots_items c.loop-context.closed.words) (slots_items c.loop-context.closed.slots) c.in-Some.value (c.take.ensures.value ∙ ap (λ v. opt.some v) c.in-Some.is) c.loop-context.invariant.so_far in
    let listed = subst (λ (l : List (ThreadId × g.row.T.Denot)). SoFar l (suc x) (slots_items c.loop-context.closed.words) (slots_items c.loop-context.closed.slots)) (ap (λ (n : ℕ). c.loop-context.left.items ++ pair n ∷ []) generation ∙ sym pushed) more in record {
      ends = as_before.0;
      words = as_before.1;
      long = as_before.2;
      filled = as_before.3;
      taken = as_before.4;
      so_far = so-on g at c.push.new.self.items listed;
      counted = search rules;
      room = search rules;
    }

-- the loop has looked at each context
all-seen : (g : given.Over) (c : goal.After-free g) → length (slots_items c.loop-context.closed.slots) ≤ c.loop-context.context
all-seen g c =
    let e = c.loop-context.invariant.ends.1 in
    let laid = c.self.invariant.laid_out.slots ∙ ap contexts_in (ap (λ v. v.shape) c.self.view_is) in
    omega (arith, e.3, e.1.0.fits.homes, laid, c.slot_count-contexts.ensures, c.loop-context-test.false)

pub returns-clause-settled : goal.returns-clause-settled
returns-clause-settled g c =
    let inv = c.loop-context.invariant in
    all-listed g.T.Tagged.tag_of c.args.self.shape c.args.seat.known c.requires.nothing_out c.loop-context.left.items c.loop-context.context (slots_items c.loop-context.closed.words) (slots_items c.loop-context.closed.slots) inv.ends (all-seen g (goal.at.returns-clause-settled g c).After-free) inv.so_far

pub returns-clause-order : goal.returns-clause-order
returns-clause-order g c =
    all-by-context c.loop-context.left.items c.loop-context.context (slots_items c.loop-context.closed.words) (slots_items c.loop-context.closed.slots) (all-seen g (goal.at.returns-clause-order g c).After-free) c.loop-context.invariant.so_far

pub returns-clause-lawful : goal.returns-clause-lawful
returns-clause-lawful g c = let ends = c.loop-context.invariant.ends in record { table = ends.1.0; lawful = ends.1.1.0; seat = ends.0; there = ends.1.1.1 }
