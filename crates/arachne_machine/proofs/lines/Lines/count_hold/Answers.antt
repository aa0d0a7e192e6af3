use Rattle.std.proofs.Common.{◌≡◌, ◌+◌, ◌-◌, ◌<◌, ◌≤◌, ◌++◌, List, length, get_or, refl, ap, sym, ◌∙◌, subst, arith}
use Rattle.std.proofs.Math.ListN.{set}
use Rattle.std.proofs.lemmas.List.{get_or-append-add, get_or_append_left, set-append_left, set-append_right}
use Rattle.arachne_machine.specs.{declared.line.ThreadLine.ThreadLine, Lines.{HoldsOnceMore, lines_in}}
use Rattle.arachne_machine.proofs.lines.Lines.count_hold.Goals as goal

pub returns-then-place-self : goal.returns-then-place-self
returns-then-place-self c =
    let earlier : List ThreadLine = lines_in c.self.inside.earlier.items in
    let last : List ThreadLine = c.self.inside.last.lines in
    let counts = c.count_hold.ensures.counts in
    let own : ThreadLine = counts.line in
    let at = c.args.place - c.self.inside.count in
    let some : length earlier ≤ c.args.place = omega (arith, c.if-place-self.true, c.self.invariant.counted) in
    let here : c.args.place ≡ length earlier + at = omega (arith, some, c.self.invariant.counted) in
    let in_last : c.args.place - length earlier ≡ at = omega (arith, c.self.invariant.counted) in
    record {
      line = own;
      lines = ap (λ l. earlier ++ l) counts.lines ∙ ap (λ n. earlier ++ set last n own) (sym in_last)
          ∙ sym (set-append_right earlier last (length earlier) c.args.place own refl some) ∙ ap (λ l. set l c.args.place own) c.self.view_is;
      counted = λ other.
          let was : get_or last at other ≡ get_or c.args.self.now c.args.place other =
          sym (get_or-append-add earlier last at other) ∙ ap (λ n. get_or (earlier ++ last) n other) (sym here) ∙ ap (λ l. get_or l c.args.place other) c.self.view_is in
          subst (λ l. HoldsOnceMore l own c.args.lock) was (counts.counted other);
    }

pub returns-else-place-self : goal.returns-else-place-self
returns-else-place-self c =
    let earlier : List ThreadLine = lines_in c.self.inside.earlier.items in
    let last : List ThreadLine = c.self.inside.last.lines in
    let small : c.args.place < length earlier = omega (arith, c.if-place-self.false, c.self.invariant.counted) in
    record {
      line = c.count_hold_in.ensures.line;
      lines = ap (λ l. l ++ last) c.count_hold_in.ensures.lines ∙ sym (set-append_left earlier last c.args.place c.count_hold_in.ensures.line small)
          ∙ ap (λ l. set l c.args.place c.count_hold_in.ensures.line) c.self.view_is;
      counted = λ other. subst (λ l. HoldsOnceMore l c.count_hold_in.ensures.line c.args.lock)
          (sym (get_or_append_left earlier last other c.args.place small) ∙ ap (λ l. get_or l c.args.place other) c.self.view_is) (c.count_hold_in.ensures.counted other);
    }
