use Rattle.std.proofs.Common.{rules, ◌≡◌, ◌+◌, ◌≤◌, ◌∷◌, ◌++◌, [], List, length, ap, ◌∙◌, arith, length-append, vec_len, vec_capacity}
use Rattle.std.specs.Result.{is_ok}
use Rattle.arachne_machine.specs.{declared.line.ThreadLine.ThreadLine, Lines.{Listed, lines_in}}
use Rattle.arachne_machine.proofs.Listing.{behind_all, lines_in-behind, lines_in-push}
use Rattle.arachne_machine.proofs.lines.Lines.append_many.Goals as goal

-- the earlier lists, with the last one, the own line and the child's earlier lists behind them
earlier : (c : goal.After-append) →
    lines_in c.append.new.self.items ≡ ((lines_in c.self.inside.earlier.items ++ c.self.inside.last.lines) ++ c.args.own.now ∷ []) ++ lines_in c.below.inside.earlier.items
earlier c =
    let first : Listed = c.in_ok-first.first in
    let others : List ThreadLine = lines_in c.below.inside.earlier.items in
    let room : vec_len c.try_reserve.new.self + (c.len.result + 2) ≤ vec_capacity c.try_reserve.new.self = search rules in
    let fits : vec_len c.push_reserved-2.new.self + vec_len c.below.inside.earlier ≤ vec_capacity c.push_reserved-2.new.self =
    omega (
      arith,
      room,
      c.push_reserved.ensures.capacity,
      c.push_reserved.ensures.len,
      c.push_reserved-2.ensures.capacity,
      c.push_reserved-2.ensures.len,
      c.len.ensures,
    ) in
    lines_in-behind c.push_reserved.new.self.items c.push_reserved-2.new.self.items c.append.new.self.items c.below.inside.earlier.items first
    (is_ok c.append.result) c.push_reserved-2.ensures.items c.append.ensures.items (c.append.ensures.succeeds fits)
    ∙ ap (λ (l : List Listed). (lines_in l ++ first.lines) ++ others) c.push_reserved.ensures.items
    ∙ ap (λ (l : List ThreadLine). (l ++ first.lines) ++ others) (lines_in-push c.try_reserve.new.self.items c.replace-list.result)
    ∙ ap (λ (l : List Listed). ((lines_in l ++ c.replace-list.result.lines) ++ first.lines) ++ others) c.try_reserve.ensures.items
    ∙ ap (λ (v : Listed). ((lines_in c.self.inside.earlier.items ++ v.lines) ++ first.lines) ++ others) c.replace-list.ensures.value
    ∙ ap (λ (v : Listed). ((lines_in c.self.inside.earlier.items ++ c.self.inside.last.lines) ++ v.lines) ++ others) c.in_ok-first.ensures.ok

pub invariant_of-self-2 : goal.invariant_of-self-2
invariant_of-self-2 c =
    let first : List ThreadLine = lines_in c.self.inside.earlier.items in
    let last : List ThreadLine = c.self.inside.last.lines in
    let others : List ThreadLine = lines_in c.below.inside.earlier.items in
    let own : List ThreadLine = c.args.own.now ∷ [] in
    let many : length (lines_in c.append.new.self.items) ≡ length first + length last + 1 + length others =
    omega (arith, ap length (earlier c), length-append ((first ++ last) ++ own) others, length-append (first ++ last) own, length-append first last) in
    let came : length c.args.below.now ≡ length others + length c.below.inside.last.lines =
    omega (arith, ap length c.below.view_is, length-append others c.below.inside.last.lines) in
    let were : length c.args.self.now ≡ length first + length last = omega (arith, ap length c.self.view_is, length-append first last) in
    let dest : length c.replace-list.new.dest.lines ≡ length c.below.inside.last.lines =
    ap (λ (v : Listed). length v.lines) (c.replace-list.ensures.after ∙ c.replace-last.ensures.value) in
    record {
      counted = omega (arith, many, c.self.invariant.counted, c.below.invariant.counted, c.len-2.ensures);
      few = omega (arith, came, were, c.requires, c.self.invariant.counted, c.below.invariant.counted, c.len-2.ensures, dest);
    }

pub returns-clause-few : goal.returns-clause-few
returns-clause-few c =
    let kept = invariant_of-self-2 c in
    omega (arith, kept.counted, kept.few, length-append (lines_in c.append.new.self.items) c.replace-list.new.dest.lines)

pub returns-clause-lines : goal.returns-clause-lines
returns-clause-lines c =
    let first : List ThreadLine = lines_in c.self.inside.earlier.items in
    let last : List ThreadLine = c.self.inside.last.lines in
    let others : List ThreadLine = lines_in c.below.inside.earlier.items in
    ap (λ (l : List ThreadLine). l ++ c.replace-list.new.dest.lines) (earlier c)
    ∙ ap (λ (v : Listed). (((first ++ last) ++ c.args.own.now ∷ []) ++ others) ++ v.lines) (c.replace-list.ensures.after ∙ c.replace-last.ensures.value)
    ∙ behind_all first last others c.below.inside.last.lines c.args.own.now
    ∙ ap (λ (v : List ThreadLine). v ++ c.args.own.now ∷ (others ++ c.below.inside.last.lines)) c.self.view_is
    ∙ ap (λ (v : List ThreadLine). c.args.self.now ++ c.args.own.now ∷ v) c.below.view_is
