use Rattle.std.proofs.Common.{◌≡◌, ◌+◌, ◌≤◌, ◌∷◌, ◌++◌, List, [], ap, ◌∙◌, arith, length, vec_len, vec_capacity}
use Rattle.std.specs.Result.{is_ok}
use Rattle.arachne_machine.specs.{declared.line.ThreadLine.ThreadLine, Lines.{Listed, lines_in}}
use Rattle.arachne_machine.proofs.{Listing.completed, lines.Lines.complete.Goals.After-push_reserved-2}
use Rattle.arachne_machine.proofs.lines.Lines.complete.Goals as goal

-- all lists together are the own line and the others
all_in : (c : After-push_reserved-2) → lines_in c.push_reserved-2.new.self.items ≡ c.args.own.now ∷ c.args.self.now
all_in c =
    let first : Listed = c.in_ok-first.first in
    let single : first.lines ≡ c.args.own.now ∷ [] = ap (λ (list : Listed). list.lines) c.in_ok-first.ensures.ok in
    let fits : vec_len c.push_reserved.new.self + vec_len c.self.inside.earlier ≤ vec_capacity c.push_reserved.new.self =
    omega (arith, c.push_reserved.ensures.len, c.push_reserved.ensures.capacity, c.in_ok-lists.ensures.len, c.in_ok-lists.ensures.exact, c.len.ensures) in
    completed c.args.own.now _ _ _ c.self.inside.earlier.items _ first c.replace.result (is_ok c.append.result) c.in_ok-lists.ensures.items single
    c.push_reserved.ensures.items c.append.ensures.items (c.append.ensures.succeeds fits) c.push_reserved-2.ensures.items
    ∙ ap (λ (list : Listed). c.args.own.now ∷ (lines_in c.self.inside.earlier.items ++ list.lines)) c.replace.ensures.value
    ∙ ap (λ (lines : List ThreadLine). c.args.own.now ∷ lines) c.self.view_is

pub of-requires-2 : goal.of-requires-2
of-requires-2 c = omega (arith, ap length (all_in ((goal.at.of-requires-2 c).After-push_reserved-2)), c.len-count.ensures.length)

pub returns-clause-lines : goal.returns-clause-lines
returns-clause-lines c = c.of-2.ensures ∙ all_in ((goal.at.returns-clause-lines c).After-push_reserved-2)
