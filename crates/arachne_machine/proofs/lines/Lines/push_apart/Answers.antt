use Rattle.std.proofs.Common.{◌≡◌, ◌+◌, ℕ, List, [], ◌∷◌, ◌++◌, length, ap, ◌∙◌, arith, length-append}
use Rattle.arachne_program.specs.Effects.{tabulated}
use Rattle.arachne_machine.specs.{declared.line.ThreadLine.ThreadLine, Lines.{Listed, lines_in}}
use Rattle.arachne_machine.proofs.{Listing.lines_in-push, lines.Lines.push_apart.Goals.After-push_reserved}
use Rattle.arachne_machine.proofs.lines.Lines.push_apart.Goals as goal

-- the line that is appended
abbrev line_of : After-push_reserved → ThreadLine
line_of c = record { name = c.args.name; tag = c.args.label.tag; holds = tabulated c.args.locks (λ lock. 0); ran = c.args.label.ran }

-- the earlier lists, with the last one behind them
earlier : (c : After-push_reserved) → lines_in c.push_reserved.new.self.items ≡ lines_in c.self.inside.earlier.items ++ c.self.inside.last.lines
earlier c =
    ap lines_in c.push_reserved.ensures.items ∙ lines_in-push c.try_reserve.new.self.items c.replace-list.result
    ∙ ap (λ (l : List Listed). lines_in l ++ c.replace-list.result.lines) c.try_reserve.ensures.items
    ∙ ap (λ (v : Listed). lines_in c.self.inside.earlier.items ++ v.lines) c.replace-list.ensures.value

-- the list of its own
last : (c : After-push_reserved) → c.replace-list.new.dest.lines ≡ line_of c ∷ []
last c =
    let own : Listed → List ThreadLine = λ v. v.lines ++ record { name = c.args.name; tag = c.args.label.tag; holds = tabulated v.locks (λ lock. 0); ran = c.args.label.ran } ∷ [] in
    ap (λ (v : Listed). v.lines) (c.replace-list.ensures.after ∙ c.in_ok-push.ensures.ok) ∙ ap own c.for_tag-own.ensures
    ∙ ap (λ (n : ℕ). record { name = c.args.name; tag = c.args.label.tag; holds = tabulated n (λ lock. 0); ran = c.args.label.ran } ∷ []) c.from.ensures

pub invariant_of-self-2 : goal.invariant_of-self-2
invariant_of-self-2 g =
    let c = (goal.at.invariant_of-self-2 g).After-push_reserved in
    let first : List ThreadLine = lines_in c.self.inside.earlier.items in
    let many = length-append first c.self.inside.last.lines in
    let were : length c.args.self.now ≡ length first + length c.self.inside.last.lines = omega (arith, ap length c.self.view_is, many) in
    record {
      counted = omega (arith, ap length (earlier c), many, c.self.invariant.counted, c.len.ensures);
      few = omega (arith, ap length (last c), were, c.requires, c.self.invariant.counted, c.len.ensures);
    }

pub returns-clause-ok : goal.returns-clause-ok
returns-clause-ok g =
    let c = (goal.at.returns-clause-ok g).After-push_reserved in
    ap (λ (l : List ThreadLine). l ++ c.replace-list.new.dest.lines) (earlier c)
    ∙ ap (λ (l : List ThreadLine). (lines_in c.self.inside.earlier.items ++ c.self.inside.last.lines) ++ l) (last c)
    ∙ ap (λ (l : List ThreadLine). l ++ line_of c ∷ []) c.self.view_is

pub returns-clause-few : goal.returns-clause-few
returns-clause-few g =
    let c = (goal.at.returns-clause-few g).After-push_reserved in
    omega (
      arith,
      ap length (earlier c),
      ap length (last c),
      ap length c.self.view_is,
      c.requires,
      length-append (lines_in c.self.inside.earlier.items) c.self.inside.last.lines,
      length-append (lines_in c.push_reserved.new.self.items) c.replace-list.new.dest.lines,
    )
