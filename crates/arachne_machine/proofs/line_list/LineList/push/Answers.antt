use Rattle.std.proofs.Common.{◌≡◌, ℕ, List, [], ◌∷◌, ◌++◌, ap, sym, ◌∙◌}
use Rattle.arachne_program.specs.Effects.{tabulated}
use Rattle.arachne_machine.specs.declared.{line.ThreadLine.ThreadLine, line_list.Mark.Mark}
use Rattle.arachne_machine.{specs.Lines.{Listed, line_with, with_holds}, proofs.{Holding.{holds-push, with_holds-push}, Labels.line-packed}}
use Rattle.arachne_machine.proofs.Tabulated.{length-tabulated}
use Rattle.arachne_machine.proofs.line_list.LineList.push.Goals as goal

pub invariant_of-self-2 : goal.invariant_of-self-2
invariant_of-self-2 c =
    let fields = c.self.inside in
    let mark : Mark = record { name = c.args.name; label = c.packed.result } in
    let none : List ℕ = tabulated fields.locks (λ lock. 0) in
    record {
      fit = rw (c.push_reserved.ensures.items, c.try_reserve.ensures.items, c.in_ok-push_zeros.ensures.ok)
          (holds-push fields.locks fields.marks.items mark fields.holds.items none c.self.invariant.fit (length-tabulated fields.locks (λ lock. 0)));
      four = c.self.invariant.four;
    }

pub returns-clause-ok : goal.returns-clause-ok
returns-clause-ok c =
    let fields = c.self.inside in
    let quarter : ℕ = fields.quarter in
    let mark : Mark = record { name = c.args.name; label = c.packed.result } in
    let none : ℕ → List ℕ = λ n. tabulated n (λ lock. 0) in
    let line : ℕ → ThreadLine = λ n. record { name = c.args.name; tag = c.args.label.tag; holds = none n; ran = c.args.label.ran } in
    let shown : record { locks = fields.locks; quarter = quarter; lines = with_holds quarter fields.locks fields.marks.items fields.holds.items } ≡ c.args.self.now = c.self.view_is in
    let marks : c.push_reserved.new.self.items ≡ fields.marks.items ++ mark ∷ [] =
    c.push_reserved.ensures.items ∙ ap (λ (l : List Mark). l ++ mark ∷ []) c.try_reserve.ensures.items in
    let here : with_holds quarter fields.locks fields.marks.items fields.holds.items ≡ c.args.self.now.lines = ap (λ (v : Listed). v.lines) shown in
    let own : line_with quarter mark (none fields.locks) ≡ line fields.locks =
    line-packed quarter c.packed.result c.args.label.tag c.args.label.ran c.args.name (none fields.locks) c.packed.ensures.tag c.packed.ensures.ran
    (c.requires ∙ sym (ap (λ (v : Listed). v.quarter) shown)) in
    let lines : with_holds quarter fields.locks c.push_reserved.new.self.items c.push_zeros.new.numbers.items ≡ c.args.self.now.lines ++ line fields.locks ∷ [] =
    ap (λ (l : List Mark). with_holds quarter fields.locks l c.push_zeros.new.numbers.items) marks
    ∙ ap (λ (l : List ℕ). with_holds quarter fields.locks (fields.marks.items ++ mark ∷ []) l) c.in_ok-push_zeros.ensures.ok
    ∙ with_holds-push quarter fields.locks fields.marks.items mark fields.holds.items (none fields.locks) c.self.invariant.fit (length-tabulated fields.locks (λ lock. 0))
    ∙ ap (λ (l : List ThreadLine). l ++ line_with quarter mark (none fields.locks) ∷ []) here
    ∙ ap (λ (l : ThreadLine). c.args.self.now.lines ++ l ∷ []) own in
    ap (λ (l : List ThreadLine). record { locks = fields.locks; quarter = quarter; lines = l }) lines
    ∙ ap (λ (v : Listed). record { locks = v.locks; quarter = v.quarter; lines = c.args.self.now.lines ++ line v.locks ∷ [] }) shown
