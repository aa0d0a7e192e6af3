use Rattle.std.proofs.Common.{◌≡◌, ◌+◌, ◌-◌, ◌<◌, ℕ, List, get_or, take, drop, length, ap, sym, ◌∙◌, arith, ◌*◌}
use Rattle.arachne_machine.specs.{Lines.{Listed, line_with, with_holds}, declared.{line.Label.Label, line_list.Mark.Mark}}
use Rattle.arachne_machine.proofs.Holding.{length-with_holds, with_holds-at, within-holds}
use Rattle.arachne_machine.proofs.line_list.LineList.at.Goals as goal

-- the place is within the list
within : (quarter locks place : ℕ) (marks : List Mark) (holds : List ℕ) (list : Listed) → record { locks = locks; quarter = quarter; lines = with_holds quarter locks marks holds } ≡ list →
    place < length list.lines → place < length marks
within quarter locks place marks holds list shown few = omega (arith, few, ap (λ (v : Listed). length v.lines) shown, length-with_holds quarter locks marks holds)

pub index-mark-requires : goal.index-mark-requires
index-mark-requires c =
    let fields = c.self.inside in
    omega (arith, within fields.quarter fields.locks c.args.place fields.marks.items fields.holds.items c.args.self.now c.self.view_is c.requires, fields.marks.ok.0)

pub overflow_mul-first : goal.overflow_mul-first
overflow_mul-first c =
    let fields = c.self.inside in
    let few = within fields.quarter fields.locks c.args.place fields.marks.items fields.holds.items c.args.self.now c.self.view_is c.requires in
    omega (arith, within-holds fields.locks fields.marks.items fields.holds.items c.args.place c.self.invariant.fit few, fields.holds.ok.0, fields.holds.ok.1, fields.holds.small)

pub overflow_add-first : goal.overflow_add-first
overflow_add-first c =
    let fields = c.self.inside in
    let few = within fields.quarter fields.locks c.args.place fields.marks.items fields.holds.items c.args.self.now c.self.view_is c.requires in
    omega (arith, within-holds fields.locks fields.marks.items fields.holds.items c.args.place c.self.invariant.fit few, fields.holds.ok.0, fields.holds.ok.1, fields.holds.small)

pub offset_bounds-deref-first : goal.offset_bounds-deref-first
offset_bounds-deref-first c =
    let fields = c.self.inside in
    let few = within fields.quarter fields.locks c.args.place fields.marks.items fields.holds.items c.args.self.now c.self.view_is c.requires in
    omega (arith, within-holds fields.locks fields.marks.items fields.holds.items c.args.place c.self.invariant.fit few, fields.holds.ok.0, fields.holds.ok.1, fields.holds.small)

pub slice_bounds-new-end : goal.slice_bounds-new-end
slice_bounds-new-end c =
    let fields = c.self.inside in
    let few = within fields.quarter fields.locks c.args.place fields.marks.items fields.holds.items c.args.self.now c.self.view_is c.requires in
    omega (arith, within-holds fields.locks fields.marks.items fields.holds.items c.args.place c.self.invariant.fit few, fields.holds.ok.0, c.deref.ensures.len)

pub returns : goal.returns
returns c = λ other.
    let fields = c.self.inside in
    let first : ℕ = c.args.place * fields.locks in
    let few = within fields.quarter fields.locks c.args.place fields.marks.items fields.holds.items c.args.self.now c.self.view_is c.requires in
    let mark : Mark = c.index-mark.result.now in
    let long : (first + fields.locks) - first ≡ fields.locks = omega arith in
    c.new.ensures
    ∙ ap (λ (label : Label). record { name = mark.name; tag = label.tag; holds = take ((first + fields.locks) - first) (drop first c.deref.result.now); ran = label.ran }) c.unpacked.ensures
    ∙ ap (λ (l : List ℕ). line_with fields.quarter mark (take ((first + fields.locks) - first) (drop first l))) c.deref.ensures.value
    ∙ ap (λ (n : ℕ). line_with fields.quarter mark (take n (drop first fields.holds.items))) long
    ∙ sym (with_holds-at fields.quarter fields.locks fields.marks.items fields.holds.items c.args.place mark other few c.index-mark.ensures)
    ∙ ap (λ (v : Listed). get_or v.lines c.args.place other) c.self.view_is
