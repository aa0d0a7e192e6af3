use Rattle.std.proofs.{Common.{◌≡◌, ◌+◌, ◌<◌, ℕ, List, get_or, length, ap, sym, subst, arith, ◌*◌}, Math.ListN.set}
use Rattle.std.proofs.lemmas.List.{get_or_read}
use Rattle.arachne_program.specs.Value.{wrapped}
use Rattle.arachne_machine.specs.{Lines.{CountsHoldAt, Listed, with_holds}, declared.line_list.Mark.Mark}
use Rattle.arachne_machine.proofs.Holding.{counts-at, counts-none, length-with_holds, within-holds}
use Rattle.arachne_machine.proofs.line_list.LineList.count_hold.Goals as goal

-- the place is within the list
within : (quarter locks place : ℕ) (marks : List Mark) (holds : List ℕ) (list : Listed) → record { locks = locks; quarter = quarter; lines = with_holds quarter locks marks holds } ≡ list →
    place < length list.lines → place < length marks
within quarter locks place marks holds list shown few = omega (arith, few, ap (λ (v : Listed). length v.lines) shown, length-with_holds quarter locks marks holds)

pub overflow_mul-at : goal.overflow_mul-at
overflow_mul-at c =
    let fields = c.self.inside in
    let few = within fields.quarter fields.locks c.args.place fields.marks.items fields.holds.items c.args.self.now c.self.view_is c.requires in
    omega (arith, within-holds fields.locks fields.marks.items fields.holds.items c.args.place c.self.invariant.fit few, fields.holds.ok.0, fields.holds.ok.1, fields.holds.small)

pub overflow_add-at : goal.overflow_add-at
overflow_add-at c =
    let fields = c.self.inside in
    let few = within fields.quarter fields.locks c.args.place fields.marks.items fields.holds.items c.args.self.now c.self.view_is c.requires in
    omega (arith, within-holds fields.locks fields.marks.items fields.holds.items c.args.place c.self.invariant.fit few, fields.holds.ok.0, fields.holds.ok.1, fields.holds.small, c.if-lock-self.true)

pub index-requires : goal.index-requires
index-requires c =
    let fields = c.self.inside in
    let few = within fields.quarter fields.locks c.args.place fields.marks.items fields.holds.items c.args.self.now c.self.view_is c.requires in
    omega (arith, within-holds fields.locks fields.marks.items fields.holds.items c.args.place c.self.invariant.fit few, fields.holds.ok.0, c.if-lock-self.true)

pub index_mut-requires : goal.index_mut-requires
index_mut-requires c =
    let fields = c.self.inside in
    let few = within fields.quarter fields.locks c.args.place fields.marks.items fields.holds.items c.args.self.now c.self.view_is c.requires in
    omega (arith, within-holds fields.locks fields.marks.items fields.holds.items c.args.place c.self.invariant.fit few, fields.holds.ok.0, c.if-lock-self.true)

pub returns-then-lock-self-clause-counts : goal.returns-then-lock-self-clause-counts
returns-then-lock-self-clause-counts c =
    let fields = c.self.inside in
    let marks : List Mark = fields.marks.items in
    let holds : List ℕ = fields.holds.items in
    let at : ℕ = c.args.place * fields.locks + c.args.lock in
    let few = within fields.quarter fields.locks c.args.place marks holds c.args.self.now c.self.view_is c.requires in
    let known : c.args.lock < fields.locks = c.if-lock-self.true in
    let here : at < length holds = omega (arith, within-holds fields.locks marks holds c.args.place c.self.invariant.fit few, known) in
    let read : get_or holds at 0 ≡ c.index.result.now = sym (get_or_read holds at c.index.result.now here c.index.ensures 0) in
    subst (λ (x : ℕ). CountsHoldAt c.args.self.now.lines (with_holds fields.quarter fields.locks marks (set holds at (wrapped (x + 1)))) c.args.place c.args.lock) read
    (subst (λ (v : Listed). CountsHoldAt v.lines (with_holds fields.quarter fields.locks marks (set holds at (wrapped (get_or holds at 0 + 1)))) c.args.place c.args.lock) c.self.view_is
    (counts-at fields.quarter fields.locks marks holds c.args.place c.args.lock few c.self.invariant.fit known))

pub returns-else-lock-self-clause-counts : goal.returns-else-lock-self-clause-counts
returns-else-lock-self-clause-counts c =
    let fields = c.self.inside in
    let few = within fields.quarter fields.locks c.args.place fields.marks.items fields.holds.items c.args.self.now c.self.view_is c.requires in
    subst (λ (v : Listed). CountsHoldAt v.lines v.lines c.args.place c.args.lock) c.self.view_is
    (counts-none fields.quarter fields.locks fields.marks.items fields.holds.items c.args.place c.args.lock few c.self.invariant.fit (omega (arith, c.if-lock-self.false)))
