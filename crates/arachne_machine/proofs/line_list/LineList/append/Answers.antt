use Rattle.std.proofs.Common.{◌≡◌, ◌+◌, ◌≤◌, ℕ, List, [], ◌∷◌, ◌++◌, length, ap, sym, subst, ◌∙◌, arith, vec_len, vec_capacity, ◌*◌, ◌%◌, ◌^◌, Bool, true, if◌then◌else◌}
use Rattle.std.specs.Result.{is_ok}
use Rattle.arachne_machine.{proofs.{Holding.{holds-more, with_holds-more}, Labels.line-packed}, specs.declared.line.ThreadLine.ThreadLine}
use Rattle.arachne_machine.proofs.line_list.LineList.append.Goals.{After-append-3}
use Rattle.arachne_machine.specs.{Lines.{AreHoldsOf, Listed, line_with, with_holds}, declared.line_list.Mark.Mark}
use Rattle.arachne_machine.proofs.line_list.LineList.append.Goals as goal

-- an append that had room
joined : {A : Type 0} → (front more new : List A) (done : Bool) → new ≡ (if done then front ++ more else front) → done ≡ true → new ≡ front ++ more
joined front more new done appended ok = appended ∙ ap (λ b. if b then front ++ more else front) ok

-- the own line's mark
abbrev mark_of : After-append-3 → Mark
mark_of c = record { name = c.take-name.result.name; label = c.packed-label.result }

-- the threads that are here, the own one and the others
marks : (c : After-append-3) → c.append.new.self.items ≡ (c.self.inside.marks.items ++ mark_of c ∷ []) ++ c.below.inside.marks.items
marks c =
    let room : vec_len c.try_reserve.new.self + (c.len.result + 1) ≤ vec_capacity c.try_reserve.new.self = c.in_ok-try_reserve.ensures.ok in
    let fits : vec_len c.push_reserved.new.self + vec_len c.below.inside.marks ≤ vec_capacity c.push_reserved.new.self =
    omega (arith, room, c.push_reserved.ensures.len, c.push_reserved.ensures.capacity, c.len.ensures) in
    joined c.push_reserved.new.self.items c.below.inside.marks.items c.append.new.self.items (is_ok c.append.result) c.append.ensures.items (c.append.ensures.succeeds fits)
    ∙ ap (λ (l : List Mark). l ++ c.below.inside.marks.items) (c.push_reserved.ensures.items ∙ ap (λ (l : List Mark). l ++ mark_of c ∷ []) c.try_reserve.ensures.items)

-- and their numbers
holds : (c : After-append-3) → c.append-3.new.self.items ≡ (c.self.inside.holds.items ++ c.args.own.now.holds) ++ c.below.inside.holds.items
holds c =
    let own : c.into_vec-holds.result.items ≡ c.args.own.now.holds = c.into_vec-holds.ensures ∙ ap (λ (line : ThreadLine). line.holds) c.take-name.ensures in
    let room : vec_len c.try_reserve-2.new.self + (length c.as_slice.result.now + c.len-2.result) ≤ vec_capacity c.try_reserve-2.new.self = c.in_ok-try_reserve-2.ensures.ok in
    let fits : vec_len c.try_reserve-2.new.self + vec_len c.into_vec-holds.result ≤ vec_capacity c.try_reserve-2.new.self =
    omega (arith, room, ap length c.as_slice.ensures, ap length own, c.into_vec-holds.result.ok.0) in
    let second : vec_len c.append-2.new.self ≡ vec_len c.try_reserve-2.new.self + vec_len c.into_vec-holds.result =
    c.append-2.ensures.len ∙ ap (λ b. if b then vec_len c.try_reserve-2.new.self + vec_len c.into_vec-holds.result else vec_len c.try_reserve-2.new.self) (c.append-2.ensures.succeeds fits) in
    let more : vec_len c.append-2.new.self + vec_len c.below.inside.holds ≤ vec_capacity c.append-2.new.self =
    omega (
      arith,
      room,
      c.len-2.ensures,
      ap length c.as_slice.ensures,
      ap length own,
      c.into_vec-holds.result.ok.0,
      second,
      c.append-2.ensures.capacity,
    ) in
    joined c.append-2.new.self.items c.below.inside.holds.items c.append-3.new.self.items (is_ok c.append-3.result) c.append-3.ensures.items (c.append-3.ensures.succeeds more)
    ∙ ap (λ (l : List ℕ). l ++ c.below.inside.holds.items)
    (joined c.try_reserve-2.new.self.items c.into_vec-holds.result.items c.append-2.new.self.items (is_ok c.append-2.result) c.append-2.ensures.items (c.append-2.ensures.succeeds fits)
    ∙ ap (λ (l : List ℕ). l ++ c.into_vec-holds.result.items) c.try_reserve-2.ensures.items
    ∙ ap (λ (l : List ℕ). c.self.inside.holds.items ++ l) own)

-- there are as many numbers of the own line as of each other
long : (c : After-append-3) → length c.args.own.now.holds ≡ c.self.inside.locks
long c = c.requires.own ∙ sym (ap (λ (v : Listed). v.locks) c.self.view_is)

same : (c : After-append-3) → c.below.inside.locks ≡ c.self.inside.locks
same c = ap (λ (v : Listed). v.locks) c.below.view_is ∙ c.requires.below ∙ sym (ap (λ (v : Listed). v.locks) c.self.view_is)

pub invariant_of-self-2 : goal.invariant_of-self-2
invariant_of-self-2 g =
    let c = (goal.at.invariant_of-self-2 g).After-append-3 in
    let fields = c.self.inside in
    let fits : AreHoldsOf fields.locks c.below.inside.marks.items c.below.inside.holds.items =
    subst (λ (n : ℕ). AreHoldsOf n c.below.inside.marks.items c.below.inside.holds.items) (same c) c.below.invariant.fit in
    record {
      fit = ap length (holds c)
          ∙ holds-more fields.locks fields.marks.items c.below.inside.marks.items (mark_of c) fields.holds.items c.args.own.now.holds c.below.inside.holds.items c.self.invariant.fit (long c) fits
          ∙ ap (λ (l : List Mark). length l * fields.locks) (sym (marks c));
      four = c.self.invariant.four;
    }

pub returns-clause-ok : goal.returns-clause-ok
returns-clause-ok g =
    let c = (goal.at.returns-clause-ok g).After-append-3 in
    let fields = c.self.inside in
    let quarter : ℕ = fields.quarter in
    let shown : record { locks = fields.locks; quarter = quarter; lines = with_holds quarter fields.locks fields.marks.items fields.holds.items } ≡ c.args.self.now = c.self.view_is in
    let many : List Mark = c.below.inside.marks.items in
    let counts : List ℕ = c.below.inside.holds.items in
    let others : List ThreadLine = with_holds quarter fields.locks many counts in
    let high : c.below.inside.quarter ≡ quarter =
    ap (λ (v : Listed). v.quarter) c.below.view_is ∙ c.requires.below_tags ∙ sym (ap (λ (v : Listed). v.quarter) shown) in
    let below : others ≡ c.args.below.now.lines =
    ap (λ (n : ℕ). with_holds quarter n many counts) (sym (same c)) ∙ ap (λ (n : ℕ). with_holds n c.below.inside.locks many counts) (sym high)
    ∙ ap (λ (v : Listed). v.lines) c.below.view_is in
    let here : with_holds quarter fields.locks fields.marks.items fields.holds.items ≡ c.args.self.now.lines = ap (λ (v : Listed). v.lines) shown in
    let own : ThreadLine = c.args.own.now in
    let taken : line_with quarter (mark_of c) own.holds ≡ own =
    ap (λ (line : ThreadLine). line_with quarter (record { name = line.name; label = c.packed-label.result }) own.holds) c.take-name.ensures
    ∙ line-packed quarter c.packed-label.result own.tag own.ran own.name own.holds
    (c.packed-label.ensures.tag ∙ ap (λ (line : ThreadLine). line.tag % 2 ^ 62) c.take-name.ensures)
    (c.packed-label.ensures.ran ∙ ap (λ (line : ThreadLine). line.ran) c.take-name.ensures)
    (c.requires.tag ∙ sym (ap (λ (v : Listed). v.quarter) shown)) in
    let lines : with_holds quarter fields.locks c.append.new.self.items c.append-3.new.self.items ≡ c.args.self.now.lines ++ own ∷ c.args.below.now.lines =
    ap (λ (l : List Mark). with_holds quarter fields.locks l c.append-3.new.self.items) (marks c)
    ∙ ap (λ (l : List ℕ). with_holds quarter fields.locks ((fields.marks.items ++ mark_of c ∷ []) ++ many) l) (holds c)
    ∙ with_holds-more quarter fields.locks fields.marks.items many (mark_of c) fields.holds.items own.holds counts c.self.invariant.fit (long c)
    ∙ ap (λ (l : List ThreadLine). l ++ line_with quarter (mark_of c) own.holds ∷ others) here
    ∙ ap (λ (line : ThreadLine). c.args.self.now.lines ++ line ∷ others) taken
    ∙ ap (λ (l : List ThreadLine). c.args.self.now.lines ++ own ∷ l) below in
    ap (λ (l : List ThreadLine). record { locks = fields.locks; quarter = quarter; lines = l }) lines
    ∙ ap (λ (v : Listed). record { locks = v.locks; quarter = v.quarter; lines = c.args.self.now.lines ++ own ∷ c.args.below.now.lines }) shown
