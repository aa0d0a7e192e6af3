use Rattle.std.proofs.Common.{◌≡◌, ◌∷◌, ◌<◌, false, true, ◌+◌, get_or, length, map, vec_len, ap, ◌∙◌, sym, arith, rules}
use Rattle.std.proofs.lemmas.List.{get_or_read}
use Rattle.arachne_machine.specs.declared.line.ThreadLine.{ThreadLine}
use Rattle.arachne_run.proofs.Marking.{MarksBefore, before-none, before-resized, before-more, before-twice, before-greatest}
use Rattle.arachne_run.proofs.report.marks_of.Goals as goal
use Rattle.arachne_run.proofs.report.marks_of.Goals.{After-index, then-tag-len+in_ok-resize-2, else-tag-len}

-- none is marked yet
pub loop-line-init : goal.loop-line-init
loop-line-init c =
    let long : vec_len c.resize.new.self ≡ c.len.result = search rules in
    before-none _ _ _ (ap (map (λ (line : ThreadLine). line.tag)) (sym (c.into_iter-line-iterator.ensures.into_iter_gives ∙ c.iter-line-items.ensures)))
    (λ k below. c.resize.ensures.by_index.1 k false (search rules) (omega (arith, c.new-marks.ensures.len)) (omega (arith, below, long, c.resize.new.self.ok.0)))

-- the tags before this one are marked, also where there was made room for it
marked : (c : After-index) → MarksBefore (map (λ (line : ThreadLine). line.tag) c.args.threads.now) (map (λ (line : ThreadLine). line.tag) c.loop-line.line-iterator) c.if-tag-len.marks.items
marked c =
    elim c.if-tag-len.branch [
      | then-tag-len+in_ok-resize-2 w ↦
          let long : vec_len w.resize-then-tag-len.new.self ≡ c.tag_index-tag.result + 1 = search rules in
          rw (w.marks-is) (before-resized (map (λ (line : ThreadLine). line.tag) c.args.threads.now) (map (λ (line : ThreadLine). line.tag) c.loop-line.line-iterator)
          c.loop-line.marks.items w.resize-then-tag-len.new.self.items c.loop-line.invariant
          (λ k below. w.resize-then-tag-len.ensures.by_index.0 k false (omega (arith, c.loop-line.marks.ok.0)) (omega (arith, c.loop-line.marks.ok.0)))
          (λ k above below. w.resize-then-tag-len.ensures.by_index.1 k false (search rules) (omega (arith, c.loop-line.marks.ok.0)) (omega (arith, w.resize-then-tag-len.new.self.ok.0))))
      | else-tag-len w ↦ rw (w.marks-is) c.loop-line.invariant
    ]

-- this one is the first of those that are left
first : (c : After-index) → map (λ (line : ThreadLine). line.tag) c.loop-line.line-iterator ≡ c.tag_index-tag.result ∷ map (λ (line : ThreadLine). line.tag) c.next.new.self
first c = ap (map (λ (line : ThreadLine). line.tag)) c.in-Some.ensures.steps ∙ ap (λ tag. tag ∷ map (λ (line : ThreadLine). line.tag) c.next.new.self) (sym c.tag_index-tag.ensures)

pub returns-then-tag-clause-none : goal.returns-then-tag-clause-none
returns-then-tag-clause-none c =
    before-greatest _ _ (map (λ (line : ThreadLine). line.tag) c.next.new.self) c.in-Some.line.tag _ c.loop-line.invariant
    (ap (map (λ (line : ThreadLine). line.tag)) c.in-Some.ensures.steps) (sym c.tag_index-tag.ensures ∙ c.if-tag.true)

pub loop-line-preserved : goal.loop-line-preserved
loop-line-preserved c =
    let at = (goal.at.loop-line-preserved c).After-index in
    let marks = c.if-tag-len.marks.items in
    let within : c.tag_index-tag.result < length marks = search rules in
    let read = get_or_read marks _ _ within c.index.ensures false in
    let unmarked : get_or marks c.tag_index-tag.result false ≡ false = cc in
    before-more _ _ _ c.tag_index-tag.result marks (marked at) (first at) within unmarked

pub returns-then-index-clause-none : goal.returns-then-index-clause-none
returns-then-index-clause-none c =
    let at = (goal.at.returns-then-index-clause-none c).After-index in
    let marks = c.if-tag-len.marks.items in
    let within : c.tag_index-tag.result < length marks = search rules in
    let read = get_or_read marks _ _ within c.index.ensures false in
    let was_marked : get_or marks c.tag_index-tag.result false ≡ true = cc in
    before-twice _ _ _ c.tag_index-tag.result marks (marked at) (first at) was_marked
