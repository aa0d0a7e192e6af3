-- A child is placed. If it was taken, callers see it placed at the fork or begun at the join (`placed`). If it was
-- refused, child and thread are unchanged (`came_back`).
use Rattle.std.proofs.Common.{◌≡◌, ◌+◌, Some, ap, sym, ◌∙◌, subst}
use Rattle.arachne_machine.specs.Nested.{IsPlacing, MayBePlaced, PlacesAtFork, SameWhole, begun_in, pending_in, whole, work_in}
use Rattle.arachne_machine.proofs.{thread.Thread.in_place.Goals.{After-deref_mut, After-place, In-Ok}, Handed.fits_into}
use Rattle.arachne_machine.proofs.{Begun.{PlacedHere, Returned, placed_seen, returned, source_seen}, Nesting.name_seen}
use Rattle.arachne_machine.specs.{Kept.{IsReturned, IsTakenBack, nested}, Steps.{pending_of, suspended, top}}
use Rattle.arachne_machine.specs.{declared.state.State.State, Suspended.awaited, Runs.FitsInto}
use Rattle.arachne_machine.proofs.thread.Thread.in_place.Goals as goal

may : (c : goal.After-deref_mut) → MayBePlaced (nested c.self.inside.state.value c.self.inside.placed.items) (nested c.child.inside.state.value c.child.inside.placed.items)
may c =
    let child = nested c.child.inside.state.value c.child.inside.placed.items in
    subst (λ v. MayBePlaced v child) (sym c.self.view_is) (subst (λ v. MayBePlaced c.args.self.now v) (sym c.child.view_is) c.requires.child)

named : (c : goal.After-deref_mut) → Some (whole c.args.child).name ≡ Some c.child.inside.state.value.own.name
named c = ap (λ v. Some (whole v).name) (sym c.child.view_is) ∙ ap Some (name_seen c.child.inside.state.value c.child.inside.placed.items)

awaits : (c : goal.After-deref_mut) → awaited c.args.self.now.running ≡ awaited (suspended (top c.deref_mut.result.now))
awaits c = ap (λ v. awaited v.running) (sym c.self.view_is) ∙ ap (λ s. awaited (suspended (top s))) (sym c.deref_mut.ensures.value)

placed : (c : goal.In-Ok) →
    PlacedHere c.self.inside.state.value c.child.inside.state.value c.place.new.self c.self.inside.placed.items c.child.inside.placed.items c.place.new.placed.items
placed c =
    let t = c.self.inside.state.value in
    let ps = c.self.inside.placed.items in
    let child = c.child.inside.state.value in
    let cps = c.child.inside.placed.items in
    let new = c.place.new.self in
    let qs = c.place.new.placed.items in
    let taken : IsTakenBack t ps child cps new qs = subst (λ s. IsTakenBack s ps child cps new qs) c.deref_mut.ensures.value c.in-Ok.ensures in
    placed_seen t child new ps cps qs c.self.invariant c.child.invariant (may (goal.at.In-Ok c).After-deref_mut)
    (subst (λ v. IsPlacing (pending_in v)) (sym c.self.view_is) c.requires.pending) taken

came_back : (c : goal.After-place) (back : State) →
    IsReturned c.deref_mut.result.now c.self.inside.placed.items c.child.inside.state.value c.child.inside.placed.items c.place.new.self c.place.new.placed.items c.place.new.others.items back →
    Returned c.self.inside.state.value c.child.inside.state.value c.place.new.self back c.self.inside.placed.items c.child.inside.placed.items c.place.new.placed.items c.place.new.others.items
came_back c back r =
    let ps = c.self.inside.placed.items in
    let child = c.child.inside.state.value in
    let cps = c.child.inside.placed.items in
    let new = c.place.new.self in
    let qs = c.place.new.placed.items in
    let rs = c.place.new.others.items in
    returned c.self.inside.state.value child new back ps cps qs rs c.self.invariant c.child.invariant (subst (λ s. IsReturned s ps child cps new qs rs back) c.deref_mut.ensures.value r)

pub place-requires-clause-fits : goal.place-requires-clause-fits
place-requires-clause-fits c =
    let t = c.self.inside.state.value in
    let child = c.child.inside.state.value in
    let can = may (goal.at.place-requires-clause-fits c).After-deref_mut in
    subst (λ s. FitsInto s child) (sym c.deref_mut.ensures.value)
    (fits_into t child c.self.invariant.sound c.child.invariant.sound (source_seen t child c.self.inside.placed.items c.child.inside.placed.items can))

pub place-requires-clause-forked : goal.place-requires-clause-forked
place-requires-clause-forked c =
    let at = (goal.at.place-requires-clause-forked c).After-deref_mut in
    λ forks. sym (awaits at) ∙ c.requires.forked (ap pending_in (sym c.self.view_is) ∙ ap (λ s. pending_of s.control) (sym c.deref_mut.ensures.value) ∙ forks) ∙ named at

pub invariant_of-self : goal.invariant_of-self
invariant_of-self c = (placed (goal.at.invariant_of-self c).In-Ok).kept

pub returns-in-Ok-clause-whole : goal.returns-in-Ok-clause-whole
returns-in-Ok-clause-whole c =
    let b = placed (goal.at.returns-in-Ok-clause-whole c).In-Ok in
    subst (λ v. SameWhole v (nested c.place.new.self c.place.new.placed.items)) c.self.view_is b.whole

pub returns-in-Ok-clause-at_fork : goal.returns-in-Ok-clause-at_fork
returns-in-Ok-clause-at_fork c =
    let new = nested c.place.new.self c.place.new.placed.items in
    let b = placed (goal.at.returns-in-Ok-clause-at_fork c).In-Ok in
    λ forks. subst (λ v. PlacesAtFork v c.args.child new) c.self.view_is
    (subst (λ v. PlacesAtFork (nested c.self.inside.state.value c.self.inside.placed.items) v new) c.child.view_is (b.at_fork (ap pending_in c.self.view_is ∙ forks)))

pub returns-in-Ok-clause-at_join : goal.returns-in-Ok-clause-at_join
returns-in-Ok-clause-at_join c =
    let child = nested c.child.inside.state.value c.child.inside.placed.items in
    let b = placed (goal.at.returns-in-Ok-clause-at_join c).In-Ok in
    λ joins. b.at_join (ap pending_in c.self.view_is ∙ joins) ∙ ap (λ v. begun_in v child) c.self.view_is ∙ ap (λ v. begun_in c.args.self.now v) c.child.view_is

pub returns-in-Ok-clause-work : goal.returns-in-Ok-clause-work
returns-in-Ok-clause-work c =
    let b = placed (goal.at.returns-in-Ok-clause-work c).In-Ok in
    b.work ∙ ap (λ v. work_in v + work_in (nested c.child.inside.state.value c.child.inside.placed.items)) c.self.view_is ∙ ap (λ v. work_in c.args.self.now + work_in v) c.child.view_is

pub returns-in-Ok-clause-foreign : goal.returns-in-Ok-clause-foreign
returns-in-Ok-clause-foreign c =
    let at = (goal.at.returns-in-Ok-clause-foreign c).After-deref_mut in
    (λ no same. no, λ differs. differs (awaits at ∙ c.in-Ok.ensures.of_child ∙ sym (named at)))

pub invariant_of-result : goal.invariant_of-result
invariant_of-result c =
    let e = rw c.in-Err-Foreign.field-0-is at c.in-Err-Foreign.ensures in
    (came_back (goal.at.invariant_of-result c).After-place c.in-Err-Foreign.state.value e.1).kept_child

pub returns-in-Err-Foreign-clause-foreign : goal.returns-in-Err-Foreign-clause-foreign
returns-in-Err-Foreign-clause-foreign c =
    let at = (goal.at.returns-in-Err-Foreign-clause-foreign c).After-deref_mut in
    let back = rw c.in-Err-Foreign.field-0-is at c.in-Err-Foreign.ensures in
    (λ foreign is. back.0 (sym (awaits at) ∙ is ∙ named at), λ differs. tt)

pub returns-in-Err-Foreign-clause-handed_back : goal.returns-in-Err-Foreign-clause-handed_back
returns-in-Err-Foreign-clause-handed_back c =
    let e = (rw c.in-Err-Foreign.field-0-is at c.in-Err-Foreign.ensures).1 in
    (came_back (goal.at.returns-in-Err-Foreign-clause-handed_back c).After-place c.in-Err-Foreign.state.value e).seen_child ∙ c.child.view_is

pub invariant_of-result-in-Err-Memory : goal.invariant_of-result-in-Err-Memory
invariant_of-result-in-Err-Memory c =
    let e = rw c.in-Err-Memory.field-0-is at c.in-Err-Memory.ensures in
    (came_back (goal.at.invariant_of-result-in-Err-Memory c).After-place c.in-Err-Memory.state.value e.1).kept_child

pub returns-clause-foreign : goal.returns-clause-foreign
returns-clause-foreign c =
    let at = (goal.at.returns-clause-foreign c).After-deref_mut in
    let back = rw c.in-Err-Memory.field-0-is at c.in-Err-Memory.ensures in
    (λ no same. no, λ differs. differs (awaits at ∙ back.0 ∙ sym (named at)))

pub returns-clause-handed_back : goal.returns-clause-handed_back
returns-clause-handed_back c =
    let e = (rw c.in-Err-Memory.field-0-is at c.in-Err-Memory.ensures).1 in
    (came_back (goal.at.returns-clause-handed_back c).After-place c.in-Err-Memory.state.value e).seen_child ∙ c.child.view_is
