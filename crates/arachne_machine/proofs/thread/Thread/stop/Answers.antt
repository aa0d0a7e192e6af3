use Rattle.std.{proofs.Common.{◌≡◌, true, ap, sym, ◌∙◌, subst, ℕ, List, Option, None, Some, IfSome}, specs.Global.Box}
use Rattle.arachne_program.specs.{declared.program.Class.Class, Program.source_of, Checked.IsChecked}
use Rattle.arachne_machine.specs.{Kept.{AdvancesWith, IsKept, IsSoundChild, Went, nested}, Steps.pending_of}
use Rattle.arachne_machine.specs.{Tallying.{IsAdvance, IsRefusedAdvance}, Nested.{IsAlone, pending_in, whole}}
use Rattle.arachne_machine.specs.{declared.{pause.Pending.Pending, state.State.State}, Advance.{PlacesNone, pause_seen}}
use Rattle.arachne_machine.proofs.{Showing.{shown, shown_refusal}, Nesting.program_seen, Lasting.on_err}
use Rattle.arachne_machine.proofs.thread.Thread.stop.Goals as goal

-- a child that is given away is sound
child_sound : (Q : Type 0) (had left : ℕ) (old : State) (ps : List (Box State)) (forked : Option (Class × Box State)) (next : Option Pending) (new : State) (qs : List (Box State)) →
    AdvancesWith Q had left old ps forked next new qs → IfSome forked (λ f. IsSoundChild f.1.value)
child_sound Q had left old ps None next new qs h = tt
child_sound Q had left old ps (Some forked) next new qs h = record { sound = h.2.sound; alone = h.2.alone }

pub advance_with-requires-clause-kept : goal.advance_with-requires-clause-kept
advance_with-requires-clause-kept g c = subst (λ s. IsKept s c.self.inside.placed.items) (sym c.deref_mut.ensures.value) c.self.invariant

pub advance_with-requires-clause-running : goal.advance_with-requires-clause-running
advance_with-requires-clause-running g c = ap (λ s. pending_of s.control) c.deref_mut.ensures.value ∙ ap pending_in c.self.view_is ∙ c.requires.not_paused

pub invariant_of-self-2 : goal.invariant_of-self-2
invariant_of-self-2 g c =
    let t = c.self.inside.state.value in
    let ps = c.self.inside.placed.items in
    let new = c.advance_with.new.self in
    let qs = c.advance_with.new.placed.items in
    let is = c.deref_mut.ensures.value in
    let forked = c.in_ok-forked.forked in
    let a = subst (λ s. AdvancesWith (g.P.Placing.gives_all ≡ true) c.args.left.now c.advance_with.new.left s ps forked (pending_of new.control) new qs) is c.in_ok-forked.ensures.ok in
    let s = shown (g.P.Placing.gives_all ≡ true) c.args.left.now c.advance_with.new.left t new ps qs forked (pending_of new.control) c.self.invariant a in
    let n = nested new qs in
    s.kept

pub returns-clause-child : goal.returns-clause-child
returns-clause-child g c =
    let t = c.self.inside.state.value in
    let ps = c.self.inside.placed.items in
    let new = c.advance_with.new.self in
    let qs = c.advance_with.new.placed.items in
    let is = c.deref_mut.ensures.value in
    let forked = c.in_ok-forked.forked in
    let a = subst (λ s. AdvancesWith (g.P.Placing.gives_all ≡ true) c.args.left.now c.advance_with.new.left s ps forked (pending_of new.control) new qs) is c.in_ok-forked.ensures.ok in
    child_sound (g.P.Placing.gives_all ≡ true) c.args.left.now c.advance_with.new.left t ps forked (pending_of new.control) new qs a

pub returns-clause-advance : goal.returns-clause-advance
returns-clause-advance g c =
    let t = c.self.inside.state.value in
    let ps = c.self.inside.placed.items in
    let new = c.advance_with.new.self in
    let qs = c.advance_with.new.placed.items in
    let is = c.deref_mut.ensures.value in
    let forked = c.in_ok-forked.forked in
    let a = subst (λ s. AdvancesWith (g.P.Placing.gives_all ≡ true) c.args.left.now c.advance_with.new.left s ps forked (pending_of new.control) new qs) is c.in_ok-forked.ensures.ok in
    let s = shown (g.P.Placing.gives_all ≡ true) c.args.left.now c.advance_with.new.left t new ps qs forked (pending_of new.control) c.self.invariant a in
    let n = nested new qs in
    subst (λ v. IsAdvance c.args.left.now c.advance_with.new.left v (pause_seen forked (pending_of new.control)) n) c.self.view_is (record {
      moves = s.moves;
      spent = s.spent;
      charged = s.charged;
      elsewhere = s.elsewhere;
      within = λ checked. s.within (subst (λ p. IsChecked (source_of p)) (program_seen t ps) checked);
      alone = s.alone;
      rest = s.rest;
      sums = s.sums;
    })

pub returns-clause-everywhere : goal.returns-clause-everywhere
returns-clause-everywhere g c =
    let t = c.self.inside.state.value in
    let ps = c.self.inside.placed.items in
    let new = c.advance_with.new.self in
    let qs = c.advance_with.new.placed.items in
    let is = c.deref_mut.ensures.value in
    let forked = c.in_ok-forked.forked in
    let a = subst (λ s. AdvancesWith (g.P.Placing.gives_all ≡ true) c.args.left.now c.advance_with.new.left s ps forked (pending_of new.control) new qs) is c.in_ok-forked.ensures.ok in
    let s = shown (g.P.Placing.gives_all ≡ true) c.args.left.now c.advance_with.new.left t new ps qs forked (pending_of new.control) c.self.invariant a in
    let n = nested new qs in
    λ all. subst (λ v. IsAlone v → PlacesNone v (pause_seen forked (pending_of new.control)) n) c.self.view_is (s.everywhere all)

pub returns-in_err-forked-clause-err : goal.returns-in_err-forked-clause-err
returns-in_err-forked-clause-err g c =
    let t = c.self.inside.state.value in
    let ps = c.self.inside.placed.items in
    let new = c.advance_with.new.self in
    let qs = c.advance_with.new.placed.items in
    let is = c.deref_mut.ensures.value in
    let a = subst (λ s. Went (g.P.Placing.gives_all ≡ true) c.args.left.now c.advance_with.new.left s ps new qs) is c.in_err-forked.ensures.err in
    let s = shown_refusal (g.P.Placing.gives_all ≡ true) c.args.left.now c.advance_with.new.left t new ps qs a c.in_err-forked.ensures.err_left in
    let n = nested new qs in
    on_err c.from_residual.result _ (subst (λ v. IsRefusedAdvance c.args.left.now c.advance_with.new.left v n) c.self.view_is (assumption))

pub returns-in_err-forked-clause-err_everywhere : goal.returns-in_err-forked-clause-err_everywhere
returns-in_err-forked-clause-err_everywhere g c =
    let t = c.self.inside.state.value in
    let ps = c.self.inside.placed.items in
    let new = c.advance_with.new.self in
    let qs = c.advance_with.new.placed.items in
    let is = c.deref_mut.ensures.value in
    let a = subst (λ s. Went (g.P.Placing.gives_all ≡ true) c.args.left.now c.advance_with.new.left s ps new qs) is c.in_err-forked.ensures.err in
    let s = shown_refusal (g.P.Placing.gives_all ≡ true) c.args.left.now c.advance_with.new.left t new ps qs a c.in_err-forked.ensures.err_left in
    let n = nested new qs in
    λ all. on_err c.from_residual.result _ (subst (λ v. IsAlone v → (whole n).forks ≡ (whole v).forks) c.self.view_is (s.everywhere all))
