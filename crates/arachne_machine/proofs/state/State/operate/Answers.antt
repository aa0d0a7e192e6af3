use Rattle.std.proofs.Common.{◌-◌, refl, sym, subst, arith}
use Rattle.arachne_program.specs.{Tree.Binary, Program.{source_of, tree_of}}
use Rattle.arachne_machine.proofs.{Openings.{begins_both, begins_right, goes_to_part, open_binary}, Lasting.ok_known}
use Rattle.arachne_machine.specs.Steps.{LeavesOthers, OnStops, Reaches, beginning, giving, top}
use Rattle.arachne_machine.proofs.{Outlooks.{as_beginning, begins_with, given}, Levels.{changes_leave, top_becomes}}
use Rattle.arachne_machine.{specs.declared.frame.Frame.TheVariants.Right, proofs.Going.{as_is, leaves_same}}
use Rattle.arachne_machine.specs.declared.state.Progress.TheVariants as part
use Rattle.arachne_machine.proofs.state.State.operate.Goals as goal

pub returns-in-Some-leaf-clause-ok : goal.returns-in-Some-leaf-clause-ok
returns-in-Some-leaf-clause-ok c = λ expr is.
    let t = c.args.self.now in
    let le = c.requires.start in
    let v = c.apply.result in
    record {
      made = 2;
      fewer = omega arith;
      counted = omega (arith, c.if-left-ge2.true);
      goes = begins_both (beginning (top t) expr) (giving (top t) v) expr c.args.first c.args.second c.args.operation c.in-Some.x c.in-Some-leaf.y v refl is c.in-Some.ensures.leaf
          c.in-Some-leaf.ensures.leaf c.in-Some.ensures.value c.in-Some-leaf.ensures.value c.apply.ensures (as_beginning (top t) (giving (top t) v) expr _ _ _ (given (top t) _ _ refl));
    }

pub returns-clause-ok : goal.returns-clause-ok
returns-clause-ok c = λ expr is.
    let t = c.args.self.now in
    let le = c.requires.start in
    let new = c.enter.new.self in
    let part = c.args.second in
    subst (λ p. Reaches c.args.left.now (c.args.left.now - 1) (beginning (top t) expr) p (top new)) (sym c.in_ok-begun.ensures.begins) (record {
      made = 2;
      fewer = omega arith;
      counted = omega (arith, c.if-left-ge2.true);
      goes = begins_right (beginning (top t) expr) (beginning (top new) part) expr c.args.first part c.args.operation c.in-Some.x refl is c.in-Some.ensures.leaf c.in-Some.ensures.value
          (as_beginning (top t) (beginning (top new) part) expr _ _ _ (begins_with (top t) (top new) part _ _ _ (top_becomes t new _ _ _ c.in_ok-begun.ensures.ok le)));
    })

pub returns-2-clause-ok : goal.returns-2-clause-ok
returns-2-clause-ok c = λ expr is.
    let t = c.args.self.now in
    let le = c.requires.start in
    let new = c.enter-2.new.self in
    let first = c.args.first in
    let second = c.args.second in
    let operation = c.args.operation in
    ok_known c.enter-2.result (part.Begin first) (λ p. Reaches c.args.left.now c.args.left.now (beginning (top t) expr) p (top new)) c.enter-2.ensures.begins c.enter-2.ensures.ok (λ pushes. record {
      made = 1;
      fewer = omega arith;
      counted = omega arith;
      goes = goes_to_part 1 (beginning (top t) expr) (beginning (top new) first) expr first (Binary operation (tree_of first.now) (tree_of second.now)) (Right operation second) refl is
          (as_beginning (top t) (beginning (top new) first) expr _ _ _ (begins_with (top t) (top new) first _ _ _ (top_becomes t new _ _ _ pushes le))) refl refl
          (open_binary (source_of t.program.now) (top t).own.name t.environment.items operation first second);
    })

pub returns-in-Some-leaf-clause-leaves : goal.returns-in-Some-leaf-clause-leaves
returns-in-Some-leaf-clause-leaves c = (leaves_same c.args.self.now c.args.self.now _ _ (as_is c.args.self.now) c.requires.start, tt)

pub returns-clause-leaves : goal.returns-clause-leaves
returns-clause-leaves c =
    let t = c.args.self.now in
    (changes_leave t c.enter.new.self _ _ _ c.in_ok-begun.ensures.ok c.requires.start, subst (λ p. OnStops p ⊥) (sym c.in_ok-begun.ensures.begins) tt)

pub returns-2-clause-leaves : goal.returns-2-clause-leaves
returns-2-clause-leaves c =
    let t = c.args.self.now in
    ok_known c.enter-2.result (part.Begin c.args.first) (λ p. LeavesOthers t c.enter-2.new.self × OnStops p ⊥) c.enter-2.ensures.begins c.enter-2.ensures.ok
    (λ pushes. (changes_leave t c.enter-2.new.self _ _ _ pushes c.requires.start, tt))
