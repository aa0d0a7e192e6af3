-- Iterations that are made at once.
use Rattle.std.proofs.Common.{◌≡◌, ◌≤◌, ◌<◌, ℕ, ◌+◌, ◌-◌, List, [], ◌∷◌, ◌++◌, None, refl, ap, sym, subst, ◌∙◌, arith}
use Rattle.std.specs.Borrow.{Bor}
use Rattle.arachne_program.specs.{declared.program.{Expr.Expr, Reduction.Reduction}, Tree.{Source, Tree}}
use Rattle.arachne_program.specs.{Program.{source_of, tree_of}, Value.{apply, operation_of, with_newest}}
use Rattle.arachne_machine.proofs.Handings.{hand_fold_turn, hand_sweep_turn, without-one, without-two}
use Rattle.arachne_machine.proofs.{Openings.{Opens, goes_to_value, open_pure}, Soundness.goes_on}
use Rattle.arachne_machine.specs.{Pure.IsWorth, Runs.{IsOneStep, seen_in}, Strands.Strand, declared.state.State.State}
use Rattle.arachne_machine.specs.Steps.{AfterSteps, Becomes, ComesToFold, ComesToSweep, IsSame, IsUnchanged, Makes, Reaches, TurnsFold, TurnsSweep, giving, top}
use Rattle.arachne_machine.specs.declared.frame.Control.{Control, TheVariants.{Begin, Give}}
use Rattle.arachne_machine.specs.declared.{frame.Frame.TheVariants.{FoldTurn, SweepTurn}, state.Progress.Progress}
use Rattle.arachne_machine.specs.declared.state.Progress.TheVariants as part

after_steps : (m n k : ℕ) (a b c : Strand) → k ≡ m + n → AfterSteps m a None b → AfterSteps n b None c → AfterSteps k a None c
after_steps m n k a b c is p q = (goes_on m n k a b c p.0 q.0 is, q.1, q.2 ∙ p.2)

-- one step that was not subtracted from those that are left
pub makes_once : (had : ℕ) (a b : Strand) → AfterSteps 1 a None b → Makes had had 1 a b
makes_once had a b goes = record { made = 1; fewer = omega arith; counted = omega arith; goes = goes }

makes_more : (had left rest n : ℕ) (a b c : Strand) → Makes had left 1 a b → AfterSteps n b None c → rest + n ≡ left → Makes had rest 1 a c
makes_more had left rest n a b c m goes counted = record {
  made = m.made + n;
  fewer = omega (arith, m.fewer, counted);
  counted = omega (arith, m.counted, counted);
  goes = after_steps m.made n (m.made + n) a b c refl m.goes goes;
}

-- The value of a body with these variables is known at once.
body_is_worth : (begun : Strand) (body : Bor Expr) (value had left : ℕ) → begun.control ≡ Begin body → left ≤ had →
    IsWorth (source_of begun.program.now) (tree_of body.now) begun.environment value had left → AfterSteps (had - left) begun None (giving begun value)
body_is_worth begun body value had left begins le w =
    let source = source_of begun.program.now in
    let tree = tree_of body.now in
    let env = begun.environment in
    let name = begun.own.name in
    goes_to_value (had - left) begun (giving begun value) body tree value begins refl
    (record { program = refl; own = refl; below = refl; forks = refl; environment_is = refl; frames_are = refl; control_is = refl })
    (subst (λ v. Opens (had - left) source name tree env (Give v) []) (sym w.value_is) (open_pure source name env tree (had - left) w.pure (omega (arith, w.steps, le))))

pub worth_same : (source source' : Source) (t t' : Tree) (env env' : List ℕ) (value had left : ℕ) → source ≡ source' → t ≡ t' → env ≡ env' →
    IsWorth source t env value had left → IsWorth source' t' env' value had left
worth_same source source' t t' env env' value had left p q r w =
    subst (λ e. IsWorth source' t' e value had left) r (subst (λ u. IsWorth source' u env value had left) q (subst (λ s. IsWorth s t env value had left) p w))

pub same_then : (a b c : State) → IsSame a b → IsSame b c → IsSame a c
same_then a b c p q = record {
  program = q.program ∙ p.program;
  own = q.own ∙ p.own;
  lines = q.lines ∙ p.lines;
  sums = q.sums ∙ p.sums;
  parents = q.parents ∙ p.parents;
  level = q.level ∙ p.level;
  environment_is = q.environment_is ∙ p.environment_is;
  frames_are = q.frames_are ∙ p.frames_are;
  control_is = q.control_is ∙ p.control_is;
}

-- the end of a fold or a sweep, for a thread with the same data
done_of_same : (t u on : Strand) (k : Control) → IsUnchanged t u → Becomes u on u.environment u.frames k → Becomes t on t.environment t.frames k
done_of_same t u on k same b = record {
  program = b.program ∙ same.program;
  own = b.own ∙ same.own;
  below = b.below ∙ same.below;
  forks = b.forks ∙ same.forks;
  environment_is = b.environment_is ∙ same.environment_is;
  frames_are = b.frames_are ∙ same.frames_are;
  control_is = b.control_is;
}

-- Folds.
abbrev in_fold : Strand → ℕ → ℕ → Bor Expr → ℕ → Strand
in_fold t next end body so_far = record t {
  environment = with_newest (with_newest t.environment next) so_far;
  frames = t.frames ++ FoldTurn (next + 1) end body ∷ [];
  control = Begin body;
}

pub fold_goes_on : (before t : Strand) (had left rest next end so_far value : ℕ) (body : Bor Expr) → next < end → rest + 1 ≤ left →
    IsWorth (source_of t.program.now) (tree_of body.now) (with_newest (with_newest t.environment next) so_far) value (left - 1) rest →
    ComesToFold before t had left next end body so_far → ComesToFold before t had rest (next + 1) end body value
fold_goes_on before t had left rest next end so_far value body lt le w comes on turns =
    let begun = in_fold t next end body so_far in
    let given = giving begun value in
    makes_more had left rest (left - rest) before begun on
    (comes begun (record {
      turn = λ _. record { program = refl; own = refl; below = refl; forks = refl; environment_is = refl; frames_are = refl; control_is = refl };
      done = λ over. absurd (omega (arith, lt, over));
    }))
    (after_steps (left - 1 - rest) 1 (left - rest) begun given on (omega (arith, le)) (body_is_worth begun body value (left - 1) rest refl (omega (arith, le)) w)
    (hand_fold_turn given (record given { frames = t.frames }) t on value (next + 1) end body t.control
    (record { program = refl; own = refl; below = refl; forks = refl; environment_is = refl; frames_are = refl; control_is = refl }) refl
    (record { program = refl; own = refl; below = refl; forks = refl; environment_is = sym (without-two t.environment next so_far); frames_are = refl; control_is = refl })
    turns))
    (omega (arith, le))

pub fold_of_same : (t u on : Strand) (next end so_far : ℕ) (body : Bor Expr) → IsUnchanged t u → TurnsFold u on next end body so_far → TurnsFold t on next end body so_far
fold_of_same t u on next end so_far body same turns = record {
  turn = λ lt.
      let b = turns.turn lt in
      record {
        program = b.program ∙ same.program;
        own = b.own ∙ same.own;
        below = b.below ∙ same.below;
        forks = b.forks ∙ same.forks;
        environment_is = b.environment_is ∙ ap (λ e. with_newest (with_newest e next) so_far) same.environment_is;
        frames_are = b.frames_are ∙ ap (λ fs. fs ++ FoldTurn (next + 1) end body ∷ []) same.frames_are;
        control_is = b.control_is;
      };
  done = λ le. done_of_same t u on (Give so_far) same (turns.done le);
}

-- Sweeps.
abbrev in_sweep : Strand → Reduction → ℕ → ℕ → Bor Expr → ℕ → Strand
in_sweep t reduction next end body so_far = record t {
  environment = with_newest t.environment next;
  frames = t.frames ++ SweepTurn reduction (next + 1) end so_far body ∷ [];
  control = Begin body;
}

pub sweep_goes_on : (before t : Strand) (had left rest : ℕ) (reduction : Reduction) (next end so_far value reduced : ℕ) (body : Bor Expr) → next < end → rest + 1 ≤ left →
    IsWorth (source_of t.program.now) (tree_of body.now) (with_newest t.environment next) value (left - 1) rest → reduced ≡ apply (operation_of reduction) so_far value →
    ComesToSweep before t had left reduction next end body so_far → ComesToSweep before t had rest reduction (next + 1) end body reduced
sweep_goes_on before t had left rest reduction next end so_far value reduced body lt le w is comes on turns =
    let begun = in_sweep t reduction next end body so_far in
    let given = giving begun value in
    makes_more had left rest (left - rest) before begun on
    (comes begun (record {
      turn = λ _. record { program = refl; own = refl; below = refl; forks = refl; environment_is = refl; frames_are = refl; control_is = refl };
      done = λ over. absurd (omega (arith, lt, over));
    }))
    (after_steps (left - 1 - rest) 1 (left - rest) begun given on (omega (arith, le)) (body_is_worth begun body value (left - 1) rest refl (omega (arith, le)) w)
    (hand_sweep_turn given (record given { frames = t.frames }) t on value reduction (next + 1) end so_far reduced body t.control
    (record { program = refl; own = refl; below = refl; forks = refl; environment_is = refl; frames_are = refl; control_is = refl }) refl
    (record { program = refl; own = refl; below = refl; forks = refl; environment_is = sym (without-one t.environment next); frames_are = refl; control_is = refl })
    is turns))
    (omega (arith, le))

pub sweep_of_same : (t u on : Strand) (reduction : Reduction) (next end so_far : ℕ) (body : Bor Expr) → IsUnchanged t u → TurnsSweep u on reduction next end body so_far →
    TurnsSweep t on reduction next end body so_far
sweep_of_same t u on reduction next end so_far body same turns = record {
  turn = λ lt.
      let b = turns.turn lt in
      record {
        program = b.program ∙ same.program;
        own = b.own ∙ same.own;
        below = b.below ∙ same.below;
        forks = b.forks ∙ same.forks;
        environment_is = b.environment_is ∙ ap (λ e. with_newest e next) same.environment_is;
        frames_are = b.frames_are ∙ ap (λ fs. fs ++ SweepTurn reduction (next + 1) end so_far body ∷ []) same.frames_are;
        control_is = b.control_is;
      };
  done = λ le. done_of_same t u on (Give so_far) same (turns.done le);
}

-- A step was begun that gives a value, and a further step hands it on.
pub reaches_on : (had mid left : ℕ) (a : Strand) (p : Progress) (t : State) → IsOneStep mid left p t → Makes had mid 1 a (top (seen_in p t)) → Reaches had left a p (top t)
reaches_on had mid left a (part.Value value) t one m = record { made = m.made; fewer = omega (arith, m.fewer, one); counted = omega (arith, m.counted, one); goes = m.goes }
reaches_on had mid left a (part.Begin expr) t one m = subst (λ n. Makes had n 1 a (top (seen_in (part.Begin expr) t))) (sym one) m
reaches_on had mid left a part.Goes t one m = (subst (λ n. Makes had n 1 a (top t)) (sym one.0) m, one.1)
reaches_on had mid left a part.Stops t one m = absurd one
reaches_on had mid left a (part.Forks class child) t one m = absurd one
