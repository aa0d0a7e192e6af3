use Rattle.std.proofs.Common.{ℕ, ◌+◌, ◌<◌, List, ◌++◌, length, append_assoc}
use Rattle.std.specs.Prelude.{Option}
use Rattle.std.proofs.lemmas.Result.{err_from_is_err_and}
use Rattle.arachne_lang.specs.declared.checker.Scope.{Scope}
use Rattle.arachne_program.specs.declared.program.Expr.{Expr}
use Rattle.arachne_program.specs.Program.{tree_of, source_of}
use Rattle.arachne_program.specs.Checked.{NodeFault, node_faults}
use Rattle.arachne_lang.proofs.NodesJudged.{judged_front, judged_more, judged_parts, some_faults}
use Rattle.arachne_lang.proofs.checker.Scope.+judging.Goals as goal

-- the faults of an expression in its scope
abbrev faults : Scope → Expr → List (Option NodeFault)
faults scope expr = node_faults (source_of scope.program.now) scope.within scope.bound (tree_of expr)

some_fault : (scope : Scope) (expr : Expr) → 0 < length (faults scope expr)
some_fault scope expr = some_faults (source_of scope.program.now) scope.within scope.bound (tree_of expr)

-- the same with variables more
abbrev more : Scope → ℕ → Scope
more scope variables = record scope { bound = scope.bound + variables }

pub two-returns-in_err-second-clause-judged : goal.two-returns-in_err-second-clause-judged
two-returns-in_err-second-clause-judged t c =
    let p = err_from_is_err_and c.from_residual.result c.from_residual.ensures.1 in
    rw (p.1, p.2) (judged_front c.args.node _ (faults c.args.self c.args.a.now) (faults c.args.last c.args.b.now) c.in_err-second.ensures.judged)

pub two-returns-clause-judged : goal.two-returns-clause-judged
two-returns-clause-judged t c =
    judged_more c.args.node c.in_ok-second.second (faults c.args.self c.args.a.now) (faults c.args.last c.args.b.now) _
    c.in_ok-second.ensures.judged c.check-2.ensures.judged

pub check-returns-in_err-third-in-If-clause-judged : goal.check-returns-in_err-third-in-If-clause-judged
check-returns-in_err-third-in-If-clause-judged t c =
    let p = err_from_is_err_and c.from_residual-in_err-third-in-If.result c.from_residual-in_err-third-in-If.ensures.1 in
    let two = faults c.args.self c.deref-in-If.result.now ++ faults c.args.self c.deref-in-If-2.result.now in
    let front = judged_front (c.args.node + 1) _ two (faults c.args.self c.in-If.c.value) c.in_err-third-in-If.ensures.judged in
    rw (p.1, p.2)
    (judged_parts c.args.node (faults c.args.self c.args.expr.now) _ (some_fault c.args.self c.args.expr.now) c.in_ok-judge.ensures
    (rw (c.in-If.is, ← c.deref-in-If.ensures, ← c.deref-in-If-2.ensures) front))

pub check-returns-in_ok-third-in-If-clause-judged : goal.check-returns-in_ok-third-in-If-clause-judged
check-returns-in_ok-third-in-If-clause-judged t c =
    let two = faults c.args.self c.deref-in-If.result.now ++ faults c.args.self c.deref-in-If-2.result.now in
    let all = judged_more (c.args.node + 1) c.in_ok-third-in-If.third two (faults c.args.self c.deref-in-If-3.result.now) _
    c.in_ok-third-in-If.ensures.judged c.check-in-If.ensures.judged in
    judged_parts c.args.node (faults c.args.self c.args.expr.now) _ (some_fault c.args.self c.args.expr.now) c.in_ok-judge.ensures
    (rw (c.in-If.is, ← c.deref-in-If.ensures, ← c.deref-in-If-2.ensures, ← c.deref-in-If-3.ensures) all)

pub check-returns-in_err-third-in-Sweep-clause-judged : goal.check-returns-in_err-third-in-Sweep-clause-judged
check-returns-in_err-third-in-Sweep-clause-judged t c =
    let p = err_from_is_err_and c.from_residual-in_err-third-in-Sweep.result c.from_residual-in_err-third-in-Sweep.ensures.1 in
    let two = faults c.args.self c.deref-in-Sweep.result.now ++ faults c.args.self c.deref-in-Sweep-2.result.now in
    let front = judged_front (c.args.node + 1) _ two (faults (more c.args.self 1) c.in-Sweep.c.value) c.in_err-third-in-Sweep.ensures.judged in
    rw (p.1, p.2)
    (judged_parts c.args.node (faults c.args.self c.args.expr.now) _ (some_fault c.args.self c.args.expr.now) c.in_ok-judge.ensures
    (rw (c.in-Sweep.is, ← c.deref-in-Sweep.ensures, ← c.deref-in-Sweep-2.ensures) front))

pub check-returns-in_ok-third-in-Sweep-clause-judged : goal.check-returns-in_ok-third-in-Sweep-clause-judged
check-returns-in_ok-third-in-Sweep-clause-judged t c =
    let two = faults c.args.self c.deref-in-Sweep.result.now ++ faults c.args.self c.deref-in-Sweep-2.result.now in
    let all = judged_more (c.args.node + 1) c.in_ok-third-in-Sweep.third two (faults (more c.args.self 1) c.deref-in-Sweep-3.result.now) _
    c.in_ok-third-in-Sweep.ensures.judged (rw c.binding-in-Sweep.ensures at c.check-in-Sweep.ensures.judged) in
    judged_parts c.args.node (faults c.args.self c.args.expr.now) _ (some_fault c.args.self c.args.expr.now) c.in_ok-judge.ensures
    (rw (c.in-Sweep.is, ← c.deref-in-Sweep.ensures, ← c.deref-in-Sweep-2.ensures, ← c.deref-in-Sweep-3.ensures) all)

pub check-returns-in_err-third-in-Fork-clause-judged : goal.check-returns-in_err-third-in-Fork-clause-judged
check-returns-in_err-third-in-Fork-clause-judged t c =
    let p = err_from_is_err_and c.from_residual-in_err-third-in-Fork.result c.from_residual-in_err-third-in-Fork.ensures.1 in
    let two = faults c.args.self c.deref-in-Fork.result.now ++ faults c.args.self c.deref-in-Fork-2.result.now in
    let front = judged_front (c.args.node + 1) _ two (faults (more c.args.self 2) c.in-Fork.c.value) c.in_err-third-in-Fork.ensures.judged in
    rw (p.1, p.2)
    (judged_parts c.args.node (faults c.args.self c.args.expr.now) _ (some_fault c.args.self c.args.expr.now) c.in_ok-judge.ensures
    (rw (c.in-Fork.is, ← c.deref-in-Fork.ensures, ← c.deref-in-Fork-2.ensures) front))

pub check-returns-in_ok-third-in-Fork-clause-judged : goal.check-returns-in_ok-third-in-Fork-clause-judged
check-returns-in_ok-third-in-Fork-clause-judged t c =
    let two = faults c.args.self c.deref-in-Fork.result.now ++ faults c.args.self c.deref-in-Fork-2.result.now in
    let all = judged_more (c.args.node + 1) c.in_ok-third-in-Fork.third two (faults (more c.args.self 2) c.deref-in-Fork-3.result.now) _
    c.in_ok-third-in-Fork.ensures.judged (rw c.binding-in-Fork.ensures at c.check-in-Fork.ensures.judged) in
    judged_parts c.args.node (faults c.args.self c.args.expr.now) _ (some_fault c.args.self c.args.expr.now) c.in_ok-judge.ensures
    (rw (c.in-Fork.is, ← c.deref-in-Fork.ensures, ← c.deref-in-Fork-2.ensures, ← c.deref-in-Fork-3.ensures) all)

pub check-returns-in_err-third-in-Fold-clause-judged : goal.check-returns-in_err-third-in-Fold-clause-judged
check-returns-in_err-third-in-Fold-clause-judged t c =
    let p = err_from_is_err_and c.from_residual-in_err-third-in-Fold.result c.from_residual-in_err-third-in-Fold.ensures.1 in
    let two = faults c.args.self c.deref-in-Fold.result.now ++ faults c.args.self c.deref-in-Fold-2.result.now in
    let front = judged_front (c.args.node + 1) _ two (faults c.args.self c.in-Fold.c.value ++ faults (more c.args.self 2) c.in-Fold.d.value) c.in_err-third-in-Fold.ensures.judged in
    rw (p.1, p.2)
    (judged_parts c.args.node (faults c.args.self c.args.expr.now) _ (some_fault c.args.self c.args.expr.now) c.in_ok-judge.ensures
    (rw (c.in-Fold.is, ← c.deref-in-Fold.ensures, ← c.deref-in-Fold-2.ensures, append_assoc two _ _) front))

pub check-returns-in_ok-third-in-Fold-clause-judged : goal.check-returns-in_ok-third-in-Fold-clause-judged
check-returns-in_ok-third-in-Fold-clause-judged t c =
    let two = faults c.args.self c.deref-in-Fold.result.now ++ faults c.args.self c.deref-in-Fold-2.result.now in
    let all = judged_more (c.args.node + 1) c.in_ok-third-in-Fold.third two (faults c.args.self c.deref-in-Fold-3.result.now ++ faults (more c.args.self 2) c.deref-in-Fold-4.result.now) _
    c.in_ok-third-in-Fold.ensures.judged (rw c.binding-in-Fold.ensures at c.two-in-Fold-2.ensures.judged) in
    judged_parts c.args.node (faults c.args.self c.args.expr.now) _ (some_fault c.args.self c.args.expr.now) c.in_ok-judge.ensures
    (rw (c.in-Fold.is, ← c.deref-in-Fold.ensures, ← c.deref-in-Fold-2.ensures, ← c.deref-in-Fold-3.ensures, ← c.deref-in-Fold-4.ensures, append_assoc two _ _) all)
