use Rattle.std.proofs.Common.{◌-◌, true, false, ap, arith}
use Rattle.arachne_program.specs.Program.{source_of, tree_of}
use Rattle.arachne_machine.proofs.Handings.{is_not_zero, is_zero}
use Rattle.arachne_machine.proofs.Purity.{some_then, worth_binary, worth_binding, worth_choice}
use Rattle.arachne_machine.proofs.worth.+recursion.Goals as goal

pub value_at_once-returns-in_ok-y-in-Binary-clause-worth : goal.value_at_once-returns-in_ok-y-in-Binary-clause-worth
value_at_once-returns-in_ok-y-in-Binary-clause-worth t c =
    worth_binary (source_of c.args.program.now) c.args.environment.now.items _ (tree_of c.args.expr.now) c.in-Binary.operation _ _ _ _ _ _ (c.args.left.now - 2) _ _
    (rw (c.deref-in-Binary.ensures, c.deref-in-Binary-2.ensures) (ap tree_of c.in-Binary.is)) (omega (arith, c.if-left-lt2.false)) c.in_ok-x-in-Binary.ensures.items
    c.in_ok-x-in-Binary.ensures.worth c.in_ok-y-in-Binary.ensures.worth c.apply.ensures

pub value_at_once-returns-then-choice-eq0-clause-worth : goal.value_at_once-returns-then-choice-eq0-clause-worth
value_at_once-returns-then-choice-eq0-clause-worth t c =
    some_then c.value_at_once-then-choice-eq0.result _ _ c.value_at_once-then-choice-eq0.ensures.worth (λ value worth.
    worth_choice (source_of c.args.program.now) c.args.environment.now.items _ (tree_of c.args.expr.now) _ (tree_of c.in-If.first.value) _ true _ _ _ (c.args.left.now - 2) _ _
    (rw (c.deref-in-If.ensures, c.deref-then-choice-eq0.ensures) (ap tree_of c.in-If.is)) (omega (arith, c.if-left-lt2-2.false)) c.in_ok-choice-in-If.ensures.items
    c.in_ok-choice-in-If.ensures.worth (is_zero _ c.if-choice-eq0.true) worth)

pub value_at_once-returns-else-choice-eq0-clause-worth : goal.value_at_once-returns-else-choice-eq0-clause-worth
value_at_once-returns-else-choice-eq0-clause-worth t c =
    some_then c.value_at_once-in-If.result _ _ c.value_at_once-in-If.ensures.worth (λ value worth.
    worth_choice (source_of c.args.program.now) c.args.environment.now.items _ (tree_of c.args.expr.now) _ _ (tree_of c.in-If.second.value) false _ _ _ (c.args.left.now - 2) _ _
    (rw (c.deref-in-If.ensures, c.deref-in-If-2.ensures) (ap tree_of c.in-If.is)) (omega (arith, c.if-left-lt2-2.false)) c.in_ok-choice-in-If.ensures.items
    c.in_ok-choice-in-If.ensures.worth (is_not_zero _ c.if-choice-eq0.false) worth)

pub value_at_once-returns-in_ok-newest-in-Let-clause-worth : goal.value_at_once-returns-in_ok-newest-in-Let-clause-worth
value_at_once-returns-in_ok-newest-in-Let-clause-worth t c =
    some_then c.bound_at_once.result _ _ c.bound_at_once.ensures.worth (λ value worth.
    worth_binding (source_of c.args.program.now) c.args.environment.now.items _ (tree_of c.args.expr.now) _ _ _ _ _ (c.args.left.now - 2) _ _
    (rw (c.deref-in-Let.ensures, c.deref-in-Let-2.ensures) (ap tree_of c.in-Let.is)) (omega (arith, c.if-left-lt2-3.false)) c.in_ok-newest-in-Let.ensures.items
    c.in_ok-newest-in-Let.ensures.worth worth)
