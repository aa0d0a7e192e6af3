use Rattle.std.proofs.Common.{◌≡◌, ◌+◌, ◌≤◌, ◌<◌, max, length, Result, refl, ap, ◌∙◌, arith, rules}
use Rattle.std.specs.Prelude.{Ok, Err, IfOk}
use Rattle.std.specs.Vec.{with_item, with_items}
use Rattle.std.proofs.lemmas.Result.{IfOk-weaker}
use Rattle.arachne_program.specs.Program.{tree_of, source_of}
use Rattle.arachne_lang.proofs.Accounts.{eq-other, Gains-written}
use Rattle.arachne_lang.proofs.EvaluationSteps.{IsEvaluated-Binary, IsEvaluated-Choose, IsEvaluated-Bind, IsEvaluated-Tally, IsEvaluated-Hold, IsEvaluated-Fork, IsEvaluated-Fold, IsEvaluated-Sweep, IsFolded-none, IsFolded-turn, IsReduced-none, IsReduced-turn, IsHalved-short, IsHalved-long, IsRun-line, IsHalfRun-line, MaySplit-right, newest-set, two_newest-set, newest-cut, two_newest-cut}
use Rattle.arachne_lang.proofs.evaluator.Evaluator.+evaluation.Goals as goal
use Rattle.arachne_lang.proofs.evaluator.Evaluator.+evaluation.Goals.{halves-then-n-le1-via-then-n-le1, halves-then-n-le1-via-else-n-le1+then-n-reducer}

-- a value has two properties if it has each
both : {X E : Type 0} (r : Result X E) (P Q : X → Type 0) → IfOk r P → IfOk r Q → IfOk r (λ x. P x × Q x)
both (Ok x) P Q p q = (p, q)
both (Err e) P Q p q = p

-- what each value of the last call shows holds of the result
finally : {X E : Type 0} (r : Result X E) (P Q : X → Type 0) → IfOk r P → ((x : X) → P x → Q x) → IfOk r Q
finally r P Q h step = IfOk-weaker r P Q step h

pub value-returns-in_ok-value-in-Binary-clause-value : goal.value-returns-in_ok-value-in-Binary-clause-value
value-returns-in_ok-value-in-Binary-clause-value t c =
    rw (c.in-Binary.is, ← c.deref-in-Binary.ensures, ← c.deref-in-Binary-2.ensures, c.apply.ensures)
    (IsEvaluated-Binary _ _ _ _ _ _ _ _ _ _ _ _ c.in_ok-x-in-Binary.ensures.value c.in_ok-value-in-Binary.ensures.value)

pub value-returns-in_ok-newest-in-Let-clause-value : goal.value-returns-in_ok-newest-in-Let-clause-value
value-returns-in_ok-newest-in-Let-clause-value t c =
    rw (c.in-Let.is, ← c.deref-in-Let.ensures, ← c.deref-in-Let-2.ensures)
    (finally c.body.result _ _ c.body.ensures.value
    (λ value done. IsEvaluated-Bind _ _ _ _ _ _ _ _ _ _ _ c.in_ok-newest-in-Let.ensures.value done))

pub value-returns-in-0-clause-value : goal.value-returns-in-0-clause-value
value-returns-in-0-clause-value t c =
    rw (c.in-If.is, ← c.deref-in-If.ensures, ← c.deref-in-0.ensures)
    (finally c.value-in-0.result _ _ c.value-in-0.ensures.value
    (λ value done. IsEvaluated-Choose _ _ _ _ _ _ _ _ _ _ _ _ _ (rw c.in-0.is refl) c.in_ok-value-in-If.ensures.value done))

pub value-returns-in_default-clause-value : goal.value-returns-in_default-clause-value
value-returns-in_default-clause-value t c =
    rw (c.in-If.is, ← c.deref-in-If.ensures, ← c.deref-in_default.ensures)
    (finally c.value-in_default.result _ _ c.value-in_default.ensures.value
    (λ value done. IsEvaluated-Choose _ _ _ _ _ _ _ _ _ _ _ _ _ (rw (eq-other c.in_ok-value-in-If.field-0 0 (λ zero. omega (arith, zero))) refl)
    c.in_ok-value-in-If.ensures.value done))

pub value-returns-in_ok-amount-in-Tally-clause-value : goal.value-returns-in_ok-amount-in-Tally-clause-value
value-returns-in_ok-amount-in-Tally-clause-value t c =
    let before = c.value-in-Tally.new.shared in
    rw (c.in-Tally.is, ← c.deref-in-Tally.ensures, ← c.deref-in-Tally-2.ensures)
    (finally c.value-in-Tally-2.result _ _ c.value-in-Tally-2.ensures.value
    (λ value done. IsEvaluated-Tally _ c.in-Tally.ledger _ _ _ _ _ _
    (record { environment = before.environment; sums = with_items before.sums c.add_at.new.numbers; lines = before.lines }) _ _ _ _
    c.in_ok-amount-in-Tally.ensures.value refl
    (Gains-written c.in-Tally.ledger c.in_ok-amount-in-Tally.amount before.sums c.add_at.new.numbers (omega (arith, ap length c.as_mut_slice.ensures.value))
    (rw c.as_mut_slice.ensures.value at c.add_at.ensures))
    refl done))

pub value-returns-in-Hold-clause-value : goal.value-returns-in-Hold-clause-value
value-returns-in-Hold-clause-value t c =
    let before = c.args.own.now in
    rw (c.in-Hold.is, ← c.deref-in-Hold.ensures)
    (finally c.value-in-Hold.result _ _ c.value-in-Hold.ensures.value
    (λ value done. IsEvaluated-Hold _ c.in-Hold.lock _ _ _
    (record { name = before.name; holds = with_items before.holds c.add_at-in-Hold.new.numbers; forks = before.forks }) _ _ _
    refl refl
    (Gains-written c.in-Hold.lock 1 before.holds c.add_at-in-Hold.new.numbers (omega (arith, ap length c.as_mut_slice-in-Hold.ensures.value))
    (rw c.as_mut_slice-in-Hold.ensures.value at c.add_at-in-Hold.ensures))
    done))

pub fork-returns-clause-value : goal.fork-returns-clause-value
fork-returns-clause-value t c =
    finally c.after.result _ _ c.after.ensures.value
    (λ value done class. IsEvaluated-Fork _ class _ _ _ c.args.own.now _ _ _ _ _ _ _ _ _
    (rw c.in_ok-name.ensures.counted at c.in_ok-own_value.ensures.value)
    (rw c.in_ok-name.ensures.name at c.in_ok-child_value.ensures.value)
    done)

pub value-returns-in-Fork-clause-value : goal.value-returns-in-Fork-clause-value
value-returns-in-Fork-clause-value t c =
    rw (c.in-Fork.is, ← c.deref-in-Fork.ensures, ← c.deref-in-Fork-2.ensures, ← c.deref-in-Fork-3.ensures)
    (finally c.fork.result _ _ c.fork.ensures.value (λ value each. each c.in-Fork.field-0))

pub value-returns-in_ok-start-in-Fold-clause-value : goal.value-returns-in_ok-start-in-Fold-clause-value
value-returns-in_ok-start-in-Fold-clause-value t c =
    rw (c.in-Fold.is, ← c.deref-in-Fold.ensures, ← c.deref-in-Fold-2.ensures, ← c.deref-in-Fold-3.ensures, ← c.deref-in-Fold-4.ensures)
    (finally c.turns.result _ _ (both c.turns.result _ _ c.turns.ensures.value c.turns.ensures.environment)
    (λ value done. IsEvaluated-Fold _ _ _ _ _ _ _ _ _ _ _ _ _ _ _ _ _ _ _
    c.in_ok-low-in-Fold.ensures.value c.in_ok-high-in-Fold.ensures.value c.in_ok-start-in-Fold.ensures.value
    (rw c.saturating_sub.ensures at done.0) done.1))

pub value-halves-requires : goal.value-halves-requires
value-halves-requires t c =
    let may = rw (c.in-Sweep.is, ← c.deref-in-Sweep.ensures) at c.requires in (
      search rules,
      (
        search rules,
        record {
          levels = omega (arith, may.0);
          halvings = 64;
          enough = omega arith;
          room = omega (arith, may.1, c.in_ok-low-in-Sweep.ensures.lines, c.in_ok-high-in-Sweep.ensures.lines);
        },
      ),
    )

pub value-returns-in_ok-high-in-Sweep-clause-value : goal.value-returns-in_ok-high-in-Sweep-clause-value
value-returns-in_ok-high-in-Sweep-clause-value t c =
    rw (c.in-Sweep.is, ← c.deref-in-Sweep.ensures, ← c.deref-in-Sweep-2.ensures, ← c.deref-in-Sweep-3.ensures)
    (finally c.halves.result _ _ c.halves.ensures.value
    (λ value done. IsEvaluated-Sweep _ _ _ _ _ _ _ _ _ _ _ _ _ _ _ _ _
    c.in_ok-low-in-Sweep.ensures.value c.in_ok-high-in-Sweep.ensures.value (rw c.saturating_sub-in-Sweep.ensures at done)))

pub turns-loop-turn-init : goal.turns-loop-turn-init
turns-loop-turn-init t c = record {
  turned = IsFolded-none _ _ _ _ _ _ _ _ refl refl;
  newest = (c.args.from, c.args.first, rw c.in_ok-push.ensures.items at c.in_ok-push-2.ensures.items);
  lines = omega arith;
  variables = search rules;
}

pub turns-loop-turn-preserved : goal.turns-loop-turn-preserved
turns-loop-turn-preserved t c =
    let before = c.loop-turn.invariant in
    let env = c.args.shared.now.environment.items in
    let put = two_newest-set env c.loop-turn.shared.environment.items before.newest.0 before.newest.1 (c.args.from + c.loop-turn.turn) c.loop-turn.so_far before.newest.2 in
    let put' = rw (← before.variables) at put in
    record {
      turned = IsFolded-turn _ _ _ _ _ _ _ _ _ _ _ _ _ _ _ before.turned put' refl refl c.in_ok-so_far.ensures.value;
      newest = (c.args.from + c.loop-turn.turn, c.loop-turn.so_far, c.in_ok-so_far.ensures.value.restored ∙ put');
      lines = omega (arith, c.in_ok-so_far.ensures.lines);
      variables = before.variables;
    }

pub turns-returns-clause-value : goal.turns-returns-clause-value
turns-returns-clause-value t c =
    let all : c.loop-turn.turn ≡ c.args.n = omega arith in
    let done = rw all at c.loop-turn.invariant.turned in
    record { value = done.value; effects = done.effects }

pub turns-returns-clause-environment : goal.turns-returns-clause-environment
turns-returns-clause-environment t c =
    let before = c.loop-turn.invariant in
    c.truncate.ensures.items ∙ rw (before.variables, before.newest.2) (two_newest-cut c.args.shared.now.environment.items before.newest.0 before.newest.1)

pub halves-returns-then-n-le1-clause-value : goal.halves-returns-then-n-le1-clause-value
halves-returns-then-n-le1-clause-value t c =
    let short : c.args.n ≤ max 1 c.args.reducer.grain =
    elim c.then-n-le1.branch [ halves-then-n-le1-via-then-n-le1 w ↦ omega arith | halves-then-n-le1-via-else-n-le1+then-n-reducer w ↦ omega arith ] in
    IsHalved-short _ _ _ _ _ _ _ _ _ _ _ _ short c.in_ok-value.ensures.environment c.in_ok-value.ensures.value

pub halves-halves-requires : goal.halves-halves-requires
halves-halves-requires t c = (
  search rules,
  (
    search rules,
    rw c.in_ok-name.ensures.counted
        (MaySplit-right (tree_of c.args.reducer.body.now) c.args.n c.args.own.now.forks c.args.shared.now.lines.items (omega arith) c.requires.forks),
  ),
)

pub halves-returns-clause-value : goal.halves-returns-clause-value
halves-returns-clause-value t c =
    let long : max 1 c.args.reducer.grain < c.args.n = omega arith in
    rw (c.apply.ensures, c.operation.ensures)
    (IsHalved-long _ _ _ _ _ _ c.args.own.now _ _ _ _ _ _ long (omega arith)
    (rw c.in_ok-name.ensures.counted at c.in_ok-right_value.ensures.value) (rw c.in_ok-name.ensures.name at c.in_ok-left_value.ensures.value))

pub reduce-loop-turn-init : goal.reduce-loop-turn-init
reduce-loop-turn-init t c = record {
  turned = rw c.unit-so_far.ensures (IsReduced-none _ _ _ _ _ _ _ _ refl refl);
  newest = (c.args.first, c.in_ok-push.ensures.items);
  lines = omega arith;
  variables = search rules;
}

pub reduce-loop-turn-preserved : goal.reduce-loop-turn-preserved
reduce-loop-turn-preserved t c =
    let before = c.loop-turn.invariant in
    let env = c.args.shared.now.environment.items in
    let put = newest-set env c.loop-turn.shared.environment.items before.newest.0 (c.args.first + c.loop-turn.turn) before.newest.1 in
    let put' = rw (← before.variables) at put in
    record {
      turned = rw (c.apply-so_far.ensures, c.operation.ensures) (IsReduced-turn _ _ _ _ _ _ _ _ _ _ _ _ _ _ _ before.turned put' refl refl c.in_ok-value.ensures.value);
      newest = (c.args.first + c.loop-turn.turn, c.in_ok-value.ensures.value.restored ∙ put');
      lines = omega (arith, c.in_ok-value.ensures.lines);
      variables = before.variables;
    }

pub reduce-returns-clause-value : goal.reduce-returns-clause-value
reduce-returns-clause-value t c =
    let all : c.loop-turn.turn ≡ c.args.n = omega arith in
    let done = rw all at c.loop-turn.invariant.turned in
    record { value = done.value; effects = done.effects }

pub reduce-returns-clause-environment : goal.reduce-returns-clause-environment
reduce-returns-clause-environment t c =
    let before = c.loop-turn.invariant in
    c.truncate.ensures.items ∙ rw (before.variables, before.newest.1) (newest-cut c.args.shared.now.environment.items before.newest.0)

pub run-returns-clause-value : goal.run-returns-clause-value
run-returns-clause-value t c =
    IsRun-line (source_of c.args.self.now.program.now) (tree_of c.args.expr.now) c.args.name c.in_ok-own.own c.args.shared.now
    (record { environment = c.args.shared.now.environment; sums = c.args.shared.now.sums; lines = c.push.new.self })
    c.unwritten_line.result c.value.new.own c.value.new.shared
    (record {
      environment = c.value.new.shared.environment;
      sums = c.value.new.shared.sums;
      lines = with_item c.value.new.shared.lines c.len-place.result c.into_line.result;
    })
    c.in_ok-value.value c.in_ok-own.ensures.named c.in_ok-own.ensures.forks c.in_ok-own.ensures.holds
    refl refl (search rules)
    c.in_ok-value.ensures.value
    refl refl (rw (c.len-place.ensures, c.args.shared.now.lines.ok.0, c.into_line.ensures) refl)

pub run_half-returns-clause-value : goal.run_half-returns-clause-value
run_half-returns-clause-value t c =
    IsHalfRun-line (source_of c.args.self.now.program.now) c.args.reducer.reduction c.args.reducer.grain (tree_of c.args.reducer.body.now) c.args.first c.args.n c.args.name
    c.in_ok-own.own c.args.shared.now
    (record { environment = c.args.shared.now.environment; sums = c.args.shared.now.sums; lines = c.push.new.self })
    c.unwritten_line.result c.halves.new.own c.halves.new.shared
    (record {
      environment = c.halves.new.shared.environment;
      sums = c.halves.new.shared.sums;
      lines = with_item c.halves.new.shared.lines c.len-place.result c.into_line.result;
    })
    c.in_ok-value.value c.in_ok-own.ensures.named c.in_ok-own.ensures.forks c.in_ok-own.ensures.holds
    refl refl (search rules)
    c.in_ok-value.ensures.value
    refl refl (rw (c.len-place.ensures, c.args.shared.now.lines.ok.0, c.into_line.ensures) refl)
