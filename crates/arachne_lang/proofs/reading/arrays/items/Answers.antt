use Rattle.std.proofs.{Common.{◌≡◌, ◌≤◌, length, get_or, arith, refl}, lemmas.Result.err_from_is_err_and}
use Rattle.arachne_lang.proofs.ArraySteps.{item_at_space, items_end, fails_then}
use Rattle.arachne_lang.proofs.reading.arrays.items.Goals.{in_default, in_default-2}
use Rattle.arachne_lang.proofs.reading.arrays.items.Goals as goal

pub returns-in_err-item : goal.returns-in_err-item
returns-in_err-item c =
    let p = err_from_is_err_and c.from_residual.result c.from_residual.ensures.1 in
    rw (p.1, p.2, c.loop-rest.invariant, item_at_space c.loop-rest.items.items c.loop-rest.rest.now c.in-32.len_at_least (omega arith))
    (fails_then c.in_err-item.field-0.0 _ _ c.in_err-item.ensures.read)

pub loop-rest-preserved : goal.loop-rest-preserved
loop-rest-preserved c =
    rw (c.loop-rest.invariant, item_at_space c.loop-rest.items.items c.loop-rest.rest.now c.in-32.len_at_least (omega arith), c.in_ok-item.ensures.read, c.in_ok-push.ensures.items)
    refl

pub returns-in_err-rest : goal.returns-in_err-rest
returns-in_err-rest c =
    let p = err_from_is_err_and c.from_residual-in_err-rest.result c.from_residual-in_err-rest.ensures.1 in
    rw (p.1, p.2, c.loop-rest.invariant, items_end c.loop-rest.items.items c.loop-rest.rest.now other)
    (fails_then c.in_err-rest.field-0.0 _ _ c.in_err-rest.ensures.read)
  where
    other : 1 ≤ length c.loop-rest.rest.now → get_or c.loop-rest.rest.now 0 0 ≡ 32 → ⊥
    other le e = elim c.if-rest-lt1.branch [ in_default w ↦ omega (arith, le) | in_default-2 w ↦ omega (arith, e) ]

pub returns : goal.returns
returns c = rw (c.loop-rest.invariant, items_end c.loop-rest.items.items c.loop-rest.rest.now other, c.in_ok-rest.ensures.read) refl
  where
    other : 1 ≤ length c.loop-rest.rest.now → get_or c.loop-rest.rest.now 0 0 ≡ 32 → ⊥
    other le e = elim c.if-rest-lt1.branch [ in_default w ↦ omega (arith, le) | in_default-2 w ↦ omega (arith, e) ]
