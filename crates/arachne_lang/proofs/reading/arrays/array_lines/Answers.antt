use Rattle.std.proofs.{Common.{◌≡◌, ◌≤◌, length, get_or, arith, refl}, lemmas.Result.err_from_is_err_and}
use Rattle.std.proofs.lemmas.List.{map-append}
use Rattle.arachne_lang.proofs.ArraySteps.{line_at_letter, lines_end, line_shorter, fails_then}
use Rattle.arachne_lang.proofs.reading.arrays.array_lines.Goals.{in_default, in_default-2}
use Rattle.arachne_lang.proofs.reading.arrays.array_lines.Goals as goal

pub returns-in_err-behind : goal.returns-in_err-behind
returns-in_err-behind c =
    let p = err_from_is_err_and c.from_residual.result c.from_residual.ensures.1 in
    rw (p.1, p.2, c.loop-rest.invariant, line_at_letter _ c.loop-rest.rest.now c.in-97.len_at_least (omega arith))
    (fails_then c.in_err-behind.field-0.0 _ _ c.in_err-behind.ensures.read)

pub returns-in_err-array : goal.returns-in_err-array
returns-in_err-array c =
    let p = err_from_is_err_and c.from_residual-in_err-array.result c.from_residual-in_err-array.ensures.1 in
    rw (p.1, p.2, c.loop-rest.invariant, line_at_letter _ c.loop-rest.rest.now c.in-97.len_at_least (omega arith), c.in_ok-behind.ensures.read)
    (fails_then c.in_err-array.field-0.0 _ _ c.in_err-array.ensures)

pub loop-rest-smaller : goal.loop-rest-smaller
loop-rest-smaller c = line_shorter c.loop-rest.rest.now c.in_ok-behind.behind.now c.in_ok-array.array.items c.in_ok-array.behind.now c.in_ok-behind.ensures.read c.in_ok-array.ensures

pub loop-rest-preserved : goal.loop-rest-preserved
loop-rest-preserved c =
    rw (c.loop-rest.invariant, line_at_letter _ c.loop-rest.rest.now c.in-97.len_at_least (omega arith), c.in_ok-behind.ensures.read, c.in_ok-array.ensures, c.in_ok-push.ensures.items, map-append)
    refl

pub returns : goal.returns
returns c = rw (c.loop-rest.invariant, lines_end _ c.loop-rest.rest.now other) refl
  where
    other : 1 ≤ length c.loop-rest.rest.now → get_or c.loop-rest.rest.now 0 0 ≡ 97 → ⊥
    other le e = elim c.if-rest-lt1.branch [ in_default w ↦ omega (arith, le) | in_default-2 w ↦ omega (arith, e) ]
