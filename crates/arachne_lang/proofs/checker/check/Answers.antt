use Rattle.std.proofs.{Common.{◌≡◌, true, false, refl}, lemmas.Result.err_from_is_err_and}
use Rattle.arachne_lang.proofs.NodesJudged.{verdict-limits, verdict-ok, verdict-err}
use Rattle.arachne_lang.proofs.checker.check.Goals as goal

pub returns-then-not-is_within_limits : goal.returns-then-not-is_within_limits
returns-then-not-is_within_limits c =
    verdict-limits c.args.program.now (c.if-not-nests_within.ensures.0 refl) (λ kept. let both : false ≡ true = c.if-not-is_within_limits.ensures.1 kept in cc)

pub returns-in_err-check : goal.returns-in_err-check
returns-in_err-check c =
    let p = err_from_is_err_and c.from_residual.result c.from_residual.ensures.1 in
    rw (p.1, p.2)
    (verdict-err c.args.program.now _ (c.if-not-nests_within.ensures.0 refl) (c.if-not-is_within_limits.ensures.0 refl)
    (c.in_err-check.ensures.judged))

pub returns : goal.returns
returns c =
    verdict-ok c.args.program.now _ (c.if-not-nests_within.ensures.0 refl) (c.if-not-is_within_limits.ensures.0 refl)
    (c.in_ok-check.ensures.judged)
