use Rattle.std.proofs.Common.{◌-◌, ◌∙◌, rules, arith}
use Rattle.arachne_lang.specs.Reading.{form_at, expression_at}
use Rattle.arachne_lang.proofs.ExpressionLevels.{expression_at-opened, no_level_left, one_level_more, opened_bracket}
use Rattle.arachne_lang.proofs.reading.expressions.+expression.Goals as goal

pub expression-returns-in_default : goal.expression-returns-in_default
expression-returns-in_default t c = rw (expression_at-opened c.args.levels c.args.text.now) (search rules)

pub expression-returns-then-levels-eq0 : goal.expression-returns-then-levels-eq0
expression-returns-then-levels-eq0 t c = rw (no_level_left c.args.levels c.args.text.now c.if-levels-eq0.true) (search rules)

pub expression-returns : goal.expression-returns
expression-returns t c =
    rw (one_level_more c.args.levels c.args.text.now c.if-levels-eq0.false
    ∙ opened_bracket (form_at (expression_at (c.args.levels - 1))) c.args.text.now c.in-40.len_at_least (omega arith))
    c.form.ensures
