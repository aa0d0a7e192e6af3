use Rattle.std.proofs.Common.{◌+◌, ◌*◌}
use Rattle.arachne_lang.proofs.reading.expressions.+expression.Given as goal

abbrev pub decreases-expression : goal.decreases-expression
decreases-expression l = 4 * l.levels

abbrev pub decreases-part : goal.decreases-part
decreases-part l = 4 * l.levels + 1

abbrev pub decreases-form : goal.decreases-form
decreases-form l = 4 * l.levels + 3

abbrev pub decreases-item : goal.decreases-item
decreases-item l = 4 * l.levels + 2

abbrev pub decreases-binary : goal.decreases-binary
decreases-binary l = 4 * l.levels + 2

abbrev pub decreases-choice : goal.decreases-choice
decreases-choice l = 4 * l.levels + 2

abbrev pub decreases-binding : goal.decreases-binding
decreases-binding l = 4 * l.levels + 2

abbrev pub decreases-tally : goal.decreases-tally
decreases-tally l = 4 * l.levels + 2

abbrev pub decreases-hold : goal.decreases-hold
decreases-hold l = 4 * l.levels + 2

abbrev pub decreases-fork : goal.decreases-fork
decreases-fork l = 4 * l.levels + 2

abbrev pub decreases-fold : goal.decreases-fold
decreases-fold l = 4 * l.levels + 2

abbrev pub decreases-sweep : goal.decreases-sweep
decreases-sweep l = 4 * l.levels + 2
