use Rattle.std.proofs.Common.{rules}
use Rattle.arachne_program.specs.Program.{source_of}
use Rattle.arachne_lang.proofs.EvaluationSteps.{IsRun-meaning}
use Rattle.arachne_lang.proofs.evaluator.eval.Goals as goal

pub returns : goal.returns
returns c =
    rw (c.from-2.ensures, c.from-3.ensures)
    (IsRun-meaning (source_of c.args.program.now) (record { environment = c.new.result; sums = c.in_ok-vec.field-0; lines = c.new-2.result })
    c.run.new.shared c.in_ok-value.value c.new.ensures.items (search rules) c.new-2.ensures.items
    (rw c.root.ensures at c.in_ok-value.ensures.value))
