use Rattle.std.proofs.{Common.{arith, inl, inr}, lemmas.Bool.cases_lt}
use Rattle.arachne_rule.proofs.laws.an_occupancy_word_stands_apart.Goals as goal

pub returns-clause-marks : goal.returns-clause-marks
returns-clause-marks q shape core x x_in = omega (arith, x_in)

pub returns-clause-cores : goal.returns-clause-cores
returns-clause-cores q n core next before = omega (arith, before)

pub returns-clause-names : goal.returns-clause-names
returns-clause-names q n core p index_in = elim (cases_lt p.core core) [
  | inl h ↦ inl (omega (arith, h, index_in))
  | inr h ↦ inr (omega (arith, h))
]
