use Rattle.std.proofs.{Common.arith, lemmas.Nat.{pow_below, one_shl}}
use Rattle.arachne_core.specs.declared.layout.TheConstants.{MASK_BITS}
use Rattle.arachne_words.proofs.claiming.claim_sum.Goals as goal

pub overflow_add-result : goal.overflow_add-result
overflow_add-result c = omega (arith, pow_below c.from.result MASK_BITS (omega (arith, c.requires, c.from.ensures)), one_shl c.from.result 64 (omega (arith, c.requires, c.from.ensures)))
