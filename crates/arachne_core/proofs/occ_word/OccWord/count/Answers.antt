use Rattle.std.proofs.{Common.{◌/◌, ◌^◌, ◌≤◌, ap, ◌∙◌, arith}, lemmas.Nat.and_mask}
use Rattle.std.specs.Int.RustNames.{bit_and}
use Rattle.arachne_core.specs.{declared.layout.TheConstants.MASK_BITS, Occupancy.{Occupancy, count_of, flags}}
use Rattle.arachne_core.proofs.OccupancyWords.{read_count, count_of-le, length-flags}
use Rattle.arachne_core.proofs.occ_word.OccWord.count.Goals as goal

pub returns-clause-bits : goal.returns-clause-bits
returns-clause-bits c = and_mask (c.self.inside.word / 2 ^ MASK_BITS) 6 ∙ read_count c.self.inside.word c.self.invariant ∙ ap (λ (o : Occupancy). count_of o.occupied) c.self.view_is

pub returns-clause-within : goal.returns-clause-within
returns-clause-within c =
    let w = c.self.inside.word in
    let within : bit_and (w / 2 ^ MASK_BITS) 63 ≤ MASK_BITS = omega (arith, and_mask (w / 2 ^ MASK_BITS) 6, read_count w c.self.invariant, count_of-le (flags MASK_BITS w), length-flags MASK_BITS w) in
    within
