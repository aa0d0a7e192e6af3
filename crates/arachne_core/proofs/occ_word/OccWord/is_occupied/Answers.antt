use Rattle.std.proofs.{Common.{ℕ, ◌/◌, ◌^◌, false, eqb, get_or, sym, ap, ◌∙◌}, lemmas.Nat.Bits.shr_and_one}
use Rattle.std.specs.Int.RustNames.{bit_and}
use Rattle.arachne_core.specs.{declared.layout.TheConstants.MASK_BITS, Occupancy.Occupancy}
use Rattle.arachne_core.proofs.OccupancyWords.{get_or-flags}
use Rattle.arachne_core.proofs.occ_word.OccWord.is_occupied.Goals as goal

pub returns : goal.returns
returns c =
    let w = c.self.inside.word in
    ap (λ (k : ℕ). eqb (bit_and (w / 2 ^ k) 1) 1) c.from.ensures ∙ ap (λ (n : ℕ). eqb n 1) (shr_and_one w c.args.index)
    ∙ sym (get_or-flags MASK_BITS w c.args.index c.requires) ∙ ap (λ (o : Occupancy). get_or o.occupied c.args.index false) c.self.view_is
