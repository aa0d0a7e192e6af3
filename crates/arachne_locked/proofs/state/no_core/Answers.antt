use Rattle.std.proofs.{Common.{◌≡◌, true, false, get_or, replicate, ap, ◌∙◌, refl, arith}, lemmas.List.get_or-replicate}
use Rattle.arachne_core.specs.declared.{layout.TheConstants.MASK_BITS, occ_word.TheConstants.FULL_MASK}
use Rattle.arachne_core.specs.Occupancy.{Occupancy, flags}
use Rattle.arachne_locked.proofs.state.no_core.Goals as goal

all_set : flags MASK_BITS FULL_MASK ≡ replicate MASK_BITS true
unfolding flags
all_set = refl

pub returns-clause-full : goal.returns-clause-full
returns-clause-full c i h = ap (λ (o : Occupancy). get_or o.occupied i false) c.new.ensures ∙ ap (λ xs. get_or xs i false) all_set ∙ get_or-replicate MASK_BITS i true false (omega (arith, h, c.requires))
