use Rattle.std.proofs.Common.{◌≡◌, inr, true, false, get_or, replicate, ap, ◌∙◌, refl, arith}
use Rattle.std.proofs.lemmas.List.{get_or-replicate}
use Rattle.arachne_core.specs.Occupancy.{flags}
use Rattle.arachne_run_tests.proofs.altered.AlteredContexts.claim.Goals as goal

all_set : flags 56 4107282860161892351 ≡ replicate 56 true
unfolding flags
all_set = refl

-- the word is that of an open core on which no index is free
pub returns-in-IsFull-clause-answer : goal.returns-in-IsFull-clause-answer
returns-in-IsFull-clause-answer g c = (refl, inr (λ i h. ap (λ xs. get_or xs i false) all_set ∙ get_or-replicate 56 i true false (omega (arith, h, c.slots.ensures.value, c.slots.ensures.few))))
