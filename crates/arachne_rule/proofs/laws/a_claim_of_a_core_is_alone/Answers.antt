use Rattle.arachne_rule.proofs.Alone.{claim_alone}
use Rattle.arachne_rule.proofs.laws.a_claim_of_a_core_is_alone.Goals as goal

pub returns : goal.returns
returns g q tag_in bits w d b s h weight k mine core core_in some_slot empty = let r = claim_alone tag_in bits w d b s h weight k mine core core_in some_slot empty in (r.0, r.1, (r.2, r.3))
