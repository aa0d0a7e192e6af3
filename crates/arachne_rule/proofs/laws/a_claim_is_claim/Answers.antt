use Rattle.arachne_rule.proofs.Claim.{claim}
use Rattle.arachne_rule.proofs.laws.a_claim_is_claim.Goals as goal

pub returns : goal.returns
returns g q tag_in bits w d b s h weight k mine p p_in vacant opened shared = let r = claim tag_in bits w d b s h weight k mine p p_in vacant opened shared in (r.0, r.1, (r.2, r.3))
