use Rattle.arachne_rule.proofs.Carriers.{one-for-a-context, one-at-a-place}
use Rattle.arachne_rule.proofs.laws.a_context_has_one_carrier.Goals as goal

pub returns : goal.returns
returns g q = record {
  context = λ tag_in bits w d b s h weight k mine j added o theirs c f c_in has also same. one-for-a-context tag_in bits w d b s h weight k mine j added o theirs c f c_in has also same;
  place = λ tag_in bits w d b s h weight k mine j added o theirs c f c_in f_in has also same. one-at-a-place tag_in bits w d b s h weight k mine j added o theirs c f c_in f_in has also same;
}
