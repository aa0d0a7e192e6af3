use Rattle.arachne_rule.proofs.Release.{released}
use Rattle.arachne_rule.proofs.laws.a_release_is_release.Goals as goal

pub returns : goal.returns
returns g q tag_in bits w d b s h weight k mine c c_in has free named home = released tag_in bits w d b s h weight k mine c c_in has free named home
