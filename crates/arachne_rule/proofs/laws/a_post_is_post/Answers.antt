use Rattle.std.proofs.Common.{refl}
use Rattle.arachne_rule.proofs.Post.{post}
use Rattle.arachne_rule.proofs.laws.a_post_is_post.Goals as goal

pub returns : goal.returns
returns g q tag_in bits w d b s h weight k mine c v c_in has free named = post tag_in bits w d b s h weight k mine c.context c v c_in has refl free named
