use Rattle.arachne_weights.proofs.Tokens.{whole-alone}
use Rattle.arachne_weights.proofs.laws.whole_is_alone.Goals as goal

pub returns : goal.returns
returns g c nothing tokens reached i j t u at all apart from = whole-alone nothing reached i j t u at all apart from
