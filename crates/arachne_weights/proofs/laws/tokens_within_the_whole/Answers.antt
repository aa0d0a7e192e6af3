use Rattle.arachne_weights.proofs.Tokens.{weight-within}
use Rattle.arachne_weights.proofs.laws.tokens_within_the_whole.Goals as goal

pub returns : goal.returns
returns g c nothing tokens reached = weight-within nothing reached
