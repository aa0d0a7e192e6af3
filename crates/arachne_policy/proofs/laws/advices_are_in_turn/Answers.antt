use Rattle.std.proofs.Common.{[]}
use Rattle.arachne_policy.proofs.InTurn.{length-advices_after, advices-get, HasJudged-push}
use Rattle.arachne_policy.proofs.laws.advices_are_in_turn.Goals as goal

pub returns : goal.returns
returns c = record { each_once = λ settings samples. length-advices_after settings [] samples; after_those_before = advices-get; one_more = HasJudged-push }
