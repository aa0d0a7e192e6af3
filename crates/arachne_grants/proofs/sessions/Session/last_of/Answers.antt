use Rattle.std.proofs.Common.{sym, ◌∙◌, arith}
use Rattle.arachne_grants.proofs.Taking.{IsLastPlaced-keep}
use Rattle.arachne_grants.proofs.sessions.Session.last_of.Goals as goal

pub returns-then-has_core : goal.returns-then-has_core
returns-then-has_core c = record {
  within = omega arith;
  has = sym c.has_core.ensures ∙ c.if-has_core.true;
  later = λ k after below. absurd (omega arith);
}

pub returns-else-has_core : goal.returns-else-has_core
returns-else-has_core c = IsLastPlaced-keep c.args.self.now.threads c.args.place c.args.last c.requires.last (sym c.has_core.ensures ∙ c.if-has_core.false)
