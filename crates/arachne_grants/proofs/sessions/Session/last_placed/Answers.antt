use Rattle.std.proofs.Common.{◌≡◌, ℕ, Option, None, subst, arith}
use Rattle.arachne_grants.specs.Sessions.{IsLastPlaced}
use Rattle.arachne_grants.proofs.Taking.{count-none}
use Rattle.arachne_grants.proofs.sessions.Session.last_placed.Goals as goal

pub returns-clause-last : goal.returns-clause-last
returns-clause-last c =
    let all : c.look.place ≡ 64 = omega arith in
    subst (λ (n : ℕ). IsLastPlaced c.args.self.now.threads n c.look.last) all c.look.invariant

pub returns-clause-none : goal.returns-clause-none
returns-clause-none c = λ is.
    let none : IsLastPlaced c.args.self.now.threads c.look.place None = subst (λ (last : Option ℕ). IsLastPlaced c.args.self.now.threads c.look.place last) is c.look.invariant in
    count-none c.args.self.now.threads (λ k below. none k (omega arith))
