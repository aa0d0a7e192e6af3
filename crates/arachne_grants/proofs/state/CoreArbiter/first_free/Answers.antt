use Rattle.std.proofs.Common.{◌≡◌, ℕ, Bool, true, false, length, get_or, replicate, subst, below_more, arith}
use Rattle.std.proofs.lemmas.List.{length-replicate}
use Rattle.arachne_grants.specs.Sessions.{IsTaken}
use Rattle.arachne_grants.proofs.Marks.{AreAllMarked, AreAllMarked-none, AreAllMarked-more, IsFree-unmarked, unmarked}
use Rattle.arachne_grants.proofs.state.CoreArbiter.first_free.Goals as goal

pub each-init : goal.each-init
each-init c = AreAllMarked-none c.args.self.now.sessions (replicate 1024 false) (length-replicate {A = Bool} 1024 false) (λ core. unmarked 1024 core)

pub each-preserved : goal.each-preserved
each-preserved c = AreAllMarked-more c.args.self.now.sessions c.each.marks c.mark.new.marks c.each.session-index c.each.invariant c.mark.ensures

pub look-init : goal.look-init
look-init c = λ core below. absurd (omega arith)

pub look-preserved : goal.look-preserved
look-preserved c =
    below_more (λ (k : ℕ). IsTaken c.args.self.now.sessions k) c.look.core c.look.invariant
    (c.each.invariant.only c.look.core (subst (λ (k : ℕ). get_or c.each.marks k false ≡ true) c.from.ensures c.if-not-marked.false))

pub returns-then-not-marked : goal.returns-then-not-marked
returns-then-not-marked c =
    let sessions = c.args.self.now.sessions in
    let few = c.args.self.now.few in
    let end : c.each.session-index ≡ length sessions = omega arith in
    let all : AreAllMarked sessions c.each.marks (length sessions) = subst (λ (n : ℕ). AreAllMarked sessions c.each.marks n) end c.each.invariant in
    (c.look-test.true, IsFree-unmarked sessions c.each.marks c.look.core all (omega arith) (subst (λ (k : ℕ). get_or c.each.marks k false ≡ false) c.from.ensures c.if-not-marked.true))
