use Rattle.std.proofs.Common.{◌≡◌, ℕ, set, get_or, ◌∙◌, length, below_more, arith}
use Rattle.std.proofs.lemmas.List.{get_or-set_same, get_or-set_other, length-replicate, length-set}
use Rattle.arachne_grants.specs.Sessions.{held_in, session_at}
use Rattle.arachne_grants.proofs.Giving.{held-all}
use Rattle.arachne_grants.proofs.state.CoreArbiter.held.Goals as goal

pub each-init : goal.each-init
each-init c = record {
  sized = length-replicate {A = ℕ} 64 0;
  each = λ k below. absurd (omega arith);
}

pub each-preserved : goal.each-preserved
each-preserved c =
    let sized : length c.each.held ≡ 64 = c.each.invariant.sized in
    record {
      sized = length-set c.each.held c.each.client c.held.result ∙ sized;
      each = below_more (λ (k : ℕ). get_or (set c.each.held c.each.client c.held.result) k 0 ≡ held_in (session_at c.args.self.now.sessions k)) c.each.client
          (λ k below. get_or-set_other c.each.held c.each.client k c.held.result 0 (λ same. omega arith) ∙ c.each.invariant.each k below)
          (get_or-set_same c.each.held c.each.client c.held.result 0 (omega arith) ∙ c.held.ensures);
    }

pub returns : goal.returns
returns c = held-all c.args.self.now.sessions c.each.held (omega arith) c.each.invariant.sized (λ k within. c.each.invariant.each k (omega arith))
