use Rattle.std.proofs.Common.{◌≡◌, ℕ, set, ◌∙◌, length, below_more, arith}
use Rattle.std.proofs.lemmas.List.{get_or-set_same, get_or-set_other, length-replicate, length-set}
use Rattle.arachne_grants.specs.declared.claims.Client.{Client}
use Rattle.arachne_grants.specs.Grants.{client_at}
use Rattle.arachne_grants.specs.Sessions.{session_at, wants_of}
use Rattle.arachne_grants.proofs.Giving.{wants-all}
use Rattle.arachne_grants.proofs.state.CoreArbiter.clients.Goals as goal

pub each-init : goal.each-init
each-init c = record {
  sized = length-replicate {A = Client} 64 (record { priority = 0; reserved = 0; asks = 0; held = 0 });
  each = λ k below. absurd (omega arith);
}

pub each-preserved : goal.each-preserved
each-preserved c =
    let sized : length c.each.clients ≡ 64 = c.each.invariant.sized in
    record {
      sized = length-set c.each.clients c.each.client c.wants.result ∙ sized;
      each = below_more (λ (k : ℕ). client_at (set c.each.clients c.each.client c.wants.result) k ≡ wants_of (session_at c.args.self.now.sessions k)) c.each.client
          (λ k below. get_or-set_other c.each.clients c.each.client k c.wants.result _ (λ same. omega arith) ∙ c.each.invariant.each k below)
          (get_or-set_same c.each.clients c.each.client c.wants.result _ (omega arith) ∙ c.wants.ensures);
    }

pub returns : goal.returns
returns c = wants-all c.args.self.now.sessions c.each.clients (omega arith) c.each.invariant.sized (λ k within. c.each.invariant.each k (omega arith))
