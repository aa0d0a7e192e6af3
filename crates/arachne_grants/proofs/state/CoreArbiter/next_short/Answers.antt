use Rattle.std.proofs.Common.{◌≡◌, ℕ, List, length, map, subst, arith}
use Rattle.std.proofs.lemmas.List.{length-map}
use Rattle.arachne_grants.specs.declared.claims.Client.{Client}
use Rattle.arachne_grants.specs.Owners.{IsNextShort}
use Rattle.arachne_grants.specs.Sessions.{held_in, wants_of}
use Rattle.arachne_grants.proofs.state.CoreArbiter.next_short.Goals as goal

pub returns : goal.returns
returns c =
    let state = c.args.self.now in
    let sized : length (map wants_of state.sessions) ≡ 64 = (let same = length-map state.sessions wants_of in omega arith) in
    subst (λ (n : ℕ). IsNextShort (map wants_of state.sessions) state.allowed (map held_in state.sessions) n c.next_short.result) sized
    (subst (λ (held : List ℕ). IsNextShort (map wants_of state.sessions) state.allowed held (length (map wants_of state.sessions)) c.next_short.result) c.held.ensures
    (subst (λ (clients : List Client). IsNextShort clients state.allowed c.held.result (length clients) c.next_short.result) c.clients.ensures c.next_short.ensures))
