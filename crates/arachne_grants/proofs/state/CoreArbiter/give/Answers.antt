use Rattle.std.proofs.Common.{◌≡◌, ℕ, ◌<◌, map, sym, ◌∙◌, ap, subst, arith}
use Rattle.arachne_grants.specs.Owners.{IsHighestShort}
use Rattle.arachne_grants.specs.Sessions.{core_of, held_in, thread_at, wants_of, IsFree}
use Rattle.arachne_grants.proofs.Giving.{AllGiven-none, AllGiven-ready, IsGrant-give, core-placed}
use Rattle.arachne_grants.proofs.Standing.{stay-give}
use Rattle.arachne_grants.proofs.state.CoreArbiter.give.Goals as goal

pub returns-in_err-short-clause-all : goal.returns-in_err-short-clause-all
returns-in_err-short-clause-all c =
    let state = c.args.self.now in
    λ none. AllGiven-none state.sessions state.allowed state.cores (omega arith) (λ client within short. c.in_err-short.ensures client (omega arith) short)

pub returns-in_err-core-clause-all : goal.returns-in_err-core-clause-all
returns-in_err-core-clause-all c = λ none within client core fewer below. c.in_err-core.ensures core below

pub returns-in_err-place-clause-all : goal.returns-in_err-place-clause-all
returns-in_err-place-clause-all c =
    let state = c.args.self.now in
    let short : IsHighestShort (map wants_of state.sessions) state.allowed (map held_in state.sessions) 64 c.from-client.result = subst (λ (n : ℕ). IsHighestShort (map wants_of state.sessions) state.allowed (map held_in state.sessions) 64 n) (sym c.from-client.ensures) c.in_ok-short.ensures in
    λ none. AllGiven-ready state.sessions state.allowed state.cores c.from-client.result short (sym c.in_err-place.ensures.first)

pub bounds-self-client : goal.bounds-self-client
bounds-self-client c = let within = c.in_ok-short.ensures.within in let same = c.from-client.ensures in omega arith

pub bounds-session-place : goal.bounds-session-place
bounds-session-place c = c.in_ok-place.ensures.within

pub set_thread-requires-clause-client : goal.set_thread-requires-clause-client
set_thread-requires-clause-client c = let within = c.in_ok-short.ensures.within in let same = c.from-client.ensures in omega arith

pub set_thread-requires-clause-place : goal.set_thread-requires-clause-place
set_thread-requires-clause-place c = c.in_ok-place.ensures.within

pub set_thread-requires-clause-sound : goal.set_thread-requires-clause-sound
set_thread-requires-clause-sound c =
    let state = c.args.self.now in
    λ core is.
    let same : c.in_ok-core.core ≡ core = core-placed (thread_at state.sessions c.from-client.result c.in_ok-place.place) c.in_ok-core.core core (sym (ap core_of c.placed.ensures) ∙ is) in
    subst (λ (k : ℕ). (k < state.cores) × IsFree state.sessions k) same c.in_ok-core.ensures

pub returns-clause-gives : goal.returns-clause-gives
returns-clause-gives c =
    let state = c.args.self.now in
    let short : IsHighestShort (map wants_of state.sessions) state.allowed (map held_in state.sessions) 64 c.from-client.result = subst (λ (n : ℕ). IsHighestShort (map wants_of state.sessions) state.allowed (map held_in state.sessions) 64 n) (sym c.from-client.ensures) c.in_ok-short.ensures in
    IsGrant-give state.sessions c.set_thread.new.self.sessions state.allowed state.cores c.from-client.result c.in_ok-place.place c.in_ok-core.core c.placed.result c.is_waiting.result
    (omega arith) (omega arith) short c.in_ok-core.ensures (sym c.in_ok-place.ensures.first) c.set_thread.ensures.sessions c.placed.ensures c.is_waiting.ensures

pub returns-clause-stands : goal.returns-clause-stands
returns-clause-stands c = stay-give c.args.self.now c.set_thread.new.self _ (returns-clause-gives c) c.set_thread.ensures.kept
