use Rattle.std.proofs.Common.{Bool, sym, ◌∙◌, ap, arith}
use Rattle.std.proofs.lemmas.Bool.{false≢true}
use Rattle.arachne_grants.specs.declared.sessions.ClientThread.{ClientThread}
use Rattle.arachne_grants.specs.Sessions.{core_of, gives_way, thread_at, with_thread}
use Rattle.arachne_grants.proofs.Standing.{stay-take}
use Rattle.arachne_grants.proofs.Taking.{core-unplaced, gives_way-late, not-none}
use Rattle.arachne_grants.proofs.state.CoreArbiter.take_back.Goals as goal

pub returns-in_err-place-clause-enough : goal.returns-in_err-place-clause-enough
returns-in_err-place-clause-enough c = λ none late within. (let empty = c.last_placed.ensures.none c.in_err-place.was in omega arith)

pub bounds-session-place : goal.bounds-session-place
bounds-session-place c = c.in_ok-place.ensures.last.within

pub returns-in_err-core-clause-enough : goal.returns-in_err-core-clause-enough
returns-in_err-core-clause-enough c = λ none late within.
    absurd (not-none (thread_at c.args.self.now.sessions c.args.client c.in_ok-place.place) c.in_ok-place.ensures.last.has c.in_err-core.ensures)

pub returns-then-not-gives_way-clause-enough : goal.returns-then-not-gives_way-clause-enough
returns-then-not-gives_way-clause-enough c = λ none late within.
    let thread = thread_at c.args.self.now.sessions c.args.client c.in_ok-place.place in
    absurd (false≢true (sym c.if-not-gives_way.true ∙ c.gives_way.ensures ∙ ap (λ (b : Bool). gives_way thread b) late ∙ gives_way-late thread))

pub set_thread-requires-clause-place : goal.set_thread-requires-clause-place
set_thread-requires-clause-place c = c.in_ok-place.ensures.last.within

pub set_thread-requires-clause-sound : goal.set_thread-requires-clause-sound
set_thread-requires-clause-sound c = λ core is.
    absurd (core-unplaced (thread_at c.args.self.now.sessions c.args.client c.in_ok-place.place) core (sym (ap core_of c.unplaced.ensures) ∙ is))

pub returns-clause-takes : goal.returns-clause-takes
returns-clause-takes c =
    let sessions = c.args.self.now.sessions in
    record {
      more = omega arith;
      core = sym c.in_ok-core.ensures;
      later = c.in_ok-place.ensures.last.later;
      way = sym c.gives_way.ensures ∙ c.if-not-gives_way.false;
      unplaced = c.set_thread.ensures.sessions ∙ ap (λ (t : ClientThread). with_thread sessions c.args.client c.in_ok-place.place t) c.unplaced.ensures;
    }

pub returns-clause-stands : goal.returns-clause-stands
returns-clause-stands c = stay-take c.args.self.now c.set_thread.new.self c.args.client c.args.late _ (returns-clause-takes c) c.set_thread.ensures.kept

pub returns-in_err-place-clause-floats : goal.returns-in_err-place-clause-floats
returns-in_err-place-clause-floats c = λ none within more. absurd (let empty = c.last_placed.ensures.none c.in_err-place.was in omega arith)

pub returns-in_err-core-clause-floats : goal.returns-in_err-core-clause-floats
returns-in_err-core-clause-floats c = λ none within more.
    absurd (not-none (thread_at c.args.self.now.sessions c.args.client c.in_ok-place.place) c.in_ok-place.ensures.last.has c.in_err-core.ensures)

pub returns-then-not-gives_way-clause-floats : goal.returns-then-not-gives_way-clause-floats
returns-then-not-gives_way-clause-floats c = λ none within more.
    (c.in_ok-place.place, (c.in_ok-place.ensures.last, sym c.gives_way.ensures ∙ c.if-not-gives_way.true))
