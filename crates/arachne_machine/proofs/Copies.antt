-- Threads that differ only in their label, or in the program, of which they have equal texts.
use Rattle.std.proofs.Common.{◌≡◌, length, ℕ, List, [], ◌∷◌, ◌++◌, refl, ap, sym, ◌∙◌, arith, map}
use Rattle.arachne_program.specs.{Program.source_of, Tree.Source, Value.Environment}
use Rattle.arachne_machine.proofs.Outlooks.{IsAt, account_at, at_faultless, ending_at, faultless_at, keeps_there, there_keeps, work_at}
use Rattle.arachne_machine.{proofs.Soundness.sound_same, specs.{Account.Account, Outcome.named_holds, Sound.IsSound}}
use Rattle.arachne_machine.specs.Ending.{begun_trace, resume_trace, forks_of, forks_here, lock_freed, releases, begun, ending, fork_awaited, frames_left, trace_left, work_left}
use Rattle.arachne_machine.specs.{Steps.{pending_of, suspended}, Strands.Strand, Suspended.Suspended, Trace.{At, Event}}
use Rattle.arachne_machine.specs.declared.{frame.{Control.Control, Frame.Frame}, line.Label.Label}
use Rattle.arachne_machine.specs.declared.line.Ran.TheVariants as ways
use Rattle.arachne_machine.specs.declared.pause.Pending.TheVariants as pause

-- with another label
abbrev pub relabelled : Label → Strand → Strand
relabelled label t = record t { own = record t.own { label = label } }

-- as one that runs in its parent's place
abbrev pub placed_here : Strand → Strand
placed_here t = relabelled (record t.own.label { ran = ways.InPlace }) t

pub here_sound : (t : Strand) (label : Label) (account : Account) → IsSound t account → IsSound (relabelled label t) account
here_sound t label account s = record {
  task = s.task;
  has_task = s.has_task;
  holds = s.holds;
  lines = s.lines;
  forks = s.forks;
  value = s.value;
  environment = s.environment;
  whole = s.whole;
  numbered = s.numbered;
  faultless = s.faultless;
  keeps = s.keeps;
}

-- Two threads that differ at most in their program, of which they have equal texts.
pub record IsCopy (t u : Strand) : Type 0 where
  pub source : source_of u.program.now ≡ source_of t.program.now
  pub own : u.own ≡ t.own
  pub below : u.below ≡ t.below
  pub forks : u.forks ≡ t.forks
  pub environment : u.environment ≡ t.environment
  pub frames : u.frames ≡ t.frames
  pub control : u.control ≡ t.control

at_itself : (t : Strand) → IsAt (source_of t.program.now) t.own.name t.control t.frames t.environment t
at_itself t = record { source_is = refl; name_is = refl; control_is = refl; frames_are = refl; environment_is = refl }

at_copy : (t u : Strand) → IsCopy t u → IsAt (source_of t.program.now) t.own.name t.control t.frames t.environment u
at_copy t u c = record { source_is = c.source; name_is = ap (λ o. o.name) c.own; control_is = c.control; frames_are = c.frames; environment_is = c.environment }

pub copy_ending : (t u : Strand) → IsCopy t u → ending u ≡ ending t
copy_ending t u c =
    ending_at (source_of t.program.now) t.own.name t.control t.frames t.environment u (at_copy t u c)
    ∙ sym (ending_at (source_of t.program.now) t.own.name t.control t.frames t.environment t (at_itself t))

pub copy_work : (t u : Strand) → IsCopy t u → work_left u ≡ work_left t
copy_work t u c =
    work_at (source_of t.program.now) t.own.name t.control t.frames t.environment u (at_copy t u c)
    ∙ sym (work_at (source_of t.program.now) t.own.name t.control t.frames t.environment t (at_itself t))

pub copy_sound : (t u : Strand) (account : Account) → IsCopy t u → IsSound t account → IsSound u account
copy_sound t u account c s =
    let source = source_of t.program.now in
    let name = t.own.name in
    let k = t.control in
    let fs = t.frames in
    let env = t.environment in
    let at = at_copy t u c in
    let was = at_itself t in
    sound_same t u account account s (record {
      program = c.source;
      name = ap (λ o. o.name) c.own;
      holds = λ locks h. ap (λ o. o.holds) c.own ∙ h;
      lines = λ h. ap (map named_holds) c.below ∙ h;
      forks = λ h. c.forks ∙ h;
      ending = copy_ending t u c;
      whole = account_at source name k fs env u account at ∙ sym (account_at source name k fs env t account was);
      numbered = λ h. (
        omega (arith, h.0, c.forks, ap length c.below, ap length (ap (λ x. fork_awaited x ++ forks_of u.frames) c.control ∙ ap (λ x. fork_awaited k ++ forks_of x) c.frames)),
        omega (arith, h.1, ap length c.below),
      );
      faultless = λ h. at_faultless source name k fs env u at (faultless_at source name k fs env t was h);
      keeps = λ h. there_keeps source name k fs env u at (keeps_there source name k fs env t was h);
    })

abbrev trace_by : Source → List ℕ → Control → List Frame → Environment → List Event
trace_by source name k fs env = begun_trace source name k env ++ resume_trace source name (frames_left k fs) (begun source name k env) ++ At pause.Ended ∷ []

copy_trace : (t u : Strand) → IsCopy t u → trace_left u ≡ trace_left t
copy_trace t u c =
    ap (λ x. trace_by x u.own.name u.control u.frames u.environment) c.source ∙ ap (λ x. trace_by (source_of t.program.now) x.name u.control u.frames u.environment) c.own
    ∙ ap (λ x. trace_by (source_of t.program.now) t.own.name x u.frames u.environment) c.control ∙ ap (λ x. trace_by (source_of t.program.now) t.own.name t.control x u.environment) c.frames
    ∙ ap (λ x. trace_by (source_of t.program.now) t.own.name t.control t.frames x) c.environment

-- the view that callers have of a copy
pub copy_seen : (t u : Strand) → IsCopy t u → suspended u ≡ record (suspended t) { program = u.program.now }
copy_seen t u c =
    let all : Suspended → Suspended = λ s. s in
    let work = copy_work t u c in
    let trace = copy_trace t u c in
    ap (λ o. record (suspended u) { name = o.name; label = o.label; holds = o.holds }) c.own
    ∙ ap (λ l. record (suspended u) { name = t.own.name; label = t.own.label; holds = t.own.holds; below = l }) c.below
    ∙ ap (λ n. record (suspended u) { name = t.own.name; label = t.own.label; holds = t.own.holds; below = t.below; forks = n }) c.forks
    ∙ ap (λ w. record (suspended u) { name = t.own.name; label = t.own.label; holds = t.own.holds; below = t.below; forks = t.forks; work = w }) work
    ∙ ap (λ w. record (suspended u) { name = t.own.name; label = t.own.label; holds = t.own.holds; below = t.below; forks = t.forks; work = work_left t; trace = w }) trace
    ∙ ap (λ f. record (suspended t) { program = u.program.now; unjoined = fork_awaited u.control ++ forks_of f; here = forks_here f; locks = lock_freed u.control ++ releases f; pending = pending_of u.control }) c.frames
    ∙ ap (λ x. record (suspended t) { program = u.program.now; unjoined = fork_awaited x ++ forks_of t.frames; here = forks_here t.frames; locks = lock_freed x ++ releases t.frames; pending = pending_of x }) c.control
