-- The view that callers have of an advance.
use Rattle.std.proofs.Common.{ℕ, List, [], ◌∷◌, ◌++◌, Option, None, Some, inl, inr, refl, ap, sym, ◌∙◌, arith, max}
use Rattle.std.proofs.lemmas.Bool.{cases_lt}
use Rattle.arachne_program.specs.{Tree.{Tree, Source, Number}, Effects.{Task, Evaluate, Reduce}}
use Rattle.arachne_program.specs.{Program.{source_of, tree_of}, Checked.IsChecked}
use Rattle.arachne_machine.{specs.Trace.{Event, At, trace_of, task_trace}, proofs.Halves.{trace_whole, trace_split}}
use Rattle.arachne_machine.specs.{declared.frame.{Frame.Frame, Control.Control}, Suspended.IsNext, Strands.Strand}
use Rattle.arachne_machine.specs.declared.frame.Control.TheVariants.{Begin, Cover, Asks, Frees, Tallies, Ended}
use Rattle.arachne_machine.specs.Ending.{stretch_task, begun, begun_trace, resume_trace, frames_left, trace_left}
use Rattle.arachne_machine.specs.{declared.pause.Pending.Pending, Advance.{Advanced, pause_at}, Account.Account}
use Rattle.arachne_machine.specs.{Steps.{AfterSteps, pending_of, suspended}, Faultless.PausesWithin, Sound.IsSound}
use Rattle.arachne_machine.proofs.Faultlessness.{pauses_within}
use Rattle.arachne_machine.proofs.Soundness.{sound_goes, same_thread, within_seen, stopped_seen}
use Rattle.arachne_machine.specs.declared.pause.Pending.TheVariants as pause

pub sound_after : (n : ℕ) (old new : Strand) (next : Option Pending) (account : Account) → IsSound old account → AfterSteps n old next new → IsSound new account
sound_after n old new None account s h = sound_goes n [] old new account s h.0
sound_after n old new (Some pause.Forks) account s h = absurd h
sound_after n old new _ account s h = sound_goes h.0.made [] old new account s h.0.goes

pub advanced_seen : (n : ℕ) (old new : Strand) (next : Option Pending) → AfterSteps n old next new → Advanced n (suspended old) (pause_at next) (suspended new)
advanced_seen n old new None h =
    (same_thread n old new h.0, h.2, h.1, record { made = n; at_least = omega arith; at_most = omega arith; work = h.0.work; trace = sym h.0.trace })
advanced_seen n old new (Some pause.Forks) h = absurd h
advanced_seen n old new (Some pause.Joins) h =
    (same_thread h.0.made old new h.0.goes, h.2, h.1, stopped_seen new h.1, within_seen 1 n old new h.0)
advanced_seen n old new (Some (pause.Asks lock)) h = (same_thread h.0.made old new h.0.goes, h.2, h.1, within_seen 1 n old new h.0)
advanced_seen n old new (Some (pause.Frees lock)) h =
    (same_thread h.0.made old new h.0.goes, h.2, h.1, (h.3.0, sym h.2 ∙ h.3.1), within_seen 1 n old new h.0)
advanced_seen n old new (Some (pause.Tallies ledger amount)) h = (same_thread h.0.made old new h.0.goes, h.2, h.1, within_seen 1 n old new h.0)
advanced_seen n old new (Some pause.Ended) h =
    (same_thread h.0.made old new h.0.goes, sym h.3 ∙ h.4, h.4, h.1, h.2, h.5, within_seen 1 n old new h.0)

-- the lock or ledger that a sound thread's pause names exists
pub within_seen_sound : (t : Strand) (account : Account) → IsSound t account → IsChecked (source_of t.program.now) → PausesWithin (suspended t)
within_seen_sound t account s checked = pauses_within t (s.faultless checked)

-- a thread that goes on begins with a step
trace_of-step : (arrays : List (List ℕ)) (tree : Tree) (env : List ℕ) → IsNext None (trace_of arrays tree env)
trace_of-step arrays (Number n) env = (_, refl)
trace_of-step arrays _ env = (_, refl)

task_trace-step : (arrays : List (List ℕ)) (task : Task) → IsNext None (task_trace arrays task)
task_trace-step arrays (Evaluate tree env) = trace_of-step arrays tree env
task_trace-step arrays (Reduce reduction grain body env first n) = elim (cases_lt (max 1 grain) n) [
  | inl lt ↦ (_, trace_split arrays reduction grain body env first n lt)
  | inr le ↦ (_, trace_whole arrays reduction grain body env first n le)
]

step_first : (xs ys : List Event) → IsNext None xs → IsNext None (xs ++ ys)
step_first xs ys first = (first.0 ++ ys, ap (λ l. l ++ ys) first.1)

next_event : (source : Source) (name : List ℕ) (fs : List Frame) (env : List ℕ) (k : Control) →
    IsNext (pending_of k) (begun_trace source name k env ++ resume_trace source name (frames_left k fs) (begun source name k env) ++ At pause.Ended ∷ [])
next_event source name fs env (Begin expr) =
    let t = trace_of source.arrays (tree_of expr.now) env in
    let below = resume_trace source name fs (begun source name (Begin expr) env) in
    step_first (t ++ below) (At pause.Ended ∷ []) (step_first t below (trace_of-step source.arrays (tree_of expr.now) env))
next_event source name fs env (Cover stretch) =
    let t = task_trace source.arrays (stretch_task stretch env) in
    let below = resume_trace source name fs (begun source name (Cover stretch) env) in
    step_first (t ++ below) (At pause.Ended ∷ []) (step_first t below (task_trace-step source.arrays (stretch_task stretch env)))
next_event source name fs env _ = (_, refl)

pub trace_next : (t : Strand) → IsNext (pending_of t.control) (trace_left t)
trace_next t = next_event (source_of t.program.now) t.own.name t.frames t.environment t.control
