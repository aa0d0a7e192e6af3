-- A child of another state goes on in the place of the thread that awaits it.
use Rattle.std.proofs.Common.{◌≡◌, length, length-append, ℕ, ◌+◌, List, [], ◌∷◌, ◌++◌, false, None, Some, refl, ap, sym, ◌∙◌, subst, arith, map, reverse}
use Rattle.std.proofs.lemmas.List.{map-append}
use Rattle.arachne_program.specs.{Program.source_of, Tree.Source, Effects.{Task, tabulated}, Meaning.task_of}
use Rattle.arachne_machine.specs.declared.frame.Frame.{Frame, TheVariants.{Join, Merge}}
use Rattle.arachne_machine.specs.declared.frame.Control.{Control, TheVariants.{Give, Awaits, AwaitsHalf}}
use Rattle.arachne_machine.specs.declared.{level.Parent.Parent, line.ThreadLine.ThreadLine, state.State.State}
use Rattle.arachne_machine.specs.Ending.{AwaitsFork, IsForkedIn, KeepsForks, begun, ending, environment_of, fork_awaited, frames_left, work_left}
use Rattle.arachne_machine.specs.Faultless.{IsFaultlessFrame, IsFaultlessNext, IsWithoutFault, held_by}
use Rattle.arachne_machine.specs.{Outcome.named_holds, Sound.{AreSound, IsRunningFor, IsSoundState, RunFor}}
use Rattle.arachne_machine.specs.Strands.{Strand, Fits, moved_level, moved_parents, moved_place, own_line, strand_at}
use Rattle.arachne_machine.specs.Steps.{AfterSteps, Becomes, IsPopped, Changes, LeavesOthers, giving, pending_of, suspended, top, waiting, waiting_in}
use Rattle.arachne_machine.specs.Runs.{StandsBefore, TakesIn, outermost_in, work_in_state, works_left}
use Rattle.arachne_machine.specs.{Suspended.{added, awaited}, Nested.{marked, marked_parents, of_program}}
use Rattle.arachne_machine.proofs.{Tabulated.added_is, Faultlessness.append-faultless, Soundness.sound_same}
use Rattle.arachne_machine.proofs.Outlooks.{IsAt, append-keeps, at_faultless, faultless_at, keeps_there, there_keeps}
use Rattle.arachne_machine.proofs.{Copies.{copy_ending, copy_seen}, Marking.{here_state, marks}, Joining.awaited_child}
use Rattle.arachne_machine.proofs.Moving.{Programs, all_sound, copy_under, fits_moved, last_sound, moved_strand, moved_waiting, programs_waiting, run_moved, seen_under, under, works_moved}
use Rattle.arachne_machine.proofs.{Nesting.{outermost_own, outermost_program}, Handings.{hand_join, hand_merge}}
use Rattle.arachne_machine.proofs.{Levels.{changes_leave, leaves_waiting, sound_top, top_becomes}, Going.start_in}
use Rattle.arachne_machine.specs.declared.pause.Pending.TheVariants as pause

-- The task of the child that a thread awaits.
pub record AwaitsTask (t : Strand) (name : List ℕ) : Type 0 where
  pub number : ℕ
  pub awaits : fork_awaited t.control ≡ number ∷ []
  pub named : name ≡ t.own.name ++ number ∷ []
  pub forked : IsForkedIn (source_of t.program.now) t.own.name number t.environment

awaits_task : (t : Strand) (name : List ℕ) (k : Control) → t.control ≡ k → pending_of k ≡ Some pause.Joins → KeepsForks t → awaited (suspended t) ≡ Some name → AwaitsTask t name
awaits_task t name (Awaits n v next) is p keeps of_child = record {
  number = n;
  awaits = ap fork_awaited is;
  named = awaited_child t n (Awaits n v next) name is refl of_child;
  forked = subst (λ x. AwaitsFork (source_of t.program.now) t.own.name x t.environment) is keeps.0;
}
awaits_task t name (AwaitsHalf n right reduction) is p keeps of_child = record {
  number = n;
  awaits = ap fork_awaited is;
  named = awaited_child t n (AwaitsHalf n right reduction) name is refl of_child;
  forked = subst (λ x. AwaitsFork (source_of t.program.now) t.own.name x t.environment) is keeps.0;
}
awaits_task t name _ is p keeps of_child = cc

same_task : (a b : Task) → Some a ≡ Some b → a ≡ b
same_task a b e = cc

-- it has the environment in which the child was forked
same_environment : (t : Strand) (name : List ℕ) (task : Task) → AwaitsTask t name → task_of (source_of t.program.now) name ≡ Some task → environment_of task ≡ t.environment
same_environment t name task a has =
    ap environment_of (same_task task a.forked.task (sym has ∙ ap (task_of (source_of t.program.now)) a.named ∙ a.forked.has_task)) ∙ a.forked.environment

-- The state after the child was taken in.
pub record Taken (old child new : State) : Type 0 where
  pub sound : IsSoundState new
  pub seen : suspended (top new) ≡ of_program old.program.now (marked (suspended (top child)) (map suspended (waiting_in child)))
  pub waits : map suspended (waiting_in new) ≡ map (of_program old.program.now) (marked_parents (map suspended (waiting_in child))) ++ map suspended (top old ∷ waiting_in old)
  pub sums : new.sums.items ≡ added old.sums.items child.sums.items
  pub work : work_in_state new ≡ work_in_state old + work_in_state child

-- the places of the threads' frames and lines
record Placement (old child new : State) : Type 0 where
  top_is : top new ≡ under old.program (top child)
  waits : waiting_in new ≡ map (under old.program) (waiting_in child) ++ top old ∷ waiting_in old

placement : (old child new : State) → IsSoundState child → source_of child.program.now ≡ source_of old.program.now → (ending (outermost_in child)).env ≡ old.environment.items →
    TakesIn old child new → new.lines ≡ old.lines ++ own_line child.own ∷ child.lines → Placement old child new
placement old child new c source left t lines =
    let q : Parent = record { level = old.level; control = old.control } in
    let qs = reverse old.parents.items in
    let ps = reverse child.parents.items in
    let p = old.program in
    let rs = moved_parents (length old.frames.items) (length old.lines) ps ++ q ∷ qs in
    let level = moved_level (length old.frames.items) (length old.lines) ps child.level in
    let all = old.lines ++ own_line child.own ∷ child.lines in
    let frames = old.frames.items ++ child.frames.items in
    let top_is : top new ≡ under p (top child) =
    ap (λ x. strand_at x new.own (reverse new.parents.items) new.lines new.level new.environment.items new.frames.items new.control) t.program
    ∙ ap (λ x. strand_at p x (reverse new.parents.items) new.lines new.level new.environment.items new.frames.items new.control) t.own
    ∙ ap (λ x. strand_at p old.own x new.lines new.level new.environment.items new.frames.items new.control) t.parents
    ∙ ap (λ x. strand_at p old.own rs x new.level new.environment.items new.frames.items new.control) lines
    ∙ ap (λ x. strand_at p old.own rs all x new.environment.items new.frames.items new.control) t.level
    ∙ ap (λ x. strand_at p old.own rs all level x new.frames.items new.control) t.environment
    ∙ ap (λ x. strand_at p old.own rs all level child.environment.items x new.control) t.frames
    ∙ ap (λ x. strand_at p old.own rs all level child.environment.items frames x) t.control_is
    ∙ moved_strand p child.program old.own child.own q qs ps old.lines child.lines old.frames.items child.frames.items child.level child.environment.items child.control in
    let end : ending (top new) ≡ ending (top child) = ap ending top_is ∙ copy_ending (top child) (under p (top child)) (copy_under p (top child) (sym source)) in
    record {
      top_is = top_is;
      waits = ap (λ x. waiting x new.own (reverse new.parents.items) new.lines new.frames.items new.level.start new.level.place (ending (top new)).env) t.program
          ∙ ap (λ x. waiting p x (reverse new.parents.items) new.lines new.frames.items new.level.start new.level.place (ending (top new)).env) t.own
          ∙ ap (λ x. waiting p old.own x new.lines new.frames.items new.level.start new.level.place (ending (top new)).env) t.parents
          ∙ ap (λ x. waiting p old.own rs x new.frames.items new.level.start new.level.place (ending (top new)).env) lines
          ∙ ap (λ x. waiting p old.own rs all x new.level.start new.level.place (ending (top new)).env) t.frames
          ∙ ap (λ x. waiting p old.own rs all frames x.start x.place (ending (top new)).env) t.level
          ∙ ap (λ x. waiting p old.own rs all frames level.start level.place x.env) end
          ∙ moved_waiting p child.program old.own child.own q qs old.lines old.frames.items old.environment.items (sym source) ps child.lines child.frames.items child.level.start child.level.place
          (length child.frames.items) (length child.lines) (top child) c.fits left;
    }

pub taken : (old child new : State) → IsSoundState old → IsSoundState child → source_of child.program.now ≡ source_of old.program.now →
    pending_of old.control ≡ Some pause.Joins → awaited (suspended (top old)) ≡ Some child.own.name → TakesIn old child new → Taken old child new
taken old child new s c source joins of_child t =
    let u = here_state child in
    let m = marks child c in
    let p = old.program in
    let q : Parent = record { level = old.level; control = old.control } in
    let qs = reverse old.parents.items in
    let ps = reverse child.parents.items in
    let awaits = awaits_task (top old) child.own.name old.control refl joins s.sound.2.keeps of_child in
    let last = last_sound (top u) (waiting_in u) m.sound.sums_of m.sound.sound in
    let own = outermost_own u in
    let task = last.1.task in
    let has : task_of (source_of p.now) child.own.name ≡ Some task =
    ap (λ x. task_of x child.own.name) (sym source) ∙ ap (λ x. task_of (source_of x.now) child.own.name) (sym (outermost_program u)) ∙ ap (λ o. task_of (source_of (outermost_in u).program.now) o.name) (sym own)
    ∙ last.1.has_task in
    let left : (ending (outermost_in u)).env ≡ old.environment.items = last.1.environment ∙ same_environment (top old) child.own.name task awaits has in
    let is = placement old u new m.sound source left (record {
      program = t.program;
      own = t.own;
      lines = t.lines;
      few = t.few;
      sums = t.sums;
      parents = t.parents;
      level = t.level;
      environment = t.environment;
      frames = t.frames;
      control_is = t.control_is;
    }) t.lines in
    let one : IsRunningFor (outermost_in u) (top old) = record {
      number = awaits.number;
      awaits = awaits.awaits;
      named = ap (λ o. o.name) own ∙ awaits.named;
      in_place = ap (λ o. o.label.ran) own;
    } in
    let us = top u ∷ waiting_in u in
    let programs : Programs u.program us = (refl, programs_waiting u.program u.own ps u.lines u.frames.items u.level.start u.level.place (ending (top u)).env) in
    let everyone : ◌≡◌ {A = List Strand} (top new ∷ waiting_in new) (map (under p) us ++ top old ∷ waiting_in old) = ap (λ x. x ∷ waiting_in new) is.top_is ∙ ap (λ ts. under p (top u) ∷ ts) is.waits in
    let both : ℕ → ℕ = λ ledger. s.sums_of ledger + m.sound.sums_of ledger in
    let childs : child.sums.items ≡ tabulated (source_of p.now).ledgers m.sound.sums_of = subst (λ x. child.sums.items ≡ tabulated x.ledgers m.sound.sums_of) source m.sound.sums in
    let sums = t.sums (source_of p.now).ledgers s.sums_of m.sound.sums_of s.sums childs in
    let frames : length new.frames.items ≡ length old.frames.items + length child.frames.items = ap length t.frames ∙ length-append old.frames.items child.frames.items in
    let x : ThreadLine = own_line u.own in
    let lines : length new.lines ≡ length old.lines + 1 + length child.lines = omega (arith, ap length t.lines, length-append old.lines (x ∷ child.lines)) in
    record {
      sound = record {
        sums_of = both;
        sums = sums ∙ ap (λ p. tabulated (source_of p.now).ledgers both) (sym t.program);
        sound = subst (λ ts. AreSound ts both) (sym everyone)
            (all_sound p u.program (sym source) us (top old ∷ waiting_in old) m.sound.sums_of s.sums_of both programs (λ ledger. omega arith) m.sound.sound s.sound);
        run_for = subst (λ x. RunFor x (waiting_in new)) (sym is.top_is) (subst (RunFor (under p (top u))) (sym is.waits) (run_moved p (top u) (waiting_in u) (top old) (waiting_in old) m.sound.run_for one s.run_for));
        fits = subst (λ x. Fits x new.level.start new.level.place (length new.frames.items) (length new.lines)) (sym t.parents)
            (subst (λ v. Fits (moved_parents (length old.frames.items) (length old.lines) ps ++ q ∷ qs) v.start v.place (length new.frames.items) (length new.lines)) (sym t.level)
            (subst (λ n. Fits (moved_parents (length old.frames.items) (length old.lines) ps ++ q ∷ qs) (length old.frames.items + child.level.start) (moved_place (length old.lines) ps child.level.place) n (length new.lines)) (sym frames)
            (subst (λ n. Fits (moved_parents (length old.frames.items) (length old.lines) ps ++ q ∷ qs) (length old.frames.items + child.level.start) (moved_place (length old.lines) ps child.level.place)
            (length old.frames.items + length child.frames.items) n) (sym lines)
            (fits_moved q qs (length old.frames.items) (length old.lines) s.fits ps child.level.start child.level.place (length child.frames.items) (length child.lines) c.fits))));
        few = t.few;
      };
      seen = ap suspended is.top_is ∙ copy_seen (top u) (under p (top u)) (copy_under p (top u) (sym source)) ∙ ap (of_program p.now) m.seen;
      waits = ap (map suspended) is.waits ∙ map-append suspended (map (under p) (waiting_in u)) (top old ∷ waiting_in old)
          ∙ ap (λ l. l ++ map suspended (top old ∷ waiting_in old)) (seen_under p u.program (sym source) (waiting_in u) programs.1 ∙ ap (map (of_program p.now)) m.waits);
      sums = added_is (source_of p.now).ledgers s.sums_of m.sound.sums_of old.sums.items child.sums.items new.sums.items s.sums childs sums;
      work = omega (arith, ap works_left everyone, works_moved p u.program (sym source) us (top old ∷ waiting_in old) programs, m.work);
    }

-- The thread stands before the step in which it began to await a child.
pub record Unstepped (old new : State) : Type 0 where
  pub sound : IsSoundState new
  pub leaves : LeavesOthers old new
  pub waits : waiting_in new ≡ waiting_in old
  pub work : work_left (top new) ≡ work_left (top old) + 1
  pub own : (top new).own ≡ (top old).own
  pub forks : (top new).forks ≡ (top old).forks
  pub pending : pending_of new.control ≡ None

popped_by : (t u : Strand) (f : Frame) (v : ℕ) → Becomes t u t.environment (t.frames ++ f ∷ []) (Give v) → IsPopped f u (giving t v)
popped_by t u f v b = assumption

stepped_by : (t : Strand) (v : ℕ) (k : Control) → t.control ≡ k → Becomes (giving t v) t t.environment t.frames k
stepped_by t v k is = record { program = refl; own = refl; below = refl; forks = refl; environment_is = refl; frames_are = refl; control_is = is }

-- with this newest frame, and this value to be handed to it
unstepped_by : (old new : State) (f : Frame) (v : ℕ) → IsSoundState old → Changes old new old.environment.items (old.frames.items ++ f ∷ []) (Give v) → AfterSteps 1 (top new) (Some pause.Joins) (top old) →
    (IsWithoutFault (top old) → IsWithoutFault (top new)) → (KeepsForks (top old) → KeepsForks (top new)) → Unstepped old new
unstepped_by old new f v s changed step faultless keeps =
    let le = start_in old s in
    let l = changes_leave old new _ _ _ changed le in
    let g = step.0.goes in
    let one : step.0.made ≡ 1 = omega (arith, step.0.at_least, step.0.at_most) in
    let b = top_becomes old new _ _ _ changed le in
    let env : (ending (top new)).env ≡ (ending (top old)).env = sym (ap (λ e. e.env) g.ending) in
    record {
      sound = sound_top old new s l env b.own (λ account sound. (
        account,
        sound_same (top old) (top new) account account sound (record {
          program = ap (λ p. source_of p.now) b.program;
          name = ap (λ o. o.name) b.own;
          holds = λ locks h. ap (λ o. o.holds) b.own ∙ h;
          lines = λ h. ap (map named_holds) b.below ∙ h;
          forks = λ h. b.forks ∙ h;
          ending = sym g.ending;
          whole = sym (g.account account);
          numbered = λ h. (omega (arith, h.0, b.forks, ap length b.below, ap length g.unjoined), omega (arith, h.1, ap length b.below));
          faultless = faultless;
          keeps = keeps;
        }),
        λ ledger. refl,
      ));
      leaves = l;
      waits = leaves_waiting old new l env;
      work = omega (arith, g.work, one);
      own = b.own;
      forks = b.forks;
      pending = ap pending_of changed.control_is;
    }

-- a thread with one frame more has no fault, and its forks are the program's
with_frame : (source : Source) (name : List ℕ) (t u : Strand) (f : Frame) (v : ℕ) (k : Control) → IsAt source name k t.frames t.environment t → IsAt source name (Give v) (t.frames ++ f ∷ []) t.environment u →
    frames_left k t.frames ≡ t.frames → (IsFaultlessNext source (held_by false t.frames) k → IsFaultlessFrame source (held_by false t.frames) f) → IsWithoutFault t → IsWithoutFault u
with_frame source name t u f v k at at' left one h =
    let was = faultless_at source name k t.frames t.environment t at h in
    at_faultless source name (Give v) (t.frames ++ f ∷ []) t.environment u at'
    (append-faultless source false t.frames (f ∷ []) was.0 (one was.1, tt), tt)

-- the thread before that step, with that frame
at_frame : (t u : Strand) (f : Frame) (v : ℕ) → Becomes t u t.environment (t.frames ++ f ∷ []) (Give v) → IsAt (source_of t.program.now) t.own.name (Give v) (t.frames ++ f ∷ []) t.environment u
at_frame t u f v b = assumption (ap (λ p. source_of p.now) b.program, ap (λ o. o.name) b.own)

unstepped_at : (old new : State) (k : Control) → old.control ≡ k → IsSoundState old → StandsBefore k old new → Unstepped old new
unstepped_at old new (Awaits n v next) is s changed =
    let le = start_in old s in
    let f = Join n next in
    let t = top old in
    let u = top new in
    let b = top_becomes old new _ _ _ changed le in
    let source = source_of old.program.now in
    let at : IsAt source t.own.name (Awaits n v next) t.frames t.environment t = record { source_is = refl; name_is = refl; control_is = is; frames_are = refl; environment_is = refl } in
    let at' = at_frame t u f v b in
    unstepped_by old new f v s changed (hand_join u (giving t v) t v n next (popped_by t u f v b) refl (stepped_by t v (Awaits n v next) is))
    (with_frame source t.own.name t u f v (Awaits n v next) at at' refl (λ h. h))
    (λ h. let was = keeps_there source t.own.name (Awaits n v next) t.frames t.environment t at h in
    there_keeps source t.own.name (Give v) (t.frames ++ f ∷ []) t.environment u at' (tt, append-keeps source t.own.name t.frames (f ∷ []) (begun source t.own.name (Give v) t.environment) (was.0, tt) was.1))
unstepped_at old new (AwaitsHalf n v reduction) is s changed =
    let le = start_in old s in
    let f = Merge n reduction in
    let t = top old in
    let u = top new in
    let b = top_becomes old new _ _ _ changed le in
    let source = source_of old.program.now in
    let at : IsAt source t.own.name (AwaitsHalf n v reduction) t.frames t.environment t = record { source_is = refl; name_is = refl; control_is = is; frames_are = refl; environment_is = refl } in
    let at' = at_frame t u f v b in
    unstepped_by old new f v s changed (hand_merge u (giving t v) t v n reduction (popped_by t u f v b) refl (stepped_by t v (AwaitsHalf n v reduction) is))
    (with_frame source t.own.name t u f v (AwaitsHalf n v reduction) at at' refl (λ h. h))
    (λ h. let was = keeps_there source t.own.name (AwaitsHalf n v reduction) t.frames t.environment t at h in
    there_keeps source t.own.name (Give v) (t.frames ++ f ∷ []) t.environment u at' (tt, append-keeps source t.own.name t.frames (f ∷ []) (begun source t.own.name (Give v) t.environment) (was.0, tt) was.1))
unstepped_at old new _ is s changed = absurd changed

pub unstepped : (old new : State) → IsSoundState old → StandsBefore old.control old new → Unstepped old new
unstepped old new s changed = unstepped_at old new old.control refl s changed
