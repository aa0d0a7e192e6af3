-- The threads of a state that wait: they are unchanged, or one more or one fewer waits.
use Rattle.std.proofs.Common.{◌≡◌, ◌≤◌, ◌<◌, ℕ, ◌+◌, List, [], ◌∷◌, ◌++◌, append_assoc, length, length-append, false, Some, refl, ap, sym, ◌∙◌, subst, arith, take, drop, reverse, append-nil}
use Rattle.std.specs.Borrow.{Bor}
use Rattle.std.proofs.lemmas.List.{drop-append-le, drop_more, get_or-take, length-take-le, reverse-append, take-append-drop, take-append-le, take-take}
use Rattle.std.proofs.Math.Seq.{drop-append-add, drop-length, get_or-append_seam, take-append_seam, take-length}
use Rattle.arachne_program.specs.{declared.program.{Program.Program, Expr.Expr, Reduction.Reduction}, Program.source_of}
use Rattle.arachne_program.specs.{Effects.{Child, tabulated, task_effects}, Meaning.task_of, Checked.IsChecked}
use Rattle.arachne_program.specs.Value.{Environment, apply, operation_of}
use Rattle.arachne_machine.specs.declared.frame.{Frame.{Frame, TheVariants.Restore}, Control.Control}
use Rattle.arachne_machine.specs.{declared.frame.Control.TheVariants.{Begin, Give, Cover, Awaits, AwaitsHalf}, Trace.At}
use Rattle.arachne_machine.specs.declared.{state.{Progress.Progress, Own.Own, State.State}, level.Parent.Parent}
use Rattle.arachne_machine.specs.{declared.line.ThreadLine.ThreadLine, Account.{Account, untouched, with_fork}}
use Rattle.arachne_machine.specs.{Ending.{child_task, ending, environment_of, fork_awaited, locks_of}, Lines.Gains}
use Rattle.arachne_machine.specs.Strands.{Strand, strand_at, line_at, owned_of, owned_at, below_at, Fits}
use Rattle.arachne_machine.specs.{Sound.{IsSound, AreSound, IsSoundState, RunFor}, Outcome.{Finished, IsOfItsName}}
use Rattle.arachne_machine.specs.Steps.{Goes, Changes, Becomes, Joins, suspended, PlacesChild, AwaitsHere, HasNotBegun, IsBeginning, LeavesOthers, task_begun, top, waiting, waiting_in}
use Rattle.arachne_machine.specs.Runs.{Runs, BeginsHere, JoinsHere, HandsResult, ResumesParent, IsByItself, last_of, outermost_in, works_left}
use Rattle.arachne_machine.specs.{Suspended.own_line_of, Faultless.{IsFaultlessNext, IsWithoutFault}, Work.task_work}
use Rattle.arachne_machine.proofs.Soundness.{IsOver, goes_on, joined_account, join_keeps, over_means, over_sums, sound_goes, sound_awaits, sound_join, sound_new, sound_fork, fork_has_task, with_fork-sums, with_join-sums}
use Rattle.arachne_machine.proofs.{Splitting.child_task-found, Outlooks.{IsAt, account_at, ending_at, work_at}}
use Rattle.arachne_machine.proofs.{Joining.{joins_fork, joins_half}, Renewing.{begins_new, begins_faultless}}
use Rattle.arachne_machine.specs.declared.state.Progress.TheVariants as progress
use Rattle.arachne_machine.specs.declared.pause.Pending.TheVariants as pause

-- The threads that wait depend only on the frames below those of the one that they wait for, and on the lines before
-- its own.
pub waiting_frames : (program : Bor Program) (own : Own) (parents : List Parent) (lines : List ThreadLine) (frames frames' : List Frame) (start place : ℕ) (env : Environment) →
    take start frames' ≡ take start frames → waiting program own parents lines frames' start place env ≡ waiting program own parents lines frames start place env
waiting_frames program own [] lines frames frames' start place env e = refl
waiting_frames program own (parent ∷ parents) lines frames frames' start place env e =
    ap (λ f.
    let t = strand_at program own parents (take place lines) parent.level env f parent.control in
    t ∷ waiting program own parents (take place lines) f parent.level.start parent.level.place (ending t).env) e

pub waiting_lines : (program : Bor Program) (own : Own) (parents : List Parent) (lines lines' : List ThreadLine) (frames : List Frame) (start place : ℕ) (env : Environment) →
    take place lines' ≡ take place lines → waiting program own parents lines' frames start place env ≡ waiting program own parents lines frames start place env
waiting_lines program own [] lines lines' frames start place env e = refl
waiting_lines program own (parent ∷ parents) lines lines' frames start place env e =
    ap (λ l.
    let t = strand_at program own parents l parent.level env (take start frames) parent.control in
    t ∷ waiting program own parents l (take start frames) parent.level.start parent.level.place (ending t).env) e

-- A step of the innermost thread changes no other thread.
pub leaves_waiting : (old new : State) → LeavesOthers old new → (ending (top new)).env ≡ (ending (top old)).env → waiting_in new ≡ waiting_in old
leaves_waiting old new l env =
    let by = waiting new.program new.own (reverse new.parents.items) new.lines new.frames.items in
    ap (λ x. by new.level.start new.level.place x) env
    ∙ ap (λ x. by new.level.start x (ending (top old)).env) l.place
    ∙ ap (λ x. by x old.level.place (ending (top old)).env) l.start
    ∙ waiting_frames new.program new.own (reverse new.parents.items) new.lines old.frames.items new.frames.items old.level.start old.level.place (ending (top old)).env l.frames
    ∙ ap (λ x. waiting new.program new.own (reverse new.parents.items) x old.frames.items old.level.start old.level.place (ending (top old)).env) l.lines
    ∙ ap (λ x. waiting new.program new.own (reverse x) old.lines old.frames.items old.level.start old.level.place (ending (top old)).env) l.parents
    ∙ ap (λ x. waiting new.program x (reverse old.parents.items) old.lines old.frames.items old.level.start old.level.place (ending (top old)).env) l.own
    ∙ ap (λ x. waiting x old.own (reverse old.parents.items) old.lines old.frames.items old.level.start old.level.place (ending (top old)).env) l.program

-- If another sound thread with the same sums is the innermost, all threads are sound.
pub resound : (t u : Strand) (ts : List Strand) (sums : ℕ → ℕ) → AreSound (t ∷ ts) sums →
    ((account : Account) → IsSound t account → (new : Account) × IsSound u new × ((ledger : ℕ) → new.sums ledger ≡ account.sums ledger)) → AreSound (u ∷ ts) sums
resound t u ts sums h f =
    let one = f h.0 h.2 in
    (one.0, h.1, one.1, h.3, λ ledger. h.4 ledger ∙ ap (λ n. n + h.1 ledger) (sym (one.2 ledger)))

pub run_for_same : (child other : Strand) (ts : List Strand) → other.own ≡ child.own → RunFor child ts → RunFor other ts
run_for_same child other [] e h = tt
run_for_same child other (t ∷ ts) e h = (
  record {
    number = h.0.number;
    awaits = h.0.awaits;
    named = ap (λ o. o.name) e ∙ h.0.named;
    in_place = ap (λ o. o.label.ran) e ∙ h.0.in_place;
  },
  h.1,
)

pub fits_by : (ps : List Parent) (start place frames lines frames' : ℕ) → (start ≤ frames → start ≤ frames') → Fits ps start place frames lines → Fits ps start place frames' lines
fits_by [] start place frames lines frames' more h = h
fits_by (p ∷ ps) start place frames lines frames' more h = (more h.0, h.1, h.2)

fits_same : (old new : State) → LeavesOthers old new → Fits (reverse old.parents.items) old.level.start old.level.place (length old.frames.items) (length old.lines) →
    Fits (reverse new.parents.items) new.level.start new.level.place (length new.frames.items) (length new.lines)
fits_same old new l h =
    subst (λ x. Fits (reverse new.parents.items) new.level.start new.level.place (length new.frames.items) (length x)) (sym l.lines)
    (subst (λ x. Fits (reverse x) new.level.start new.level.place (length new.frames.items) (length old.lines)) (sym l.parents)
    (subst (λ x. Fits (reverse old.parents.items) x new.level.place (length new.frames.items) (length old.lines)) (sym l.start)
    (subst (λ x. Fits (reverse old.parents.items) old.level.start x (length new.frames.items) (length old.lines)) (sym l.place)
    (fits_by (reverse old.parents.items) old.level.start old.level.place (length old.frames.items) (length old.lines) (length new.frames.items) (λ h. l.more) h))))

-- The state is sound after a step of the innermost thread.
pub sound_top : (old new : State) → IsSoundState old → LeavesOthers old new → (ending (top new)).env ≡ (ending (top old)).env → (top new).own ≡ (top old).own →
    ((account : Account) → IsSound (top old) account → (other : Account) × IsSound (top new) other × ((ledger : ℕ) → other.sums ledger ≡ account.sums ledger)) → IsSoundState new
sound_top old new s l env own f =
    let same = leaves_waiting old new l env in
    record {
      sums_of = s.sums_of;
      sums = l.sums ∙ subst (λ p. old.sums.items ≡ tabulated (source_of p.now).ledgers s.sums_of) (sym l.program) s.sums;
      sound = subst (λ ts. AreSound (top new ∷ ts) s.sums_of) (sym same) (resound (top old) (top new) (waiting_in old) s.sums_of s.sound f);
      run_for = subst (RunFor (top new)) (sym same) (run_for_same (top old) (top new) (waiting_in old) own s.run_for);
      fits = fits_same old new l s.fits;
      few = omega (arith, s.few, ap length l.lines);
    }

-- A change above the frames of the other threads changes only the innermost thread.
pub top_becomes : (old new : State) (env : Environment) (gs : List Frame) (k : Control) → Changes old new env (old.frames.items ++ gs) k → old.level.start ≤ length old.frames.items →
    Becomes (top old) (top new) env ((top old).frames ++ gs) k
top_becomes old new env gs k c le = record {
  program = c.program;
  own = ap (λ x. owned_at x (reverse new.parents.items) new.lines new.level.place) c.own
      ∙ ap (λ x. owned_at old.own (reverse x) new.lines new.level.place) c.parents
      ∙ ap (λ x. owned_at old.own (reverse old.parents.items) x new.level.place) c.lines
      ∙ ap (λ x. owned_at old.own (reverse old.parents.items) old.lines x.place) c.level;
  below = ap (λ x. below_at (reverse x) new.lines new.level.place) c.parents
      ∙ ap (λ x. below_at (reverse old.parents.items) x new.level.place) c.lines
      ∙ ap (λ x. below_at (reverse old.parents.items) old.lines x.place) c.level;
  forks = ap (λ x. x.forks) c.level;
  environment_is = c.environment_is;
  frames_are = ap (λ x. drop x.start new.frames.items) c.level ∙ ap (drop old.level.start) c.frames_are ∙ drop-append-le old.level.start old.frames.items gs le;
  control_is = c.control_is;
}

pub changes_leave : (old new : State) (env : Environment) (gs : List Frame) (k : Control) → Changes old new env (old.frames.items ++ gs) k → old.level.start ≤ length old.frames.items →
    LeavesOthers old new
changes_leave old new env gs k c le = record {
  program = c.program;
  own = c.own;
  lines = c.lines;
  sums = c.sums;
  parents = c.parents;
  start = ap (λ x. x.start) c.level;
  place = ap (λ x. x.place) c.level;
  frames = ap (take old.level.start) c.frames_are ∙ take-append-le old.level.start old.frames.items gs le;
  more = omega (arith, le, ap length c.frames_are, length-append old.frames.items gs);
}

pub last_same : (t u : Strand) (ts : List Strand) → t.forks ≡ u.forks → (last_of t ts).forks ≡ (last_of u ts).forks
last_same t u [] e = e
last_same t u (p ∷ ps) e = refl

last_more : (t u : Strand) (ts : List Strand) → t.forks ≤ u.forks → (last_of t ts).forks ≤ (last_of u ts).forks
last_more t u [] e = e
last_more t u (p ∷ ps) e = omega arith

-- Steps of the innermost thread are steps of the state.
pub runs_top : (n : ℕ) (old new : State) → IsSoundState old → LeavesOthers old new → Goes n [] (top old) (top new) → locks_of (top new) ≡ locks_of (top old) → Runs n old new
runs_top n old new s l g locks =
    let env = ap (λ e. e.env) g.ending in
    let same = leaves_waiting old new l env in
    record {
      program = l.program;
      own = l.own;
      sums = l.sums;
      sound = sound_top old new s l env g.own (λ account sound. (account, sound_goes n [] (top old) (top new) account sound g, λ ledger. refl));
      work = omega (arith, g.work, ap works_left same);
      forks =
          let count = last_same (top new) (top old) (waiting_in old) g.forks in
          let lasts = ap (λ ts. (last_of (top new) ts).forks) same in
          omega (arith, count, lasts);
      by_itself = λ alone e. record {
        alone = record { parents = l.parents ∙ alone.parents; here = g.here ∙ alone.here };
        goes = g;
        locks = locks;
      };
    }

-- Steps after steps.
pub runs_on : (m n : ℕ) (a b c : State) → Runs m a b → Runs n b c → Runs (m + n) a c
runs_on m n a b c p q = record {
  program = q.program ∙ p.program;
  own = q.own ∙ p.own;
  sums = q.sums ∙ p.sums;
  sound = q.sound;
  work = omega (arith, p.work, q.work);
  forks = omega (arith, p.forks, q.forks);
  by_itself = λ alone e.
      let first = p.by_itself alone (omega (arith, p.forks, q.forks, e)) in
      let next = q.by_itself first.alone (omega (arith, p.forks, q.forks, e)) in
      record {
        alone = next.alone;
        goes = goes_on m n (m + n) (top a) (top b) (top c) first.goes next.goes refl;
        locks = next.locks ∙ first.locks;
      };
}

-- A thread by itself is the outermost.
pub alone_waiting : (t : State) → t.parents.items ≡ [] → waiting_in t ≡ []
alone_waiting t e = ap (λ ps. waiting t.program t.own (reverse ps) t.lines t.frames.items t.level.start t.level.place (ending (top t)).env) e

forked_alone : (old new : State) → LeavesOthers old new → (ending (top new)).env ≡ (ending (top old)).env → (top new).forks ≡ (top old).forks + 1 → IsByItself old →
    (outermost_in new).forks ≡ (outermost_in old).forks → ⊥
forked_alone old new l env forks alone e =
    let old_last = ap (λ ts. (last_of (top old) ts).forks) (alone_waiting old alone.parents) in
    let new_last = ap (λ ts. (last_of (top new) ts).forks) (alone_waiting new (l.parents ∙ alone.parents)) in
    omega (arith, forks, e, old_last, new_last)

-- A child was forked that will run here.
pub runs_places : (old new : State) (made : Child) → IsSoundState old → LeavesOthers old new → PlacesChild 1 (top old) (top new) made → Runs 1 old new
runs_places old new made s l placed =
    let g = placed.forked in
    let sound = s.sound in
    let kept = g.keeps (fork_has_task 1 0 (At pause.Forks ∷ []) ((top old).forks ∷ []) (top old) (top new) made sound.0 sound.2 g) in
    let env = ap (λ e. e.env) kept.ending in
    let same = leaves_waiting old new l env in
    let taken : kept.taken ≡ 1 = omega (arith, kept.at_least, kept.at_most) in
    let lasts = ap (λ ts. (last_of (top new) ts).forks) same in
    record {
      program = l.program;
      own = l.own;
      sums = l.sums;
      sound = sound_top old new s l env g.own
          (λ account sound. (
            with_fork made account,
            sound_fork 1 0 (At pause.Forks ∷ []) ((top old).forks ∷ []) (top old) (top new) made account sound g,
            λ ledger. ap (λ f. f ledger) (with_fork-sums made account),
          ));
      work = omega (arith, kept.work, taken, ap works_left same);
      forks = omega (arith, last_more (top old) (top new) (waiting_in old) (omega (arith, g.forks)), lasts);
      by_itself = λ alone e. absurd (forked_alone old new l env g.forks alone e);
    }

-- The threads that wait once a child has begun here: its parent, and those that waited before.
reverse-snoc : (ps : List Parent) (p : Parent) → reverse (ps ++ p ∷ []) ≡ p ∷ reverse ps
reverse-snoc ps p = reverse-append ps (p ∷ [])

-- the thread that awaits it
abbrev pub awaiting_in : State → Control → Strand
awaiting_in t awaits = strand_at t.program t.own (reverse t.parents.items) t.lines t.level t.environment.items t.frames.items awaits

begun_waiting : (old new : State) (number : ℕ) (awaits begins : Control) → BeginsHere old new number awaits begins → (env : Environment) → env ≡ old.environment.items →
    waiting new.program new.own (reverse new.parents.items) new.lines new.frames.items new.level.start new.level.place env
    ≡ (awaiting_in old awaits
    ∷ waiting old.program old.own (reverse old.parents.items) old.lines old.frames.items old.level.start old.level.place (ending (awaiting_in old awaits)).env)
begun_waiting old new number awaits begins b env is =
    let by : List ThreadLine → List Frame → Environment → List Strand = λ lines frames e.
    let t = strand_at old.program old.own (reverse old.parents.items) lines old.level e frames awaits in
    t ∷ waiting old.program old.own (reverse old.parents.items) lines frames old.level.start old.level.place (ending t).env in
    ap (λ x. waiting x new.own (reverse new.parents.items) new.lines new.frames.items new.level.start new.level.place env) b.program
    ∙ ap (λ x. waiting old.program x (reverse new.parents.items) new.lines new.frames.items new.level.start new.level.place env) b.own
    ∙ ap (λ x. waiting old.program old.own (reverse x) new.lines new.frames.items new.level.start new.level.place env) b.parents
    ∙ ap (λ x. waiting old.program old.own x new.lines new.frames.items new.level.start new.level.place env) (reverse-snoc old.parents.items (record { level = old.level; control = awaits }))
    ∙ ap (λ x. waiting old.program old.own (record { level = old.level; control = awaits } ∷ reverse old.parents.items) new.lines new.frames.items x.start x.place env) b.level
    ∙ ap (λ x. by x (take (length old.frames.items) new.frames.items) env) (ap (take (length old.lines)) b.lines ∙ take-append_seam old.lines (b.line ∷ []))
    ∙ ap (λ x. by old.lines x env) (ap (take (length old.frames.items)) b.frames ∙ take-length old.frames.items)
    ∙ ap (λ x. by old.lines old.frames.items x) is

seam_at : (xs : List ThreadLine) (x : ThreadLine) → line_at (xs ++ x ∷ []) (length xs) ≡ x
seam_at xs x = get_or-append_seam xs x [] _

-- the child has not begun
begun_top : (old new : State) (number : ℕ) (awaits begins : Control) → (b : BeginsHere old new number awaits begins) →
    HasNotBegun old.program (owned_of b.line) begins old.environment.items (top new)
begun_top old new number awaits begins b =
    let q : Parent = record { level = old.level; control = awaits } in
    let ps = ap reverse b.parents ∙ reverse-snoc old.parents.items q in
    record {
      program_is = b.program;
      own_is = ap (λ x. owned_at new.own x new.lines new.level.place) ps ∙ ap (λ x. owned_of (line_at new.lines x.place)) b.level
          ∙ ap (λ x. owned_of (line_at x (length old.lines))) b.lines ∙ ap owned_of (seam_at old.lines b.line);
      below = ap (λ x. below_at x new.lines new.level.place) ps ∙ ap (λ x. drop (x.place + 1) new.lines) b.level ∙ ap (drop (length old.lines + 1)) b.lines
          ∙ drop-append-add old.lines (b.line ∷ []) 1;
      forks = ap (λ x. x.forks) b.level;
      environment_is = b.environment;
      frames = ap (λ x. drop x.start new.frames.items) b.level ∙ ap (drop (length old.frames.items)) b.frames ∙ drop-length old.frames.items;
      control_is = b.control_is;
    }

-- the threads that waited before
waiting_before : (old before : State) → LeavesOthers old before → (env : Environment) →
    waiting before.program before.own (reverse before.parents.items) before.lines before.frames.items before.level.start before.level.place env
    ≡ waiting old.program old.own (reverse old.parents.items) old.lines old.frames.items old.level.start old.level.place env
waiting_before old new l env =
    ap (λ x. waiting new.program new.own (reverse new.parents.items) new.lines new.frames.items new.level.start x env) l.place
    ∙ ap (λ x. waiting new.program new.own (reverse new.parents.items) new.lines new.frames.items x old.level.place env) l.start
    ∙ waiting_frames new.program new.own (reverse new.parents.items) new.lines old.frames.items new.frames.items old.level.start old.level.place env l.frames
    ∙ ap (λ x. waiting new.program new.own (reverse new.parents.items) x old.frames.items old.level.start old.level.place env) l.lines
    ∙ ap (λ x. waiting new.program new.own (reverse x) old.lines old.frames.items old.level.start old.level.place env) l.parents
    ∙ ap (λ x. waiting new.program x (reverse old.parents.items) old.lines old.frames.items old.level.start old.level.place env) l.own
    ∙ ap (λ x. waiting x old.own (reverse old.parents.items) old.lines old.frames.items old.level.start old.level.place env) l.program

environment_begun : (k : Control) (env : Environment) → IsBeginning k → environment_of (task_begun k env) ≡ env
environment_begun (Begin expr) env h = refl
environment_begun (Cover stretch) env h = refl
environment_begun _ env h = absurd h

fits_begun : (before old new : State) (number : ℕ) (awaits begins : Control) → LeavesOthers old before → old.level.start ≤ length old.frames.items → BeginsHere old new number awaits begins →
    Fits (reverse before.parents.items) before.level.start before.level.place (length before.frames.items) (length before.lines) →
    Fits (reverse new.parents.items) new.level.start new.level.place (length new.frames.items) (length new.lines)
fits_begun before old new number awaits begins l le b h =
    let q : Parent = record { level = old.level; control = awaits } in
    let was : Fits (reverse old.parents.items) old.level.start old.level.place (length before.frames.items) (length old.lines) =
    subst (λ x. Fits (reverse old.parents.items) old.level.start old.level.place (length before.frames.items) (length x)) l.lines
    (subst (λ x. Fits (reverse x) old.level.start old.level.place (length before.frames.items) (length before.lines)) l.parents
    (subst (λ x. Fits (reverse before.parents.items) x old.level.place (length before.frames.items) (length before.lines)) l.start
    (subst (λ x. Fits (reverse before.parents.items) before.level.start x (length before.frames.items) (length before.lines)) l.place h))) in
    let below = fits_by (reverse old.parents.items) old.level.start old.level.place (length before.frames.items) (length old.lines) (length old.frames.items) (λ x. le) was in
    subst (λ ps. Fits ps new.level.start new.level.place (length new.frames.items) (length new.lines)) (sym (ap reverse b.parents ∙ reverse-snoc old.parents.items q))
    (subst (λ v. Fits (q ∷ reverse old.parents.items) v.start v.place (length new.frames.items) (length new.lines)) (sym b.level)
    (omega (arith, ap length b.frames), omega (arith, ap length b.lines, length-append old.lines (b.line ∷ [])), below))

-- A child that will run here begins, and its parent awaits it. The parent's newest frame was that of the child.
pub runs_begins : (before old new : State) (f : Frame) (number handed : ℕ) (awaits begins : Control) → IsSoundState before → old.level.start ≤ length old.frames.items →
    Changes old before old.environment.items (old.frames.items ++ f ∷ []) old.control → (b : BeginsHere old new number awaits begins) → IsBeginning begins →
    AwaitsHere number handed (top before) (awaiting_in old awaits) → handed ≡ task_work (source_of old.program.now).arrays (task_begun begins old.environment.items) →
    task_of (source_of old.program.now) ((top old).own.name ++ number ∷ []) ≡ Some (task_begun begins old.environment.items) →
    (IsWithoutFault (top before) → IsFaultlessNext (source_of old.program.now) false begins) → Runs 1 before new
runs_begins before old new f number handed awaits begins s le popped b beginning awaiting is has free =
    let source = source_of old.program.now in
    let env = old.environment.items in
    let task = task_begun begins env in
    let parent = awaiting_in old awaits in
    let child = top new in
    let leaves = changes_leave old before env (f ∷ []) old.control popped le in
    let not_begun = begun_top old new number awaits begins b in
    let fresh = begins_new old.program (owned_of b.line) begins env child beginning b.holds not_begun in
    let rest = waiting old.program old.own (reverse old.parents.items) old.lines old.frames.items old.level.start old.level.place (ending parent).env in
    let were : waiting_in before ≡ rest =
    waiting_before old before leaves (ending (top before)).env ∙ ap (λ e. waiting old.program old.own (reverse old.parents.items) old.lines old.frames.items old.level.start old.level.place e.env) (sym awaiting.ending) in
    let are : waiting_in new ≡ (parent ∷ rest) = begun_waiting old new number awaits begins b (ending child).env (fresh.environment ∙ environment_begun begins env beginning) in
    let named : child.own.name ≡ parent.own.name ++ number ∷ [] = ap (λ o. o.name) not_begun.own_is ∙ b.named in
    let sound : AreSound (top before ∷ rest) s.sums_of = subst (λ ts. AreSound (top before ∷ ts) s.sums_of) were s.sound in
    let same_own = awaiting.own in
    record {
      program = b.program ∙ sym leaves.program;
      own = b.own ∙ sym leaves.own;
      sums = b.sums ∙ sym leaves.sums;
      sound = record {
        sums_of = s.sums_of;
        sums = b.sums ∙ sym leaves.sums ∙ subst (λ p. before.sums.items ≡ tabulated (source_of p.now).ledgers s.sums_of) (sym (b.program ∙ sym leaves.program)) s.sums;
        sound = subst (λ ts. AreSound (child ∷ ts) s.sums_of) (sym are) (
          untouched,
          s.sums_of,
          sound_new old.program.now b.line.name (owned_of b.line).label task child fresh (subst (λ n. task_of source n ≡ Some task) (sym b.named) has)
              (λ checked. begins_faultless old.program (owned_of b.line) begins env child not_begun
              (free (sound.2.faultless (subst (λ p. IsChecked (source_of p.now)) (sym leaves.program) checked)))),
          (sound.0, sound.1, sound_awaits number handed (top before) parent sound.0 sound.2 awaiting, sound.3, sound.4),
          λ ledger. omega arith,
        );
        run_for = subst (RunFor child) (sym are) (
          record { number = number; awaits = awaiting.awaited_is; named = named; in_place = ap (λ o. o.label.ran) not_begun.own_is ∙ b.ran },
          run_for_same (top before) parent rest same_own (subst (RunFor (top before)) were s.run_for),
        );
        fits = fits_begun before old new number awaits begins leaves le b s.fits;
        few = b.few;
      };
      work = omega (arith, awaiting.work, is, fresh.work, ap works_left are, ap works_left were);
      forks = omega (arith, ap (λ ts. (last_of child ts).forks) are, ap (λ ts. (last_of (top before) ts).forks) were, last_same parent (top before) rest awaiting.forks);
      by_itself = λ alone e. cc (sym awaiting.here ∙ alone.here);
    }

-- A child that ran here has ended, and the innermost of the threads that wait goes on.
abbrev pub parent_in : State → State → Parent → Strand
parent_in old new q =
    strand_at old.program old.own (reverse new.parents.items) (take old.level.place old.lines) q.level old.environment.items (take old.level.start old.frames.items) q.control

-- the threads that still wait
abbrev pub rest_in : State → State → Parent → List Strand
rest_in old new q =
    waiting old.program old.own (reverse new.parents.items) (take old.level.place old.lines) (take old.level.start old.frames.items) q.level.start q.level.place
    (ending (parent_in old new q)).env

over_at : (t : Strand) (v : ℕ) → t.control ≡ Give v → t.frames ≡ [] → IsAt (source_of t.program.now) t.own.name (Give v) [] t.environment t
over_at t v gives none = record { source_is = refl; name_is = refl; control_is = gives; frames_are = none; environment_is = refl }

over_is : (t : Strand) (v : ℕ) (account : Account) → t.control ≡ Give v → t.frames ≡ [] → IsOver t v account
over_is t v account gives none =
    let at = over_at t v gives none in
    record {
      value_is = ap (λ s. s.value) (ending_at (source_of t.program.now) t.own.name (Give v) [] t.environment t at);
      account_is = account_at (source_of t.program.now) t.own.name (Give v) [] t.environment t account at;
    }

joined_parents : (old new : State) (q : Parent) → old.parents.items ≡ new.parents.items ++ q ∷ [] → reverse old.parents.items ≡ q ∷ reverse new.parents.items
joined_parents old new q e = ap reverse e ∙ reverse-snoc new.parents.items q

joined_waiting : (old new : State) (q : Parent) → old.parents.items ≡ new.parents.items ++ q ∷ [] → (ending (top old)).env ≡ old.environment.items →
    waiting_in old ≡ parent_in old new q ∷ rest_in old new q
joined_waiting old new q e env =
    ap (λ ps. waiting old.program old.own ps old.lines old.frames.items old.level.start old.level.place (ending (top old)).env) (joined_parents old new q e)
    ∙ ap (λ x.
    let t = strand_at old.program old.own (reverse new.parents.items) (take old.level.place old.lines) q.level x (take old.level.start old.frames.items) q.control in
    t ∷ waiting old.program old.own (reverse new.parents.items) (take old.level.place old.lines) (take old.level.start old.frames.items) q.level.start q.level.place (ending t).env) env

-- the parent's line stays at its place
owned_before : (own : Own) (ps : List Parent) (lines : List ThreadLine) (start place from frames : ℕ) → Fits ps from place start frames →
    owned_at own ps lines place ≡ owned_at own ps (take frames lines) place
owned_before own [] lines start place from frames h = refl
owned_before own (p ∷ ps) lines start place from frames h = ap owned_of (sym (get_or-take frames lines place _ h.1))

split_at : (lines : List ThreadLine) (n : ℕ) → n < length lines → lines ≡ take n lines ++ (line_at lines n ∷ drop (n + 1) lines)
split_at lines n lt = sym (take-append-drop n lines) ∙ ap (λ l. take n lines ++ l) (drop_more lines n _ lt)

-- the lines below the parent are more
below_before : (ps : List Parent) (lines : List ThreadLine) (start place from frames : ℕ) → Fits ps from place start frames → frames < length lines →
    below_at ps lines place ≡ below_at ps (take frames lines) place ++ (line_at lines frames ∷ drop (frames + 1) lines)
below_before [] lines start place from frames h lt = split_at lines frames lt
below_before (p ∷ ps) lines start place from frames h lt =
    let below = line_at lines frames ∷ drop (frames + 1) lines in
    let long : length (take frames lines) ≡ frames = length-take-le frames lines (omega (arith, lt)) in
    ap (drop (place + 1)) (split_at lines frames lt) ∙ drop-append-le (place + 1) (take frames lines) below (omega (arith, h.1, long))

-- the threads that still wait are unchanged
still_waiting : (program : Bor Program) (own : Own) (ps : List Parent) (lines : List ThreadLine) (frames gs : List Frame) (start place s p : ℕ) (env : Environment) →
    Fits ps start place s p → s ≡ length frames → p < length lines →
    waiting program own ps lines (frames ++ gs) start place env ≡ waiting program own ps (take p lines) (take s frames) start place env
still_waiting program own [] lines frames gs start place s p env h long lt = refl
still_waiting program own (q ∷ ps) lines frames gs start place s p env h long lt =
    waiting_frames program own (q ∷ ps) lines (take s frames) (frames ++ gs) start place env
    (take-append-le start frames gs (omega (arith, h.0, long)) ∙ sym (take-take start s frames h.0))
    ∙ waiting_lines program own (q ∷ ps) (take p lines) lines (take s frames) start place env (sym (take-take place p lines (omega (arith, h.1))))

-- The child's line is at its place, and the lines below the child are behind it.
child_lines : (old : State) (q : Parent) (qs : List Parent) → reverse old.parents.items ≡ q ∷ qs →
    ◌≡◌ {A = List ThreadLine} (own_line_of (suspended (top old)) ∷ (top old).below) (line_at old.lines old.level.place ∷ drop (old.level.place + 1) old.lines)
child_lines old q qs e =
    ap (λ ps.
    let own = owned_at old.own ps old.lines old.level.place in
    let line : ThreadLine = record { name = own.name; tag = own.label.tag; holds = own.holds; ran = own.label.ran } in
    line ∷ below_at ps old.lines old.level.place) e

-- the outcome of the child that has ended
abbrev pub brought_by : State → ℕ → Account → Finished
brought_by old v account = record {
  program = old.program.now;
  name = (top old).own.name;
  value = v;
  sums = tabulated (source_of old.program.now).ledgers account.sums;
  lines = own_line_of (suspended (top old)) ∷ (top old).below;
}

joined_sums : (t : Strand) (n : ℕ) (a : Account) (ledger : ℕ) →
    (joined_account t n a).sums ledger
    ≡ a.sums ledger + (task_effects (source_of t.program.now).arrays (source_of t.program.now).locks (child_task (source_of t.program.now) t.own.name n)).sums ledger
joined_sums t n a ledger =
    let source = source_of t.program.now in
    ap (λ f. f ledger) (with_join-sums source.locks t.own.name n (task_effects source.arrays source.locks (child_task source t.own.name n)) a)

-- the parts that the parent and the thread as which it goes on have in common
pub record IsResumed (parent new : Strand) (variables : List ℕ) (gs : List Frame) (control : Control) : Type 0 where
  pub program : new.program ≡ parent.program
  pub own : new.own ≡ parent.own
  pub forks : new.forks ≡ parent.forks
  pub environment : new.environment ≡ parent.environment ++ variables
  pub frames : new.frames ≡ parent.frames ++ gs
  pub control_is : new.control ≡ control

resumes : (old new : State) (variables : List ℕ) (gs : List Frame) (control : Control) → (j : JoinsHere old new variables gs control) → length old.frames.items ≡ old.level.start →
    Fits (reverse new.parents.items) j.parent.level.start j.parent.level.place old.level.start old.level.place → j.parent.level.start ≤ old.level.start →
    IsResumed (parent_in old new j.parent) (top new) variables gs control
resumes old new variables gs control j long fits le =
    let q = j.parent in
    let ps = reverse new.parents.items in
    let all : take old.level.start old.frames.items ≡ old.frames.items = ap (λ n. take n old.frames.items) (sym long) ∙ take-length old.frames.items in
    record {
      program = j.program;
      own = ap (λ x. owned_at x ps new.lines new.level.place) j.own ∙ ap (λ x. owned_at old.own ps x new.level.place) j.lines
          ∙ ap (λ x. owned_at old.own ps old.lines x.place) j.level
          ∙ owned_before old.own ps old.lines old.level.start q.level.place q.level.start old.level.place fits;
      forks = ap (λ x. x.forks) j.level;
      environment = j.environment;
      frames = ap (λ x. drop x.start new.frames.items) j.level ∙ ap (drop q.level.start) j.frames_are ∙ drop-append-le q.level.start old.frames.items gs (omega (arith, le, long))
          ∙ ap (λ l. drop q.level.start l ++ gs) (sym all);
      control_is = j.control_is;
    }

pub outer_start : (ps : List Parent) (start place s p : ℕ) → Fits ps start place s p → start ≤ s
outer_start [] start place s p h = omega (arith, h)
outer_start (q ∷ ps) start place s p h = h.0

one_child : (m n : ℕ) → ◌≡◌ {A = List ℕ} (m ∷ []) (n ∷ []) → m ≡ n
one_child m n e = cc

pub some_parent : (ps : List Parent) (q : Parent) → ps ++ q ∷ [] ≡ [] → ⊥
some_parent [] q e = cc
some_parent (p ∷ ps) q e = cc

-- the lines below a thread are at most those of the state
pub below_few : (ps : List Parent) (lines : List ThreadLine) (s place from p : ℕ) (below : List ThreadLine) → below ≡ below_at ps lines place → length below ≤ length lines
below_few [] lines s place from p below e = omega (arith, ap length e)
below_few (q ∷ ps) lines s place from p below e = omega (arith, ap length e, ap length (take-append-drop (place + 1) lines), length-append (take (place + 1) lines) (drop (place + 1) lines))

-- the other parts of the state are unchanged
waiting_joined : (old new : State) (variables : List ℕ) (gs : List Frame) (control : Control) → (j : JoinsHere old new variables gs control) → (env : Environment) →
    waiting new.program new.own (reverse new.parents.items) new.lines new.frames.items new.level.start new.level.place env
    ≡ waiting old.program old.own (reverse new.parents.items) old.lines (old.frames.items ++ gs) j.parent.level.start j.parent.level.place env
waiting_joined old new variables gs control j env =
    ap (λ x. waiting x new.own (reverse new.parents.items) new.lines new.frames.items new.level.start new.level.place env) j.program
    ∙ ap (λ x. waiting old.program x (reverse new.parents.items) new.lines new.frames.items new.level.start new.level.place env) j.own
    ∙ ap (λ x. waiting old.program old.own (reverse new.parents.items) x new.frames.items new.level.start new.level.place env) j.lines
    ∙ ap (λ x. waiting old.program old.own (reverse new.parents.items) old.lines x new.level.start new.level.place env) j.frames_are
    ∙ ap (λ x. waiting old.program old.own (reverse new.parents.items) old.lines (old.frames.items ++ gs) x.start x.place env) j.level

fits_on : (ps : List Parent) (start place s p frames lines : ℕ) → Fits ps start place s p → s ≤ frames → p < lines → Fits ps start place frames lines
fits_on [] start place s p frames lines h le lt = h
fits_on (q ∷ ps) start place s p frames lines h le lt = (omega (arith, h.0, le), omega (arith, h.1, lt), h.2)

fits_joined : (old new : State) (variables : List ℕ) (gs : List Frame) (control : Control) → (j : JoinsHere old new variables gs control) →
    Fits (j.parent ∷ reverse new.parents.items) old.level.start old.level.place (length old.frames.items) (length old.lines) →
    Fits (reverse new.parents.items) new.level.start new.level.place (length new.frames.items) (length new.lines)
fits_joined old new variables gs control j h =
    subst (λ v. Fits (reverse new.parents.items) v.start v.place (length new.frames.items) (length new.lines)) (sym j.level)
    (fits_on (reverse new.parents.items) j.parent.level.start j.parent.level.place old.level.start old.level.place (length new.frames.items) (length new.lines) h.2
    (omega (arith, h.0, ap length j.frames_are, length-append old.frames.items gs)) (omega (arith, h.1, ap length j.lines)))

-- The child ends, and its parent goes on, in the step that hands on the child's value.
pub runs_joins : (old new : State) (v : ℕ) (variables : List ℕ) (gs : List Frame) (control : Control) → IsSoundState old → old.control ≡ Give v → length old.frames.items ≡ old.level.start →
    (j : JoinsHere old new variables gs control) →
    ((outcome : Finished) (number : ℕ) → fork_awaited j.parent.control ≡ number ∷ [] → outcome.value ≡ v → outcome.name ≡ (parent_in old new j.parent).own.name ++ number ∷ [] →
    IsResumed (parent_in old new j.parent) (top new) variables gs control → Gains (parent_in old new j.parent).below outcome.lines (top new).below →
    Joins (parent_in old new j.parent) outcome (top new)) → Runs 1 old new
runs_joins old new v variables gs control s gives long j joins =
    let q = j.parent in
    let qs = reverse new.parents.items in
    let child = top old in
    let parent = parent_in old new q in
    let rest = rest_in old new q in
    let source = source_of old.program.now in
    let parents = joined_parents old new q j.parents in
    let none : child.frames ≡ [] = ap (λ n. drop n old.frames.items) (sym long) ∙ drop-length old.frames.items in
    let at = over_at child v gives none in
    let were = joined_waiting old new q j.parents (ap (λ x. x.env) (ending_at source child.own.name (Give v) [] child.environment child at)) in
    let sound : AreSound (child ∷ parent ∷ rest) s.sums_of = subst (λ ts. AreSound (child ∷ ts) s.sums_of) were s.sound in
    let run : RunFor child (parent ∷ rest) = subst (RunFor child) were s.run_for in
    let fits : Fits (q ∷ qs) old.level.start old.level.place (length old.frames.items) (length old.lines) =
    subst (λ ps. Fits ps old.level.start old.level.place (length old.frames.items) (length old.lines)) parents s.fits in
    let over = over_is child v sound.0 gives none in
    let outcome = brought_by old v sound.0 in
    let of_name : IsOfItsName outcome = over_means child v sound.0 sound.2 over in
    let resumed = resumes old new variables gs control j long fits.2 (outer_start qs q.level.start q.level.place old.level.start old.level.place fits.2) in
    let lines = child_lines old q qs parents in
    let is_below : (top new).below ≡ parent.below ++ outcome.lines =
    ap (λ x. below_at qs x new.level.place) j.lines ∙ ap (λ x. below_at qs old.lines x.place) j.level
    ∙ below_before qs old.lines old.level.start q.level.place q.level.start old.level.place fits.2 fits.1 ∙ ap (λ l. parent.below ++ l) (sym lines) in
    let gains : Gains parent.below outcome.lines (top new).below = record {
      lines_are = is_below;
      more = omega (arith, ap length is_below, length-append parent.below outcome.lines, ap length lines);
      few = omega (
        arith,
        s.few,
        below_few qs old.lines old.level.start q.level.place q.level.start old.level.place
            (below_at qs new.lines new.level.place) (ap (λ x. below_at qs x new.level.place) j.lines ∙ ap (λ x. below_at qs old.lines x.place) j.level),
      );
    } in
    let joined = joins outcome run.0.number run.0.awaits refl run.0.named resumed gains in
    let kept = join_keeps parent (top new) outcome of_name refl joined in
    let are : waiting_in new ≡ rest =
    waiting_joined old new variables gs control j (ending (top new)).env
    ∙ still_waiting old.program old.own qs old.lines old.frames.items gs q.level.start q.level.place old.level.start old.level.place (ending (top new)).env fits.2 (sym long) fits.1
    ∙ ap (λ e. waiting old.program old.own qs (take old.level.place old.lines) (take old.level.start old.frames.items) q.level.start q.level.place e.env) kept.ending in
    let has : task_of source (parent.own.name ++ joined.number ∷ []) ≡ Some sound.2.task = ap (task_of source) (sym joined.name) ∙ sound.2.has_task in
    let added : (ledger : ℕ) → (joined_account parent joined.number sound.3.0).sums ledger ≡ sound.3.0.sums ledger + sound.0.sums ledger = λ ledger.
    joined_sums parent joined.number sound.3.0 ledger
    ∙ ap (λ t. sound.3.0.sums ledger + (task_effects source.arrays source.locks t).sums ledger) (child_task-found source parent.own.name joined.number sound.2.task has)
    ∙ ap (λ n. sound.3.0.sums ledger + n) (sym (over_sums child v sound.0 sound.2 over ledger)) in
    record {
      program = j.program;
      own = j.own;
      sums = j.sums;
      sound = record {
        sums_of = s.sums_of;
        sums = j.sums ∙ subst (λ p. old.sums.items ≡ tabulated (source_of p.now).ledgers s.sums_of) (sym j.program) s.sums;
        sound = subst (λ ts. AreSound (top new ∷ ts) s.sums_of) (sym are) (
          joined_account parent joined.number sound.3.0,
          sound.3.1,
          sound_join parent (top new) outcome sound.3.0 sound.3.2 of_name refl joined,
          sound.3.3,
          λ ledger. omega (arith, sound.4 ledger, sound.3.4 ledger, added ledger),
        );
        run_for = subst (RunFor (top new)) (sym are) (run_for_same parent (top new) rest resumed.own run.1);
        fits = fits_joined old new variables gs control j fits;
        few = omega (arith, s.few, ap length j.lines);
      };
      work = omega (arith, kept.work, work_at source child.own.name (Give v) [] child.environment child at, ap works_left are, ap works_left were);
      forks = omega (arith, ap (λ ts. (last_of (top new) ts).forks) are, ap (λ ts. (last_of child ts).forks) were, last_same (top new) parent rest resumed.forks);
      by_itself = λ alone e. absurd (some_parent new.parents.items q (sym j.parents ∙ alone.parents));
    }

-- A join, and then a change of only the next action.
joins_on : (old mid new : State) (variables : List ℕ) (gs : List Frame) (k k' : Control) → (j : JoinsHere old mid variables gs k) →
    Changes mid new mid.environment.items mid.frames.items k' → JoinsHere old new variables gs k'
joins_on old mid new variables gs k k' j c = record {
  program = c.program ∙ j.program;
  own = c.own ∙ j.own;
  sums = c.sums ∙ j.sums;
  lines = c.lines ∙ j.lines;
  parent = j.parent;
  parents = j.parents ∙ ap (λ l. l ++ j.parent ∷ []) (sym c.parents);
  level = c.level ∙ j.level;
  environment = c.environment_is ∙ j.environment;
  frames_are = c.frames_are ∙ j.frames_are;
  control_is = c.control_is;
}

pub resumes_half : (old mid new : State) (value had left number right : ℕ) (reduction : Reduction) (p : Progress) → (j : JoinsHere old mid [] [] old.control) →
    j.parent.control ≡ AwaitsHalf number right reduction → mid.control ≡ old.control → HandsResult mid (apply (operation_of reduction) value right) had p left new →
    ResumesParent old value had p left new
unfolding joins_on
resumes_half old mid new value had left number right reduction (progress.Value result) j awaits same h =
    (number, right, reduction, joins_on old mid new [] [] old.control old.control j (subst (λ k. Changes mid new mid.environment.items mid.frames.items k) same h.2), awaits, h.0, h.1)
resumes_half old mid new value had left number right reduction progress.Goes j awaits same h =
    (number, right, reduction, joins_on old mid new [] [] old.control (Give (apply (operation_of reduction) value right)) j h.2, awaits, h.0, h.1)
resumes_half old mid new value had left number right reduction _ j awaits same h = absurd h

-- the end of a child whose parent goes on with what comes after the join
pub runs_join_begins : (old new : State) (v number during : ℕ) (next : Bor Expr) → IsSoundState old → old.control ≡ Give v → length old.frames.items ≡ old.level.start →
    (j : JoinsHere old new (v ∷ during ∷ []) (Restore (length old.environment.items) ∷ []) (Begin next)) → j.parent.control ≡ Awaits number during next → Runs 1 old new
runs_join_begins old new v number during next s gives long j awaits =
    let parent = parent_in old new j.parent in
    runs_joins old new v (v ∷ during ∷ []) (Restore (length old.environment.items) ∷ []) (Begin next) s gives long j
    (λ outcome n is value named resumed gains.
    let same : number ≡ n = one_child number n (sym (ap fork_awaited awaits) ∙ is) in
    joins_fork parent (top new) outcome n during next (awaits ∙ ap (λ m. Awaits m during next) same) named resumed.program resumed.own resumed.forks resumed.control_is resumed.frames
    (resumed.environment ∙ ap (λ x. old.environment.items ++ x ∷ during ∷ []) (sym value) ∙ sym (append_assoc old.environment.items (outcome.value ∷ []) (during ∷ []))) gains)

-- the end of a child that has a left half
pub runs_join_half : (old new : State) (v number right : ℕ) (reduction : Reduction) → IsSoundState old → old.control ≡ Give v → length old.frames.items ≡ old.level.start →
    (j : JoinsHere old new [] [] (Give (apply (operation_of reduction) v right))) → j.parent.control ≡ AwaitsHalf number right reduction → Runs 1 old new
runs_join_half old new v number right reduction s gives long j awaits =
    let parent = parent_in old new j.parent in
    runs_joins old new v [] [] (Give (apply (operation_of reduction) v right)) s gives long j
    (λ outcome n is value named resumed gains.
    let same : number ≡ n = one_child number n (sym (ap fork_awaited awaits) ∙ is) in
    joins_half parent (top new) outcome n right (apply (operation_of reduction) v right) reduction (awaits ∙ ap (λ m. AwaitsHalf m right reduction) same) named
    resumed.program resumed.own resumed.forks resumed.control_is (ap (λ x. apply (operation_of reduction) x right) (sym value))
    (resumed.frames ∙ append-nil parent.frames) (resumed.environment ∙ append-nil parent.environment) gains)
