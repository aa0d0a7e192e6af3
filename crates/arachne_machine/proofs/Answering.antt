-- The answers to pauses.
use Rattle.std.proofs.Common.{◌≡◌, ◌≤◌, length, ℕ, List, [], ◌∷◌, ◌++◌, None, Some, Option, refl, ap, sym, ◌∙◌, subst, arith, map, reverse, append-nil}
use Rattle.std.specs.{Borrow.Bor, Global.Box}
use Rattle.arachne_program.specs.{declared.program.Expr.Expr, Program.source_of, Effects.tabulated}
use Rattle.arachne_machine.specs.declared.{frame.{Stretch.Stretch, Frame.Frame, Control.Control}, pause.Pending.Pending}
use Rattle.arachne_machine.specs.declared.frame.Control.TheVariants.{Begin, Give, Cover, Forked, Halved, Frees, Ended}
use Rattle.arachne_machine.specs.{declared.state.State.State, Trace.At, Strands.{Strand, owned_at, below_at, own_line}}
use Rattle.arachne_machine.specs.Ending.{AwaitsFork, fork_awaited, forks_of, lock_freed, releases, frames_left, locks_of}
use Rattle.arachne_machine.specs.{Suspended.{Suspended, SameThread, IsAnswered}, Sound.{IsSoundState, AreSound}}
use Rattle.arachne_machine.specs.Nested.{Nested, Await, ArePlaced, IsNested, Placed, SameWhole, work_in, works}
use Rattle.arachne_machine.specs.Steps.{Becomes, Goes, LeavesOthers, Changes, Turns, pending_of, suspended, top, waiting_in}
use Rattle.arachne_machine.specs.{Kept.{IsKept, IsSoundChild, nested}, Outcome.IsOfItsName, Runs.after_fork}
use Rattle.arachne_machine.proofs.{Tabulated.tabulated-same, Soundness.{sound_end, sound_goes}, Nesting.same_whole}
use Rattle.arachne_machine.proofs.Outlooks.{Any, SameOutlook, IsAt, itself, same_end, unjoined_at, here_at}
use Rattle.arachne_machine.proofs.Levels.{alone_waiting, changes_leave, leaves_waiting, sound_top, top_becomes, outer_start}
use Rattle.arachne_machine.specs.declared.pause.Pending.TheVariants as pause

-- An answer that counts nothing: the thread goes on.
answers_by : (old new : Strand) (p : Pending) (k k' : Control) → old.control ≡ k → Becomes old new old.environment old.frames k' →
    ((fs : List Frame) → frames_left k fs ≡ fs) → ((fs : List Frame) → frames_left k' fs ≡ fs) → fork_awaited k' ≡ fork_awaited k →
    AwaitsFork (source_of old.program.now) old.own.name k' old.environment →
    SameOutlook 0 0 (At p ∷ []) Any itself (source_of old.program.now) old.own.name k [] old.environment k' [] old.environment → Goes 0 (At p ∷ []) old new
answers_by old new p k k' is_k b left left' awaits keep outlook =
    let source = source_of old.program.now in
    let name = old.own.name in
    let fs = old.frames in
    let env = old.environment in
    let at : IsAt source name k (fs ++ []) env old = record { source_is = refl; name_is = refl; control_is = is_k; frames_are = sym (append-nil fs); environment_is = refl } in
    let at' : IsAt source name k' (fs ++ []) env new = assumption (ap (λ p. source_of p.now) b.program, ap (λ o. o.name) b.own, b.frames_are ∙ sym (append-nil fs)) in
    let end = same_end 0 0 (At p ∷ []) Any itself source name k k' fs [] [] env env old new at at' (left (fs ++ [])) (left' (fs ++ [])) (λ h. (keep, tt)) outlook in
    record {
      program = b.program;
      own = b.own;
      below = b.below;
      forks = b.forks;
      unjoined = unjoined_at source name k' fs [] env new at' ∙ ap (λ x. (x ++ []) ++ forks_of fs) awaits ∙ sym (unjoined_at source name k fs [] env old at);
      here = here_at source name k' fs [] env new at' ∙ sym (here_at source name k fs [] env old at);
      ending = end.ending;
      account = λ a. end.account a tt;
      work = omega (arith, end.work);
      trace = end.trace;
      faultless = end.faultless;
      keeps = end.keeps;
    }

pub answers_fork : (old new : Strand) (during : Bor Expr) → old.control ≡ Forked during → Becomes old new old.environment old.frames (Begin during) → Goes 0 (At pause.Forks ∷ []) old new
answers_fork old new during is b =
    answers_by old new pause.Forks (Forked during) (Begin during) is b (λ fs. refl) (λ fs. refl) refl tt
    (record { ending = refl; account = λ a any. refl; work = omega arith; trace = refl; faultless = λ held h. (tt, h.1.1) })

pub answers_half : (old new : Strand) (right : Stretch) → old.control ≡ Halved right → Becomes old new old.environment old.frames (Cover right) → Goes 0 (At pause.Forks ∷ []) old new
answers_half old new right is b =
    answers_by old new pause.Forks (Halved right) (Cover right) is b (λ fs. refl) (λ fs. refl) refl tt
    (record { ending = refl; account = λ a any. refl; work = omega arith; trace = refl; faultless = λ held h. (tt, h.1) })

pub answers_free : (old new : Strand) (lock value : ℕ) → old.control ≡ Frees lock value → Becomes old new old.environment old.frames (Give value) → Goes 0 (At (pause.Frees lock) ∷ []) old new
answers_free old new lock value is b =
    answers_by old new (pause.Frees lock) (Frees lock value) (Give value) is b (λ fs. refl) (λ fs. refl) refl tt
    (record { ending = refl; account = λ a any. refl; work = omega arith; trace = refl; faultless = λ held h. (tt, tt) })

-- the view that callers have of the answered thread
pub answered_thread : (p : Pending) (old new : Strand) → Goes 0 (At p ∷ []) old new → SameThread (suspended old) (suspended new)
answered_thread p old new g = assumption (ap (λ p. p.now) g.program, ap (λ o. o.name) g.own, ap (λ o. o.label) g.own)

-- The other threads wait for it as before.
await_same : (a b : Suspended) (parents : List Suspended) → b.program ≡ a.program → b.name ≡ a.name → b.label ≡ a.label → Await a parents → Await b parents
await_same a b [] program name label h = tt
await_same a b (parent ∷ parents) program name label h = (
  record {
    joins = h.0.joins;
    of_child = h.0.of_child ∙ ap Some (sym name);
    same_source = ap source_of program ∙ h.0.same_source;
    in_place = ap (λ l. l.ran) label ∙ h.0.in_place;
  },
  h.1,
)

pub nested_same : (a b : Suspended) (parents : List Suspended) (placed : List Placed) (sums others : List ℕ) → b.program ≡ a.program → b.name ≡ a.name → b.label ≡ a.label →
    IsNested (record { running = a; parents = parents; placed = placed; sums = sums }) → IsNested (record { running = b; parents = parents; placed = placed; sums = others })
nested_same a b parents placed sums others program name label h = record {
  awaiting = await_same a b parents program name label h.awaiting;
  waiting = subst (λ p. ArePlaced (source_of p) placed) (sym program) h.waiting;
}

pub record SeenAnswered (a b : Nested) : Type 0 where
  pub whole : SameWhole a b
  pub same : SameThread a.running b.running
  pub holds : b.running.holds ≡ a.running.holds
  pub others : b ≡ record a { running = b.running }
  pub work : work_in b ≡ work_in a
  pub trace : IsAnswered a.running b.running

pub seen_answered : (old new : State) (placed : List (Box State)) (p : Pending) → LeavesOthers old new → pending_of old.control ≡ Some p → Goes 0 (At p ∷ []) (top old) (top new) →
    SeenAnswered (nested old placed) (nested new placed)
seen_answered old new placed p l pending g =
    let parents = ap (map suspended) (leaves_waiting old new l (ap (λ e. e.env) g.ending)) in
    record {
      whole = same_whole old new placed placed l.program l.own;
      same = answered_thread p (top old) (top new) g;
      holds = ap (λ o. o.holds) g.own;
      others = ap (λ l. record (nested new placed) { parents = l }) parents ∙ ap (λ s. record (nested old placed) { running = suspended (top new); sums = s }) l.sums;
      work = omega (arith, g.work, ap works parents);
      trace = (p, pending, sym g.trace);
    }

goes_none : (k : Control) → pending_of k ≡ None → pending_of k ≡ Some pause.Ended → ⊥
goes_none k none e = let both : ◌≡◌ {A = Option Pending} None (Some pause.Ended) = sym none ∙ e in cc

pub going : (t : State) → pending_of t.control ≡ None → pending_of t.control ≡ Some pause.Ended → t.parents.items ≡ []
going t none e = absurd (goes_none t.control none e)

pub kept_answered : (old new : State) (placed : List (Box State)) (p : Pending) → IsKept old placed → pending_of new.control ≡ None → LeavesOthers old new → Goes 0 (At p ∷ []) (top old) (top new) → IsKept new placed
kept_answered old new placed p kept none l g =
    let env = ap (λ e. e.env) g.ending in
    let parents = ap (map suspended) (leaves_waiting old new l env) in
    let same = answered_thread p (top old) (top new) g in
    record {
      sound = sound_top old new kept.sound l env g.own (λ account sound. (account, sound_goes 0 (At p ∷ []) (top old) (top new) account sound g, λ ledger. refl));
      children = kept.children;
      nested_is = subst (λ ps. IsNested (record (nested new placed) { parents = ps })) (sym parents)
          (nested_same (suspended (top old)) (suspended (top new)) (map suspended (waiting_in old)) _ _ _ same.program same.name same.label kept.nested_is);
      ended = going new none;
    }

-- only the next action has changed
pub turns_top : (old new : State) (k : Control) → Turns old new k → old.level.start ≤ length old.frames.items → LeavesOthers old new × Becomes (top old) (top new) (top old).environment (top old).frames k
turns_top old new k c le =
    let same : Changes old new old.environment.items (old.frames.items ++ []) k = assumption (c.frames_are ∙ sym (append-nil old.frames.items)) in
    let b = top_becomes old new old.environment.items [] k same le in (
      changes_leave old new old.environment.items [] k same le,
      assumption (b.frames_are ∙ append-nil (top old).frames),
    )

-- the facts after a pause was answered
pub record IsPast (old new : State) (placed : List (Box State)) : Type 0 where
  pub kept : IsKept new placed
  pub seen : SeenAnswered (nested old placed) (nested new placed)
  pub pending : pending_of new.control ≡ None

-- the frames of the innermost thread begin within those of the state
start_within : (t : State) (placed : List (Box State)) → IsKept t placed → t.level.start ≤ length t.frames.items
start_within t placed kept = outer_start (reverse t.parents.items) t.level.start t.level.place (length t.frames.items) (length t.lines) kept.sound.fits

fork_taken : (old new : Strand) (k : Control) → old.control ≡ k → pending_of k ≡ Some pause.Forks → Becomes old new old.environment old.frames (after_fork k) →
    Goes 0 (At pause.Forks ∷ []) old new × (pending_of new.control ≡ None) × (locks_of new ≡ locks_of old)
fork_taken old new (Forked during) is e b = (
  answers_fork old new during is b,
  ap pending_of b.control_is,
  ap (λ x. lock_freed x ++ releases new.frames) b.control_is ∙ ap releases b.frames_are ∙ ap (λ x. lock_freed x ++ releases old.frames) (sym is),
)
fork_taken old new (Halved right) is e b = (
  answers_half old new right is b,
  ap pending_of b.control_is,
  ap (λ x. lock_freed x ++ releases new.frames) b.control_is ∙ ap releases b.frames_are ∙ ap (λ x. lock_freed x ++ releases old.frames) (sym is),
)
fork_taken old new _ is e b = cc

pub fork_past : (old new : State) (placed : List (Box State)) → IsKept old placed → pending_of old.control ≡ Some pause.Forks → Turns old new (after_fork old.control) →
    IsPast old new placed × (locks_of (top new) ≡ locks_of (top old))
fork_past old new placed kept pending turns =
    let on = turns_top old new (after_fork old.control) turns (start_within old placed kept) in
    let taken = fork_taken (top old) (top new) old.control refl pending on.1 in (
      record {
        kept = kept_answered old new placed pause.Forks kept taken.1 on.0 taken.0;
        seen = seen_answered old new placed pause.Forks on.0 pending taken.0;
        pending = taken.1;
      },
      taken.2,
    )

pub free_past : (old new : State) (placed : List (Box State)) (lock value : ℕ) → IsKept old placed → old.control ≡ Frees lock value → Turns old new (Give value) →
    IsPast old new placed × (locks_of (top old) ≡ lock ∷ locks_of (top new))
free_past old new placed lock value kept is turns =
    let on = turns_top old new (Give value) turns (start_within old placed kept) in
    let goes = answers_free (top old) (top new) lock value is on.1 in (
      record {
        kept = kept_answered old new placed (pause.Frees lock) kept (ap pending_of turns.control_is) on.0 goes;
        seen = seen_answered old new placed (pause.Frees lock) on.0 (ap pending_of is) goes;
        pending = ap pending_of turns.control_is;
      },
      ap (λ x. lock_freed x ++ releases (top old).frames) is ∙ ap (λ l. lock ∷ releases l) (sym on.1.frames_are)
          ∙ ap (λ x. lock ∷ (lock_freed x ++ releases (top new).frames)) (sym on.1.control_is),
    )

-- a thread in whose place no other runs
pub kept_alone : (t : State) (placed : List (Box State)) → IsSoundChild t → placed ≡ [] → IsKept t placed
kept_alone t placed h none =
    let parents = ap (map suspended) (alone_waiting t h.alone) in
    subst (λ l. IsKept t l) (sym none) (record {
      sound = h.sound;
      children = λ k d lt. absurd (omega (arith, lt));
      nested_is = record { awaiting = subst (Await (suspended (top t))) (sym parents) tt; waiting = tt };
      ended = λ e. h.alone;
    })

-- The outcome of the thread is the one that the program has for its name.
pub ended_means : (t : State) (v : ℕ) → IsSoundState t → t.parents.items ≡ [] → t.control ≡ Ended v →
    IsOfItsName (record { program = t.program.now; name = t.own.name; value = v; sums = t.sums.items; lines = own_line t.own ∷ t.lines })
ended_means t v s none ended =
    let source = source_of t.program.now in
    let sound : AreSound (top t ∷ []) s.sums_of = subst (λ ts. AreSound (top t ∷ ts) s.sums_of) (alone_waiting t none) s.sound in
    let sums : t.sums.items ≡ tabulated source.ledgers sound.0.sums =
    s.sums ∙ tabulated-same source.ledgers s.sums_of sound.0.sums (λ ledger. omega (arith, sound.4 ledger, sound.3 ledger)) in
    subst (λ ps. IsOfItsName (record {
      program = t.program.now;
      name = (owned_at t.own ps t.lines t.level.place).name;
      value = v;
      sums = t.sums.items;
      lines = (let own = owned_at t.own ps t.lines t.level.place in record { name = own.name; tag = own.label.tag; holds = own.holds; ran = own.label.ran }) ∷ below_at ps t.lines t.level.place;
    })) (ap reverse none) (sound_end (top t) v t.sums.items sound.0 sound.2 ended sums)
