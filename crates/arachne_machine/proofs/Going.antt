-- The changes that the steps of one thread make to its state.
use Rattle.std.proofs.Common.{◌≡◌, ◌≤◌, ◌<◌, ℕ, ◌+◌, ◌^◌, List, [], ◌∷◌, ◌++◌, length, length-append, None, Some, inl, inr, refl, ap, sym, subst, ◌∙◌, arith, take, drop, false, reverse, append-nil}
use Rattle.std.{specs.{Borrow.Bor, Global.Box}, proofs.lemmas.Bool.cases_lt}
use Rattle.std.proofs.{lemmas.List.{drop-append-le, take-append-drop, take-append-le}, Math.Seq.drop-length}
use Rattle.arachne_program.specs.declared.program.{Class.Class, Expr.Expr, Reduction.Reduction, Program.Program}
use Rattle.arachne_program.specs.{Program.{source_of, tree_of}, Value.{apply, operation_of, Environment}}
use Rattle.arachne_program.specs.{Effects.{Child, Evaluate, tabulated}, Meaning.task_of, Checked.IsChecked}
use Rattle.arachne_machine.specs.{Faultless.IsFaultlessNext, declared.frame.{Stretch.Stretch, Frame.Frame}}
use Rattle.arachne_machine.specs.declared.frame.{Frame.TheVariants.{JoinHere, MergeHere}, Control.Control}
use Rattle.arachne_machine.specs.declared.frame.Control.TheVariants.{Begin, Give, Cover, Awaits, AwaitsHalf, Ended}
use Rattle.arachne_machine.specs.declared.{pause.Pending.Pending, state.{State.State, Progress.Progress, Own.Own}}
use Rattle.arachne_machine.specs.{Account.untouched, declared.level.Parent.Parent, Work.{work_of, task_work}}
use Rattle.arachne_machine.specs.Ending.{stretch_task, unjoined_of, fork_awaited, fork_here, forks_here, forks_of}
use Rattle.arachne_machine.specs.{Strands.{Owned, Strand, Fits, owned_at, below_at}, Kept.{IsSoundChild, nested}}
use Rattle.arachne_machine.specs.Sound.{AreSound, IsSound, IsSoundState, RunFor}
use Rattle.arachne_machine.specs.Steps.{AfterSteps, IsRenewed, HasRoom, OnStops, IsNotEnd, IsLeftOver, IsNew, PlacesChild, Becomes, Changes, CountsFork, GivesChild, HasLine, IsLineOf, IsPopped, IsSame, IsSpawned, Pushes, LeavesOthers, Makes, PushesFork, Reaches, SpawnsChild, TurnsFold, TurnsSweep, Turns, giving, beginning, pending_of, task_begun, top, untagged, HasNotBegun, IsBeginning}
use Rattle.arachne_machine.specs.Runs.{IsByItself, last_of, outermost_in, BeginsHere, Comes, JoinsHere, ResumesParent, FoldsOn, IsPoppedIn, Runs, RunsOn, SweepsOn, beginning_in, giving_in, seen_in}
use Rattle.arachne_machine.proofs.{Frames.{forks_here-append, length-forks_of}, Outlooks.as_it_is, Handings.ends}
use Rattle.arachne_machine.proofs.Levels.{alone_waiting, awaiting_in, below_few, changes_leave, outer_start, runs_begins, runs_join_begins, runs_join_half, runs_on, runs_places, runs_top, some_parent, top_becomes}
use Rattle.arachne_machine.proofs.Here.{awaits_half, awaits_join, half_free, half_task, join_free, join_task}
use Rattle.arachne_machine.proofs.Soundness.{sound_new, goes_nowhere, locks_unchanged, sound_child}
use Rattle.arachne_machine.proofs.Renewing.{begins_new, begins_task, begins_faultless}
use Rattle.arachne_machine.specs.declared.pause.Pending.TheVariants as pause
use Rattle.arachne_machine.specs.declared.state.Progress.TheVariants as part

-- a change that takes off no frame
as_pushed : (old new : State) (env : List ℕ) (k : Control) → Changes old new env old.frames.items k → Changes old new env (old.frames.items ++ []) k
as_pushed old new env k c = assumption (c.frames_are ∙ sym (append-nil old.frames.items))

-- the change in the innermost thread if the frames are unchanged
pub top_same : (old new : State) (env : List ℕ) (k : Control) → Changes old new env old.frames.items k → old.level.start ≤ length old.frames.items → Becomes (top old) (top new) env (top old).frames k
top_same old new env k c le =
    let b = top_becomes old new env [] k (as_pushed old new env k c) le in
    assumption (b.frames_are ∙ append-nil (top old).frames)

pub leaves_same : (old new : State) (env : List ℕ) (k : Control) → Changes old new env old.frames.items k → old.level.start ≤ length old.frames.items → LeavesOthers old new
leaves_same old new env k c le = changes_leave old new env [] k (as_pushed old new env k c) le

pub start_same : (old new : State) (env : List ℕ) (k : Control) → Changes old new env old.frames.items k → old.level.start ≤ length old.frames.items → new.level.start ≤ length new.frames.items
start_same old new env k c le = omega (arith, le, ap (λ x. x.start) c.level, ap length c.frames_are)

-- only the innermost thread's next action has changed
pub leaves_seen : (old new : State) (p : Progress) → LeavesOthers old (seen_in p new) → LeavesOthers old new
leaves_seen old new (part.Value value) l = assumption
leaves_seen old new _ l = assumption

pub seen_leaves : (old new : State) (p : Progress) → LeavesOthers old new → LeavesOthers old (seen_in p new)
seen_leaves old new (part.Value value) l = assumption
seen_leaves old new _ l = assumption

-- two changes of the innermost thread, one after the other
pub leaves_on : (a b c : State) → LeavesOthers a b → LeavesOthers b c → LeavesOthers a c
leaves_on a b c l m = record {
  program = m.program ∙ l.program;
  own = m.own ∙ l.own;
  lines = m.lines ∙ l.lines;
  sums = m.sums ∙ l.sums;
  parents = m.parents ∙ l.parents;
  start = m.start ∙ l.start;
  place = m.place ∙ l.place;
  frames = subst (λ n. take n c.frames.items ≡ take n b.frames.items) l.start m.frames ∙ l.frames;
  more = omega (arith, m.more, l.start);
}

-- The newest frame was taken off the innermost thread.
pub leaves_popped : (before popped new : State) (f : Frame) → IsPoppedIn f before popped → popped.level.start ≤ length popped.frames.items → LeavesOthers popped new → LeavesOthers before new
leaves_popped before popped new f pop le l =
    let off = changes_leave popped before popped.environment.items (f ∷ []) popped.control pop le in
    record {
      program = l.program ∙ sym off.program;
      own = l.own ∙ sym off.own;
      lines = l.lines ∙ sym off.lines;
      sums = l.sums ∙ sym off.sums;
      parents = l.parents ∙ sym off.parents;
      start = l.start ∙ sym off.start;
      place = l.place ∙ sym off.place;
      frames = subst (λ n. take n new.frames.items ≡ take n before.frames.items) (sym off.start) (l.frames ∙ sym off.frames);
      more = omega (arith, l.more, off.start);
    }

pub top_popped : (before popped : State) (f : Frame) → IsPoppedIn f before popped → popped.level.start ≤ length popped.frames.items → IsPopped f (top before) (top popped)
top_popped before popped f pop le = top_becomes popped before popped.environment.items (f ∷ []) popped.control pop le

-- a fold or a sweep of the innermost goes on
pub folds_top : (old new : State) (next end : ℕ) (body : Bor Expr) (so_far : ℕ) → FoldsOn old new next end body so_far → old.level.start ≤ length old.frames.items →
    TurnsFold (top old) (top new) next end body so_far
folds_top old new next end body so_far f le = record {
  turn = λ lt. top_becomes old new _ _ _ (f.turn lt) le;
  done = λ ge. top_same old new _ _ (f.done ge) le;
}

pub sweeps_top : (old new : State) (reduction : Reduction) (next end : ℕ) (body : Bor Expr) (so_far : ℕ) → SweepsOn old new reduction next end body so_far → old.level.start ≤ length old.frames.items →
    TurnsSweep (top old) (top new) reduction next end body so_far
sweeps_top old new reduction next end body so_far f le = record {
  turn = λ lt. top_becomes old new _ _ _ (f.turn lt) le;
  done = λ ge. top_same old new _ _ (f.done ge) le;
}

pub folds_leave : (old new : State) (next end : ℕ) (body : Bor Expr) (so_far : ℕ) → FoldsOn old new next end body so_far → old.level.start ≤ length old.frames.items → LeavesOthers old new
folds_leave old new next end body so_far f le = elim (cases_lt next end) [
  | inl lt ↦ changes_leave old new _ _ _ (f.turn lt) le
  | inr ge ↦ leaves_same old new _ _ (f.done ge) le
]

pub sweeps_leave : (old new : State) (reduction : Reduction) (next end : ℕ) (body : Bor Expr) (so_far : ℕ) → SweepsOn old new reduction next end body so_far → old.level.start ≤ length old.frames.items →
    LeavesOthers old new
sweeps_leave old new reduction next end body so_far f le = elim (cases_lt next end) [
  | inl lt ↦ changes_leave old new _ _ _ (f.turn lt) le
  | inr ge ↦ leaves_same old new _ _ (f.done ge) le
]

-- The place at which the frames of the innermost thread begin, and the place of its line.
pub start_in : (t : State) → IsSoundState t → t.level.start ≤ length t.frames.items
start_in t s = outer_start (reverse t.parents.items) t.level.start t.level.place (length t.frames.items) (length t.lines) s.fits

line_of : (ps : List Parent) (start place frames lines : ℕ) → Fits ps start place frames lines → IsLineOf ps place lines
line_of [] start place frames lines h = tt
line_of (p ∷ ps) start place frames lines h = h.1

pub line_in : (t : State) → IsSoundState t → HasLine t
line_in t s = line_of (reverse t.parents.items) t.level.start t.level.place (length t.frames.items) (length t.lines) s.fits

-- the outermost has made the same forks
forks_same : (old new : State) → LeavesOthers old new → (top new).forks ≡ (top old).forks → IsByItself old → (outermost_in new).forks ≡ (outermost_in old).forks
forks_same old new l forks alone =
    let old_last = ap (λ ts. (last_of (top old) ts).forks) (alone_waiting old alone.parents) in
    let new_last = ap (λ ts. (last_of (top new) ts).forks) (alone_waiting new (l.parents ∙ alone.parents)) in
    new_last ∙ forks ∙ sym old_last

-- Steps of the innermost thread are steps of the state.
pub runs_made : {Q : Type 0} → (had left beside : ℕ) (old new : State) → IsSoundState old → LeavesOthers old new → Makes had left beside (top old) (top new) → RunsOn Q had left beside old new
runs_made had left beside old new s l m = record {
  made = m.made;
  fewer = m.fewer;
  counted = m.counted;
  runs = runs_top m.made old new s l m.goes.0 m.goes.2;
  running = m.goes.1;
  places_none = λ q alone. forks_same old new l m.goes.0.forks alone;
}

pub as_is : (t : State) → IsSame t t
as_is t = record { program = refl; own = refl; lines = refl; sums = refl; parents = refl; level = refl; environment_is = refl; frames_are = refl; control_is = refl }

pub runs_nothing : {Q : Type 0} → (had : ℕ) (a b : State) → IsSoundState a → IsSame a b → pending_of a.control ≡ None → RunsOn Q had had 0 a b
runs_nothing had a b s same running =
    let le = start_in a s in
    let t = top_same a b _ _ same le in
    record {
      made = 0;
      fewer = omega arith;
      counted = omega arith;
      runs = runs_top 0 a b s (leaves_same a b _ _ same le) (goes_nowhere (top a) (top b) t) (locks_unchanged (top a) (top b) t);
      running = ap pending_of same.control_is ∙ running;
      places_none = λ q alone. forks_same a b (leaves_same a b _ _ same le) t.forks alone;
    }

-- more steps after those that were made
pub runs_more : {Q : Type 0} → (had some left beside : ℕ) (a b c : State) → RunsOn Q had some 0 a b → RunsOn Q some left beside b c → RunsOn Q had left beside a c
runs_more had some left beside a b c p q = record {
  made = p.made + q.made;
  fewer = omega (arith, p.fewer, q.fewer);
  counted = omega (arith, p.counted, q.counted);
  runs = runs_on p.made q.made a b c p.runs q.runs;
  running = q.running;
  places_none = λ x alone. q.places_none x (p.runs.by_itself alone (p.places_none x alone)).alone ∙ p.places_none x alone;
}

pub comes_more : {Q : Type 0} → (had some left : ℕ) (a b : State) (p : Progress) (c : State) → RunsOn Q had some 0 a b → Comes Q some left b p c → Comes Q had left a p c
comes_more had some left a b (part.Value value) c m r = runs_more had some left 0 a b (giving_in c value) m r
comes_more had some left a b (part.Begin expr) c m r = runs_more had some left 1 a b (beginning_in c expr) m r
comes_more had some left a b part.Goes c m r = (runs_more had some left 1 a b c m r.0, r.1)
comes_more had some left a b part.Stops c m r =
    (r.0, record { last = r.1.last; runs = runs_more had some left 0 a b r.1.last m r.1.runs; leaves = r.1.leaves; stops = r.1.stops; ended = r.1.ended; room = r.1.room })
comes_more had some left a b (part.Forks class child) c m r = record {
  last = r.last;
  runs = runs_more had some left 0 a b r.last m r.runs;
  leaves = r.leaves;
  gives = r.gives;
  sound = r.sound;
  alone = r.alone;
  sums = r.sums;
}

-- A step, with the steps that were made in it, is one of those that were left.
pub runs_next : {Q : Type 0} → (had some left : ℕ) (a b c : State) → RunsOn Q had (some + 1) 0 a b → RunsOn Q some left 1 b c → RunsOn Q had left 0 a c
runs_next had some left a b c m n = record {
  made = m.made + n.made;
  fewer = omega (arith, m.fewer, n.fewer);
  counted = omega (arith, m.counted, n.counted);
  runs = runs_on m.made n.made a b c m.runs n.runs;
  running = n.running;
  places_none = λ x alone. n.places_none x (m.runs.by_itself alone (m.places_none x alone)).alone ∙ m.places_none x alone;
}

-- The innermost thread pauses.
pub comes_stop : {Q : Type 0} → (had : ℕ) (a c : State) (next : Pending) → IsSoundState a → pending_of a.control ≡ None → LeavesOthers a c → (next ≡ pause.Ended → c.parents.items ≡ []) →
    (next ≡ pause.Joins → HasRoom c) → AfterSteps 1 (top a) (Some next) (top c) → Comes Q had had a part.Stops c
comes_stop had a c next s running l ended room stops = (
  next,
  record {
    last = a;
    runs = runs_nothing had a a s (as_is a) running;
    leaves = l;
    stops = stops;
    ended = ended;
    room = room;
  },
)

pub not_ended : (c : State) (next : Pending) → IsNotEnd next → next ≡ pause.Ended → c.parents.items ≡ []
not_ended c next h e = absurd (subst IsNotEnd e h)

-- The result of a step of the innermost thread by itself is the result for the state.
pub comes_of : (Q : Type 0) → (had left : ℕ) (a : State) (p : Progress) (c : State) → IsSoundState a → pending_of a.control ≡ None → LeavesOthers a c → OnStops p (HasRoom c) → Reaches had left (top a) p (top c) → Comes Q had left a p c
comes_of Q had left a (part.Value value) c s running l room r = runs_made had left 0 a (giving_in c value) s (seen_leaves a c (part.Value value) l) r
comes_of Q had left a (part.Begin expr) c s running l room r = runs_made had left 1 a (beginning_in c expr) s (seen_leaves a c (part.Begin expr) l) r
comes_of Q had left a part.Goes c s running l room r = (runs_made had left 1 a c s l r.0, r.1)
comes_of Q had left a part.Stops c s running l room r =
    subst (λ n. Comes Q had n a part.Stops c) (sym r.0) (comes_stop had a c r.1.0 s running l (not_ended c r.1.0 r.1.1) (λ e. room) r.1.2)
comes_of Q had left a (part.Forks class child) c s running l room r = absurd r

-- A value was handed to a frame of the innermost thread.
pub comes_popped : (Q : Type 0) → (had left : ℕ) (before popped new : State) (f : Frame) (v : ℕ) (p : Progress) → IsSoundState before → IsPoppedIn f before (giving_in popped v) →
    popped.level.start ≤ length popped.frames.items → LeavesOthers popped new → OnStops p (HasRoom new) →
    ((t : Strand) → IsPopped f t (giving (top popped) v) → Reaches had left t p (top new)) → Comes Q had left before p new
comes_popped Q had left before popped new f v p s pop le l room made =
    let m = giving_in popped v in
    let from : LeavesOthers m new = record { program = l.program; own = l.own; lines = l.lines; sums = l.sums; parents = l.parents; start = l.start; place = l.place; frames = l.frames; more = l.more } in
    comes_of Q had left before p new s (ap pending_of pop.control_is) (leaves_popped before m new f pop le from) room (made (top before) (top_popped before m f pop le))

-- A fork of the innermost thread.
pub counts_top : (old new : State) (f : Frame) (k : Control) → CountsFork old new f k → old.level.start ≤ length old.frames.items → PushesFork (top old) (top new) f k
counts_top old new f k c le = record {
  program = c.program;
  own = ap (λ x. owned_at x (reverse new.parents.items) new.lines new.level.place) c.own
      ∙ ap (λ x. owned_at old.own (reverse x) new.lines new.level.place) c.parents
      ∙ ap (λ x. owned_at old.own (reverse old.parents.items) x new.level.place) c.lines
      ∙ ap (λ x. owned_at old.own (reverse old.parents.items) old.lines x.place) c.level;
  below = ap (λ x. below_at (reverse x) new.lines new.level.place) c.parents
      ∙ ap (λ x. below_at (reverse old.parents.items) x new.level.place) c.lines
      ∙ ap (λ x. below_at (reverse old.parents.items) old.lines x.place) c.level;
  forks = ap (λ x. x.forks) c.level;
  environment = c.environment;
  frames = ap (λ x. drop x.start new.frames.items) c.level ∙ ap (drop old.level.start) c.frames ∙ drop-append-le old.level.start old.frames.items (f ∷ []) le;
  control_is = c.control_is;
}

pub counts_leave : (old new : State) (f : Frame) (k : Control) → CountsFork old new f k → old.level.start ≤ length old.frames.items → LeavesOthers old new
counts_leave old new f k c le = record {
  program = c.program;
  own = c.own;
  lines = c.lines;
  sums = c.sums;
  parents = c.parents;
  start = ap (λ x. x.start) c.level;
  place = ap (λ x. x.place) c.level;
  frames = ap (take old.level.start) c.frames ∙ take-append-le old.level.start old.frames.items (f ∷ []) le;
  more = omega (arith, le, ap length c.frames, length-append old.frames.items (f ∷ []));
}

-- its child will run here
pub runs_place : {Q : Type 0} → (had : ℕ) (old new : State) (f : Frame) (k : Control) (made : Child) → (Q → ⊥) → IsSoundState old → CountsFork old new f k →
    (PushesFork (top old) (top new) f k → PlacesChild 1 (top old) (top new) made) → RunsOn Q had had 1 old new
runs_place had old new f k made none s c placed =
    let le = start_in old s in
    let p = placed (counts_top old new f k c le) in
    record {
      made = 1;
      fewer = omega arith;
      counted = omega arith;
      runs = runs_places old new made s (counts_leave old new f k c le) p;
      running = p.pending;
      places_none = λ q alone. absurd (none q);
    }

-- or it has a state of its own, and has not begun
own_of : Own → Owned
own_of own = record { name = own.name; label = own.label; holds = own.holds.items }

renewed_top : (program : Bor Program) (own : Own) (sums : List ℕ) (k : Control) (env : Environment) (t : State) → IsRenewed program own sums k env t → HasNotBegun program (own_of t.own) k env (top t)
unfolding own_of
renewed_top program own sums k env t r = record {
  program_is = r.program_is;
  own_is = ap (λ ps. owned_at t.own (reverse ps) t.lines t.level.place) r.parents;
  below = ap (λ ps. below_at (reverse ps) t.lines t.level.place) r.parents ∙ r.lines;
  forks = ap (λ x. x.forks) r.level;
  environment_is = r.environment_is;
  frames = ap (λ x. drop x.start t.frames.items) r.level ∙ r.frames;
  control_is = r.control_is;
}

pub spawned_top : (old new child : State) (begins : Control) (f : Frame) (k : Control) → IsBeginning begins → CountsFork old new f k → IsSpawned old begins child → old.level.start ≤ length old.frames.items →
    SpawnsChild (top old) (top new) (top child) begins f k
unfolding own_of
spawned_top old new child begins f k beginning c spawned le =
    let t = renewed_top old.program child.own child.sums.items begins old.environment.items child spawned.renewed in
    let fresh = begins_new old.program (own_of child.own) begins old.environment.items (top child) beginning spawned.holds t in
    record {
      pushed = counts_top old new f k c le;
      fresh = subst (λ n. IsNew old.program.now n untagged (task_begun begins old.environment.items) (top child)) spawned.named
          (subst (λ l. IsNew old.program.now child.own.name l (task_begun begins old.environment.items) (top child)) spawned.label fresh);
      begun = begins_task old.program (own_of child.own) begins old.environment.items (top child) t;
      faultless = begins_faultless old.program (own_of child.own) begins old.environment.items (top child) t;
    }

renewed_sound : (program : Bor Program) (own : Own) (sums : List ℕ) (k : Control) (env : Environment) (t : State) → IsRenewed program own sums k env t →
    t.sums.items ≡ tabulated program.now.ledgers (λ ledger. 0) → IsSound (top t) untouched → IsSoundState t
renewed_sound program own sums k env t r zeros sound =
    let none = alone_waiting t r.parents in
    record {
      sums_of = λ ledger. 0;
      sums = zeros ∙ ap (λ p. tabulated p.now.ledgers (λ ledger. 0)) (sym r.program_is);
      sound = subst (λ ts. AreSound (top t ∷ ts) (λ ledger. 0)) (sym none) (untouched, (λ ledger. 0), sound, (λ ledger. refl), λ ledger. refl);
      run_for = subst (RunFor (top t)) (sym none) tt;
      fits = subst (λ ps. Fits (reverse ps) t.level.start t.level.place (length t.frames.items) (length t.lines)) (sym r.parents) (ap (λ x. x.start) r.level);
      few = omega (arith, ap length r.lines);
    }

-- The root of a program.
pub root_sound : (program : Bor Program) (own : Own) (sums : List ℕ) (root : Bor Expr) (t : State) → IsRenewed program own sums (Begin root) [] t →
    t.own.holds.items ≡ tabulated program.now.locks (λ lock. 0) → t.sums.items ≡ tabulated program.now.ledgers (λ ledger. 0) → t.own.name ≡ [] →
    task_of (source_of program.now) [] ≡ Some (Evaluate (tree_of root.now) []) →
    (IsChecked (source_of program.now) → IsFaultlessNext (source_of program.now) false (Begin root)) → IsSoundChild t
unfolding own_of
root_sound program own sums root t r holds zeros name has free =
    let h = renewed_top program own sums (Begin root) [] t r in
    let fresh = begins_new program (own_of t.own) (Begin root) [] (top t) tt holds h in
    record {
      sound = renewed_sound program own sums (Begin root) [] t r zeros
          (sound_new program.now t.own.name t.own.label (Evaluate (tree_of root.now) []) (top t) fresh (ap (task_of (source_of program.now)) name ∙ has)
          (λ checked. begins_faultless program (own_of t.own) (Begin root) [] (top t) h (free checked)));
      alone = r.parents;
    }

pub comes_fork : {Q : Type 0} → (had : ℕ) (old new : State) (child : Box State) (class : Class) (begins : Control) (f : Frame) (k : Control) → IsSoundState old → pending_of old.control ≡ None → IsBeginning begins →
    CountsFork old new f k → IsSpawned old begins child.value →
    (SpawnsChild (top old) (top new) (top child.value) begins f k →
    GivesChild 1 (top old) (top new) (top child.value) (record { class = class; task = task_begun child.value.control child.value.environment.items })) →
    Comes Q had had old (part.Forks class child) new
comes_fork had old new child class begins f k s running beginning c spawned gives =
    let le = start_in old s in
    let g = gives (spawned_top old new child.value begins f k beginning c spawned le) in
    record {
      last = old;
      runs = runs_nothing had old old s (as_is old) running;
      leaves = counts_leave old new f k c le;
      gives = g;
      sound = renewed_sound old.program child.value.own child.value.sums.items begins old.environment.items child.value spawned.renewed spawned.sums (sound_child 1 (top old) (top new) (top child.value) _ s.sound.0 s.sound.2 g);
      alone = spawned.renewed.parents;
      sums = spawned.sums;
    }

-- The number of the next fork stays in range.
pub number_fits : (t : State) → IsSoundState t → fork_awaited t.control ≡ [] → length t.frames.items < 2 ^ 63 → t.level.forks + 1 < 2 ^ 64
number_fits t s none small =
    let numbered = s.sound.2.numbered in
    let below = below_few (reverse t.parents.items) t.lines t.level.start t.level.place 0 0 (top t).below refl in
    let forks = length-forks_of (top t).frames in
    let unjoined : length (unjoined_of (top t)) ≡ length (forks_of (top t).frames) = ap (λ l. length (l ++ forks_of (top t).frames)) none in
    let frames = ap length (take-append-drop t.level.start t.frames.items) in
    omega (arith, numbered.0, below, forks, unjoined, frames, length-append (take t.level.start t.frames.items) (drop t.level.start t.frames.items), s.few, small)

-- The child that a frame joins begins here.
begins_giving : (old new : State) (v number : ℕ) (awaits begins : Control) → BeginsHere old new number awaits begins → BeginsHere (giving_in old v) new number awaits begins
begins_giving old new v number awaits begins b = record {
  program = b.program;
  own = b.own;
  sums = b.sums;
  environment = b.environment;
  frames = b.frames;
  parents = b.parents;
  level = b.level;
  line = b.line;
  lines = b.lines;
  named = b.named;
  holds = b.holds;
  ran = b.ran;
  few = b.few;
  control_is = b.control_is;
}

-- only the next action is replaced
pub begins_as : (old new : State) (number : ℕ) (awaits begins other : Control) → BeginsHere old new number awaits begins → BeginsHere old (record new { control = other }) number awaits other
begins_as old new number awaits begins other b = record {
  program = b.program;
  own = b.own;
  sums = b.sums;
  environment = b.environment;
  frames = b.frames;
  parents = b.parents;
  level = b.level;
  line = b.line;
  lines = b.lines;
  named = b.named;
  holds = b.holds;
  ran = b.ran;
  few = b.few;
  control_is = refl;
}

awaiting_becomes : (t : State) (v : ℕ) (k : Control) → Becomes (giving (top t) v) (awaiting_in t k) (giving (top t) v).environment (giving (top t) v).frames k
awaiting_becomes t v k = record { program = refl; own = refl; below = refl; forks = refl; environment_is = refl; frames_are = refl; control_is = refl }

-- A thread in whose place a child runs is not by itself.
not_by_itself : (before mid : State) (f : Frame) (number : ℕ) → IsPoppedIn f before mid → mid.level.start ≤ length mid.frames.items → fork_here f ≡ number ∷ [] → IsByItself before → ⊥
not_by_itself before mid f number popped le here alone =
    let off = top_popped before mid f popped le in
    let none : number ∷ forks_here (top mid).frames ≡ [] =
    ap (λ l. l ++ forks_here (top mid).frames) (sym here) ∙ sym (forks_here-append (top mid).frames (f ∷ [])) ∙ ap forks_here (sym off.frames_are) ∙ alone.here in
    cc

pub comes_join_here : {Q : Type 0} → (had v number : ℕ) (before old new : State) (child next : Bor Expr) → IsSoundState before → IsPoppedIn (JoinHere number child next) before (giving_in old v) →
    old.level.start ≤ length old.frames.items → BeginsHere old new number (Awaits number v next) old.control → Comes Q had had before (part.Begin child) new
comes_join_here had v number before old new child next s popped le b =
    let f = JoinHere number child next in
    let off = top_popped before (giving_in old v) f popped le in
    let mid = giving (top old) v in
    record {
      made = 1;
      fewer = omega arith;
      counted = omega arith;
      runs = runs_begins before (giving_in old v) (beginning_in new child) f number (work_of (source_of old.program.now).arrays (tree_of child.now) old.environment.items)
          (Awaits number v next) (Begin child) s le popped (begins_giving old (beginning_in new child) v number _ _ (begins_as old new number _ _ (Begin child) b)) tt
          (awaits_join (top before) mid (awaiting_in old (Awaits number v next)) v number child next off refl (awaiting_becomes old v (Awaits number v next))) refl
          (join_task (top before) mid v number child next off refl s.sound.2.keeps)
          (join_free (top before) mid v number child next off refl);
      running = refl;
      places_none = λ q alone. absurd (not_by_itself before (giving_in old v) f number popped le refl alone);
    }

pub comes_half_here : {Q : Type 0} → (had v number : ℕ) (before old new : State) (left : Stretch) → IsSoundState before → IsPoppedIn (MergeHere number left) before (giving_in old v) →
    old.level.start ≤ length old.frames.items → BeginsHere old new number (AwaitsHalf number v left.reduction) old.control → Comes Q had had before part.Goes (record new { control = Cover left })
comes_half_here had v number before old new left s popped le b =
    let f = MergeHere number left in
    let off = top_popped before (giving_in old v) f popped le in
    let mid = giving (top old) v in
    let k = AwaitsHalf number v left.reduction in
    let on : State = record new { control = Cover left } in (
      record {
        made = 1;
        fewer = omega arith;
        counted = omega arith;
        runs = runs_begins before (giving_in old v) on f number (task_work (source_of old.program.now).arrays (stretch_task left old.environment.items))
            k (Cover left) s le popped (begins_giving old on v number _ _ (begins_as old new number _ _ (Cover left) b)) tt
            (awaits_half (top before) mid (awaiting_in old k) v number left off refl (awaiting_becomes old v k)) refl
            (half_task (top before) mid v number left off refl s.sound.2.keeps)
            (half_free (top before) mid v number left off refl);
        running = refl;
        places_none = λ q alone. absurd (not_by_itself before (giving_in old v) f number popped le refl alone);
      },
      tt,
    )

-- A child that ran here has ended.
abbrev joins_as : (old new : State) (v : ℕ) (variables : List ℕ) (gs : List Frame) (k other : Control) → JoinsHere old new variables gs k →
    JoinsHere (giving_in old v) (record new { control = other }) variables gs other
joins_as old new v variables gs k other j = record {
  program = j.program;
  own = j.own;
  sums = j.sums;
  lines = j.lines;
  parent = j.parent;
  parents = j.parents;
  level = j.level;
  environment = j.environment;
  frames_are = j.frames_are;
  control_is = refl;
}

was_nested : (old new : State) (v : ℕ) (variables : List ℕ) (gs : List Frame) (k : Control) → JoinsHere old new variables gs k → IsByItself (giving_in old v) → ⊥
was_nested old new v variables gs k j alone = some_parent new.parents.items j.parent (sym j.parents ∙ alone.parents)

joined_on : {Q : Type 0} → (had left beside : ℕ) (old new : State) → (IsByItself old → ⊥) → Runs 1 old new → left ≤ had → left + 1 ≡ had + beside → pending_of new.control ≡ None → RunsOn Q had left beside old new
joined_on had left beside old new nested r less counted running =
    record { made = 1; fewer = less; counted = counted; runs = r; running = running; places_none = λ q alone. absurd (nested alone) }

pub comes_join : (Q : Type 0) → (old new : State) (v had left : ℕ) (p : Progress) → IsSoundState (giving_in old v) → length old.frames.items ≡ old.level.start → ResumesParent old v had p left new →
    Comes Q had left (giving_in old v) p new
comes_join Q old new v had left (part.Begin next) s long h =
    joined_on had left 1 (giving_in old v) (beginning_in new next) (was_nested old new v _ _ _ h.2)
    (runs_join_begins (giving_in old v) (beginning_in new next) v h.0 h.1 next s refl long (joins_as old new v _ _ _ (Begin next) h.2) h.3)
    (omega (arith, h.4)) (omega (arith, h.4)) refl
comes_join Q old new v had left (part.Value result) s long h =
    let w = apply (operation_of h.2) v h.1 in
    subst (λ x. RunsOn Q had left 0 (giving_in old v) (giving_in new x)) (sym h.5)
    (joined_on had left 0 (giving_in old v) (giving_in new w) (was_nested old new v _ _ _ h.3)
    (runs_join_half (giving_in old v) (giving_in new w) v h.0 h.1 h.2 s refl long (joins_as old new v _ _ _ (Give w) h.3) h.4)
    (omega (arith, h.6)) (omega (arith, h.6)) refl)
comes_join Q old new v had left part.Goes s long h =
    let w = apply (operation_of h.2) v h.1 in
    let given : giving_in new w ≡ new = ap (λ k. record new { control = k }) (sym h.3.control_is) in (
      subst (λ x. RunsOn Q had left 1 (giving_in old v) x) given
          (joined_on had left 1 (giving_in old v) (giving_in new w) (was_nested old new v _ _ _ h.3)
          (runs_join_half (giving_in old v) (giving_in new w) v h.0 h.1 h.2 s refl long (joins_as old new v _ _ _ (Give w) h.3) h.4)
          (omega (arith, h.5)) (omega (arith, h.5)) refl),
      subst IsLeftOver (sym h.3.control_is) tt,
    )
comes_join Q old new v had left part.Stops s long h = absurd h
comes_join Q old new v had left (part.Forks class child) s long h = absurd h

-- The outermost thread has ended.
pub comes_end : {Q : Type 0} → (had v : ℕ) (old new : State) → IsSoundState (giving_in old v) → old.parents.items ≡ [] → length old.frames.items ≤ old.level.start → Turns old new (Ended v) →
    Comes Q had had (giving_in old v) part.Stops new
comes_end had v old new s none over turns =
    let from = giving_in old v in
    let le = start_in from s in
    let changed : Turns from new (Ended v) = assumption in
    let all : old.level.start ≡ length old.frames.items = omega (arith, le, over) in
    let empty : (top from).frames ≡ [] = ap (λ n. drop n old.frames.items) all ∙ drop-length old.frames.items in
    comes_stop had from new pause.Ended s refl (leaves_same from new _ _ changed le) (λ e. turns.parents ∙ none) (λ e. cc)
    (ends (top from) (top from) (top new) v (as_it_is (top from)) refl empty (top_same from new _ _ changed le))

-- The next action before a step has no influence on it.
pub leaves_begun : (t : State) (e : Bor Expr) → IsSoundState (beginning_in t e) → LeavesOthers (beginning_in t e) t
leaves_begun t e s = record { program = refl; own = refl; lines = refl; sums = refl; parents = refl; start = refl; place = refl; frames = refl; more = start_in (beginning_in t e) s }

pub enters_begun : (t new : State) (e : Bor Expr) (env : List ℕ) (fs : List Frame) (k : Control) → Changes t new env fs k → Changes (beginning_in t e) new env fs k
enters_begun t new e env fs k c = assumption

begins_part : (t new : State) (e part : Bor Expr) (env : List ℕ) (fs : List Frame) (k : Control) → Changes t new env fs k → Changes (beginning_in t e) (beginning_in new part) env fs (Begin part)
begins_part t new e part env fs k c = assumption

pub forks_begun : (t new : State) (e : Bor Expr) (f : Frame) (k : Control) → CountsFork t new f k → CountsFork (beginning_in t e) new f k
forks_begun t new e f k c = assumption

pub forks_part : (t new : State) (e part : Bor Expr) (f : Frame) (k : Control) → CountsFork t new f k → CountsFork (beginning_in t e) (beginning_in new part) f (Begin part)
forks_part t new e part f k c = assumption

pub spawns_begun : (t child : State) (e : Bor Expr) (begins : Control) → IsSpawned t begins child → IsSpawned (beginning_in t e) begins child
spawns_begun t child e begins c = record { renewed = c.renewed; named = c.named; label = c.label; holds = c.holds; sums = c.sums }

-- A part of an expression is begun, with a frame for what comes after it.
pub comes_enter : (Q : Type 0) → (had : ℕ) (t new : State) (e part : Bor Expr) (f : Frame) → IsSoundState (beginning_in t e) → Pushes t new f →
    (Becomes (beginning (top t) e) (beginning (top new) part) (top t).environment ((top t).frames ++ f ∷ []) (Begin part) → AfterSteps 1 (beginning (top t) e) None (beginning (top new) part)) →
    RunsOn Q had had 1 (beginning_in t e) (beginning_in new part)
comes_enter Q had t new e part f sound pushes step =
    let le = start_in (beginning_in t e) sound in
    let c = begins_part t new e part _ _ _ pushes in
    let goes = step (top_becomes (beginning_in t e) (beginning_in new part) _ _ _ c le) in
    runs_made had had 1 (beginning_in t e) (beginning_in new part) sound (changes_leave (beginning_in t e) (beginning_in new part) _ _ _ c le)
    (record { made = 1; fewer = omega arith; counted = omega arith; goes = goes })
