-- Facts that stay true: after refused memory, at a pause, and if nothing has changed but capacities.
use Rattle.std.proofs.Common.{◌≡◌, ℕ, ◌+◌, List, [], ◌∷◌, Option, None, Some, inl, inr, refl, ap, sym, subst, ◌∙◌, arith, ◌==◌, true, false, map, reverse, Result, Ok, Err, IfOk, OnErr, OnOk}
use Rattle.std.{specs.{Borrow.Bor, Global.Box}, proofs.lemmas.Bool.cases_lt}
use Rattle.std.proofs.lemmas.List.{reverse-append, reverse-reverse}
use Rattle.arachne_program.specs.{declared.program.{Class.Class, Expr.Expr}, Tree.Tree, Program.{source_of, tree_of}}
use Rattle.arachne_machine.{specs.declared.frame.{Frame.Frame, Control.Control}, proofs.Openings.{Opens, goes_to_part}}
use Rattle.arachne_machine.specs.declared.{frame.Control.TheVariants.{Give, Cover, Begin}, pause.Pending.Pending}
use Rattle.arachne_machine.specs.declared.{state.{State.State, Progress.Progress}, level.Parent.Parent}
use Rattle.arachne_machine.specs.{Ending.{ending, forks_of, releases}, Strands.Strand, Sound.{IsSoundState, RunFor}}
use Rattle.arachne_machine.specs.Steps.{AfterSteps, suspended, OnStops, OnValue, waiting, IsForkOf, IsLeftOver, IsSame, LeavesOthers, pending_of, top, Pushes, beginning}
use Rattle.arachne_machine.specs.Runs.{IsOneStep, RunsOn, RunsToFork, RunsToPause, HasParent, beginning_in, current_in, giving_in, Comes}
use Rattle.arachne_machine.{proofs.Levels.{leaves_waiting, runs_on, runs_top}, specs.Nested.IsNested}
use Rattle.arachne_machine.{specs.Kept.{IsKept, nested}, proofs.Handings.{is_not_zero, is_zero}}
use Rattle.arachne_machine.proofs.Soundness.{goes_nowhere, locks_unchanged, unchanged_seen}
use Rattle.arachne_machine.proofs.Going.{leaves_same, start_in, top_same, comes_enter}
use Rattle.arachne_machine.specs.declared.pause.Pending.TheVariants as pause
use Rattle.arachne_machine.specs.declared.state.Progress.TheVariants as part

pub on_value : (p : Progress) (A : Type 0) → A → OnValue p A
on_value (part.Value value) A a = a
on_value _ A a = tt

-- The innermost of the threads that wait awaits a child that runs here.
parent_of : (t : State) (ps : List Parent) → reverse t.parents.items ≡ ps → IsSoundState t → (t.parents.items ≡ [] → ⊥) → HasParent t
parent_of t [] e s some = absurd (some (sym (reverse-reverse t.parents.items) ∙ ap reverse e))
parent_of t (q ∷ qs) e s some =
    let run = subst (λ ps. RunFor (top t) (waiting t.program t.own ps t.lines t.frames.items t.level.start t.level.place (ending (top t)).env)) e s.run_for in
    record {
      others = reverse qs;
      parent = q;
      parents = sym (reverse-reverse t.parents.items) ∙ ap reverse e ∙ reverse-append (q ∷ []) qs;
      number = run.0.number;
      awaits = run.0.awaits;
    }

pub has_parent : (t : State) (v : ℕ) → IsSoundState (giving_in t v) → (t.parents.items ≡ [] → ⊥) → HasParent t
has_parent t v s some =
    let h = parent_of (giving_in t v) (reverse t.parents.items) refl s some in
    record { others = h.others; parent = h.parent; parents = h.parents; number = h.number; awaits = h.awaits }

pub on_err : {X E : Type 0} (r : Result X E) (A : Type 0) → A → OnErr r A
on_err (Ok x) A a = tt
on_err (Err e) A a = a

pub nearer_value : (p : Progress) (v : ℕ) (A : Type 0) → p ≡ part.Value v → OnValue p A → A
nearer_value p v A e h = subst (λ x. OnValue x A) e h

pub without_value : (p : Progress) → ((v : ℕ) → p ≡ part.Value v → ⊥) → OnValue p ⊥
without_value (part.Value value) h = h value refl
without_value _ h = tt

pub is_none : (n : ℕ) → (n == 0) ≡ true → n ≡ 0
is_none n e = elim (cases_lt 0 n) [
  | inl lt ↦ cc (sym (is_not_zero n (λ z. omega (arith, lt, z))) ∙ e)
  | inr le ↦ omega (arith, le)
]

pub is_some : (n : ℕ) → (n == 0) ≡ false → n ≡ 0 → ⊥
is_some n e z = cc (sym e ∙ is_zero n z)

pub err_then : {X E A B : Type 0} (r : Result X E) → OnErr r A → (A → B) → OnErr r B
err_then (Ok x) h f = tt
err_then (Err e) h f = f h

-- the next action is the same if nothing has changed but capacities
pub current_same : (begins : Option (Bor Expr)) (a b : State) → IsSame a b → IsSame (current_in begins a) (current_in begins b)
current_same None a b same = same
current_same (Some expr) a b same = assumption

left_running : (k : Control) → IsLeftOver k → pending_of k ≡ None
left_running (Give value) h = refl
left_running (Cover stretch) h = refl
left_running _ h = absurd h

pub current_running : (begins : Option (Bor Expr)) (t : State) → (begins ≡ None → IsLeftOver t.control) → pending_of (current_in begins t).control ≡ None
current_running None t h = left_running t.control (h refl)
current_running (Some expr) t h = refl

-- Memory was refused in the next step, after a part of it was made.
pub refused_next : {Q : Type 0} → (had some left : ℕ) (a b c : State) → RunsOn Q had (some + 1) 0 a b → RunsOn Q some left 0 b c → RunsOn Q had (left + 1) 0 a c
refused_next had some left a b c m r = record {
  made = m.made + r.made;
  fewer = omega (arith, m.fewer, r.fewer);
  counted = omega (arith, m.counted, r.counted);
  runs = runs_on m.made r.made a b c m.runs r.runs;
  running = r.running;
  places_none = λ x alone. r.places_none x (m.runs.by_itself alone (m.places_none x alone)).alone ∙ m.places_none x alone;
}

pub pauses_next : {Q : Type 0} → (had some left : ℕ) (a b : State) (next : Pending) (c : State) → RunsOn Q had (some + 1) 0 a b → RunsToPause Q some left b next c →
    (beside : ℕ) × (had ≡ beside + 1) × RunsToPause Q beside left a next c
pauses_next had some left a b next c m r = (
  some + m.made,
  omega (arith, m.counted),
  record {
    last = r.last;
    runs = record {
      made = m.made + r.runs.made;
      fewer = omega (arith, r.runs.fewer);
      counted = omega (arith, r.runs.counted);
      runs = runs_on m.made r.runs.made a b r.last m.runs r.runs.runs;
      running = r.runs.running;
      places_none = λ x alone. r.runs.places_none x (m.runs.by_itself alone (m.places_none x alone)).alone ∙ m.places_none x alone;
    };
    leaves = r.leaves;
    stops = r.stops;
    ended = r.ended;
    room = r.room;
  },
)

pub forks_next : {Q : Type 0} → (had some left : ℕ) (a b : State) (class : Class) (child c : State) → RunsOn Q had (some + 1) 0 a b → RunsToFork Q some left b class child c →
    (beside : ℕ) × (had ≡ beside + 1) × RunsToFork Q beside left a class child c
forks_next had some left a b class child c m r = (
  some + m.made,
  omega (arith, m.counted),
  record {
    last = r.last;
    runs = record {
      made = m.made + r.runs.made;
      fewer = omega (arith, r.runs.fewer);
      counted = omega (arith, r.runs.counted);
      runs = runs_on m.made r.runs.made a b r.last m.runs r.runs.runs;
      running = r.runs.running;
      places_none = λ x alone. r.runs.places_none x (m.runs.by_itself alone (m.places_none x alone)).alone ∙ m.places_none x alone;
    };
    leaves = r.leaves;
    gives = r.gives;
    sound = r.sound;
    alone = r.alone;
    sums = r.sums;
  },
)

pub stopped_pending : (n : ℕ) (a : Strand) (next : Pending) (b : Strand) → AfterSteps n a (Some next) b → pending_of b.control ≡ Some next
stopped_pending n a pause.Forks b h = absurd h
stopped_pending n a _ b h = h.1

pub leaves_from : (t new : State) (e : Bor Expr) → LeavesOthers t new → LeavesOthers (beginning_in t e) new
leaves_from t new e l = record { program = l.program; own = l.own; lines = l.lines; sums = l.sums; parents = l.parents; start = l.start; place = l.place; frames = l.frames; more = l.more }

pub begins_no_stop : (p : Progress) (e : Bor Expr) (A : Type 0) → p ≡ part.Begin e → OnStops p A
begins_no_stop p e A is = subst (λ x. OnStops x A) (sym is) tt

pub one_step_no_stop : (had left : ℕ) (p : Progress) (t : State) (A : Type 0) → IsOneStep had left p t → OnStops p A
one_step_no_stop had left part.Stops t A h = absurd h
one_step_no_stop had left _ t A h = tt

pub no_stop : (p : Progress) (A : Type 0) → OnStops p ⊥ → OnStops p A
no_stop part.Stops A h = absurd h
no_stop _ A h = tt

-- A state in which nothing has changed but capacities looks the same.
pub same_seen : (old new : State) (placed : List (Box State)) → IsSoundState old → IsSame old new → nested new placed ≡ nested old placed
same_seen old new placed s same =
    let le = start_in old s in
    let t = top_same old new _ _ same le in
    let run : suspended (top new) ≡ suspended (top old) = unchanged_seen (top old) (top new) t in
    let waits = leaves_waiting old new (leaves_same old new _ _ same le) (ap (λ e. e.env) (goes_nowhere (top old) (top new) t).ending) in
    ap (λ r. record (nested new placed) { running = r }) run ∙ ap (λ ps. record (nested new placed) { running = suspended (top old); parents = map suspended ps }) waits
    ∙ ap (λ x. record (nested old placed) { sums = x }) same.sums

pub same_kept : (old new : State) (placed : List (Box State)) → IsKept old placed → IsSame old new → IsKept new placed
same_kept old new placed kept same =
    let le = start_in old kept.sound in
    let t = top_same old new _ _ same le in
    record {
      sound = (runs_top 0 old new kept.sound (leaves_same old new _ _ same le) (goes_nowhere (top old) (top new) t) (locks_unchanged (top old) (top new) t)).sound;
      children = kept.children;
      nested_is = subst IsNested (sym (same_seen old new placed kept.sound same)) kept.nested_is;
      ended = λ e. same.parents ∙ kept.ended (ap pending_of (sym same.control_is) ∙ e);
    }

pub in_both : {X E A B P : Type 0} (r : Result X E) → OnOk r A → OnErr r B → (A → P) → (B → P) → P
in_both (Ok x) a b f g = f a
in_both (Err e) a b f g = g b

pub ok_map : {X E A B : Type 0} (r : Result X E) → OnOk r A → (A → B) → OnOk r B
ok_map (Ok x) h f = f h
ok_map (Err e) h f = tt

-- a property of the result of a part of a step, if the result is known
pub ok_known : {X E A : Type 0} (r : Result X E) (x : X) (P : X → Type 0) → IfOk r (λ p. p ≡ x) → OnOk r A → (A → P x) → IfOk r P
ok_known (Ok p) x P is a f = subst P (sym is) (f a)
ok_known (Err e) x P is a f = tt

-- A part of an expression is begun, with a frame for what comes after it, unless memory was refused.
pub enters : {E : Type 0} (Q : Type 0) (had : ℕ) (t new : State) (e begun : Bor Expr) (tree : Tree) (f : Frame) (r : Result Progress E) → IsSoundState (beginning_in t e) →
    IfOk r (λ p. p ≡ part.Begin begun) → OnOk r (Pushes t new f) → tree_of e.now ≡ tree → forks_of (f ∷ []) ≡ [] → releases (f ∷ []) ≡ [] →
    Opens 1 (source_of t.program.now) (top t).own.name tree t.environment.items (Begin begun) (f ∷ []) → IfOk r (λ p. Comes Q had had (beginning_in t e) p new)
enters Q had t new e begun tree f r s begins ok is forks locks opens =
    ok_known r (part.Begin begun) (λ p. Comes Q had had (beginning_in t e) p new) begins ok (λ pushes. comes_enter Q had t new e begun f s pushes
    (λ on. goes_to_part 1 (beginning (top t) e) (beginning (top new) begun) e begun tree f refl is on forks locks opens))

-- such a property of a fork
fork_known : {A : Type 0} (p : Progress) (class : Class) (S : State → Type 0) (P : Progress → Type 0) → IsForkOf p class S → A → ((child : Box State) → A → S child.value → P (part.Forks class child)) → P p
fork_known (part.Forks given child) class S P is a f = subst (λ k. P (part.Forks k child)) (sym is.0) (f child a is.1)
fork_known _ class S P is a f = absurd is

pub ok_forked : {E A : Type 0} (r : Result Progress E) (class : Class) (S : State → Type 0) (P : Progress → Type 0) → IfOk r (λ p. IsForkOf p class S) → OnOk r A →
    ((child : Box State) → A → S child.value → P (part.Forks class child)) → IfOk r P
ok_forked (Ok p) class S P is a f = fork_known p class S P is a f
ok_forked (Err e) class S P is a f = tt
