-- A state with the children that were handed back to it.
use Rattle.std.proofs.Common.{◌≡◌, ◌≢◌, ◌≤◌, ◌<◌, ◌-◌, get_or, take, length, length-append, ℕ, ◌+◌, List, [], ◌∷◌, ◌++◌, None, Some, Option, refl, ap, sym, ◌∙◌, subst, arith, zero, suc, map, reverse, option_map, slice_get, All, append_assoc}
use Rattle.std.{specs.{Borrow.Bor, Global.Box}, proofs.{lemmas.List.Elements.All-append, Math.Seq.get_or-append_seam}}
use Rattle.std.proofs.lemmas.List.{get_or_append_left, get_or-map, get_or-reverse, length-map, length-reverse, reverse-append, reverse-reverse}
use Rattle.arachne_program.specs.{declared.program.{Program.Program, Class.Class}, Tree.Source, Value.Environment}
use Rattle.arachne_program.specs.{Program.source_of, Effects.tabulated}
use Rattle.arachne_machine.specs.declared.{frame.{Frame.Frame, Control.Control}, line.ThreadLine.ThreadLine}
use Rattle.arachne_machine.specs.declared.{frame.Control.TheVariants.{Awaits, AwaitsHalf, Ended}, state.Own.Own}
use Rattle.arachne_machine.specs.declared.{level.{Parent.Parent, Level.Level}, pause.Pending.Pending, state.State.State}
use Rattle.arachne_machine.specs.{Ending.{ending, here_of, fork_awaited, forks_of}, Suspended.awaited}
use Rattle.arachne_machine.specs.{Strands.{Strand, Fits, own_line, strand_at}, Sound.{AreSound, IsSoundState, RunFor}}
use Rattle.arachne_machine.specs.Steps.{AfterSteps, GoesWithin, LeavesOthers, pending_of, suspended, top, waiting, waiting_in}
use Rattle.arachne_machine.specs.Runs.{Advances, FitsInto, LooksSame, RunsOn, RunsToPause, RunsToFork, TakesIn, work_in_state}
use Rattle.arachne_machine.specs.Nested.{ArePlaced, Await, AwaitsElsewhere, IsPlaced, Placed, work_in, works, works_placed}
use Rattle.arachne_machine.specs.Kept.{AdvancesWith, IsKept, StandsBack, Went, WentToFork, nested, seen_child, seen_children}
use Rattle.arachne_machine.proofs.{Levels.{leaves_waiting, runs_on, sound_top}, Advancing.sound_after, Answering.going}
use Rattle.arachne_machine.proofs.{Tabulated.length-tabulated, Nesting.{name_seen, works_seen}}
use Rattle.arachne_machine.proofs.{Moving.{Programs, programs_waiting}, Going.{runs_nothing, as_is}}
use Rattle.arachne_machine.proofs.{Lasting.{stopped_pending, same_kept, same_seen}, Taking.{taken, unstepped}}
use Rattle.arachne_machine.specs.declared.pause.Pending.TheVariants as pause

-- A state without waiting threads, as callers see it.
none_before : (t : State) (ps : List Parent) → reverse t.parents.items ≡ ps → map suspended (waiting_in t) ≡ [] → t.parents.items ≡ []
none_before t [] e h = sym (reverse-reverse t.parents.items) ∙ ap reverse e
none_before t (q ∷ qs) e h =
    cc (sym (ap (λ ps. map suspended (waiting t.program t.own ps t.lines t.frames.items t.level.start t.level.place (ending (top t)).env)) e) ∙ h)

pub none_parents : (t : State) → map suspended (waiting_in t) ≡ [] → t.parents.items ≡ []
none_parents t h = none_before t (reverse t.parents.items) refl h

none_listed : (ps : List (Box State)) → map seen_child ps ≡ [] → ps ≡ []
none_listed [] h = refl
none_listed (p ∷ ps) h = cc

pub none_placed : (ps : List (Box State)) → seen_children ps ≡ [] → ps ≡ []
none_placed ps h = sym (reverse-reverse ps) ∙ ap reverse (none_listed (reverse ps) h)

-- A child among those that callers see.
pub record SeenAmong (ss : List Placed) (s : Placed) : Type 0 where
  pub place : ℕ
  pub there : place < length ss
  pub is : (d : Placed) → get_or ss place d ≡ s

placed_at : (source : Source) (ss : List Placed) (d : Placed) (k : ℕ) → ArePlaced source ss → k < length ss → source_of (get_or ss k d).running.program ≡ source
placed_at source [] d k h lt = absurd (omega (arith, lt))
placed_at source (s ∷ ss) d zero h lt = h.0.same_source
placed_at source (s ∷ ss) d (suc k) h lt = placed_at source ss d k h.1 (omega (arith, lt))

placed_source : (source : Source) (ss : List Placed) (s : Placed) → ArePlaced source ss → SeenAmong ss s → source_of s.running.program ≡ source
placed_source source ss s h among = subst (λ x. source_of x.running.program ≡ source) (among.is s) (placed_at source ss s among.place h among.there)

-- The newest of the children.
pub newest_seen : (rest : List (Box State)) (child : Box State) → seen_children (rest ++ child ∷ []) ≡ seen_child child ∷ seen_children rest
newest_seen rest child = ap (map seen_child) (reverse-append rest (child ∷ []))

-- A state that looks the same is as sound.
pub record Looks (old new : State) : Type 0 where
  pub sound : IsSoundState new
  pub top_is : top new ≡ top old
  pub waits : waiting_in new ≡ waiting_in old

looks_strand : (program : Bor Program) (own own' : Own) (ps : List Parent) (lines : List ThreadLine) (level : Level) (env : Environment) (frames : List Frame) (k : Control) → own_line own' ≡ own_line own →
    strand_at program own' ps lines level env frames k ≡ strand_at program own ps lines level env frames k
looks_strand program own own' [] lines level env frames k e =
    ap (λ x. record (strand_at program own [] lines level env frames k) { own = record { name = x.name; label = record { tag = x.tag; ran = x.ran }; holds = x.holds } }) e
looks_strand program own own' (p ∷ ps) lines level env frames k e = refl

looks_waiting : (program : Bor Program) (own own' : Own) (ps : List Parent) (lines : List ThreadLine) (frames : List Frame) (start place : ℕ) (env : Environment) → own_line own' ≡ own_line own →
    waiting program own' ps lines frames start place env ≡ waiting program own ps lines frames start place env
looks_waiting program own own' [] lines frames start place env e = refl
looks_waiting program own own' (p ∷ ps) lines frames start place env e =
    let t = strand_at program own ps (take place lines) p.level env (take start frames) p.control in
    ap (λ u. u ∷ waiting program own' ps (take place lines) (take start frames) p.level.start p.level.place (ending u).env)
    (looks_strand program own own' ps (take place lines) p.level env (take start frames) p.control e)
    ∙ ap (λ ts. t ∷ ts) (looks_waiting program own own' ps (take place lines) (take start frames) p.level.start p.level.place (ending t).env e)

looks_top : (old new : State) → LooksSame old new → top new ≡ top old
looks_top old new l =
    ap (λ x. strand_at x new.own (reverse new.parents.items) new.lines new.level new.environment.items new.frames.items new.control) l.program
    ∙ looks_strand old.program old.own new.own (reverse new.parents.items) new.lines new.level new.environment.items new.frames.items new.control l.own
    ∙ ap (λ x. strand_at old.program old.own (reverse x) new.lines new.level new.environment.items new.frames.items new.control) l.parents
    ∙ ap (λ x. strand_at old.program old.own (reverse old.parents.items) x new.level new.environment.items new.frames.items new.control) l.lines
    ∙ ap (λ x. strand_at old.program old.own (reverse old.parents.items) old.lines x new.environment.items new.frames.items new.control) l.level
    ∙ ap (λ x. strand_at old.program old.own (reverse old.parents.items) old.lines old.level x new.frames.items new.control) l.environment
    ∙ ap (λ x. strand_at old.program old.own (reverse old.parents.items) old.lines old.level old.environment.items x new.control) l.frames
    ∙ ap (λ x. strand_at old.program old.own (reverse old.parents.items) old.lines old.level old.environment.items old.frames.items x) l.control

looks_waits : (old new : State) → LooksSame old new → waiting_in new ≡ waiting_in old
looks_waits old new l =
    ap (λ t. waiting new.program new.own (reverse new.parents.items) new.lines new.frames.items new.level.start new.level.place (ending t).env) (looks_top old new l)
    ∙ ap (λ x. waiting x new.own (reverse new.parents.items) new.lines new.frames.items new.level.start new.level.place (ending (top old)).env) l.program
    ∙ looks_waiting old.program old.own new.own (reverse new.parents.items) new.lines new.frames.items new.level.start new.level.place (ending (top old)).env l.own
    ∙ ap (λ x. waiting old.program old.own (reverse x) new.lines new.frames.items new.level.start new.level.place (ending (top old)).env) l.parents
    ∙ ap (λ x. waiting old.program old.own (reverse old.parents.items) x new.frames.items new.level.start new.level.place (ending (top old)).env) l.lines
    ∙ ap (λ x. waiting old.program old.own (reverse old.parents.items) old.lines x new.level.start new.level.place (ending (top old)).env) l.frames
    ∙ ap (λ x. waiting old.program old.own (reverse old.parents.items) old.lines old.frames.items x.start x.place (ending (top old)).env) l.level

pub looks_sound : (old new : State) → IsSoundState old → LooksSame old new → Looks old new
looks_sound old new s l =
    let top_is = looks_top old new l in
    let waits = looks_waits old new l in
    record {
      sound = record {
        sums_of = s.sums_of;
        sums = l.sums ∙ subst (λ p. old.sums.items ≡ tabulated (source_of p.now).ledgers s.sums_of) (sym l.program) s.sums;
        sound = subst (λ t. AreSound (t ∷ waiting_in new) s.sums_of) (sym top_is) (subst (λ ts. AreSound (top old ∷ ts) s.sums_of) (sym waits) s.sound);
        run_for = subst (λ t. RunFor t (waiting_in new)) (sym top_is) (subst (RunFor (top old)) (sym waits) s.run_for);
        fits = subst (λ ps. Fits (reverse ps) new.level.start new.level.place (length new.frames.items) (length new.lines)) (sym l.parents)
            (subst (λ v. Fits (reverse old.parents.items) v.start v.place (length new.frames.items) (length new.lines)) (sym l.level)
            (subst (λ fs. Fits (reverse old.parents.items) old.level.start old.level.place (length fs) (length new.lines)) (sym l.frames)
            (subst (λ ls. Fits (reverse old.parents.items) old.level.start old.level.place (length old.frames.items) (length ls)) (sym l.lines) s.fits)));
        few = omega (arith, s.few, ap length l.lines);
      };
      top_is = top_is;
      waits = waits;
    }

-- the view that callers have of such a state
pub looks_nested : (old new : State) → LooksSame old new → Looks old new → (ps : List (Box State)) → nested new ps ≡ nested old ps
looks_nested old new l looks ps =
    ap (λ t. record (nested new ps) { running = suspended t }) looks.top_is
    ∙ ap (λ ts. record (nested new ps) { running = suspended (top old); parents = map suspended ts }) looks.waits
    ∙ ap (λ x. record (nested old ps) { sums = x }) l.sums

pub looks_child : (old new : Box State) → Looks old.value new.value → seen_child new ≡ seen_child old
looks_child old new looks =
    ap (λ t. record (seen_child new) { running = suspended t }) looks.top_is ∙ ap (λ ts. record (seen_child old) { parents = map suspended ts }) looks.waits

-- All of these, and one of them.
all_left : {X : Type 0} (P : X → Type 0) (xs ys : List X) → All P (xs ++ ys) → All P xs
all_left P xs ys h = λ k d lt. subst P (get_or_append_left xs ys d k lt) (h k d (omega (arith, lt, length-append xs ys)))

all_last : {X : Type 0} (P : X → Type 0) (xs : List X) (x : X) → All P (xs ++ x ∷ []) → P x
all_last P xs x h = subst P (get_or-append_seam xs x [] x) (h (length xs) x (omega (arith, length-append xs (x ∷ []))))

pub all_one : {X : Type 0} (P : X → Type 0) (x : X) → P x → All P (x ∷ [])
all_one P x p zero d lt = p
all_one P x p (suc k) d lt = absurd (omega (arith, lt))

abbrev Sound : Box State → Type 0
Sound child = IsSoundState child.value

-- The threads that wait are of one program, and each awaits the one before it.
joins_then : (k : Control) (n : ℕ) → fork_awaited k ≡ n ∷ [] → pending_of k ≡ Some pause.Joins
joins_then (Awaits number during next) n e = refl
joins_then (AwaitsHalf number right reduction) n e = refl
joins_then _ n e = cc

await_all : (t : Strand) (ts : List Strand) → RunFor t ts → Programs t.program ts → Await (suspended t) (map suspended ts)
await_all t [] h p = tt
await_all t (u ∷ us) h p = (
  record {
    joins = joins_then u.control h.0.number h.0.awaits;
    of_child = ap (λ l. option_map (λ number. u.own.name ++ number ∷ []) (slice_get (l ++ forks_of u.frames) 0)) h.0.awaits ∙ ap Some (sym h.0.named);
    same_source = ap (λ q. source_of q.now) (sym p.0);
    in_place = h.0.in_place;
  },
  await_all u us h.1 (subst (λ q. Programs q us) (sym p.0) p.1),
)

-- A sound state with sound children that may run here is kept.
pub kept_sound : (t : State) (qs : List (Box State)) → IsSoundState t → All (λ child. IsSoundState child.value) qs → ArePlaced (source_of t.program.now) (seen_children qs) →
    (pending_of t.control ≡ Some pause.Ended → t.parents.items ≡ []) → IsKept t qs
kept_sound t qs s children placed ended = record {
  sound = s;
  children = children;
  nested_is = record {
    awaiting = await_all (top t) (waiting_in t) s.run_for
        (programs_waiting t.program t.own (reverse t.parents.items) t.lines t.frames.items t.level.start t.level.place (ending (top t)).env);
    waiting = placed;
  };
  ended = ended;
}

pub work_seen : (t : State) (qs : List (Box State)) → work_in (nested t qs) ≡ work_in_state t + works_placed (seen_children qs)
work_seen t qs = omega (arith, works_seen (waiting_in t))

-- The newest child.
record Newest (t : State) (ps qs : List (Box State)) (child : Box State) : Type 0 where
  seen : seen_children ps ≡ seen_child child ∷ seen_children qs
  sound : IsSoundState child.value
  others : All (λ c. IsSoundState c.value) qs
  source : source_of child.value.program.now ≡ source_of t.program.now
  placed : IsPlaced (source_of t.program.now) (seen_child child)
  rest : ArePlaced (source_of t.program.now) (seen_children qs)

newest_of : (t : State) (ps qs : List (Box State)) (child : Box State) → IsKept t ps → ps ≡ qs ++ child ∷ [] → Newest t ps qs child
newest_of t ps qs child kept is =
    let seen = ap seen_children is ∙ newest_seen qs child in
    let all = subst (λ l. All (λ c. IsSoundState c.value) l) is kept.children in
    let placed = subst (ArePlaced (source_of t.program.now)) seen kept.nested_is.waiting in
    record {
      seen = seen;
      sound = all_last Sound qs child all;
      others = all_left Sound qs (child ∷ []) all;
      source = placed.0.same_source;
      placed = placed.0;
      rest = placed.1;
    }

-- The newest child is taken up.
pub record Up (old : State) (ps : List (Box State)) (child : Box State) (new : State) (qs : List (Box State)) : Type 0 where
  pub kept : IsKept new qs
  pub work : work_in (nested new qs) ≡ work_in (nested old ps)
  pub seen : seen_children ps ≡ seen_child child ∷ seen_children qs
  pub pending : pending_of new.control ≡ None

pub taken_up : (old new : State) (ps qs : List (Box State)) (child : Box State) → IsKept old ps → ps ≡ qs ++ child ∷ [] → pending_of old.control ≡ Some pause.Joins →
    awaited (suspended (top old)) ≡ Some child.value.own.name → TakesIn old child.value new → Up old ps child new qs
taken_up old new ps qs child kept is joins of_child takes =
    let n = newest_of old ps qs child kept is in
    let t = taken old child.value new kept.sound n.sound n.source joins of_child takes in
    record {
      kept = kept_sound new qs t.sound n.others (subst (λ p. ArePlaced (source_of p.now) (seen_children qs)) (sym takes.program) n.rest) (going new (ap pending_of takes.control_is ∙ n.placed.not_paused));
      work = omega (arith, t.work, work_seen new qs, work_seen old ps, works_seen (waiting_in child.value), ap works_placed n.seen);
      seen = n.seen;
      pending = ap pending_of takes.control_is ∙ n.placed.not_paused;
    }

-- Memory was refused, and the thread stands before the step in which it began to await that child.
pub record Back (old : State) (ps : List (Box State)) (new : State) (qs : List (Box State)) : Type 0 where
  pub kept : IsKept new qs
  pub program : new.program ≡ old.program
  pub own : new.own ≡ old.own
  pub work : work_in (nested new qs) ≡ work_in (nested old ps) + 1
  pub seen : seen_children qs ≡ seen_children ps
  pub pending : pending_of new.control ≡ None

pub stood_back : (old new : State) (ps qs : List (Box State)) → IsKept old ps → StandsBack old ps new qs → Back old ps new qs
stood_back old new ps qs kept b =
    let n = newest_of old ps b.rest b.child kept b.were in
    let mid = same_kept old b.mid ps kept b.same in
    let u = unstepped b.mid new mid.sound b.stands in
    let looks = looks_sound b.child.value b.back.value n.sound b.looks in
    let program : new.program ≡ old.program = u.leaves.program ∙ b.same.program in
    let seen : seen_children qs ≡ seen_child b.child ∷ seen_children b.rest = ap seen_children b.are ∙ newest_seen b.rest b.back ∙ ap (λ s. s ∷ seen_children b.rest) (looks_child b.child b.back looks) in
    let one : All (λ c. IsSoundState c.value) (b.back ∷ []) = all_one Sound b.back looks.sound in
    let whole : work_in (nested b.mid ps) ≡ work_in (nested old ps) = ap work_in (same_seen old b.mid ps kept.sound b.same) in
    record {
      kept = kept_sound new qs u.sound (subst (λ l. All (λ c. IsSoundState c.value) l) (sym b.are) (All-append Sound b.rest (b.back ∷ []) n.others one))
          (subst (ArePlaced (source_of new.program.now)) (sym seen)
          (subst (λ p. ArePlaced (source_of p.now) (seen_child b.child ∷ seen_children b.rest)) (sym program) (n.placed, n.rest))) (going new u.pending);
      program = program;
      own = u.leaves.own ∙ b.same.own;
      work = omega (arith, whole, u.work, ap works (ap (map suspended) u.waits), ap works_placed seen, ap works_placed n.seen);
      seen = seen ∙ sym n.seen;
      pending = u.pending;
    }

-- The awaited child is not the newest.
elsewhere_at : (t : State) (qs cs : List (Box State)) → reverse qs ≡ cs →
    ((rest : List (Box State)) (child : Box State) → qs ≡ rest ++ child ∷ [] → awaited (suspended (top t)) ≢ Some child.value.own.name) →
    AwaitsElsewhere (suspended (top t)) (map seen_child cs)
elsewhere_at t qs [] e other = tt
elsewhere_at t qs (c ∷ cs) e other =
    let is : qs ≡ reverse cs ++ c ∷ [] = sym (reverse-reverse qs) ∙ ap reverse e ∙ reverse-append (c ∷ []) cs in
    λ awaits. other (reverse cs) c is (awaits ∙ ap Some (name_seen c.value []))

pub awaits_elsewhere : (t : State) (qs : List (Box State)) →
    ((rest : List (Box State)) (child : Box State) → qs ≡ rest ++ child ∷ [] → awaited (suspended (top t)) ≢ Some child.value.own.name) → AwaitsElsewhere (suspended (top t)) (seen_children qs)
awaits_elsewhere t qs other = elsewhere_at t qs (reverse qs) refl other

seen_at : (qs : List (Box State)) (k : ℕ) (d : Box State) → k < length qs → SeenAmong (seen_children qs) (seen_child (get_or qs k d))
seen_at qs k d lt =
    let long = length-reverse qs in
    let back : length qs - 1 - (length qs - 1 - k) ≡ k = omega (arith, lt) in
    record {
      place = length qs - 1 - k;
      there = omega (arith, lt, length-map (reverse qs) seen_child, long);
      is = λ e. get_or-map seen_child (reverse qs) (length qs - 1 - k) d e (omega (arith, lt, long)) ∙ ap seen_child (get_or-reverse qs (length qs - 1 - k) d (omega (arith, lt)) ∙ ap (λ n. get_or qs n d) back);
    }

pub fits_into : (t child : State) → IsSoundState t → IsSoundState child → source_of child.program.now ≡ source_of t.program.now → FitsInto t child
fits_into t child s c source = record {
  sums = ap length c.sums ∙ length-tabulated (source_of child.program.now).ledgers c.sums_of ∙ ap (λ x. x.ledgers) source
      ∙ sym (ap length s.sums ∙ length-tabulated (source_of t.program.now).ledgers s.sums_of);
  fits = c.fits;
}

pub all_fit : (t : State) (qs : List (Box State)) → IsKept t qs → All (λ child. FitsInto t child.value) qs
all_fit t qs kept = λ k d lt.
    let c = get_or qs k d in
    fits_into t c.value kept.sound (kept.children k d lt) (placed_source (source_of t.program.now) (seen_children qs) (seen_child c) kept.nested_is.waiting (seen_at qs k d lt))

-- A state that pauses is still kept.
pub record Paused (last new : State) (qs : List (Box State)) : Type 0 where
  pub kept : IsKept new qs
  pub work : work_in (nested new qs) + 1 ≡ work_in (nested last qs)
  pub waits : waiting_in new ≡ waiting_in last
  pub forks : (top new).forks ≡ (top last).forks
  pub own : (top new).own ≡ (top last).own
  pub here : here_of (top new) ≡ here_of (top last)

stops_within : (n : ℕ) (a : Strand) (next : Pending) (b : Strand) → AfterSteps n a (Some next) b → GoesWithin 1 n a b
stops_within n a pause.Forks b h = absurd h
stops_within n a _ b h = h.0

pub paused : (last new : State) (qs : List (Box State)) (next : Pending) → IsKept last qs → LeavesOthers last new → (next ≡ pause.Ended → new.parents.items ≡ []) → AfterSteps 1 (top last) (Some next) (top new) →
    Paused last new qs
paused last new qs next kept l ended stops =
    let w = stops_within 1 (top last) next (top new) stops in
    let g = w.goes in
    let one : w.made ≡ 1 = omega (arith, w.at_least, w.at_most) in
    let env = ap (λ e. e.env) g.ending in
    let waits = leaves_waiting last new l env in
    record {
      kept = kept_sound new qs (sound_top last new kept.sound l env g.own (λ account sound. (account, sound_after 1 (top last) (top new) (Some next) account sound stops, λ ledger. refl))) kept.children
          (subst (λ p. ArePlaced (source_of p.now) (seen_children qs)) (sym l.program) kept.nested_is.waiting)
          (λ e. ended (cc (sym (stopped_pending 1 (top last) next (top new) stops) ∙ e)));
      work = omega (arith, g.work, one, ap works (ap (map suspended) waits));
      waits = waits;
      forks = g.forks;
      own = g.own;
      here = g.here;
    }

-- Steps of a state with children.
pub went_nothing : {Q : Type 0} → (had : ℕ) (t : State) (ps : List (Box State)) → IsKept t ps → pending_of t.control ≡ None → Went Q had had t ps t ps
went_nothing had t ps kept running = record {
  made = 0;
  fewer = omega arith;
  counted = omega arith;
  kept = kept;
  program = refl;
  own = refl;
  work = omega arith;
  running = running;
  rest = ([], refl);
  by_itself = λ none. (none, runs_nothing had t t kept.sound (as_is t) running);
}

pub went_on : {Q : Type 0} → (had some most left : ℕ) (a b c : State) (ps qs : List (Box State)) → (w : Went Q had some a ps b qs) → RunsOn Q most left 0 b c → most ≤ some → Went Q (most + w.made) left a ps c qs
went_on had some most left a b c ps qs w r less =
    let work = r.runs.work in
    record {
      made = w.made + r.made;
      fewer = omega (arith, r.fewer);
      counted = omega (arith, r.counted);
      kept = kept_sound c qs r.runs.sound w.kept.children (subst (λ p. ArePlaced (source_of p.now) (seen_children qs)) (sym r.runs.program) w.kept.nested_is.waiting) (going c r.running);
      program = r.runs.program ∙ w.program;
      own = r.runs.own ∙ w.own;
      work = omega (arith, w.work, work, work_seen c qs, work_seen b qs);
      running = r.running;
      rest = w.rest;
      by_itself = λ none.
          let before = w.by_itself none in
          let m = before.1 in (
            before.0,
            record {
              made = m.made + r.made;
              fewer = omega (arith, r.fewer);
              counted = omega (arith, r.counted, m.counted, w.counted);
              runs = runs_on m.made r.made a b c m.runs r.runs;
              running = r.running;
              places_none = λ x alone. r.places_none x (m.runs.by_itself alone (m.places_none x alone)).alone ∙ m.places_none x alone;
            },
          );
    }

-- As before, if as many steps are left as there were.
pub went_all : {Q : Type 0} → (had some left : ℕ) (a b c : State) (ps qs : List (Box State)) → Went Q had some a ps b qs → RunsOn Q some left 0 b c → Went Q had left a ps c qs
went_all {Q} had some left a b c ps qs w r =
    let all : some + w.made ≡ had = w.counted in
    subst (λ n. Went Q n left a ps c qs) all (went_on had some some left a b c ps qs w r (omega arith))

some_child : (qs : List (Box State)) (child : Box State) → qs ++ child ∷ [] ≡ [] → ⊥
some_child [] child e = cc
some_child (q ∷ qs) child e = cc

-- The innermost thread began to await the newest child, which goes on in its place.
pub went_up : {Q : Type 0} → (had some left : ℕ) (a b c d : State) (ps qs rs : List (Box State)) (child : Box State) → Went Q had some a ps b qs → (beside : ℕ) → some ≡ beside + 1 →
    RunsToPause Q beside left b pause.Joins c → qs ≡ rs ++ child ∷ [] → awaited (suspended (top c)) ≡ Some child.value.own.name → TakesIn c child.value d → pending_of c.control ≡ Some pause.Joins →
    Went Q had left a ps d rs
went_up had some left a b c d ps qs rs child w beside one r is of_child takes joins =
    let last = went_on had some beside left a b r.last ps qs w r.runs (omega (arith, one)) in
    let at = paused r.last c qs pause.Joins last.kept r.leaves r.ended r.stops in
    let up = taken_up c d qs rs child at.kept is joins of_child takes in
    record {
      made = last.made + 1;
      fewer = omega (arith, last.counted, w.counted, one);
      counted = omega (arith, last.counted, w.counted, one);
      kept = up.kept;
      program = takes.program ∙ r.leaves.program ∙ last.program;
      own = takes.own ∙ r.leaves.own ∙ last.own;
      work = omega (arith, last.work, at.work, up.work);
      running = up.pending;
      rest = (w.rest.0 ++ seen_child child ∷ [], w.rest.1 ∙ ap (λ l. w.rest.0 ++ l) up.seen ∙ sym (append_assoc w.rest.0 (seen_child child ∷ []) (seen_children rs)));
      by_itself = λ none. absurd (some_child rs child (sym is ∙ (w.by_itself none).0));
    }

pub went_back : {Q : Type 0} → (had some left : ℕ) (a b c d : State) (ps qs rs : List (Box State)) → Went Q had some a ps b qs → (beside : ℕ) → some ≡ beside + 1 →
    RunsToPause Q beside left b pause.Joins c → StandsBack c qs d rs → Went Q had (left + 1) a ps d rs
went_back had some left a b c d ps qs rs w beside one r back =
    let last = went_on had some beside left a b r.last ps qs w r.runs (omega (arith, one)) in
    let at = paused r.last c qs pause.Joins last.kept r.leaves r.ended r.stops in
    let b' = stood_back c d qs rs at.kept back in
    record {
      made = last.made;
      fewer = omega (arith, last.counted, w.counted, one);
      counted = omega (arith, last.counted, w.counted, one);
      kept = b'.kept;
      program = b'.program ∙ r.leaves.program ∙ last.program;
      own = b'.own ∙ r.leaves.own ∙ last.own;
      work = omega (arith, last.work, at.work, b'.work);
      running = b'.pending;
      rest = (w.rest.0, w.rest.1 ∙ ap (λ l. w.rest.0 ++ l) (sym b'.seen));
      by_itself = λ none. absurd (some_child back.rest back.child (sym back.were ∙ (w.by_itself none).0));
    }

pub advanced_kept : {Q : Type 0} → (had some left : ℕ) (a b c : State) (ps qs : List (Box State)) (next : Option Pending) → Went Q had some a ps b qs → Advances Q some left b None next c → IsKept c qs
advanced_kept had some left a b c ps qs None w r = (went_all had some left a b c ps qs w r.0).kept
advanced_kept had some left a b c ps qs (Some next) w r =
    (paused r.2.last c qs next (went_on had some r.0 left a b r.2.last ps qs w r.2.runs (omega (arith, r.1))).kept r.2.leaves r.2.ended r.2.stops).kept

-- The thread pauses, or has made all steps.
pub went_paused : (Q : Type 0) → (had some left : ℕ) (a b c : State) (ps qs : List (Box State)) (next : Option Pending) → Went Q had some a ps b qs → Advances Q some left b None next c → next ≡ pending_of c.control →
    (pending_of c.control ≡ Some pause.Joins → (rest : List (Box State)) (child : Box State) → qs ≡ rest ++ child ∷ [] → awaited (suspended (top c)) ≢ Some child.value.own.name) →
    AdvancesWith Q had left a ps None next c qs
went_paused Q had some left a b c ps qs None w r is other =
    (went_all had some left a b c ps qs w r.0, r.1)
went_paused Q had some left a b c ps qs (Some next) w r is other =
    let last = went_on had some r.0 left a b r.2.last ps qs w r.2.runs (omega (arith, r.1)) in (
      r.0 + w.made,
      omega (arith, r.1, w.counted),
      record {
        last = r.2.last;
        went = last;
        leaves = r.2.leaves;
        stops = r.2.stops;
        ended = r.2.ended;
        elsewhere = λ joins. awaits_elsewhere c qs (other (sym is ∙ ap Some joins));
      },
    )

pub went_forked : {Q : Type 0} → (had some left : ℕ) (a b c : State) (ps qs : List (Box State)) (class : Class) (child : State) → Went Q had some a ps b qs → (beside : ℕ) → some ≡ beside + 1 →
    RunsToFork Q beside left b class child c → (beside' : ℕ) × (had ≡ beside' + 1) × WentToFork Q beside' left a ps class child c qs
went_forked had some left a b c ps qs class child w beside one r = (
  beside + w.made,
  omega (arith, one, w.counted),
  record {
    last = r.last;
    went = went_on had some beside left a b r.last ps qs w r.runs (omega (arith, one));
    leaves = r.leaves;
    gives = r.gives;
    sound = r.sound;
    alone = r.alone;
    sums = r.sums;
  },
)
