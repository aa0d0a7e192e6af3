-- The view that callers have of an advance.
use Rattle.std.proofs.Common.{◌≡◌, ◌-◌, ◌≤◌, ℕ, ◌+◌, List, [], ◌∷◌, ◌++◌, None, Some, Option, refl, ap, sym, ◌∙◌, subst, arith, map, option_map, slice_get}
use Rattle.std.specs.Global.{Box}
use Rattle.arachne_program.specs.{declared.program.Class.Class, Program.source_of, Checked.IsChecked, Meaning.child_of}
use Rattle.arachne_program.specs.Effects.{Child, tabulated}
use Rattle.arachne_machine.specs.declared.{pause.{Pending.Pending, Pause.Pause}, state.State.State}
use Rattle.arachne_machine.specs.{Account.with_fork, Ending.{unjoined_of, work_left}, Suspended.IsFresh, Work.task_work}
use Rattle.arachne_machine.specs.{Steps.{pending_of, suspended, task_begun, top, waiting_in}, Trace.{At, task_trace}}
use Rattle.arachne_machine.{specs.Runs.{IsByItself, RunsOn, last_of, outermost_in}, proofs.Advancing.advanced_seen}
use Rattle.arachne_machine.specs.Nested.{ArePlaced, FallsBy, outermost, IsAlone, IsRest, SameWhole, Stops, whole, work_in, works}
use Rattle.arachne_machine.specs.Advance.{Advanced, AdvancedAlone, AwaitsAt, IsCharged, IsSpentAt, Moves, PausesAt, PlacesNone, RefusedAlone, pause_at, pause_seen}
use Rattle.arachne_machine.specs.Kept.{AdvancesWith, IsKept, Went, WentToFork, WentToPause, nested, seen_children}
use Rattle.arachne_machine.proofs.Soundness.{fork_has_task, forked_seen, gives_after, goes_then_stops, same_thread, sound_fork, with_fork-sums}
use Rattle.arachne_machine.proofs.Levels.{alone_waiting, last_same, leaves_waiting, sound_top}
use Rattle.arachne_machine.proofs.{Nesting.{pauses_seen, program_seen, same_whole, whole_seen}, Lasting.stopped_pending}
use Rattle.arachne_machine.proofs.Handed.{kept_sound, none_parents, none_placed, paused}
use Rattle.arachne_machine.specs.declared.pause.Pending.TheVariants as pause
use Rattle.arachne_machine.specs.declared.pause.Pause.TheVariants as pauses

-- a thread in whose place no other runs stays so
all_alone : {Q : Type 0} → {had left : ℕ} → {old new : State} → {ps qs : List (Box State)} → Went Q had left old ps new qs → IsAlone (nested old ps) → (qs ≡ []) × RunsOn Q had left 0 old new
all_alone w alone = w.by_itself (none_placed _ alone.1)

-- The view that callers have of an advance, given the pause that it returns.
pub record Shown (Q : Type 0) (had left : ℕ) (old : State) (ps : List (Box State)) (gives : Pause) (new : State) (qs : List (Box State)) : Type 0 where
  pub kept : IsKept new qs
  pub moves : Moves had (nested old ps) gives (nested new qs)
  pub spent : IsSpentAt gives had left
  pub charged : IsCharged had left (nested old ps) gives (nested new qs)
  pub rest : IsRest (seen_children ps) (seen_children qs)
  pub elsewhere : AwaitsAt gives (nested new qs)
  pub within : IsChecked (source_of old.program.now) → PausesAt gives (suspended (top new))
  pub alone : IsAlone (nested old ps) → PlacesNone (nested old ps) gives (nested new qs) → AdvancedAlone had (nested old ps) gives (nested new qs)
  pub everywhere : Q → IsAlone (nested old ps) → PlacesNone (nested old ps) gives (nested new qs)
  pub sums : seen_children ps ≡ [] → new.sums.items ≡ old.sums.items

by_itself : (t : State) (ps : List (Box State)) → IsAlone (nested t ps) → IsByItself t
by_itself t ps alone = record { parents = none_parents t alone.0; here = alone.2 }

whole_forks : (t : State) (ps : List (Box State)) → (whole (nested t ps)).forks ≡ (outermost_in t).forks
whole_forks t ps = ap (λ s. s.forks) (whole_seen t ps)

alone_forks : (t : State) → t.parents.items ≡ [] → (outermost_in t).forks ≡ (top t).forks
alone_forks t none = ap (λ ts. (last_of (top t) ts).forks) (alone_waiting t none)

alone_nested : (t : State) (qs : List (Box State)) → qs ≡ [] → IsByItself t → IsAlone (nested t qs)
alone_nested t qs none by = (ap (map suspended) (alone_waiting t by.parents), ap seen_children none, by.here)

-- all steps are made
shown_budget : (Q : Type 0) (had left : ℕ) (old new : State) (ps qs : List (Box State)) → Went Q had left old ps new qs → left ≡ 0 → Shown Q had left old ps pauses.Budget new qs
shown_budget Q had left old new ps qs w none_left = record {
  kept = w.kept;
  moves = (same_whole old new ps qs w.program w.own, w.running, omega (arith, w.work, w.counted, none_left));
  spent = none_left;
  charged = omega (arith, w.work, w.counted, none_left);
  rest = w.rest;
  elsewhere = tt;
  within = λ checked. tt;
  alone = λ alone places.
      let b = all_alone w alone in
      let r = b.1 in
      let g = r.runs.by_itself (by_itself old ps alone) (sym (whole_forks new qs) ∙ places ∙ whole_forks old ps) in
      let all : r.made ≡ had = omega (arith, r.counted, none_left) in
      record {
        does = subst (λ n. Advanced n (suspended (top old)) pauses.Budget (suspended (top new))) all (advanced_seen r.made (top old) (top new) None (g.goes, r.running, g.locks));
        alone = alone_nested new qs b.0 g.alone;
        sums = r.runs.sums;
        holds = ap (λ o. o.holds) g.goes.own;
      };
  everywhere = λ q alone. whole_forks new qs ∙ (w.by_itself (none_placed ps alone.1)).1.places_none q (by_itself old ps alone) ∙ sym (whole_forks old ps);
  sums = λ none. (w.by_itself (none_placed ps none)).1.runs.sums;
}

-- it pauses
record ShownPause (Q : Type 0) (had left : ℕ) (old : State) (ps : List (Box State)) (next : Pending) (new : State) (qs : List (Box State)) : Type 0 where
  kept : IsKept new qs
  stops : Stops had (nested old ps) (nested new qs) next
  charged : work_in (nested new qs) + had ≡ work_in (nested old ps) + left
  within : IsChecked (source_of old.program.now) → PausesAt pauses.Joins (suspended (top new))
  alone : IsAlone (nested old ps) → (whole (nested new qs)).forks ≡ (whole (nested old ps)).forks → AdvancedAlone had (nested old ps) (pause_at (Some next)) (nested new qs)
  everywhere : Q → IsAlone (nested old ps) → (whole (nested new qs)).forks ≡ (whole (nested old ps)).forks
  sums : seen_children ps ≡ [] → new.sums.items ≡ old.sums.items

shown_stop : (Q : Type 0) (had beside left : ℕ) (old new : State) (ps qs : List (Box State)) (next : Pending) → had ≡ beside + 1 → WentToPause Q beside left old ps next new qs → ShownPause Q had left old ps next new qs
shown_stop Q had beside left old new ps qs next one p =
    let last = p.last in
    let w = p.went in
    let l = p.leaves in
    let at = paused last new qs next w.kept l p.ended p.stops in
    let forks : (outermost_in new).forks ≡ (outermost_in last).forks =
    ap (λ ts. (last_of (top new) ts).forks) at.waits ∙ last_same (top new) (top last) (waiting_in last) at.forks in
    record {
      kept = at.kept;
      stops = record {
        same = same_whole old new ps qs (l.program ∙ w.program) (l.own ∙ w.own);
        pending = stopped_pending 1 (top last) next (top new) p.stops;
        work = record { made = w.made + 1; at_least = omega arith; at_most = omega (arith, w.counted, one); left = omega (arith, w.work, at.work) };
      };
      charged = omega (arith, w.work, at.work, w.counted, one);
      within = λ checked. pauses_seen new at.kept.sound (subst (λ p. IsChecked (source_of p.now)) (sym (l.program ∙ w.program)) checked);
      alone = λ alone places.
          let b = all_alone w alone in
          let r = b.1 in
          let g = r.runs.by_itself (by_itself old ps alone) (sym forks ∙ sym (whole_forks new qs) ∙ places ∙ whole_forks old ps) in
          record {
            does = advanced_seen had (top old) (top new) (Some next) (goes_then_stops r.made 1 had (top old) (top last) (top new) next g.goes g.locks p.stops (omega (arith, r.counted, one)));
            alone = alone_nested new qs b.0 (record { parents = l.parents ∙ g.alone.parents; here = at.here ∙ g.alone.here });
            sums = l.sums ∙ r.runs.sums;
            holds = ap (λ o. o.holds) (at.own ∙ g.goes.own);
          };
      everywhere = λ q alone. whole_forks new qs ∙ forks ∙ (w.by_itself (none_placed ps alone.1)).1.places_none q (by_itself old ps alone) ∙ sym (whole_forks old ps);
      sums = λ none. l.sums ∙ (w.by_itself (none_placed ps none)).1.runs.sums;
    }

shown_pause : (Q : Type 0) (had beside left : ℕ) (old new : State) (ps qs : List (Box State)) (next : Pending) → had ≡ beside + 1 → WentToPause Q beside left old ps next new qs →
    Shown Q had left old ps (pause_at (Some next)) new qs
shown_pause Q had beside left old new ps qs pause.Forks one p = absurd p.stops
shown_pause Q had beside left old new ps qs pause.Joins one p =
    let s = shown_stop Q had beside left old new ps qs pause.Joins one p in
    record { kept = s.kept; moves = s.stops; spent = omega (arith, p.went.fewer, one); charged = omega (arith, s.charged); rest = p.went.rest; elsewhere = p.elsewhere refl; within = s.within; alone = s.alone; everywhere = s.everywhere; sums = s.sums }
shown_pause Q had beside left old new ps qs (pause.Asks lock) one p =
    let s = shown_stop Q had beside left old new ps qs (pause.Asks lock) one p in
    record { kept = s.kept; moves = s.stops; spent = omega (arith, p.went.fewer, one); charged = omega (arith, s.charged); rest = p.went.rest; elsewhere = tt; within = s.within; alone = s.alone; everywhere = s.everywhere; sums = s.sums }
shown_pause Q had beside left old new ps qs (pause.Frees lock) one p =
    let s = shown_stop Q had beside left old new ps qs (pause.Frees lock) one p in
    record { kept = s.kept; moves = s.stops; spent = omega (arith, p.went.fewer, one); charged = omega (arith, s.charged); rest = p.went.rest; elsewhere = tt; within = s.within; alone = s.alone; everywhere = s.everywhere; sums = s.sums }
shown_pause Q had beside left old new ps qs (pause.Tallies ledger amount) one p =
    let s = shown_stop Q had beside left old new ps qs (pause.Tallies ledger amount) one p in
    record { kept = s.kept; moves = s.stops; spent = omega (arith, p.went.fewer, one); charged = omega (arith, s.charged); rest = p.went.rest; elsewhere = tt; within = s.within; alone = s.alone; everywhere = s.everywhere; sums = s.sums }
shown_pause Q had beside left old new ps qs pause.Ended one p =
    let s = shown_stop Q had beside left old new ps qs pause.Ended one p in
    record {
      kept = s.kept;
      moves = (s.stops, ap (map suspended) (alone_waiting new (p.ended refl)), p.stops.4, p.stops.2, p.stops.5);
      spent = omega (arith, p.went.fewer, one);
      charged = omega (arith, s.charged);
      rest = p.went.rest;
      elsewhere = tt;
      within = s.within;
      alone = s.alone;
      everywhere = s.everywhere;
      sums = s.sums;
    }

-- it forks a child
shown_fork : (Q : Type 0) (had beside left : ℕ) (old new : State) (ps qs : List (Box State)) (class : Class) (child : Box State) → IsKept old ps → had ≡ beside + 1 → WentToFork Q beside left old ps class child.value new qs →
    Shown Q had left old ps (pauses.Forks class (nested child.value [])) new qs
shown_fork Q had beside left old new ps qs class child was one f =
    let last = f.last in
    let w = f.went in
    let l = f.leaves in
    let s = w.kept.sound in
    let c = child.value in
    let made : Child = record { class = class; task = task_begun c.control c.environment.items } in
    let g = f.gives.forked in
    let kept = g.keeps (fork_has_task 1 (work_left (top c)) [] [] (top last) (top new) made s.sound.0 s.sound.2 g) in
    let taken : kept.taken ≡ 1 = omega (arith, kept.at_least, kept.at_most) in
    let env = ap (λ e. e.env) kept.ending in
    let waits = leaves_waiting last new l env in
    let shown = forked_seen 1 (top last) (top new) (top c) made s.sound.0 s.sound.2 f.gives in
    let sound = sound_top last new s l env g.own (λ account sound. (
      with_fork made account,
      sound_fork 1 (work_left (top c)) [] [] (top last) (top new) made account sound g,
      λ ledger. ap (λ f. f ledger) (with_fork-sums made account),
    )) in
    let kept_new = kept_sound new qs sound w.kept.children (subst (λ p. ArePlaced (source_of p.now) (seen_children qs)) (sym l.program) w.kept.nested_is.waiting)
    (λ e. cc (sym f.gives.pending ∙ e)) in
    let alone_c : IsAlone (nested c []) = (ap (map suspended) (alone_waiting c f.alone), refl, f.gives.fresh.here) in
    let whole_c : whole (nested c []) ≡ suspended (top c) = ap (λ ts. outermost (suspended (top c)) (map suspended ts)) (alone_waiting c f.alone) in
    let fresh : IsFresh (suspended (top new)).program ((suspended (top new)).name ++ (top last).forks ∷ []) 0 (whole (nested c [])) =
    subst (λ p. IsFresh p ((suspended (top new)).name ++ (top last).forks ∷ []) 0 (whole (nested c []))) (ap (λ p. p.now) (sym g.program))
    (subst (λ n. IsFresh last.program.now (n ++ (top last).forks ∷ []) 0 (whole (nested c []))) (ap (λ o. o.name) (sym g.own)) (subst (IsFresh last.program.now ((top last).own.name ++ (top last).forks ∷ []) 0) (sym whole_c) shown.fresh)) in
    record {
      kept = kept_new;
      moves = (
        same_whole old new ps qs (l.program ∙ w.program) (l.own ∙ w.own),
        f.gives.pending,
        record {
          number = (top last).forks;
          others = unjoined_of (top last);
          unjoined = g.unjoined;
          alone = alone_c;
          fresh = fresh;
          no_sums = f.sums ∙ ap (λ p. tabulated p.now.ledgers (λ ledger. 0)) (sym l.program);
          task = shown.task;
          is_child = subst (λ p. child_of (source_of p.now) (top new).own.name (top last).forks ≡ Some (record { class = class; task = shown.task })) (sym g.program)
              (subst (λ n. child_of (source_of last.program.now) n (top last).forks ≡ Some (record { class = class; task = shown.task })) (ap (λ o. o.name) (sym g.own)) shown.is_child);
          childs_work = ap (λ s. s.work) whole_c ∙ shown.childs_work ∙ ap (λ p. task_work (source_of p.now).arrays shown.task) (sym g.program);
          childs_trace = ap (λ s. s.trace) whole_c ∙ shown.childs_trace ∙ ap (λ p. task_trace (source_of p.now).arrays shown.task ++ At pause.Ended ∷ []) (sym g.program);
        },
        record {
          awaits = ap (λ l. option_map (λ number. (top new).own.name ++ number ∷ []) (slice_get l 0)) g.unjoined ∙ ap Some (sym fresh.has_name);
          same_source = ap source_of (fresh.same_program ∙ sym (program_seen new qs));
          not_paused = shown.fresh.not_paused;
          alone = alone_c;
        },
        record {
          made = w.made + 1;
          at_least = omega arith;
          at_most = omega (arith, w.counted, one);
          left = omega (arith, w.work, kept.work, taken, ap works (ap (map suspended) waits), ap works (ap (map suspended) (alone_waiting c f.alone)));
        },
      );
      spent = omega (arith, w.fewer, one);
      rest = w.rest;
      charged = omega (arith, w.work, kept.work, taken, ap works (ap (map suspended) waits), ap works (ap (map suspended) (alone_waiting c f.alone)), w.counted, one);
      elsewhere = tt;
      within = λ checked. pauses_seen new sound (subst (λ p. IsChecked (source_of p.now)) (sym (l.program ∙ w.program)) checked);
      alone = λ alone places.
          let b = all_alone w alone in
          let r = b.1 in
          let none : new.parents.items ≡ [] = none_parents new places.0 in
          let before : last.parents.items ≡ [] = sym l.parents ∙ none in
          let forks : (outermost_in last).forks ≡ (outermost_in old).forks =
          omega (arith, g.forks, alone_forks last before, alone_forks new none, whole_forks new qs, whole_forks old ps, places.1) in
          let go = r.runs.by_itself (by_itself old ps alone) forks in
          record {
            does = forked_seen had (top old) (top new) (top c) made was.sound.sound.0 was.sound.sound.2
                (gives_after r.made 1 had (top old) (top last) (top new) (top c) made go.goes go.locks f.gives (omega (arith, r.counted, one)));
            alone = alone_nested new qs b.0 (record { parents = none; here = g.here_is ∙ go.alone.here });
            sums = l.sums ∙ r.runs.sums;
            holds = ap (λ o. o.holds) (g.own ∙ go.goes.own);
          };
      everywhere = λ q alone.
          let b = all_alone w alone in
          let by = by_itself old ps alone in
          let same = b.1.places_none q by in
          let go = b.1.runs.by_itself by same in
          let none : new.parents.items ≡ [] = l.parents ∙ go.alone.parents in (
            ap (map suspended) (alone_waiting new none),
            omega (arith, g.forks, alone_forks last go.alone.parents, alone_forks new none, whole_forks new qs, whole_forks old ps, same),
          );
      sums = λ none. l.sums ∙ (w.by_itself (none_placed ps none)).1.runs.sums;
    }

pub shown : (Q : Type 0) (had left : ℕ) (old new : State) (ps qs : List (Box State)) (forked : Option (Class × Box State)) (next : Option Pending) → IsKept old ps → AdvancesWith Q had left old ps forked next new qs →
    Shown Q had left old ps (pause_seen forked next) new qs
shown Q had left old new ps qs None None was h = shown_budget Q had left old new ps qs h.0 h.1
shown Q had left old new ps qs None (Some next) was h = shown_pause Q had h.0 left old new ps qs next h.1 h.2
shown Q had left old new ps qs (Some forked) next was h = shown_fork Q had h.0 left old new ps qs forked.0 forked.1 was h.1 h.2

-- Memory was refused.
pub record ShownRefusal (Q : Type 0) (had left : ℕ) (old : State) (ps : List (Box State)) (new : State) (qs : List (Box State)) : Type 0 where
  pub kept : IsKept new qs
  pub same : SameWhole (nested old ps) (nested new qs)
  pub work : FallsBy 0 (had - 1) (work_in (nested old ps)) (work_in (nested new qs))
  pub charged : work_in (nested new qs) + had ≡ work_in (nested old ps) + left
  pub rest : IsRest (seen_children ps) (seen_children qs)
  pub pending : pending_of new.control ≡ None
  pub alone : IsAlone (nested old ps) → (whole (nested new qs)).forks ≡ (whole (nested old ps)).forks → RefusedAlone had (nested old ps) (nested new qs)
  pub everywhere : Q → IsAlone (nested old ps) → (whole (nested new qs)).forks ≡ (whole (nested old ps)).forks

pub shown_refusal : (Q : Type 0) (had left : ℕ) (old new : State) (ps qs : List (Box State)) → Went Q had left old ps new qs → 1 ≤ left → ShownRefusal Q had left old ps new qs
shown_refusal Q had left old new ps qs w some = record {
  kept = w.kept;
  same = same_whole old new ps qs w.program w.own;
  work = record { made = w.made; at_least = omega arith; at_most = omega (arith, w.counted, some); left = w.work };
  charged = omega (arith, w.work, w.counted);
  rest = w.rest;
  pending = w.running;
  alone = λ alone places.
      let b = all_alone w alone in
      let r = b.1 in
      let g = r.runs.by_itself (by_itself old ps alone) (sym (whole_forks new qs) ∙ places ∙ whole_forks old ps) in
      record {
        same = same_thread r.made (top old) (top new) g.goes;
        alone = alone_nested new qs b.0 g.alone;
        steps = record { made = r.made; at_least = omega arith; at_most = omega (arith, r.counted, some); work = g.goes.work; trace = sym g.goes.trace };
        locks = g.locks;
        sums = r.runs.sums;
        holds = ap (λ o. o.holds) g.goes.own;
      };
  everywhere = λ q alone. whole_forks new qs ∙ (w.by_itself (none_placed ps alone.1)).1.places_none q (by_itself old ps alone) ∙ sym (whole_forks old ps);
}
