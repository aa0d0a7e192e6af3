-- A child is handed back to run in its parent's place.
use Rattle.std.proofs.Common.{◌≡◌, ◌+◌, List, [], ◌∷◌, ◌++◌, None, Some, Option, refl, ap, sym, ◌∙◌, subst, arith, map, reverse, All}
use Rattle.std.{specs.Global.Box, proofs.lemmas.List.{map-append, reverse-append, Elements.All-append}}
use Rattle.arachne_program.specs.{Tree.Source, Program.source_of}
use Rattle.arachne_machine.specs.Nested.{ArePlaced, IsPlaced, IsPlacing, MayBePlaced, Placed, PlacesAtFork, SameWhole, begun_in, placed_of, whole, work_in, works_placed}
use Rattle.arachne_machine.proofs.Handed.{all_one, kept_sound, looks_nested, looks_sound, newest_seen, work_seen}
use Rattle.arachne_machine.proofs.Copies.{IsCopy, copy_seen, copy_sound, copy_work, here_sound, relabelled}
use Rattle.arachne_machine.specs.Kept.{IsKept, IsReturned, IsTakenBack, nested, seen_child, seen_children}
use Rattle.arachne_machine.proofs.{Nesting.{label_seen, program_seen, same_whole, works_seen}, Taking.taken}
use Rattle.arachne_machine.specs.{Steps.{Turns, pending_of, suspended, top, waiting_in}, declared.pause.Pending.Pending}
use Rattle.arachne_machine.specs.{Runs.{LooksSame, TakesIn, after_fork, work_in_state}, declared.state.State.State}
use Rattle.arachne_machine.{specs.Sound.{AreSound, IsSoundState, RunFor}, proofs.Lasting.{same_kept, same_seen}}
use Rattle.arachne_machine.proofs.{Answering.{fork_past, going}, Marking.{here_state, marks}, Levels.alone_waiting}
use Rattle.arachne_machine.specs.{declared.line.Label.Label, Suspended.awaited, Ending.work_left, Strands.owned_at}
use Rattle.arachne_machine.specs.declared.pause.Pending.TheVariants as pause

-- A thread by itself has got another label.
pub record Relabelled (t u : State) (label : Label) : Type 0 where
  pub sound : IsSoundState u
  pub seen : suspended (top u) ≡ record (suspended (top t)) { label = label }
  pub work : work_left (top u) ≡ work_left (top t)

label_copy : (t : State) (label : Label) → t.parents.items ≡ [] → IsCopy (relabelled label (top t)) (top (record t { own = record t.own { label = label } }))
label_copy t label none = record {
  source = refl;
  own = ap (λ ps. owned_at (record t.own { label = label }) (reverse ps) t.lines t.level.place) none
      ∙ sym (ap (λ ps. let o = owned_at t.own (reverse ps) t.lines t.level.place in record o { label = label }) none);
  below = refl;
  forks = refl;
  environment = refl;
  frames = refl;
  control = refl;
}

pub label_given : (t : State) (label : Label) → IsSoundState t → t.parents.items ≡ [] → Relabelled t (record t { own = record t.own { label = label } }) label
label_given t label s none =
    let u : State = record t { own = record t.own { label = label } } in
    let copy = label_copy t label none in
    let was : AreSound (top t ∷ []) s.sums_of = subst (λ ts. AreSound (top t ∷ ts) s.sums_of) (alone_waiting t none) s.sound in
    record {
      sound = record {
        sums_of = s.sums_of;
        sums = s.sums;
        sound = subst (λ ts. AreSound (top u ∷ ts) s.sums_of) (sym (alone_waiting u none))
            (was.0, was.1, copy_sound (relabelled label (top t)) (top u) was.0 copy (here_sound (top t) label was.0 was.2), was.3, was.4);
        run_for = subst (RunFor (top u)) (sym (alone_waiting u none)) tt;
        fits = s.fits;
        few = s.few;
      };
      seen = copy_seen (relabelled label (top t)) (top u) copy;
      work = copy_work (relabelled label (top t)) (top u) copy;
    }

pub source_seen : (t child : State) (ps cps : List (Box State)) → MayBePlaced (nested t ps) (nested child cps) → source_of child.program.now ≡ source_of t.program.now
source_seen t child ps cps may = ap source_of (sym (program_seen child cps)) ∙ may.same_source ∙ ap source_of (program_seen t ps)

-- The children that were handed back to the child are handed back with it.
seen_both : (ps qs : List (Box State)) → seen_children (ps ++ qs) ≡ seen_children qs ++ seen_children ps
seen_both ps qs = ap (map seen_child) (reverse-append ps qs) ∙ map-append seen_child (reverse qs) (reverse ps)

placed_both : (source : Source) (xs ys : List Placed) → ArePlaced source xs → ArePlaced source ys → ArePlaced source (xs ++ ys)
placed_both source [] ys h g = g
placed_both source (x ∷ xs) ys h g = (h.0, placed_both source xs ys h.1 g)

works_both : (xs ys : List Placed) → works_placed (xs ++ ys) ≡ works_placed xs + works_placed ys
works_both [] ys = omega arith
works_both (x ∷ xs) ys = omega (arith, works_both xs ys)

-- All these children are sound, and may run here.
record Together (t : State) (ps cps : List (Box State)) : Type 0 where
  children : All (λ c. IsSoundState c.value) (ps ++ cps)
  placed : ArePlaced (source_of t.program.now) (seen_children (ps ++ cps))
  seen : seen_children (ps ++ cps) ≡ seen_children cps ++ seen_children ps
  work : works_placed (seen_children (ps ++ cps)) ≡ works_placed (seen_children ps) + works_placed (seen_children cps)

together : (t old child : State) (ps cps : List (Box State)) → IsKept old ps → IsKept child cps → source_of child.program.now ≡ source_of old.program.now → t.program ≡ old.program → Together t ps cps
together t old child ps cps kept kept_c source program =
    let seen = seen_both ps cps in
    let here : source_of old.program.now ≡ source_of t.program.now = ap (λ p. source_of p.now) (sym program) in
    record {
      children = All-append (λ c. IsSoundState c.value) ps cps kept.children kept_c.children;
      placed = subst (ArePlaced (source_of t.program.now)) (sym seen) (placed_both (source_of t.program.now) (seen_children cps) (seen_children ps)
          (subst (λ x. ArePlaced x (seen_children cps)) (source ∙ here) kept_c.nested_is.waiting) (subst (λ x. ArePlaced x (seen_children ps)) here kept.nested_is.waiting));
      seen = seen;
      work = omega (arith, ap works_placed seen, works_both (seen_children cps) (seen_children ps));
    }

-- The child is handed back at its fork.
pub record HandedBack (old child new : State) (ps cps qs : List (Box State)) : Type 0 where
  pub kept : IsKept new qs
  pub whole : SameWhole (nested old ps) (nested new qs)
  pub places : PlacesAtFork (nested old ps) (nested child cps) (nested new qs)
  pub pending : pending_of new.control ≡ None
  pub work : work_in (nested new qs) ≡ work_in (nested old ps) + work_in (nested child cps)

pub handed_back : (old child new : State) (ps cps qs : List (Box State)) (box : Box State) → IsKept old ps → IsKept child cps → MayBePlaced (nested old ps) (nested child cps) →
    pending_of old.control ≡ Some pause.Forks → Turns old new (after_fork old.control) → box.value ≡ here_state child →
    qs ≡ ps ++ cps ++ box ∷ [] → HandedBack old child new ps cps qs
handed_back old child new ps cps qs box kept kept_c may forks turns is pushed =
    let u = here_state child in
    let m = marks child kept_c.sound in
    let placed_child = placed_of (nested child cps) in
    let seen_box : seen_child box ≡ placed_child =
    ap (λ s. record { running = suspended (top s); parents = map suspended (waiting_in s) }) is
    ∙ ap (λ r. record { running = r; parents = map suspended (waiting_in u) }) m.seen
    ∙ ap (λ l. record { running = placed_child.running; parents = l }) m.waits in
    let past = fork_past old new ps kept forks turns in
    let source = source_seen old child ps cps may in
    let both = together new old child ps cps kept kept_c source turns.program in
    let placed : seen_children qs ≡ placed_child ∷ (seen_children cps ++ seen_children ps) =
    ap seen_children pushed ∙ newest_seen (ps ++ cps) box ∙ ap (λ s. s ∷ seen_children (ps ++ cps)) seen_box ∙ ap (λ l. placed_child ∷ l) both.seen in
    let sound_box : IsSoundState box.value = subst IsSoundState (sym is) m.sound in
    let one : IsPlaced (source_of new.program.now) (seen_child box) =
    subst (IsPlaced (source_of new.program.now)) (ap (λ s. record { running = suspended (top s); parents = map suspended (waiting_in s) }) (sym is)) (record {
      same_source = source ∙ ap (λ p. source_of p.now) (sym turns.program);
      not_paused = may.not_paused;
      in_place = ap (λ l. l.ran) (label_seen u []);
      awaiting = (kept_sound u [] m.sound (λ k d lt. absurd (omega (arith, lt))) tt (going u may.not_paused)).nested_is.awaiting;
    }) in
    let others = past.0.seen.others in
    record {
      kept = kept_sound new qs past.0.kept.sound
          (subst (λ l. All (λ c. IsSoundState c.value) l) (sym pushed) (All-append (λ c. IsSoundState c.value) (ps ++ cps) (box ∷ []) both.children (all_one (λ c. IsSoundState c.value) box sound_box)))
          (subst (ArePlaced (source_of new.program.now)) (sym (ap seen_children pushed ∙ newest_seen (ps ++ cps) box)) (one, both.placed)) (going new past.0.pending);
      whole = same_whole old new ps qs turns.program turns.own;
      places = record {
        same = past.0.seen.same;
        sums = turns.sums;
        holds = past.0.seen.holds;
        locks = past.1;
        parents = ap (λ n. n.parents) others;
        placed = placed;
        trace = past.0.seen.trace;
      };
      pending = past.0.pending;
      work = omega (
        arith,
        past.0.seen.work,
        ap works_placed (ap seen_children pushed ∙ newest_seen (ps ++ cps) box),
        both.work,
        ap (λ s. work_in_state s) is,
        m.work,
        works_seen (waiting_in box.value),
        works_seen (waiting_in child),
      );
    }

-- The child is awaited, and goes on here.
pub record BegunHere (old child new : State) (ps cps : List (Box State)) : Type 0 where
  pub kept : IsKept new (ps ++ cps)
  pub whole : SameWhole (nested old ps) (nested new (ps ++ cps))
  pub seen : nested new (ps ++ cps) ≡ begun_in (nested old ps) (nested child cps)
  pub pending : pending_of new.control ≡ None
  pub work : work_in (nested new (ps ++ cps)) ≡ work_in (nested old ps) + work_in (nested child cps)

pub begun_here : (old child new : State) (ps cps : List (Box State)) → IsKept old ps → IsKept child cps → MayBePlaced (nested old ps) (nested child cps) → pending_of old.control ≡ Some pause.Joins →
    awaited (suspended (top old)) ≡ Some child.own.name → TakesIn old child new → BegunHere old child new ps cps
begun_here old child new ps cps kept kept_c may joins of_child takes =
    let source = source_seen old child ps cps may in
    let t = taken old child new kept.sound kept_c.sound source joins of_child takes in
    let both = together new old child ps cps kept kept_c source takes.program in
    let begun = begun_in (nested old ps) (nested child cps) in
    record {
      kept = kept_sound new (ps ++ cps) t.sound both.children both.placed (going new (ap pending_of takes.control_is ∙ may.not_paused));
      whole = same_whole old new ps (ps ++ cps) takes.program takes.own;
      seen = ap (λ r. record (nested new (ps ++ cps)) { running = r }) t.seen
          ∙ ap (λ l. record (nested new (ps ++ cps)) { running = begun.running; parents = l }) t.waits
          ∙ ap (λ l. record (nested new (ps ++ cps)) { running = begun.running; parents = begun.parents; placed = l }) both.seen
          ∙ ap (λ x. record begun { sums = x }) t.sums;
      pending = ap pending_of takes.control_is ∙ may.not_paused;
      work = omega (arith, t.work, both.work, work_seen new (ps ++ cps), work_seen old ps, work_seen child cps);
    }

-- Memory was refused, and the child is unchanged.
pub record AsItWas (child back : State) (cps : List (Box State)) : Type 0 where
  pub kept : IsKept back cps
  pub seen : nested back cps ≡ nested child cps

pub as_it_was : (child back : State) (cps : List (Box State)) → IsKept child cps → LooksSame child back → AsItWas child back cps
as_it_was child back cps kept l =
    let looks = looks_sound child back kept.sound l in
    record {
      kept = kept_sound back cps looks.sound kept.children (subst (λ p. ArePlaced (source_of p.now) (seen_children cps)) (sym l.program) kept.nested_is.waiting)
          (λ e. l.parents ∙ kept.ended (ap pending_of (sym l.control) ∙ e));
      seen = looks_nested child back l looks cps;
    }

-- The view that callers have of a child that was handed back.
pub record PlacedHere (old child new : State) (ps cps qs : List (Box State)) : Type 0 where
  pub kept : IsKept new qs
  pub whole : SameWhole (nested old ps) (nested new qs)
  pub at_fork : pending_of old.control ≡ Some pause.Forks → PlacesAtFork (nested old ps) (nested child cps) (nested new qs)
  pub at_join : pending_of old.control ≡ Some pause.Joins → nested new qs ≡ begun_in (nested old ps) (nested child cps)
  pub pending : pending_of new.control ≡ None
  pub work : work_in (nested new qs) ≡ work_in (nested old ps) + work_in (nested child cps)

pub forks_no_join : ◌≡◌ {A = Option Pending} (Some pause.Forks) (Some pause.Joins) → ⊥
forks_no_join e = cc

placed_by : (old child new : State) (ps cps qs : List (Box State)) (next : Option Pending) → IsKept old ps → IsKept child cps → MayBePlaced (nested old ps) (nested child cps) →
    pending_of old.control ≡ next → IsPlacing next → IsTakenBack old ps child cps new qs → PlacedHere old child new ps cps qs
placed_by old child new ps cps qs (Some pause.Forks) kept kept_c may e placing taken =
    let w = taken.at_fork e in
    let b = handed_back old child new ps cps qs w.0 kept kept_c may e w.3 w.1 w.2 in
    record { kept = b.kept; whole = b.whole; at_fork = λ forks. b.places; at_join = λ joins. absurd (forks_no_join (sym e ∙ joins)); pending = b.pending; work = b.work }
placed_by old child new ps cps qs (Some pause.Joins) kept kept_c may e placing taken =
    let w = taken.at_join e in
    let b = begun_here old child new ps cps kept kept_c may e taken.of_child w.1 in
    subst (PlacedHere old child new ps cps) (sym w.0)
    (record { kept = b.kept; whole = b.whole; at_fork = λ forks. absurd (forks_no_join (sym forks ∙ e)); at_join = λ joins. b.seen; pending = b.pending; work = b.work })
placed_by old child new ps cps qs None kept kept_c may e placing taken = absurd placing
placed_by old child new ps cps qs (Some (pause.Asks lock)) kept kept_c may e placing taken = absurd placing
placed_by old child new ps cps qs (Some (pause.Frees lock)) kept kept_c may e placing taken = absurd placing
placed_by old child new ps cps qs (Some (pause.Tallies ledger amount)) kept kept_c may e placing taken = absurd placing
placed_by old child new ps cps qs (Some pause.Ended) kept kept_c may e placing taken = absurd placing

pub placed_seen : (old child new : State) (ps cps qs : List (Box State)) → IsKept old ps → IsKept child cps → MayBePlaced (nested old ps) (nested child cps) →
    IsPlacing (pending_of old.control) → IsTakenBack old ps child cps new qs → PlacedHere old child new ps cps qs
placed_seen old child new ps cps qs kept kept_c may placing taken = placed_by old child new ps cps qs (pending_of old.control) kept kept_c may refl placing taken

-- The view that callers have of a child that was refused.
pub record Returned (old child new back : State) (ps cps qs rs : List (Box State)) : Type 0 where
  pub kept : IsKept new qs
  pub seen : nested new qs ≡ nested old ps
  pub kept_child : IsKept back rs
  pub seen_child : nested back rs ≡ nested child cps

pub returned : (old child new back : State) (ps cps qs rs : List (Box State)) → IsKept old ps → IsKept child cps → IsReturned old ps child cps new qs rs back → Returned old child new back ps cps qs rs
returned old child new back ps cps qs rs kept kept_c r =
    let it = as_it_was child back cps kept_c r.looks in
    record {
      kept = subst (IsKept new) (sym r.placed) (same_kept old new ps kept r.same);
      seen = ap (nested new) r.placed ∙ same_seen old new ps kept.sound r.same;
      kept_child = subst (IsKept back) (sym r.others) it.kept;
      seen_child = ap (nested back) r.others ∙ it.seen;
    }
