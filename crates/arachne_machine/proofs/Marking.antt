-- The outermost thread of a state is marked as one that runs in its parent's place.
use Rattle.std.proofs.Common.{◌≡◌, ℕ, List, [], ◌∷◌, take, refl, ap, sym, ◌∙◌, subst, arith, map, reverse}
use Rattle.std.specs.Borrow.{Bor}
use Rattle.arachne_program.specs.{declared.program.Program.Program, Value.Environment}
use Rattle.arachne_machine.specs.declared.{frame.{Frame.Frame, Control.Control}, level.{Level.Level, Parent.Parent}}
use Rattle.arachne_machine.specs.declared.{line.ThreadLine.ThreadLine, state.{Own.Own, State.State}}
use Rattle.arachne_machine.specs.{Account.Account, Ending.{ending, work_left}, Strands.{Strand, strand_at}}
use Rattle.arachne_machine.specs.{Steps.{suspended, top, waiting, waiting_in}, Runs.{work_in_state, works_left}}
use Rattle.arachne_machine.specs.Sound.{AreSound, IsRunningFor, IsSound, IsSoundState, RunFor}
use Rattle.arachne_machine.{specs.Nested.{marked, marked_parents}, proofs.Copies.{here_sound, placed_here}}
use Rattle.arachne_machine.specs.declared.line.Ran.TheVariants as ways

abbrev pub here_own : Own → Own
here_own own = record own { label = record own.label { ran = ways.InPlace } }

abbrev pub here_state : State → State
here_state t = record t { own = here_own t.own }

abbrev pub marked_strand : Strand → List Strand → Strand
marked_strand t [] = placed_here t
marked_strand t (p ∷ ps) = t

abbrev pub marked_strands : List Strand → List Strand
marked_strands [] = []
marked_strands (p ∷ ps) = marked_strand p ps ∷ marked_strands ps

marked_top : (program : Bor Program) (own : Own) (ps : List Parent) (lines : List ThreadLine) (level : Level) (env env' : Environment) (frames : List Frame) (start place : ℕ) (k : Control) →
    strand_at program (here_own own) ps lines level env frames k ≡ marked_strand (strand_at program own ps lines level env frames k) (waiting program own ps lines frames start place env')
marked_top program own [] lines level env env' frames start place k = refl
marked_top program own (p ∷ ps) lines level env env' frames start place k = refl

marked_ending : (program : Bor Program) (own : Own) (ps : List Parent) (lines : List ThreadLine) (level : Level) (env : Environment) (frames : List Frame) (k : Control) →
    ending (strand_at program (here_own own) ps lines level env frames k) ≡ ending (strand_at program own ps lines level env frames k)
marked_ending program own [] lines level env frames k = refl
marked_ending program own (p ∷ ps) lines level env frames k = refl

marked_waiting : (program : Bor Program) (own : Own) (ps : List Parent) (lines : List ThreadLine) (frames : List Frame) (start place : ℕ) (env : Environment) →
    waiting program (here_own own) ps lines frames start place env ≡ marked_strands (waiting program own ps lines frames start place env)
marked_waiting program own [] lines frames start place env = refl
marked_waiting program own (p ∷ []) lines frames start place env = refl
marked_waiting program own (p ∷ (q ∷ qs)) lines frames start place env =
    let t = strand_at program own (q ∷ qs) (take place lines) p.level env (take start frames) p.control in
    ap (λ ts. t ∷ ts) (marked_waiting program own (q ∷ qs) (take place lines) (take start frames) p.level.start p.level.place (ending t).env)

mark_sound : (t : Strand) (ts : List Strand) (account : Account) → IsSound t account → IsSound (marked_strand t ts) account
mark_sound t [] account s = here_sound t (record t.own.label { ran = ways.InPlace }) account s
mark_sound t (p ∷ ps) account s = s

all_marked : (ts : List Strand) (sums : ℕ → ℕ) → AreSound ts sums → AreSound (marked_strands ts) sums
all_marked [] sums h = h
all_marked (t ∷ ts) sums h = (h.0, h.1, mark_sound t ts h.0 h.2, all_marked ts h.1 h.3, h.4)

run_to_marked : (t p : Strand) (ps : List Strand) → IsRunningFor t p → IsRunningFor t (marked_strand p ps)
run_to_marked t p [] h = record { number = h.number; awaits = h.awaits; named = h.named; in_place = h.in_place }
run_to_marked t p (q ∷ qs) h = h

run_marked : (t : Strand) (ts : List Strand) → RunFor t ts → RunFor (marked_strand t ts) (marked_strands ts)
run_marked t [] h = tt
run_marked t (p ∷ ps) h = (run_to_marked t p ps h.0, run_marked p ps h.1)

seen_marked : (t : Strand) (ts : List Strand) → suspended (marked_strand t ts) ≡ marked (suspended t) (map suspended ts)
seen_marked t [] = refl
seen_marked t (p ∷ ps) = refl

seen_marks : (ts : List Strand) → map suspended (marked_strands ts) ≡ marked_parents (map suspended ts)
seen_marks [] = refl
seen_marks (t ∷ ts) = ap (λ ss. suspended (marked_strand t ts) ∷ ss) (seen_marks ts) ∙ ap (λ s. s ∷ marked_parents (map suspended ts)) (seen_marked t ts)

work_marked : (t : Strand) (ts : List Strand) → work_left (marked_strand t ts) ≡ work_left t
work_marked t [] = refl
work_marked t (p ∷ ps) = refl

works_marked : (ts : List Strand) → works_left (marked_strands ts) ≡ works_left ts
works_marked [] = refl
works_marked (t ∷ ts) = omega (arith, work_marked t ts, works_marked ts)

-- The marked state is as sound, and callers see the mark.
pub record Marked (t : State) : Type 0 where
  pub sound : IsSoundState (here_state t)
  pub seen : suspended (top (here_state t)) ≡ marked (suspended (top t)) (map suspended (waiting_in t))
  pub waits : map suspended (waiting_in (here_state t)) ≡ marked_parents (map suspended (waiting_in t))
  pub work : work_in_state (here_state t) ≡ work_in_state t

pub marks : (t : State) → IsSoundState t → Marked t
marks t s =
    let u = here_state t in
    let ps = reverse t.parents.items in
    let top_is : top u ≡ marked_strand (top t) (waiting_in t) =
    marked_top t.program t.own ps t.lines t.level t.environment.items (ending (top t)).env t.frames.items t.level.start t.level.place t.control in
    let waits : waiting_in u ≡ marked_strands (waiting_in t) =
    ap (λ e. waiting t.program (here_own t.own) ps t.lines t.frames.items t.level.start t.level.place e.env)
    (marked_ending t.program t.own ps t.lines t.level t.environment.items t.frames.items t.control)
    ∙ marked_waiting t.program t.own ps t.lines t.frames.items t.level.start t.level.place (ending (top t)).env in
    let all : ◌≡◌ {A = List Strand} (top u ∷ waiting_in u) (marked_strands (top t ∷ waiting_in t)) = ap (λ x. x ∷ waiting_in u) top_is ∙ ap (λ ts. marked_strand (top t) (waiting_in t) ∷ ts) waits in
    record {
      sound = record {
        sums_of = s.sums_of;
        sums = s.sums;
        sound = subst (λ ts. AreSound ts s.sums_of) (sym all) (all_marked (top t ∷ waiting_in t) s.sums_of s.sound);
        run_for = subst (λ x. RunFor x (waiting_in u)) (sym top_is) (subst (RunFor (marked_strand (top t) (waiting_in t))) (sym waits) (run_marked (top t) (waiting_in t) s.run_for));
        fits = s.fits;
        few = s.few;
      };
      seen = ap suspended top_is ∙ seen_marked (top t) (waiting_in t);
      waits = ap (map suspended) waits ∙ seen_marks (waiting_in t);
      work = ap works_left all ∙ works_marked (top t ∷ waiting_in t);
    }
