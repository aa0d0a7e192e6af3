-- The answers that count a hold or an amount.
use Rattle.std.proofs.Common.{◌≡◌, length, ℕ, ◌+◌, List, [], ◌∷◌, None, Some, refl, ap, sym, ◌∙◌, subst, arith, take, drop, ◌==◌, if◌then◌else◌, map, reverse}
use Rattle.std.{specs.{Borrow.Bor, Global.Box}, proofs.lemmas.List.{drop-set-lt, get_or-set_same, length-set, take-set}}
use Rattle.arachne_program.specs.{declared.program.{Expr.Expr, Program.Program}, Program.source_of, Value.Environment}
use Rattle.arachne_program.specs.Effects.{Effects, held, tallied, tabulated}
use Rattle.arachne_machine.specs.declared.frame.{Frame.Frame, Control.TheVariants.{Begin, Asks, Tallies}}
use Rattle.arachne_machine.specs.declared.{level.Parent.Parent, line.ThreadLine.ThreadLine, pause.Pending.Pending}
use Rattle.arachne_machine.specs.{declared.state.{Own.Own, State.State}, Account.after, Ending.{ending, locks_of}}
use Rattle.arachne_machine.specs.{Strands.{Strand, Fits, below_at, line_at, owned_at, strand_at}, Kept.{IsKept, nested}}
use Rattle.arachne_machine.specs.Steps.{Counts, IsLineOf, pending_of, suspended, top, waiting, waiting_in}
use Rattle.arachne_machine.specs.{Sound.{AreSound, RunFor}, Runs.{CountsHold, CountsTally, IsCountedIn}}
use Rattle.arachne_machine.specs.{Suspended.{IsAnswered, SameThread}, Nested.{IsNested, SameWhole, work_in, works}}
use Rattle.arachne_machine.proofs.{Tabulated.tabulated-same, Soundness.{after-sums, counted_seen, sound_counts}}
use Rattle.arachne_machine.proofs.{Joining.{LeavesRest, counts_hold, counts_tally}, Answering.{going, nested_same}}
use Rattle.arachne_machine.proofs.{Nesting.{label_seen, name_seen, program_seen}, Going.line_in}
use Rattle.arachne_machine.specs.declared.pause.Pending.TheVariants as pause

-- The state, and the view that callers have of it, after an answer has counted a hold or an amount.
pub record Counted (old new : State) (placed : List (Box State)) : Type 0 where
  pub kept : IsKept new placed
  pub whole : SameWhole (nested old placed) (nested new placed)
  pub same : SameThread (suspended (top old)) (suspended (top new))
  pub parents : map suspended (waiting_in new) ≡ map suspended (waiting_in old)
  pub locks : locks_of (top new) ≡ locks_of (top old)
  pub pending : pending_of new.control ≡ None
  pub work : work_in (nested new placed) ≡ work_in (nested old placed)
  pub trace : IsAnswered (suspended (top old)) (suspended (top new))

run_for_by : (child other : Strand) (ts : List Strand) → other.own.name ≡ child.own.name → other.own.label ≡ child.own.label → RunFor child ts → RunFor other ts
run_for_by child other [] name label h = tt
run_for_by child other (t ∷ ts) name label h =
    (record { number = h.0.number; awaits = h.0.awaits; named = name ∙ h.0.named; in_place = ap (λ l. l.ran) label ∙ h.0.in_place }, h.1)

counted_by : (old new : State) (placed : List (Box State)) (answered : Pending) (effects : Effects) → IsKept old placed → pending_of old.control ≡ Some answered →
    effects.children ≡ [] → ((name : List ℕ) (next : ℕ) → effects.lines name next ≡ []) → Counts answered effects (top old) (top new) →
    new.program ≡ old.program → new.own.name ≡ old.own.name → new.own.label ≡ old.own.label → waiting_in new ≡ waiting_in old →
    Fits (reverse new.parents.items) new.level.start new.level.place (length new.frames.items) (length new.lines) → length new.lines ≡ length old.lines →
    ((n : ℕ) (own : ℕ → ℕ) → old.sums.items ≡ tabulated n own → new.sums.items ≡ tabulated n (λ ledger. own ledger + effects.sums ledger)) → Counted old new placed
counted_by old new placed answered effects kept pending children lines c program name label waits fits few sums =
    let s = kept.sound in
    let seen = counted_seen (top old) (top new) answered effects c in
    let parents = ap (map suspended) waits in
    let same = sound_counts (top old) (top new) answered effects s.sound.0 s.sound.2 children lines c in
    record {
      kept = record {
        sound = record {
          sums_of = λ ledger. s.sums_of ledger + effects.sums ledger;
          sums = subst (λ p. new.sums.items ≡ tabulated (source_of p.now).ledgers (λ ledger. s.sums_of ledger + effects.sums ledger)) (sym program)
              (sums (source_of old.program.now).ledgers s.sums_of s.sums);
          sound = subst (λ ts. AreSound (top new ∷ ts) (λ ledger. s.sums_of ledger + effects.sums ledger)) (sym waits) (
            after (top old).own.name effects s.sound.0,
            s.sound.1,
            same,
            s.sound.3,
            λ ledger. omega (arith, s.sound.4 ledger, ap (λ f. f ledger) (after-sums (top old).own.name effects s.sound.0)),
          );
          run_for = subst (RunFor (top new)) (sym waits) (run_for_by (top old) (top new) (waiting_in old) c.name c.label s.run_for);
          fits = fits;
          few = omega (arith, s.few, few);
        };
        children = kept.children;
        nested_is = subst (λ ps. IsNested (record (nested new placed) { parents = ps })) (sym parents)
            (nested_same (suspended (top old)) (suspended (top new)) (map suspended (waiting_in old)) _ _ _ seen.program seen.name seen.label kept.nested_is);
        ended = going new c.pending;
      };
      whole = record {
        program = program_seen new placed ∙ ap (λ p. p.now) program ∙ sym (program_seen old placed);
        name = name_seen new placed ∙ name ∙ sym (name_seen old placed);
        label = label_seen new placed ∙ label ∙ sym (label_seen old placed);
      };
      same = seen;
      parents = parents;
      locks = c.locks;
      pending = c.pending;
      work = omega (arith, c.work, ap works parents);
      trace = (answered, pending, sym c.trace);
    }

-- The hold is counted among the outermost thread's own data, or in the line at the thread's place.
record HoldCounted (ps : List Parent) (old new : Own) (lines written : List ThreadLine) (place lock : ℕ) : Type 0 where
  own_name : new.name ≡ old.name
  own_label : new.label ≡ old.label
  name : (owned_at new ps written place).name ≡ (owned_at old ps lines place).name
  label : (owned_at new ps written place).label ≡ (owned_at old ps lines place).label
  holds : (n : ℕ) (own : ℕ → ℕ) → (owned_at old ps lines place).holds ≡ tabulated n own →
      (owned_at new ps written place).holds ≡ tabulated n (λ other. own other + (if other == lock then 1 else 0))
  below : below_at ps written place ≡ below_at ps lines place
  length_is : length written ≡ length lines
  waits : (program : Bor Program) (frames : List Frame) (start : ℕ) (env : Environment) → waiting program new ps written frames start place env ≡ waiting program old ps lines frames start place env

hold_counted : (ps : List Parent) (old new : Own) (lines written : List ThreadLine) (place lock : ℕ) → IsLineOf ps place (length lines) → IsCountedIn ps old new lines written place lock →
    HoldCounted ps old new lines written place lock
hold_counted [] old new lines written place lock there h = record {
  own_name = h.1;
  own_label = h.2;
  name = h.1;
  label = h.2;
  holds = h.3;
  below = h.0;
  length_is = ap length h.0;
  waits = λ program frames start env. refl;
}
hold_counted (p ∷ ps) old new lines written place lock there h =
    let one = h.1.counted _ in
    let is : line_at written place ≡ h.1.line = ap (λ l. line_at l place) h.1.lines ∙ get_or-set_same lines place h.1.line _ there in
    let before : take place written ≡ take place lines = ap (take place) h.1.lines ∙ take-set lines place h.1.line in
    record {
      own_name = ap (λ o. o.name) h.0;
      own_label = ap (λ o. o.label) h.0;
      name = ap (λ l. l.name) is ∙ one.name;
      label = ap (λ l. record { tag = l.tag; ran = l.ran }) is ∙ ap (λ t. record { tag = t; ran = h.1.line.ran }) one.tag ∙ ap (λ r. record { tag = (line_at lines place).tag; ran = r }) one.ran;
      holds = λ n own e. ap (λ l. l.holds) is ∙ one.holds n own e;
      below = ap (drop (place + 1)) h.1.lines ∙ drop-set-lt (place + 1) lines place h.1.line (omega arith);
      length_is = ap length h.1.lines ∙ length-set lines place h.1.line;
      waits = λ program frames start env.
          let by : Own → List ThreadLine → List Strand = λ own l.
          let t = strand_at program own ps l p.level env (take start frames) p.control in
          t ∷ waiting program own ps l (take start frames) p.level.start p.level.place (ending t).env in
          ap (λ l. by new l) before ∙ ap (λ o. by o (take place lines)) h.0;
    }

-- An answer that counts changes at most the thread's own data, the lines, the sums and the next action.
record KeepsRest (old new : State) : Type 0 where
  program : new.program ≡ old.program
  parents : new.parents.items ≡ old.parents.items
  level : new.level ≡ old.level
  frames : new.frames.items ≡ old.frames.items
  environment : new.environment.items ≡ old.environment.items

-- the body begins
with_body : (old counted new : State) (body : Bor Expr) → new ≡ record counted { control = Begin body } → KeepsRest old counted → KeepsRest old new
with_body old counted new body is h = record {
  program = ap (λ s. s.program) is ∙ h.program;
  parents = ap (λ s. s.parents.items) is ∙ h.parents;
  level = ap (λ s. s.level) is ∙ h.level;
  frames = ap (λ s. s.frames.items) is ∙ h.frames;
  environment = ap (λ s. s.environment.items) is ∙ h.environment;
}

-- the innermost thread after such an answer
top_rest : (old new : State) → KeepsRest old new → (top new).own.name ≡ (top old).own.name → (top new).own.label ≡ (top old).own.label → (top new).below ≡ (top old).below →
    LeavesRest (top old) (top new)
top_rest old new h name label below = assumption (ap (λ x. x.forks) h.level, ap (λ x. drop x.start new.frames.items) h.level ∙ ap (drop old.level.start) h.frames)

-- the lines below the innermost
below_rest : (old new : State) (lines : List ThreadLine) → KeepsRest old new → new.lines ≡ lines → (top new).below ≡ below_at (reverse old.parents.items) lines old.level.place
below_rest old new lines h is =
    let ps = reverse old.parents.items in
    ap (λ x. below_at (reverse x) new.lines new.level.place) h.parents ∙ ap (λ x. below_at ps x new.level.place) is ∙ ap (λ x. below_at ps lines x.place) h.level

waits_rest : (old new : State) (own : Own) (lines : List ThreadLine) → KeepsRest old new → new.own ≡ own → new.lines ≡ lines → ending (top new) ≡ ending (top old) →
    waiting_in new ≡ waiting old.program own (reverse old.parents.items) lines old.frames.items old.level.start old.level.place (ending (top old)).env
waits_rest old new own lines h own_is lines_are ends =
    let ps = reverse old.parents.items in
    let env = (ending (top old)).env in
    ap (λ e. waiting new.program new.own (reverse new.parents.items) new.lines new.frames.items new.level.start new.level.place e.env) ends
    ∙ ap (λ x. waiting x new.own (reverse new.parents.items) new.lines new.frames.items new.level.start new.level.place env) h.program
    ∙ ap (λ x. waiting old.program x (reverse new.parents.items) new.lines new.frames.items new.level.start new.level.place env) own_is
    ∙ ap (λ x. waiting old.program own (reverse x) new.lines new.frames.items new.level.start new.level.place env) h.parents
    ∙ ap (λ x. waiting old.program own ps x new.frames.items new.level.start new.level.place env) lines_are
    ∙ ap (λ x. waiting old.program own ps lines x new.level.start new.level.place env) h.frames
    ∙ ap (λ x. waiting old.program own ps lines old.frames.items x.start x.place env) h.level

fits_rest : (old new : State) → KeepsRest old new → length new.lines ≡ length old.lines →
    Fits (reverse old.parents.items) old.level.start old.level.place (length old.frames.items) (length old.lines) →
    Fits (reverse new.parents.items) new.level.start new.level.place (length new.frames.items) (length new.lines)
fits_rest old new h many fits =
    let ps = reverse old.parents.items in
    subst (λ x. Fits (reverse x) new.level.start new.level.place (length new.frames.items) (length new.lines)) (sym h.parents)
    (subst (λ x. Fits ps x.start x.place (length new.frames.items) (length new.lines)) (sym h.level)
    (subst (λ x. Fits ps old.level.start old.level.place (length x) (length new.lines)) (sym h.frames)
    (subst (λ x. Fits ps old.level.start old.level.place (length old.frames.items) x) (sym many) fits)))

pub hold_past : (old counted new : State) (placed : List (Box State)) (lock : ℕ) (body : Bor Expr) → IsKept old placed → old.control ≡ Asks lock body → CountsHold old counted lock →
    new ≡ record counted { control = Begin body } → Counted old new placed × Counts (pause.Asks lock) (held lock) (top old) (top new)
hold_past old counted new placed lock body kept asks h is =
    let ps = reverse old.parents.items in
    let h' = hold_counted ps old.own counted.own old.lines counted.lines old.level.place lock (line_in old kept.sound) h.counted in
    let rest = with_body old counted new body is (record { program = h.program; parents = h.parents; level = h.level; frames = h.frames; environment = h.environment }) in
    let lines : new.lines ≡ counted.lines = ap (λ s. s.lines) is in
    let own : new.own ≡ counted.own = ap (λ s. s.own) is in
    let owned : owned_at new.own (reverse new.parents.items) new.lines new.level.place ≡ owned_at counted.own ps counted.lines old.level.place =
    ap (λ o. owned_at o (reverse new.parents.items) new.lines new.level.place) own ∙ ap (λ x. owned_at counted.own (reverse x) new.lines new.level.place) rest.parents
    ∙ ap (λ x. owned_at counted.own ps x new.level.place) lines ∙ ap (λ x. owned_at counted.own ps counted.lines x.place) rest.level in
    let above = top_rest old new rest (ap (λ o. o.name) owned ∙ h'.name) (ap (λ o. o.label) owned ∙ h'.label) (below_rest old new counted.lines rest lines ∙ h'.below) in
    let counts = counts_hold (top old) (top new) lock body asks (ap (λ s. s.control) is) above
    (λ n f e. ap (λ o. o.holds) owned ∙ h'.holds n f e) in
    let waits = waits_rest old new counted.own counted.lines rest own lines counts.ending ∙ h'.waits old.program old.frames.items old.level.start (ending (top old)).env in
    let many : length new.lines ≡ length old.lines = ap length lines ∙ h'.length_is in (
      counted_by old new placed (pause.Asks lock) (held lock) kept (ap pending_of asks) refl (λ name next. refl) counts rest.program (ap (λ o. o.name) own ∙ h'.own_name) (ap (λ o. o.label) own ∙ h'.own_label)
          waits (fits_rest old new rest many kept.sound.fits) many (λ n f e. ap (λ s. s.sums.items) is ∙ h.sums ∙ e ∙ tabulated-same n f (λ ledger. f ledger + 0) (λ k. omega arith)),
      counts,
    )

pub tally_past : (old counted new : State) (placed : List (Box State)) (ledger amount : ℕ) (body : Bor Expr) → IsKept old placed → old.control ≡ Tallies ledger amount body → CountsTally old counted ledger amount →
    new ≡ record counted { control = Begin body } → Counted old new placed × Counts (pause.Tallies ledger amount) (tallied ledger amount) (top old) (top new)
tally_past old counted new placed ledger amount body kept tallies h is =
    let ps = reverse old.parents.items in
    let rest = with_body old counted new body is (record { program = h.program; parents = h.parents; level = h.level; frames = h.frames; environment = h.environment }) in
    let lines : new.lines ≡ old.lines = ap (λ s. s.lines) is ∙ h.lines in
    let own : new.own ≡ old.own = ap (λ s. s.own) is ∙ h.own in
    let owned : (top new).own ≡ (top old).own =
    ap (λ o. owned_at o (reverse new.parents.items) new.lines new.level.place) own ∙ ap (λ x. owned_at old.own (reverse x) new.lines new.level.place) rest.parents
    ∙ ap (λ x. owned_at old.own ps x new.level.place) lines ∙ ap (λ x. owned_at old.own ps old.lines x.place) rest.level in
    let above = top_rest old new rest (ap (λ o. o.name) owned) (ap (λ o. o.label) owned) (below_rest old new old.lines rest lines) in
    let counts = counts_tally (top old) (top new) ledger amount body tallies (ap (λ s. s.control) is) above
    (λ n f e. ap (λ o. o.holds) owned ∙ e ∙ tabulated-same n f (λ lock. f lock + 0) (λ k. omega arith)) in
    let waits = waits_rest old new old.own old.lines rest own lines counts.ending in
    let many : length new.lines ≡ length old.lines = ap length lines in (
      counted_by old new placed (pause.Tallies ledger amount) (tallied ledger amount) kept (ap pending_of tallies) refl (λ name next. refl) counts rest.program (ap (λ o. o.name) own) (ap (λ o. o.label) own)
          waits (fits_rest old new rest many kept.sound.fits) many (λ n f e. ap (λ s. s.sums.items) is ∙ h.sums n f e),
      counts,
    )
