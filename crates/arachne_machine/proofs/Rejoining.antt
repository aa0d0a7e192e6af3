-- The outcome of a child that had a state of its own is joined.
use Rattle.std.proofs.Common.{◌≡◌, ◌≤◌, length, length-append, append_assoc, ℕ, ◌+◌, List, [], ◌∷◌, ◌++◌, None, refl, ap, sym, ◌∙◌, subst, arith, take, drop, map, reverse}
use Rattle.std.{specs.{Borrow.Bor, Global.Box}, proofs.lemmas.List.{drop-append-le, get_or_append_left, take-append-le}}
use Rattle.arachne_program.specs.{declared.program.Program.Program, Program.source_of}
use Rattle.arachne_program.specs.{Value.{Environment, apply, operation_of}, Effects.{tabulated, task_effects}}
use Rattle.arachne_machine.specs.declared.frame.{Frame.{Frame, TheVariants.Restore}, Control.Control}
use Rattle.arachne_machine.specs.declared.{frame.Control.TheVariants.{Awaits, AwaitsHalf}, level.Parent.Parent}
use Rattle.arachne_machine.specs.declared.{line.ThreadLine.ThreadLine, state.{Own.Own, State.State}}
use Rattle.arachne_machine.specs.{Ending.ending, Lines.Gains, Outcome.{Finished, IsOfItsName, meaning_in}}
use Rattle.arachne_machine.specs.{Strands.{Fits, below_at, owned_at, owned_of}, Sound.{AreSound, IsSoundState, RunFor}}
use Rattle.arachne_machine.specs.Steps.{HasLine, IsLineOf, Joins, pending_of, suspended, top, waiting, waiting_in}
use Rattle.arachne_machine.specs.{Runs.{JoinsOutcome, ResumesAs}, Suspended.{Joined, added}, Kept.{IsKept, nested}}
use Rattle.arachne_machine.{specs.Nested.{IsNested, SameWhole, work_in, works}, proofs.Going.{line_in, start_in}}
use Rattle.arachne_machine.proofs.{Tabulated.{added_is, length-tabulated}, Nesting.same_whole}
use Rattle.arachne_machine.proofs.Soundness.{join_keeps, join_sums, joined_account, joined_seen, sound_join, outcome_task}
use Rattle.arachne_machine.proofs.{Joining.{awaited_child, joins_fork, joins_half}, Answering.{going, nested_same}}
use Rattle.arachne_machine.proofs.Levels.{below_few, run_for_same, waiting_frames, waiting_lines}

-- Lines that are appended change no thread's own line, and are below the innermost thread.
pub appended_own : (own : Own) (ps : List Parent) (lines more : List ThreadLine) (place : ℕ) → IsLineOf ps place (length lines) → owned_at own ps (lines ++ more) place ≡ owned_at own ps lines place
appended_own own [] lines more place there = refl
appended_own own (p ∷ ps) lines more place there = ap owned_of (get_or_append_left lines more _ place there)

pub appended_below : (ps : List Parent) (lines more : List ThreadLine) (place : ℕ) → IsLineOf ps place (length lines) → below_at ps (lines ++ more) place ≡ below_at ps lines place ++ more
appended_below [] lines more place there = refl
appended_below (p ∷ ps) lines more place there = drop-append-le (place + 1) lines more (omega (arith, there))

pub appended_waits : (program : Bor Program) (own : Own) (ps : List Parent) (lines more : List ThreadLine) (frames frames' : List Frame) (start place : ℕ) (env : Environment) →
    IsLineOf ps place (length lines) → take start frames' ≡ take start frames → waiting program own ps (lines ++ more) frames' start place env ≡ waiting program own ps lines frames start place env
appended_waits program own [] lines more frames frames' start place env there same = refl
appended_waits program own (p ∷ ps) lines more frames frames' start place env there same =
    waiting_frames program own (p ∷ ps) (lines ++ more) frames frames' start place env same
    ∙ waiting_lines program own (p ∷ ps) lines (lines ++ more) frames start place env (take-append-le place lines more (omega (arith, there)))

-- the innermost thread's own line, and those below it
own_joined : (old new : State) (outcome : Finished) → HasLine old → JoinsOutcome old outcome new → (top new).own ≡ (top old).own
own_joined old new outcome there j =
    let ps = reverse old.parents.items in
    ap (λ o. owned_at o (reverse new.parents.items) new.lines new.level.place) j.own ∙ ap (λ x. owned_at old.own (reverse x) new.lines new.level.place) j.parents
    ∙ ap (λ x. owned_at old.own ps x new.level.place) j.lines ∙ ap (λ x. owned_at old.own ps (old.lines ++ outcome.lines) x.place) j.level
    ∙ appended_own old.own ps old.lines outcome.lines old.level.place there

below_joined : (old new : State) (outcome : Finished) → HasLine old → JoinsOutcome old outcome new → (top new).below ≡ (top old).below ++ outcome.lines
below_joined old new outcome there j =
    let ps = reverse old.parents.items in
    ap (λ x. below_at (reverse x) new.lines new.level.place) j.parents ∙ ap (λ x. below_at ps x new.level.place) j.lines ∙ ap (λ x. below_at ps (old.lines ++ outcome.lines) x.place) j.level
    ∙ appended_below ps old.lines outcome.lines old.level.place there

gains_joined : (old new : State) (outcome : Finished) → HasLine old → JoinsOutcome old outcome new → Gains (top old).below outcome.lines (top new).below
gains_joined old new outcome there j =
    let is = below_joined old new outcome there j in
    record {
      lines_are = is;
      more = omega (arith, ap length is, length-append (top old).below outcome.lines, j.some);
      few = omega (arith, below_few (reverse new.parents.items) new.lines new.level.start new.level.place 0 0 (top new).below refl, j.few);
    }

joins_in : (old new : State) (outcome : Finished) (k : Control) → old.control ≡ k → old.level.start ≤ length old.frames.items → HasLine old → JoinsOutcome old outcome new →
    ResumesAs k old.environment.items old.frames.items outcome.value new → Joins (top old) outcome (top new)
joins_in old new outcome (Awaits n v next) is le there j r =
    let env = old.environment.items in
    joins_fork (top old) (top new) outcome n v next is (awaited_child (top old) n (Awaits n v next) outcome.name is refl j.of_child) j.program (own_joined old new outcome there j)
    (ap (λ x. x.forks) j.level) r.2
    (ap (λ x. drop x.start new.frames.items) j.level ∙ ap (drop old.level.start) r.1 ∙ drop-append-le old.level.start old.frames.items (Restore (length env) ∷ []) le)
    (r.0 ∙ sym (append_assoc env (outcome.value ∷ []) (v ∷ []))) (gains_joined old new outcome there j)
joins_in old new outcome (AwaitsHalf n right reduction) is le there j r =
    joins_half (top old) (top new) outcome n right (apply (operation_of reduction) outcome.value right) reduction is
    (awaited_child (top old) n (AwaitsHalf n right reduction) outcome.name is refl j.of_child) j.program (own_joined old new outcome there j)
    (ap (λ x. x.forks) j.level) r.2 refl (ap (λ x. drop x.start new.frames.items) j.level ∙ ap (drop old.level.start) r.1) r.0 (gains_joined old new outcome there j)
joins_in old new outcome _ is le there j r = absurd r

frames_joined : (k : Control) (env : Environment) (fs : List Frame) (value start : ℕ) (new : State) → start ≤ length fs → ResumesAs k env fs value new →
    (take start new.frames.items ≡ take start fs) × (length fs ≤ length new.frames.items)
frames_joined (Awaits n v next) env fs value start new le r =
    (ap (take start) r.1 ∙ take-append-le start fs (Restore (length env) ∷ []) le, omega (arith, ap length r.1, length-append fs (Restore (length env) ∷ [])))
frames_joined (AwaitsHalf n right reduction) env fs value start new le r = (ap (take start) r.1, omega (arith, ap length r.1))
frames_joined _ env fs value start new le r = absurd r

fits_more : (ps : List Parent) (start place frames lines frames' lines' : ℕ) → frames ≤ frames' → lines ≤ lines' → Fits ps start place frames lines → Fits ps start place frames' lines'
fits_more [] start place frames lines frames' lines' f l h = h
fits_more (p ∷ ps) start place frames lines frames' lines' f l h = (omega (arith, h.0, f), omega (arith, h.1, l), h.2)

-- The state, and the view that callers have of it, after the join.
pub record Rejoined (old new : State) (placed : List (Box State)) (outcome : Finished) : Type 0 where
  pub kept : IsKept new placed
  pub whole : SameWhole (nested old placed) (nested new placed)
  pub joined : Joined (suspended (top old)) outcome (suspended (top new))
  pub parents : map suspended (waiting_in new) ≡ map suspended (waiting_in old)
  pub pending : pending_of new.control ≡ None
  pub work : work_in (nested new placed) ≡ work_in (nested old placed)
  pub sums : new.sums.items ≡ added old.sums.items outcome.sums

pub rejoined : (old new : State) (placed : List (Box State)) (outcome : Finished) → IsKept old placed → IsOfItsName outcome → source_of outcome.program ≡ source_of old.program.now → JoinsOutcome old outcome new →
    Rejoined old new placed outcome
rejoined old new placed outcome kept of_name source j =
    let s = kept.sound in
    let ps = reverse old.parents.items in
    let le = start_in old s in
    let there = line_in old s in
    let joins = joins_in old new outcome old.control refl le there j j.resumes in
    let kept_on = join_keeps (top old) (top new) outcome of_name source joins in
    let sums = join_sums (top old) (top new) outcome s.sound.0 of_name source joins in
    let frames = frames_joined old.control old.environment.items old.frames.items outcome.value old.level.start new le j.resumes in
    let own = own_joined old new outcome there j in
    let seen = joined_seen (top old) (top new) outcome of_name source joins in
    let waits : waiting_in new ≡ waiting_in old =
    ap (λ e. waiting new.program new.own (reverse new.parents.items) new.lines new.frames.items new.level.start new.level.place e.env) kept_on.ending
    ∙ ap (λ x. waiting x new.own (reverse new.parents.items) new.lines new.frames.items new.level.start new.level.place (ending (top old)).env) j.program
    ∙ ap (λ x. waiting old.program x (reverse new.parents.items) new.lines new.frames.items new.level.start new.level.place (ending (top old)).env) j.own
    ∙ ap (λ x. waiting old.program old.own (reverse x) new.lines new.frames.items new.level.start new.level.place (ending (top old)).env) j.parents
    ∙ ap (λ x. waiting old.program old.own ps x new.frames.items new.level.start new.level.place (ending (top old)).env) j.lines
    ∙ ap (λ x. waiting old.program old.own ps (old.lines ++ outcome.lines) new.frames.items x.start x.place (ending (top old)).env) j.level
    ∙ appended_waits old.program old.own ps old.lines outcome.lines old.frames.items new.frames.items old.level.start old.level.place (ending (top old)).env there frames.0 in
    let parents = ap (map suspended) waits in
    let all : ℕ → ℕ = λ ledger. s.sums_of ledger + sums.0 ledger in
    let added_all = j.sums (source_of old.program.now).ledgers s.sums_of sums.0 s.sums sums.1 in
    record {
      kept = record {
        sound = record {
          sums_of = all;
          sums = subst (λ p. new.sums.items ≡ tabulated (source_of p.now).ledgers all) (sym j.program) added_all;
          sound = subst (λ ts. AreSound (top new ∷ ts) all) (sym waits) (
            joined_account (top old) joins.number s.sound.0,
            s.sound.1,
            sound_join (top old) (top new) outcome s.sound.0 s.sound.2 of_name source joins,
            s.sound.3,
            λ ledger. omega (arith, s.sound.4 ledger, sums.2 ledger),
          );
          run_for = subst (RunFor (top new)) (sym waits) (run_for_same (top old) (top new) (waiting_in old) own s.run_for);
          fits = subst (λ x. Fits (reverse x) new.level.start new.level.place (length new.frames.items) (length new.lines)) (sym j.parents)
              (subst (λ x. Fits ps x.start x.place (length new.frames.items) (length new.lines)) (sym j.level)
              (fits_more ps old.level.start old.level.place (length old.frames.items) (length old.lines) (length new.frames.items) (length new.lines) frames.1
              (omega (arith, ap length j.lines, length-append old.lines outcome.lines)) s.fits));
          few = j.few;
        };
        children = kept.children;
        nested_is = subst (λ qs. IsNested (record (nested new placed) { parents = qs })) (sym parents)
            (nested_same (suspended (top old)) (suspended (top new)) (map suspended (waiting_in old)) _ _ _ seen.program seen.name seen.label kept.nested_is);
        ended = going new joins.pending;
      };
      whole = same_whole old new placed placed j.program j.own;
      joined = seen;
      parents = parents;
      pending = joins.pending;
      work = omega (arith, kept_on.work, ap works parents);
      sums = added_is (source_of old.program.now).ledgers s.sums_of sums.0 old.sums.items outcome.sums new.sums.items s.sums sums.1 added_all;
    }

-- An outcome has a sum for each ledger.
pub as_many_sums : (old : State) (outcome : Finished) → IsSoundState old → IsOfItsName outcome → source_of outcome.program ≡ source_of old.program.now → length outcome.sums ≡ length old.sums.items
as_many_sums old outcome s of_name same_source =
    let source = source_of outcome.program in
    let found = outcome_task source outcome.name (meaning_in outcome) of_name in
    let effects = task_effects source.arrays source.locks found.0 in
    sym (ap (λ m. length m.totals) found.2) ∙ length-tabulated source.ledgers effects.sums ∙ ap (λ x. x.ledgers) same_source
    ∙ sym (length-tabulated (source_of old.program.now).ledgers s.sums_of) ∙ sym (ap length s.sums)
