-- The view that callers have of a state.
use Rattle.std.{proofs.Common.{◌≡◌, ◌+◌, List, [], ◌∷◌, refl, ap, sym, ◌∙◌, take, map, reverse}, specs.Borrow.Bor}
use Rattle.std.specs.Global.{Box}
use Rattle.arachne_program.specs.{declared.program.Program.Program, Program.source_of, Checked.IsChecked}
use Rattle.arachne_program.specs.Value.{Environment}
use Rattle.arachne_machine.specs.declared.{frame.{Frame.Frame, Control.Control}, level.{Level.Level, Parent.Parent}}
use Rattle.arachne_machine.specs.declared.{line.ThreadLine.ThreadLine, state.{Own.Own, State.State}}
use Rattle.arachne_machine.specs.{Ending.ending, Strands.{Owned, Strand, strand_at}}
use Rattle.arachne_machine.specs.{Steps.{suspended, top, waiting, waiting_in}, Runs.{last_of, outermost_in, works_left}}
use Rattle.arachne_machine.specs.{Nested.{Nested, SameWhole, outermost, whole, works}, Sound.IsSoundState}
use Rattle.arachne_machine.{specs.{Faultless.PausesWithin, Kept.nested}, proofs.Advancing.within_seen_sound}

-- The outermost thread that callers see is that of the state.
pub outermost_seen : (t : Strand) (ts : List Strand) → outermost (suspended t) (map suspended ts) ≡ suspended (last_of t ts)
outermost_seen t [] = refl
outermost_seen t (p ∷ ps) = outermost_seen p ps

pub works_seen : (ts : List Strand) → works (map suspended ts) ≡ works_left ts
works_seen [] = refl
works_seen (t ∷ ts) = ap (λ n. (suspended t).work + n) (works_seen ts)

abbrev owned_by : Own → Owned
owned_by own = record { name = own.name; label = own.label; holds = own.holds.items }

-- its line is apart
last_own : (program : Bor Program) (own : Own) (ps : List Parent) (lines : List ThreadLine) (level : Level) (env left : Environment) (frames : List Frame) (k : Control) →
    (last_of (strand_at program own ps lines level env frames k) (waiting program own ps lines frames level.start level.place left)).own ≡ owned_by own
last_own program own [] lines level env left frames k = refl
last_own program own (p ∷ ps) lines level env left frames k =
    last_own program own ps (take level.place lines) p.level left
    (ending (strand_at program own ps (take level.place lines) p.level left (take level.start frames) p.control)).env (take level.start frames) p.control

last_program : (program : Bor Program) (own : Own) (ps : List Parent) (lines : List ThreadLine) (level : Level) (env left : Environment) (frames : List Frame) (k : Control) →
    (last_of (strand_at program own ps lines level env frames k) (waiting program own ps lines frames level.start level.place left)).program ≡ program
last_program program own [] lines level env left frames k = refl
last_program program own (p ∷ ps) lines level env left frames k =
    last_program program own ps (take level.place lines) p.level left
    (ending (strand_at program own ps (take level.place lines) p.level left (take level.start frames) p.control)).env (take level.start frames) p.control

pub outermost_own : (t : State) → (outermost_in t).own ≡ owned_by t.own
outermost_own t = last_own t.program t.own (reverse t.parents.items) t.lines t.level t.environment.items (ending (top t)).env t.frames.items t.control

pub outermost_program : (t : State) → (outermost_in t).program ≡ t.program
outermost_program t = last_program t.program t.own (reverse t.parents.items) t.lines t.level t.environment.items (ending (top t)).env t.frames.items t.control

pub whole_seen : (t : State) (placed : List (Box State)) → whole (nested t placed) ≡ suspended (outermost_in t)
whole_seen t placed = outermost_seen (top t) (waiting_in t)

pub label_seen : (t : State) (placed : List (Box State)) → (whole (nested t placed)).label ≡ t.own.label
label_seen t placed = ap (λ s. s.label) (whole_seen t placed) ∙ ap (λ o. o.label) (outermost_own t)

pub name_seen : (t : State) (placed : List (Box State)) → (whole (nested t placed)).name ≡ t.own.name
name_seen t placed = ap (λ s. s.name) (whole_seen t placed) ∙ ap (λ o. o.name) (outermost_own t)

pub program_seen : (t : State) (placed : List (Box State)) → (whole (nested t placed)).program ≡ t.program.now
program_seen t placed = ap (λ s. s.program) (whole_seen t placed) ∙ ap (λ p. p.now) (outermost_program t)

-- the outermost thread depends only on the program and its own data
pub same_whole : (old new : State) (placed others : List (Box State)) → new.program ≡ old.program → new.own ≡ old.own → SameWhole (nested old placed) (nested new others)
same_whole old new placed others program own = record {
  program = program_seen new others ∙ ap (λ p. p.now) program ∙ sym (program_seen old placed);
  name = name_seen new others ∙ ap (λ o. o.name) own ∙ sym (name_seen old placed);
  label = label_seen new others ∙ ap (λ o. o.label) own ∙ sym (label_seen old placed);
}

-- the lock or ledger that the innermost thread's pause names exists
pub pauses_seen : (t : State) → IsSoundState t → IsChecked (source_of t.program.now) → PausesWithin (suspended (top t))
pauses_seen t s checked = within_seen_sound (top t) s.sound.0 s.sound.2 checked

-- a thread that waits for none
pub whole_is : (t : Nested) → t.parents ≡ [] → whole t ≡ t.running
whole_is t e = ap (outermost t.running) e
