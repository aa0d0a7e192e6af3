-- The threads of a state, one by one.
use Rattle.std.specs.{Prelude.{◌≤◌, ◌<◌, ◌≡◌, ℕ, ◌+◌, List, [], ◌∷◌, drop, get_or}, Borrow.Bor}
use Rattle.arachne_program.specs.{declared.program.Program.Program, Value.Environment}
use Rattle.arachne_machine.specs.declared.{frame.{Frame.Frame, Control.Control}, level.{Level.Level, Parent.Parent}}
use Rattle.arachne_machine.specs.declared.line.{Label.Label, Ran.TheVariants.Slot, ThreadLine.ThreadLine}
use Rattle.arachne_machine.specs.declared.state.Own.{Own}

-- the data of which a thread's own line is made
pub record Owned : Type 0 where
  pub name : List ℕ
  pub label : Label
  pub holds : List ℕ

-- a thread between two steps, without the others of its state
pub record Strand : Type 0 where
  pub program : Bor Program
  pub own : Owned
  -- the lines of the threads below it, as far as they were joined
  pub below : List ThreadLine
  -- the number of threads that it has forked
  pub forks : ℕ
  pub environment : Environment
  -- its frames, the newest of which is the last
  pub frames : List Frame
  pub control : Control

-- the data of a line
abbrev pub owned_of : ThreadLine → Owned
owned_of line = record { name = line.name; label = record { tag = line.tag; ran = line.ran }; holds = line.holds }

-- the line of an outermost thread
abbrev pub own_line : Own → ThreadLine
own_line own = record { name = own.name; tag = own.label.tag; holds = own.holds.items; ran = own.label.ran }

-- the line at a place
abbrev pub line_at : List ThreadLine → ℕ → ThreadLine
line_at lines place = get_or lines place (record { name = []; tag = 0; holds = []; ran = Slot })

-- The data of a thread's line. The outermost thread, which has no parents, has them apart; those of another one are in
-- the line at its place. The lines of the threads below it follow.
abbrev pub owned_at : Own → List Parent → List ThreadLine → ℕ → Owned
owned_at own [] lines place = record { name = own.name; label = own.label; holds = own.holds.items }
owned_at own (parent ∷ parents) lines place = owned_of (line_at lines place)

abbrev pub below_at : List Parent → List ThreadLine → ℕ → List ThreadLine
below_at [] lines place = lines
below_at (parent ∷ parents) lines place = drop (place + 1) lines

-- the thread at a level, given the threads that wait for it, the innermost first
abbrev pub strand_at : Bor Program → Own → List Parent → List ThreadLine → Level → Environment → List Frame → Control → Strand
strand_at program own parents lines level env frames control = record {
  program = program;
  own = owned_at own parents lines level.place;
  below = below_at parents lines level.place;
  forks = level.forks;
  environment = env;
  frames = drop level.start frames;
  control = control;
}

-- The frames and the line of each of these threads lie where its level says, within this many frames and lines.
abbrev pub Fits : List Parent → ℕ → ℕ → ℕ → ℕ → Type 0
Fits [] start place frames lines = start ≡ 0
Fits (parent ∷ parents) start place frames lines =
    (start ≤ frames) × (place < lines) × Fits parents parent.level.start parent.level.place start place

-- The place of a thread's line once its state has come behind this many lines of another state. The outermost thread's
-- line, which was apart, comes first, and the other lines behind it.
abbrev pub moved_place : ℕ → List Parent → ℕ → ℕ
moved_place lines [] place = lines
moved_place lines (parent ∷ parents) place = lines + 1 + place

abbrev pub moved_level : ℕ → ℕ → List Parent → Level → Level
moved_level frames lines parents level = record { start = frames + level.start; forks = level.forks; place = moved_place lines parents level.place }

-- the threads that wait, moved in the same way, the innermost first
abbrev pub moved_parents : ℕ → ℕ → List Parent → List Parent
moved_parents frames lines [] = []
moved_parents frames lines (parent ∷ parents) =
    record { level = moved_level frames lines parents parent.level; control = parent.control } ∷ moved_parents frames lines parents
