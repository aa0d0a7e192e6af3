-- The jobs left at the end, when all seats were joined into one that holds no job.
use Rattle.std.specs.Prelude.{◌≡◌, ℕ, ◌+◌, ◌<◌, List}
use mathlib.Core.Option.{some}
use lib.ListN.{get_elem?}
use Rattle.arachne_weights.specs.{Tokens.held, Weight.whole}
use Rattle.arachne_exec.specs.{declared.view.Notes.Notes, Board.{times, jobs_in, Board, IsLawful}}

-- each job number but 0 was spawned as often as it has ended and is in the list; 0 isn't in the list
pub record IsSettled (k : Notes) (left : List ℕ) : Type 0 where
  pub settled : (job : ℕ) → 0 < job → jobs_in job k.spawned ≡ jobs_in job k.ended + times job left
  pub numbers : times 0 left ≡ 0

-- the invariant allows a board on which the seat with the whole weight has this record, so each law holds there
pub record IsLawfulEnd (shards : ℕ) (k : Notes) : Type 0 where
  pub board : Board
  pub lawful : IsLawful shards board
  pub seat : ℕ
  pub there : get_elem? board.views seat ≡ some (held whole k)
