-- The end of an executor, and the result that C gets.
use Rattle.std.specs.Prelude.{◌≡◌, ◌≢◌, ◌⊎◌, ℕ, ◌*◌, ◌<◌, ◌≤◌, List, length, drop, ◌++◌}
use Rattle.std.specs.declared.option.Option.{Option}
use Rattle.std.specs.declared.option.Option.TheVariants.{None, Some}
use Rattle.arachne_weights.specs.Weight.{whole}
use Rattle.arachne_exec.specs.Ending.{IsSettled, IsLawfulEnd}
use Rattle.arachne_exec_c.specs.Codes.{done, refused, no_memory}
use Rattle.arachne_exec_c.specs.Executing.{Exec, IsEmptyHanded}
use Rattle.arachne_exec_c.specs.declared.exec_told.ArachneExecLeft.{ArachneExecLeft}

-- The executor has ended. These are the jobs that were spawned and haven't ended, and the invariant allows a board on
-- which the seat has this record.
pub record HasEnded (exec : Exec) (jobs : List ℕ) : Type 0 where
  pub empty : IsEmptyHanded exec
  pub whole_seat : exec.seat.weight ≡ whole
  pub settled : IsSettled exec.seat.known jobs
  pub lawful : IsLawfulEnd exec.executor.shards exec.seat.known

-- the numbers of the jobs left are at the beginning of the array, whose rest is unchanged
pub record IsHandedBack (jobs room written : List ℕ) (told : ArachneExecLeft) : Type 0 where
  pub code : told.code ≡ done
  pub count : told.count ≡ length jobs
  pub written_over : written ≡ jobs ++ drop (length jobs) room

-- Done: the handle holds nothing, and the jobs that are left are in the array. Otherwise nothing has changed.
abbrev pub IsEndTold : Option Exec → Option Exec → List ℕ → List ℕ → ArachneExecLeft → Type 0
IsEndTold old new room written told =
    ((exec : Exec) × (jobs : List ℕ) × (old ≡ Some exec) × (new ≡ None) × HasEnded exec jobs × IsHandedBack jobs room written told)
    ⊎ (((told.code ≡ refused) ⊎ (told.code ≡ no_memory)) × (told.count ≡ 0) × (new ≡ old) × (written ≡ room))
