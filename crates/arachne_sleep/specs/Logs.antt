-- A seat's log at first, and after each step.
use Rattle.std.specs.Prelude.{ℕ, List, [], ◌∷◌, ◌++◌, slice_index_or, Option, Some, None}
use Rattle.arachne_sleep.specs.declared.{event.LockEvent.LockEvent, answer.Pass.Pass, view.{Record.Record, Kind.Kind}}
use Rattle.arachne_sleep.specs.{declared.view.SeatLog.SeatLog, Histories.since, Words.guard_word}
use Rattle.arachne_sleep.specs.declared.view.Kind.TheVariants as kind

-- the log of a seat that has done and seen nothing, at the lock with this number
abbrev pub blank_log : ℕ → SeatLog
blank_log number = record { number = number; made = []; passes = []; seen = []; records = [] }

abbrev pub step_record : Kind → ℕ → ℕ → Record
step_record kind before after = record { kind = kind; word = guard_word; before = before; after = after }

-- the log after the guard was seen taken
abbrev pub contended_log : SeatLog → SeatLog
contended_log l = record l { records = step_record kind.Take 1 1 ∷ l.records }

-- the log after the guard was taken, with a state that has this history
abbrev pub taken_log : SeatLog → List LockEvent → SeatLog
taken_log l history = record l { seen = history ∷ []; records = step_record kind.Take 0 1 ∷ l.records }

abbrev pub passes_of : Option Pass → List Pass
passes_of None = []
passes_of (Some pass) = pass ∷ []

-- the log after a call that took the guard at the history `before`, left `after` and got this pass
abbrev pub answered_log : SeatLog → List LockEvent → List LockEvent → Option Pass → SeatLog
answered_log l before after pass = record l {
  made = l.made ++ since before after;
  passes = l.passes ++ passes_of pass;
  seen = after ∷ [];
  records = step_record kind.GiveBack 1 0 ∷ step_record kind.Take 0 1 ∷ l.records;
}

-- the log after the guard was given back, with a state that has this history, by a call that got this pass
abbrev pub given_back_log : SeatLog → List LockEvent → Option Pass → SeatLog
given_back_log l after pass = record l {
  made = l.made ++ since (slice_index_or l.seen 0 []) after;
  passes = l.passes ++ passes_of pass;
  seen = after ∷ [];
  records = step_record kind.GiveBack 1 0 ∷ l.records;
}

-- the log of a seat that is split off: it has seen what the other has
abbrev pub cut_log : SeatLog → SeatLog
cut_log l = record l { made = []; passes = []; records = [] }

-- the log of a seat after another was joined into it: it has its own steps
abbrev pub joined_log : SeatLog → SeatLog → SeatLog
joined_log l o = record l { made = l.made ++ o.made; passes = l.passes ++ o.passes; seen = l.seen ++ o.seen }
