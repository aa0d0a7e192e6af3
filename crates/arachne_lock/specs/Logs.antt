-- A seat's log at first, and after each step.
use Rattle.std.specs.Prelude.{ℕ, ◌+◌, List, [], ◌∷◌, ◌++◌, length}
use Rattle.arachne_lock.specs.declared.{event.QueueEvent.QueueEvent, view.EventLog.EventLog, view.Sight.Sight}
use Rattle.arachne_lock.specs.{declared.view.Try.Try, Placed.placed}

-- the log of a seat that has done and seen nothing
abbrev pub blank_log : EventLog
blank_log = record { made = []; seen = []; tries = []; splits = 0 }

abbrev pub sight : ℕ → List QueueEvent → Sight
sight lock history = record { lock = lock; history = history }

abbrev pub one_try : ℕ → ℕ → Try
one_try lock found = record { lock = lock; found = found }

-- the log after the lock's guard was found taken
abbrev pub contended_log : EventLog → ℕ → EventLog
contended_log l lock = record l { tries = one_try lock 1 ∷ l.tries }

-- the log after the lock's guard was taken, with this history of the lock
abbrev pub taken_log : EventLog → ℕ → List QueueEvent → EventLog
taken_log l lock history = record l { seen = sight lock history ∷ l.seen; tries = one_try lock 0 ∷ l.tries }

-- the log after the lock's guard was given back, with these events added
abbrev pub given_back_log : EventLog → ℕ → List QueueEvent → List QueueEvent → EventLog
given_back_log l lock history events = record l {
  made = l.made ++ placed lock (length history) events;
  seen = sight lock (history ++ events) ∷ l.seen;
}

-- the log after a call that took the guard at this history, and added these events
abbrev pub answered_log : EventLog → ℕ → List QueueEvent → List QueueEvent → EventLog
answered_log l lock history events = given_back_log (taken_log l lock history) lock history events

-- the log after the seat was split once more
abbrev pub split_log : EventLog → EventLog
split_log l = record l { splits = l.splits + 1 }

-- the log of a seat that is split off: it has seen what the other has, and done nothing
abbrev pub cut_log : EventLog → EventLog
cut_log l = record { made = []; seen = l.seen; tries = []; splits = 0 }

-- the log of a seat after another was joined into it
abbrev pub joined_log : EventLog → EventLog → EventLog
joined_log l o = record { made = l.made ++ o.made; seen = l.seen ++ o.seen; tries = l.tries ++ o.tries; splits = l.splits + o.splits }
