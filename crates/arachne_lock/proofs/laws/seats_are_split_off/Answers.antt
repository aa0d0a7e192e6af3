use Rattle.arachne_lock.proofs.Coming.{alone, new_locks, new-kept, new-long, new-wide}
use Rattle.arachne_lock.proofs.laws.seats_are_split_off.Goals as goal

pub returns : goal.returns
returns c = record {
  enters = λ locks word may. let made = may (new_locks locks) (new-kept locks) (new-long locks) (new-wide locks word) in alone made.0 made.1.seats;
  arrives = λ locks word f may. let made = may (new_locks locks) (new-kept locks) (new-long locks) (new-wide locks word) in alone made.0 made.3.seats;
}
