-- The changes of a seat's record by its steps.
use Rattle.std.specs.{Prelude.{ℕ, zero, suc, ◌+◌, ◌*◌, ◌/◌, ◌%◌, Bool, true, false, List, [], ◌∷◌, ◌++◌}, Int.bit_at}
use Rattle.arachne_weights.specs.{declared.token.Token.Token, Tokens.held}
use Rattle.arachne_weights.specs.Weight.{whole, first_part, second_part, joined}
use Rattle.arachne_exec.specs.declared.view.{Notes.Notes, SleepDeed.SleepDeed}
use Rattle.arachne_exec.specs.declared.view.SleepDeed.TheVariants.{LayDown, LayOn, Rose, Roused}
use Rattle.arachne_exec.specs.Layout.{idle_at, mark_at}

-- a seat that has done nothing
abbrev pub blank : Notes
blank = record { hand = []; spawned = []; ended = []; woken = []; heard = []; blocked = []; unblocked = []; freed = []; rested = 0; sleeps = []; looks = []; unspawned = 0; unshown = 0; owes = 0; worker = 0; seen = 0; splits = 0 }

-- the first seat has the whole weight
abbrev pub first_view : Token Notes
first_view = held whole blank

abbrev pub older : List (ℕ × ℕ) → List (ℕ × ℕ)
older [] = []
older (x ∷ xs) = xs

abbrev pub newest_job : List (ℕ × ℕ) → ℕ
newest_job [] = 0
newest_job (x ∷ xs) = x.1

abbrev pub newest_place : List (ℕ × ℕ) → ℕ
newest_place [] = 0
newest_place (x ∷ xs) = x.0

-- the seat now holds a place with its job, or several, or one whose job was blocked
abbrev pub gained : ℕ → ℕ → Notes → Notes
gained place job k = record k { hand = (place, job) ∷ k.hand }

abbrev pub gaining : List (ℕ × ℕ) → Notes → Notes
gaining jobs k = record k { hand = jobs ++ k.hand }

abbrev pub unblocking : ℕ → ℕ → Notes → Notes
unblocking place job k = record k { hand = (place, job) ∷ k.hand; unblocked = place ∷ k.unblocked }

-- the seat now holds a free place, at which it must spawn a job
abbrev pub claiming : ℕ → Notes → Notes
claiming place k = record k { hand = (place, 0) ∷ k.hand; unspawned = place + 1 }

-- the place that the seat took last is ready, free or blocked, and no longer held
abbrev pub laying_down : Notes → Notes
laying_down k = record k { hand = older k.hand; rested = k.rested + 1 }

abbrev pub freeing : Notes → Notes
freeing k = record k { hand = older k.hand; freed = newest_place k.hand ∷ k.freed }

abbrev pub blocking : Notes → Notes
blocking k = record k { hand = older k.hand; blocked = newest_place k.hand ∷ k.blocked }

-- the place that the seat took last got this job, is ready, and no longer held
abbrev pub spawning : ℕ → Notes → Notes
spawning job k = record k { hand = older k.hand; spawned = (newest_place k.hand, job) ∷ k.spawned; unspawned = 0 }

-- the place that the seat took last got this job, and is still held
abbrev pub beginning : ℕ → Notes → Notes
beginning job k = record k { hand = (newest_place k.hand, job) ∷ older k.hand; spawned = (newest_place k.hand, job) ∷ k.spawned; unspawned = 0 }

-- the job that the seat took last, at this place, has ended, and the place is still held, with no job
abbrev pub ending : ℕ → Notes → Notes
ending place k = record k { hand = (place, 0) ∷ older k.hand; ended = (place, newest_job k.hand) ∷ k.ended }

-- a wake of the job at a place was recorded
abbrev pub marking : ℕ → Notes → Notes
marking place k = record k { woken = place ∷ k.woken }

-- a wake was used up if it was recorded (1)
abbrev pub heard_more : ℕ → ℕ → List ℕ → List ℕ
heard_more zero place heard = heard
heard_more (suc n) place heard = place ∷ heard

abbrev pub hearing : ℕ → ℕ → Notes → Notes
hearing n place k = record k { heard = heard_more n place k.heard }

-- A mark that records no wake (0 modulo 4) stays. Any other was cleared, when it was `found`.
abbrev pub cleared_looks : ℕ → ℕ → ℕ → List (ℕ × ℕ) → List (ℕ × ℕ)
cleared_looks zero place found looks = looks
cleared_looks (suc n) place found looks = (mark_at place, 4 * (found / 4)) ∷ looks

abbrev pub cleared_heard : ℕ → ℕ → ℕ → List ℕ → List ℕ
cleared_heard zero place found heard = heard
cleared_heard (suc n) place found heard = heard_more (found % 2) place heard

-- a place had this mark, and has no recorded wake any more: one that the mark recorded is used up
abbrev pub using_up : ℕ → ℕ → ℕ → Notes → Notes
using_up mark place found k = record k { heard = cleared_heard (mark % 4) place found k.heard; looks = cleared_looks (mark % 4) place found k.looks }

-- a number was found in a word, or put into it
abbrev pub noted : ℕ → ℕ → Notes → Notes
noted word number k = record k { looks = (word, number) ∷ k.looks }

-- the idle bit of a worker was found set, and cleared, so that the worker must be unparked
abbrev pub roused_more : Bool → ℕ → List SleepDeed → List SleepDeed
roused_more false worker sleeps = sleeps
roused_more true worker sleeps = Roused worker ∷ sleeps

abbrev pub rousing : Bool → ℕ → Notes → Notes
rousing told worker k = record k { sleeps = roused_more told worker k.sleeps }

-- the worker's idle bit was found set, and cleared to wake it, this number of times
abbrev pub often : ℕ → ℕ → List SleepDeed → List SleepDeed
often zero worker sleeps = sleeps
often (suc n) worker sleeps = Roused worker ∷ often n worker sleeps

-- a worker has found its idle bit as given (0: clear, 1: set), and set it: it lies down, or lies on
abbrev pub lain_more : ℕ → ℕ → List SleepDeed → List SleepDeed
lain_more zero worker sleeps = LayDown worker ∷ sleeps
lain_more (suc n) worker sleeps = LayOn worker ∷ sleeps

-- the worker has found the idle word as given, has set its bit there, and has read none of its summary words since
abbrev pub lying : ℕ → ℕ → Notes → Notes
lying worker found k = record k { sleeps = lain_more (bit_at found worker) worker k.sleeps; looks = (idle_at, found) ∷ k.looks; seen = 0 }

-- a worker has found its idle bit as given (0: clear, 1: set), and cleared it: it rises if the bit was set
abbrev pub risen_more : ℕ → ℕ → List SleepDeed → List SleepDeed
risen_more zero worker sleeps = sleeps
risen_more (suc n) worker sleeps = Rose worker ∷ sleeps

abbrev pub rising : ℕ → ℕ → Notes → Notes
rising worker found k = record k { sleeps = risen_more (bit_at found worker) worker k.sleeps; looks = (idle_at, found) ∷ k.looks; seen = 0 }

abbrev pub unshowing : ℕ → Notes → Notes
unshowing block k = record k { unshown = block }

abbrev pub owing : ℕ → Notes → Notes
owing shard k = record k { owes = shard }

-- the seat owes nothing
abbrev pub settled : Notes → Notes
settled k = record k { unshown = 0; owes = 0 }

abbrev pub having_seen : ℕ → Notes → Notes
having_seen count k = record k { seen = count }

abbrev pub working : ℕ → Notes → Notes
working number k = record k { worker = number; seen = 0 }

-- ---- seats that are split and joined

-- the seat was split once more
abbrev pub splitting : Notes → Notes
splitting k = record k { splits = k.splits + 1 }

abbrev pub first_of : Token Notes → Token Notes
first_of t = held (first_part t.weight) (splitting t.known)

abbrev pub second_of : Token Notes → Token Notes
second_of t = held (second_part t.weight) blank

-- the record of two joined seats, of which the second holds no job, has no worker number, and owes nothing
abbrev pub together : Notes → Notes → Notes
together k l = record k {
  spawned = k.spawned ++ l.spawned;
  ended = k.ended ++ l.ended;
  woken = k.woken ++ l.woken;
  heard = k.heard ++ l.heard;
  blocked = k.blocked ++ l.blocked;
  unblocked = k.unblocked ++ l.unblocked;
  freed = k.freed ++ l.freed;
  rested = k.rested + l.rested;
  sleeps = k.sleeps ++ l.sleeps;
  looks = k.looks ++ l.looks;
  splits = k.splits + l.splits;
}

abbrev pub both_of : Token Notes → Token Notes → Token Notes
both_of t u = held (joined t.weight u.weight) (together t.known u.known)
