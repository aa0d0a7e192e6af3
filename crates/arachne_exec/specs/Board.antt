-- The invariant of an executor: its words, slots and seats between any two steps.
use Rattle.std.specs.Prelude.{◌≡◌, ◌≢◌, ◌⊎◌, ℕ, ◌+◌, ◌*◌, ◌/◌, ◌%◌, ◌<◌, ◌≤◌, ◌==◌, min, List, [], ◌∷◌, ◌++◌, length, slice_index, slice_set, if◌then◌else◌}
use Rattle.std.specs.{Int.bit_at, List.sum_by}
use mathlib.Core.Option.{some, none}
use mathlib.Core.Option as maybe
use lib.ListN.{get_elem?}
use Rattle.atomic_table.specs.Table.{State}
use Rattle.arachne_weights.specs.{declared.token.Token.Token, Tokens.{held, spent}}
use Rattle.arachne_exec.specs.declared.view.{Notes.Notes, SleepDeed.SleepDeed}
use Rattle.arachne_exec.specs.{declared.view.SleepDeed.TheVariants.{LayDown, LayOn, Rose, Roused}, First.AreFirstWords}
use Rattle.arachne_exec.specs.Changes.{blank, first_view, first_of, second_of, both_of}
use Rattle.arachne_exec.specs.Layout.{idle_at, numbers_at, summary_at, ready_at, free_at, mark_at, words_of, in_word, last_generation}

-- the words, the slots with the job numbers stored there, and the records of all seats
abbrev pub Board : Type 0
Board = State ℕ (Token Notes)

-- ---- counting

abbrev pub one : ℕ → ℕ → ℕ
one other place = if other == place then 1 else 0

abbrev pub times : ℕ → List ℕ → ℕ
times place places = sum_by (λ (other : ℕ). one other place) places

-- in a list of places with their jobs: the number of entries with this place, with this job, and with both
abbrev pub places_in : ℕ → List (ℕ × ℕ) → ℕ
places_in place hand = sum_by (λ (x : ℕ × ℕ). one x.0 place) hand

abbrev pub jobs_in : ℕ → List (ℕ × ℕ) → ℕ
jobs_in job hand = sum_by (λ (x : ℕ × ℕ). one x.1 job) hand

abbrev pub one_at : ℕ → ℕ → ℕ × ℕ → ℕ
one_at place job x = if x.0 == place then one x.1 job else 0

abbrev pub times_at : ℕ → ℕ → List (ℕ × ℕ) → ℕ
times_at place job pairs = sum_by (λ (x : ℕ × ℕ). one_at place job x) pairs

abbrev pub is_number : ℕ → maybe.Option ℕ → ℕ
is_number job none = 0
is_number job (some other) = one other job

-- 1 if this change of an idle bit is that the worker lay down, rose, or was roused, and otherwise 0
abbrev pub lies_by : ℕ → SleepDeed → ℕ
lies_by worker (LayDown other) = one other worker
lies_by worker (LayOn other) = 0
lies_by worker (Rose other) = 0
lies_by worker (Roused other) = 0

abbrev pub rises_by : ℕ → SleepDeed → ℕ
rises_by worker (LayDown other) = 0
rises_by worker (LayOn other) = 0
rises_by worker (Rose other) = one other worker
rises_by worker (Roused other) = 0

abbrev pub rouses_by : ℕ → SleepDeed → ℕ
rouses_by worker (LayDown other) = 0
rouses_by worker (LayOn other) = 0
rouses_by worker (Rose other) = 0
rouses_by worker (Roused other) = one other worker

-- the sum of a count over all seats
abbrev pub by_all : (Notes → ℕ) → List (Token Notes) → ℕ
by_all count views = sum_by (λ (t : Token Notes). count t.known) views

-- ---- who keeps a place

-- 1 if the place is free, if its job is ready, or if its job is blocked, and otherwise 0
abbrev pub is_free : List ℕ → ℕ → ℕ
is_free words place = in_word free_at words place

abbrev pub is_ready : List ℕ → ℕ → ℕ
is_ready words place = in_word ready_at words place

abbrev pub is_blocked : List ℕ → ℕ → ℕ
is_blocked words place = slice_index words (mark_at place) / 2 % 2

-- the number of times that seats hold the place
abbrev pub in_hands : ℕ → List (Token Notes) → ℕ
in_hands place views = by_all (λ (k : Notes). places_in place k.hand) views

-- Each place has one keeper: the free word, the ready word, its mark, or a seat that holds it. If no seat holds it, its
-- slot stores a job number, which is 0 if the place is free.
pub record HasOneKeeper (blocks : ℕ) (b : Board) : Type 0 where
  pub sized : length b.words ≡ words_of blocks
  pub room : length b.homes ≡ 64 * blocks
  pub kept : (place : ℕ) → place < 64 * blocks → is_free b.words place + is_ready b.words place + is_blocked b.words place + in_hands place b.views ≡ 1
  pub away : (place : ℕ) → place < 64 * blocks → 0 < in_hands place b.views → get_elem? b.homes place ≡ some none
  pub home : (place : ℕ) → place < 64 * blocks → in_hands place b.views ≡ 0 → (job : ℕ) × (get_elem? b.homes place ≡ some (some job))
  pub empty : (place : ℕ) → place < 64 * blocks → is_free b.words place ≡ 1 → get_elem? b.homes place ≡ some (some 0)

-- ---- what was spawned

abbrev pub at_home : ℕ → List (maybe.Option ℕ) → ℕ
at_home job homes = sum_by (λ (h : maybe.Option ℕ). is_number job h) homes

abbrev pub in_slot : ℕ → maybe.Option (maybe.Option ℕ) → ℕ
in_slot job none = 0
in_slot job (some h) = is_number job h

-- 1 if the slot of the place stores this job number, and otherwise 0
abbrev pub is_at_home : ℕ → ℕ → List (maybe.Option ℕ) → ℕ
is_at_home place job homes = in_slot job (get_elem? homes place)

-- Each job number but 0 was spawned as often as it has ended, is held, and is stored in a slot: over all places, and at
-- each place. So the job at a place changes only if one is spawned there or ends.
pub record IsBalanced (b : Board) : Type 0 where
  pub balanced : (job : ℕ) → 0 < job
      → by_all (λ (k : Notes). jobs_in job k.spawned) b.views ≡ by_all (λ (k : Notes). jobs_in job k.ended) b.views + by_all (λ (k : Notes). jobs_in job k.hand) b.views + at_home job b.homes
  pub placed : (place job : ℕ) → 0 < job
      → by_all (λ (k : Notes). times_at place job k.spawned) b.views ≡ by_all (λ (k : Notes). times_at place job k.ended) b.views + by_all (λ (k : Notes). times_at place job k.hand) b.views + is_at_home place job b.homes

-- ---- whether a place has a job

-- the number of seats that have claimed the place, and spawned no job there yet
abbrev pub unspawned_by : ℕ → List (Token Notes) → ℕ
unspawned_by place views = by_all (λ (k : Notes). one k.unspawned (place + 1)) views

-- Each time that a job was spawned at a place, the place was freed later, or isn't free now. So a place that isn't free
-- has a job that was spawned there, unless a seat in a call must still spawn one.
pub record HasJobOrIsFree (blocks : ℕ) (b : Board) : Type 0 where
  pub turns : (place : ℕ) → place < 64 * blocks
      → by_all (λ (k : Notes). places_in place k.spawned) b.views + unspawned_by place b.views + is_free b.words place ≡ by_all (λ (k : Notes). times place k.freed) b.views + 1

-- ---- wakes, and jobs that are blocked

-- Each wake that was recorded in a mark was used up by a seat that held the place, or is still recorded. Each time that
-- a place was blocked it was unblocked, or is blocked. No mark says both that a job is blocked and that it was woken.
pub record HearsWakes (blocks : ℕ) (b : Board) : Type 0 where
  pub marks : (place : ℕ) → place < 64 * blocks
      → by_all (λ (k : Notes). times place k.woken) b.views ≡ by_all (λ (k : Notes). times place k.heard) b.views + slice_index b.words (mark_at place) % 2
  pub rests : (place : ℕ) → place < 64 * blocks
      → by_all (λ (k : Notes). times place k.blocked) b.views ≡ by_all (λ (k : Notes). times place k.unblocked) b.views + is_blocked b.words place
  pub unheard : (place : ℕ) → place < 64 * blocks → slice_index b.words (mark_at place) % 4 < 3

-- ---- how many jobs a place has had

-- the number of jobs that have ended at the place
abbrev pub ends_at : ℕ → List (Token Notes) → ℕ
ends_at place views = by_all (λ (k : Notes). places_in place k.ended) views

-- If the last value that a seat found is this place's mark, the mark still has that generation.
abbrev pub FoundLast : List ℕ → ℕ → List (ℕ × ℕ) → Type 0
FoundLast words place [] = ⊥
FoundLast words place (look ∷ looks) = look.0 ≡ mark_at place → look.1 / 4 ≡ slice_index words (mark_at place) / 4

-- A mark's generation is the number of jobs that have ended at its place, up to the first number that no name can hold.
-- A seat that holds the place and has read the mark last has found this generation.
pub record CountsEnds (blocks : ℕ) (b : Board) : Type 0 where
  pub counted : (place : ℕ) → place < 64 * blocks → slice_index b.words (mark_at place) / 4 ≡ min last_generation (ends_at place b.views)
  pub found : (h : ℕ) (t : Token Notes) → get_elem? b.views h ≡ some t → (place : ℕ) → place < 64 * blocks → 0 < places_in place t.known.hand → FoundLast b.words place t.known.looks

-- ---- which blocks a shard shows

-- the number of seats that must still set the block's bit in the summary word
abbrev pub unshown_by : ℕ → List (Token Notes) → ℕ
unshown_by block views = by_all (λ (k : Notes). one k.unshown (block + 1)) views

-- a block whose ready word isn't 0 has its bit in the summary word of its shard, or a seat must still set it
pub record IsShown (blocks : ℕ) (b : Board) : Type 0 where
  pub shown : (block : ℕ) → block < blocks → 0 < slice_index b.words (ready_at block) → (in_word summary_at b.words block ≡ 1) ⊎ (0 < unshown_by block b.views)

-- ---- who wakes a sleeper

-- the number of seats that have made the shard's summary word nonzero, and must still read its worker's idle bit
abbrev pub owed : ℕ → List (Token Notes) → ℕ
owed shard views = by_all (λ (k : Notes). one k.owes (shard + 1)) views

-- the number of seats that have this worker number
abbrev pub seats_of : ℕ → List (Token Notes) → ℕ
seats_of worker views = by_all (λ (k : Notes). one k.worker (worker + 1)) views

-- the number of times that the worker's seat set its idle bit, which was clear (the worker lay down)
abbrev pub lies_in : ℕ → List SleepDeed → ℕ
lies_in worker sleeps = sum_by (λ (d : SleepDeed). lies_by worker d) sleeps

abbrev pub lies : ℕ → List (Token Notes) → ℕ
lies worker views = by_all (λ (k : Notes). lies_in worker k.sleeps) views

-- the number of times that the worker's seat cleared its idle bit, which was set (the worker rose by itself)
abbrev pub rises_in : ℕ → List SleepDeed → ℕ
rises_in worker sleeps = sum_by (λ (d : SleepDeed). rises_by worker d) sleeps

abbrev pub rises : ℕ → List (Token Notes) → ℕ
rises worker views = by_all (λ (k : Notes). rises_in worker k.sleeps) views

-- the number of times that a call found the bit set, and cleared it to wake the worker
abbrev pub rouses_in : ℕ → List SleepDeed → ℕ
rouses_in worker sleeps = sum_by (λ (d : SleepDeed). rouses_by worker d) sleeps

abbrev pub rouses : ℕ → List (Token Notes) → ℕ
rouses worker views = by_all (λ (k : Notes). rouses_in worker k.sleeps) views

abbrev pub is_idle : List ℕ → ℕ → ℕ
is_idle words worker = bit_at (slice_index words idle_at) worker

-- A worker number is unused or has one seat. If a worker's idle bit is set, then each of its summary words that it has
-- found 0 since it set the bit is still 0, or a seat must still read the idle word. Each time that a worker lay down it
-- has risen once, or was woken once, or its idle bit is set.
pub record WakesSleepers (b : Board) : Type 0 where
  pub single : (worker : ℕ) → worker < 64 → bit_at (slice_index b.words numbers_at) worker + seats_of worker b.views ≡ 1
  pub near : (h : ℕ) (t : Token Notes) → get_elem? b.views h ≡ some t → t.known.worker ≤ 64
  pub awake : (h : ℕ) (t : Token Notes) → get_elem? b.views h ≡ some t → (worker k : ℕ) → t.known.worker ≡ worker + 1 → k < t.known.seen → is_idle b.words worker ≡ 1
      → 0 < slice_index b.words (summary_at (worker + 64 * k)) → 0 < owed (worker + 64 * k) b.views
  pub ended : (worker : ℕ) → worker < 64 → lies worker b.views ≡ rises worker b.views + rouses worker b.views + is_idle b.words worker

-- ---- how a board comes about

-- what each step keeps
abbrev pub IsKept : ℕ → Board → Type 0
IsKept shards b = HasOneKeeper (64 * shards) b × IsBalanced b × HasJobOrIsFree (64 * shards) b × HearsWakes (64 * shards) b × CountsEnds (64 * shards) b × IsShown (64 * shards) b × WakesSleepers b

-- one entry was added
abbrev pub HasMore : {A : Type 0} → List A → List A → Type 0
HasMore before after = (x : _) × (after ≡ x ∷ before)

-- one entry was added, or none
abbrev pub Adds : {A : Type 0} → List A → List A → Type 0
Adds before after = (after ≡ before) ⊎ HasMore before after

-- the seat still holds what it held, unless its record says that a job was made ready or spawned, has ended, or was
-- blocked, or that a place was freed
abbrev pub KeepsJobs : Notes → Notes → Type 0
KeepsJobs k l = ((jobs : List (ℕ × ℕ)) × (l.hand ≡ jobs ++ k.hand) × (l.rested ≡ k.rested)) ⊎ (l.rested ≡ k.rested + 1)
    ⊎ HasMore k.spawned l.spawned ⊎ HasMore k.ended l.ended ⊎ HasMore k.blocked l.blocked ⊎ HasMore k.freed l.freed

-- the last entry in the record of values is of this word
abbrev pub IsLast : ℕ → List (ℕ × ℕ) → Type 0
IsLast word looks = (number : ℕ) × (older : List (ℕ × ℕ)) × (looks ≡ (word, number) ∷ older)

-- a job was spawned, at the claimed place, after a look at the place's mark; or no job was spawned
abbrev pub AddsJob : Notes → Notes → Type 0
AddsJob k l = (l.spawned ≡ k.spawned) ⊎ ((place job : ℕ) × (k.unspawned ≡ place + 1) × (l.spawned ≡ (place, job) ∷ k.spawned) × IsLast (mark_at place) l.looks)

-- the step found the worker's bit of the idle word as `was`, and left it as `now`
abbrev pub IsTurned : (was now worker word found put : ℕ) → Type 0
IsTurned was now worker word found put = (word ≡ idle_at) × (bit_at found worker ≡ was) × (bit_at put worker ≡ now)

abbrev pub HasDone : SleepDeed → (word found put : ℕ) → Type 0
HasDone (LayDown worker) word found put = IsTurned 0 1 worker word found put
HasDone (LayOn worker) word found put = IsTurned 1 1 worker word found put
HasDone (Rose worker) word found put = IsTurned 1 0 worker word found put
HasDone (Roused worker) word found put = IsTurned 1 0 worker word found put

-- the record got a change of an idle bit that the step has made, or none
abbrev pub AddsDeed : (word found put : ℕ) → List SleepDeed → List SleepDeed → Type 0
AddsDeed word found put before after = (after ≡ before) ⊎ ((deed : SleepDeed) × (after ≡ deed ∷ before) × HasDone deed word found put)

-- a seat records the value of a summary word only if it owes no block's bit
abbrev pub MayNote : ℕ → Notes → Type 0
MayNote word k = (shard : ℕ) → word ≡ summary_at shard → k.unshown ≡ 0

-- the worker numbers have changed, or a bit of a block's ready word was cleared
abbrev pub HasChanged : (word found put : ℕ) → Type 0
HasChanged word found put = ((word ≡ numbers_at) × (found ≢ put)) ⊎ ((block : ℕ) × (word ≡ ready_at block) × (i : ℕ) × (bit_at found i ≡ 1) × (bit_at put i ≡ 0))

-- A seat with the record k made a step on a word, found one number there and put another, and has the record l then.
-- The record got the number found, or of a mark the number put. It got neither only if the step has changed no worker
-- number and cleared no ready bit. The record keeps its old entries. A seat that must spawn a job at a place must still
-- do so, unless it has spawned one.
pub record IsTold (word found put : ℕ) (k l : Notes) : Type 0 where
  pub looks : ((l.looks ≡ (word, found) ∷ k.looks) × MayNote word k) ⊎ ((place : ℕ) × (word ≡ mark_at place) × (l.looks ≡ (word, put) ∷ k.looks)) ⊎ ((l.looks ≡ k.looks) × ¬ HasChanged word found put)
  pub spawned : AddsJob k l
  pub owed_job : (l.unspawned ≡ k.unspawned) ⊎ (k.unspawned ≡ 0) ⊎ ((x : ℕ × ℕ) × (l.spawned ≡ x ∷ k.spawned))
  pub ended : Adds k.ended l.ended
  pub woken : Adds k.woken l.woken
  pub heard : Adds k.heard l.heard
  pub blocked : Adds k.blocked l.blocked
  pub unblocked : Adds k.unblocked l.unblocked
  pub freed : Adds k.freed l.freed
  pub hand : KeepsJobs k l
  pub sleeps : AddsDeed word found put k.sleeps l.sleeps
  pub splits : l.splits ≡ k.splits

-- the board after that step
abbrev pub after_step : Board → (seat weight word put : ℕ) → Notes → List (maybe.Option ℕ) → Board
after_step b seat weight word put l homes = record { words = slice_set b.words word put; homes = homes; views = slice_set b.views seat (held weight l) }

abbrev pub with_views : Board → List (Token Notes) → Board
with_views b views = record { words = b.words; homes = b.homes; views = views }

-- The boards that can come about. At first the words have their initial values, and one seat has done nothing. Then,
-- one after another, a seat makes a step on a word and finds its value, is split (which its record counts), or is
-- joined with another. A new seat gets the last index.
pub data HasCome (shards : ℕ) : Board → Type 0 where
  begins : (b : Board) → AreFirstWords (64 * shards) b.words → b.views ≡ first_view ∷ [] → HasCome shards b
  acts : {b : Board} → HasCome shards b → IsKept shards b → (seat weight word put : ℕ) (k l : Notes) (homes : List (maybe.Option ℕ)) → get_elem? b.views seat ≡ some (held weight k)
      → IsTold word (slice_index b.words word) put k l → HasCome shards (after_step b seat weight word put l homes)
  splits : {b : Board} → HasCome shards b → (seat weight : ℕ) (k : Notes) → get_elem? b.views seat ≡ some (held weight k)
      → HasCome shards (with_views b (slice_set b.views seat (first_of (held weight k)) ++ second_of (held weight k) ∷ []))
  joins : {b : Board} → HasCome shards b → (seat other weight added : ℕ) (k l : Notes) → get_elem? b.views seat ≡ some (held weight k) → other ≢ seat → get_elem? b.views other ≡ some (held added l)
      → HasCome shards (with_views b (slice_set (slice_set b.views seat (both_of (held weight k) (held added l))) other (spent blank)))

-- the invariant of an executor with this number of shards
pub record IsLawful (shards : ℕ) (b : Board) : Type 0 where
  pub came : HasCome shards b
  pub keeper : HasOneKeeper (64 * shards) b
  pub balance : IsBalanced b
  pub turns : HasJobOrIsFree (64 * shards) b
  pub hears : HearsWakes (64 * shards) b
  pub names : CountsEnds (64 * shards) b
  pub shows : IsShown (64 * shards) b
  pub sleep : WakesSleepers b
