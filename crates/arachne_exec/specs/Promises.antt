-- The promises of an executor, in words of places and workers.
use Rattle.std.specs.{Prelude.{◌≡◌, ◌⊎◌, ℕ, ◌+◌, ◌*◌, ◌/◌, ◌%◌, ◌<◌, List, slice_index}, Int.bit_at}
use mathlib.Core.Option.{some}
use lib.ListN.{get_elem?}
use Rattle.arachne_weights.specs.declared.token.Token.{Token}
use Rattle.arachne_exec.specs.{declared.view.Notes.Notes, Layout.{numbers_at, summary_at, ready_at, mark_at, in_word}}
use Rattle.arachne_exec.specs.Board.{Board, by_all, times, places_in, jobs_in, times_at, is_at_home, is_free, is_ready, is_blocked, is_idle, in_hands, unshown_by, owed}
use Rattle.arachne_exec.specs.Calls.{HasSeenAll}

-- the place's job is neither blocked nor held by a seat, and the place isn't free
pub record IsReadyJob (place : ℕ) (b : Board) : Type 0 where
  pub not_free : is_free b.words place ≡ 0
  pub not_blocked : is_blocked b.words place ≡ 0
  pub not_in_hand : in_hands place b.views ≡ 0

-- the number of keepers of the place: the free word, the ready word, its mark, and seats that hold it
abbrev pub keepers_of : ℕ → Board → ℕ
keepers_of place b = is_free b.words place + is_ready b.words place + is_blocked b.words place + in_hands place b.views

-- the place's slot stores no job number
abbrev pub IsEmptyPlace : ℕ → Board → Type 0
IsEmptyPlace place b = get_elem? b.homes place ≡ some (some 0)

-- the block's ready word isn't 0
abbrev pub HasReady : ℕ → Board → Type 0
HasReady block b = 0 < slice_index b.words (ready_at block)

-- the block has its bit in the summary word of its shard, or a seat in a call must still set it
abbrev pub IsShownOrOwed : ℕ → Board → Type 0
IsShownOrOwed block b = (in_word summary_at b.words block ≡ 1) ⊎ (0 < unshown_by block b.views)

-- a worker whose idle bit is set, and whose seat, if the worker has a shard, has found all of its summary words 0 since
-- it set the bit
pub record IsParked (shards worker : ℕ) (b : Board) : Type 0 where
  pub seat : ℕ
  pub view : Token Notes
  pub there : get_elem? b.views seat ≡ some view
  pub is_worker : view.known.worker ≡ worker + 1
  pub has_seen : HasSeenAll shards view.known
  pub idle : is_idle b.words worker ≡ 1

-- a seat in a call must still set the block's bit in the summary word, or read the idle bit of the block's worker
abbrev pub IsOwedTo : ℕ → Board → Type 0
IsOwedTo block b = (0 < unshown_by block b.views) ⊎ (0 < owed (block / 64) b.views)

-- this is so for each block of the worker whose ready word isn't 0
abbrev pub AreOwedTo : (shards worker : ℕ) → Board → Type 0
AreOwedTo shards worker b = (block : ℕ) → block < 64 * shards → block / 64 % 64 ≡ worker → HasReady block b → IsOwedTo block b

-- ---- counts over all seats

-- the number of times that the job number was spawned, has ended, or is held
abbrev pub spawns : ℕ → Board → ℕ
spawns job b = by_all (λ (k : Notes). jobs_in job k.spawned) b.views

abbrev pub ends : ℕ → Board → ℕ
ends job b = by_all (λ (k : Notes). jobs_in job k.ended) b.views

abbrev pub times_in_hand : ℕ → Board → ℕ
times_in_hand job b = by_all (λ (k : Notes). jobs_in job k.hand) b.views

-- the number of times that the job was spawned at the place, has ended there, or is there: held, or stored in the slot
abbrev pub spawned_at : ℕ → ℕ → Board → ℕ
spawned_at place job b = by_all (λ (k : Notes). times_at place job k.spawned) b.views

abbrev pub ended_at : ℕ → ℕ → Board → ℕ
ended_at place job b = by_all (λ (k : Notes). times_at place job k.ended) b.views

abbrev pub lives_at : ℕ → ℕ → Board → ℕ
lives_at place job b = by_all (λ (k : Notes). times_at place job k.hand) b.views + is_at_home place job b.homes

-- the number of times that a job was spawned at the place, or that the place was freed
abbrev pub spawns_at : ℕ → Board → ℕ
spawns_at place b = by_all (λ (k : Notes). places_in place k.spawned) b.views

abbrev pub frees_at : ℕ → Board → ℕ
frees_at place b = by_all (λ (k : Notes). times place k.freed) b.views

-- the number of times that the place was blocked, or unblocked
abbrev pub blocks : ℕ → Board → ℕ
blocks place b = by_all (λ (k : Notes). times place k.blocked) b.views

abbrev pub unblocks : ℕ → Board → ℕ
unblocks place b = by_all (λ (k : Notes). times place k.unblocked) b.views

-- the number of wakes that were recorded at the place, or used up by seats that held it
abbrev pub wakes : ℕ → Board → ℕ
wakes place b = by_all (λ (k : Notes). times place k.woken) b.views

abbrev pub wakes_heard : ℕ → Board → ℕ
wakes_heard place b = by_all (λ (k : Notes). times place k.heard) b.views

-- 1 if the place's mark records a wake, and otherwise 0
abbrev pub is_marked : List ℕ → ℕ → ℕ
is_marked words place = slice_index words (mark_at place) % 2

-- the generation in the place's mark
abbrev pub generation_at : ℕ → Board → ℕ
generation_at place b = slice_index b.words (mark_at place) / 4

-- 1 if no seat has the worker number, and otherwise 0
abbrev pub is_unused : List ℕ → ℕ → ℕ
is_unused words worker = bit_at (slice_index words numbers_at) worker
