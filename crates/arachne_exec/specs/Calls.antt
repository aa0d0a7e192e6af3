-- The result of each call, and the seat's record before the call (k) and after it.
use Rattle.std.specs.Prelude.{◌≡◌, ◌≢◌, ◌⊎◌, ℕ, ◌+◌, ◌*◌, ◌/◌, ◌%◌, ◌<◌, ◌≤◌, ◌^◌, ◌↔◌, IsTrue, List, [], ◌∷◌, ◌++◌, map}
use Rattle.std.specs.Int.{bit_at, RustNames.bit_and}
use Rattle.atomic_table.specs.Table.{rest}
use Rattle.arachne_exec.specs.declared.{view.Notes.Notes, answers.HeldJob.HeldJob, answers.PlacedJob.PlacedJob}
use Rattle.arachne_exec.specs.declared.answers.{Next.Next, JobRested.JobRested, JobSpawned.JobSpawned}
use Rattle.arachne_exec.specs.declared.answers.Next.TheVariants as next
use Rattle.arachne_exec.specs.declared.answers.JobRested.TheVariants as rested
use Rattle.arachne_exec.specs.declared.answers.JobSpawned.TheVariants as spawned
use Rattle.arachne_exec.specs.declared.answers.{SpawnedHere.SpawnedHere, JobWoken.JobWoken, WokenHere.WokenHere}
use Rattle.arachne_exec.specs.declared.answers.SpawnedHere.TheVariants as spawned_here
use Rattle.arachne_exec.specs.declared.answers.JobWoken.TheVariants as woken
use Rattle.arachne_exec.specs.declared.answers.WokenHere.TheVariants as here
use Rattle.arachne_exec.specs.declared.{waking.RouseResult.RouseResult, turns.TakenJob.TakenJob}
use Rattle.arachne_exec.specs.declared.waking.RouseResult.TheVariants as found
use Rattle.arachne_exec.specs.{Seats.CallView, Turns.IsFirstFrom}
use Rattle.arachne_exec.specs.Layout.{summary_at, ready_at, free_at, mark_at, places_in_word, PicksLowest, worker_of, last_generation, name_of}
use Rattle.arachne_exec.specs.Changes.{older, newest_job, gaining, unblocking, laying_down, blocking, marking, noted, rousing, often, having_seen, lying, rising, using_up, heard_more, roused_more}

-- the worker of a place
abbrev pub worker_at : ℕ → ℕ
worker_at place = worker_of (place / 4096)

-- the seat found a bit of a word set, and then clear, and recorded nothing else
pub record HasMissed (word : ℕ) (k after : Notes) : Type 0 where
  pub first : ℕ
  pub then : ℕ
  pub index : ℕ
  pub low : index < 64
  pub was : bit_at first index ≡ 1
  pub gone : bit_at then index ≡ 0
  pub known : after ≡ noted word then (noted word first k)

-- The job is ready at a place of the block: the step that claimed the place found its free bit set. The job's name is
-- that of the mark that the place had then.
pub record HasPlaced (at : PlacedJob) (block job : ℕ) (k after : Notes) : Type 0 where
  pub there : at.place / 64 ≡ block
  pub free : ℕ
  pub found : ℕ
  pub claimed : bit_at found (at.place % 64) ≡ 1
  pub mark : ℕ
  pub named : at.name ≡ name_of at.place mark
  pub known : after ≡ record k {
    spawned = (at.place, job) ∷ k.spawned;
    sleeps = roused_more at.unpark (worker_at at.place) k.sleeps;
    looks = (mark_at at.place, mark) ∷ (free_at block, found) ∷ (free_at block, free) ∷ k.looks;
  }

-- Full: the block's free word was 0. Lost: a place there was found free, and then not.
abbrev pub HasSpawned : JobSpawned → ℕ → ℕ → Notes → Notes → Type 0
HasSpawned (spawned.Placed at) block job k after = HasPlaced at block job k after
HasSpawned spawned.Full block job k after = after ≡ noted (free_at block) 0 k
HasSpawned spawned.Lost block job k after = HasMissed (free_at block) k after

-- like `HasPlaced`, but the seat holds the job
pub record HasBegun (job : HeldJob) (block number : ℕ) (k after : Notes) : Type 0 where
  pub there : job.place / 64 ≡ block
  pub given : job.job ≡ number
  pub free : ℕ
  pub found : ℕ
  pub claimed : bit_at found (job.place % 64) ≡ 1
  pub mark : ℕ
  pub named : job.name ≡ name_of job.place mark
  pub known : after ≡ record k {
    hand = (job.place, number) ∷ k.hand;
    spawned = (job.place, number) ∷ k.spawned;
    looks = (mark_at job.place, mark) ∷ (free_at block, found) ∷ (free_at block, free) ∷ k.looks;
  }

abbrev pub HasSpawnedHere : SpawnedHere → ℕ → ℕ → Notes → Notes → Type 0
HasSpawnedHere (spawned_here.Held job) block number k after = HasBegun job block number k after
HasSpawnedHere spawned_here.Full block number k after = after ≡ noted (free_at block) 0 k
HasSpawnedHere spawned_here.Lost block number k after = HasMissed (free_at block) k after

-- The seat holds the job, from a place of the block: the step that took it found its ready bit set. The job's name is
-- that of the mark that the place had then. A wake that the mark recorded is used up.
pub record HasTaken (job : HeldJob) (block : ℕ) (k after : Notes) : Type 0 where
  pub there : job.place / 64 ≡ block
  pub ready : ℕ
  pub found : ℕ
  pub taken : bit_at found (job.place % 64) ≡ 1
  pub mark : ℕ
  pub named : job.name ≡ name_of job.place mark
  pub then : ℕ
  pub known : after ≡ using_up mark job.place then (record k {
    hand = (job.place, job.job) ∷ k.hand;
    looks = (mark_at job.place, mark) ∷ (ready_at block, found) ∷ (ready_at block, ready) ∷ k.looks;
  })

-- `HasTaken`, and of the ready places of the block the job's was the first from this index on
pub record HasTakenInTurn (from : ℕ) (job : HeldJob) (block : ℕ) (k after : Notes) : Type 0 where
  pub took : HasTaken job block k after
  pub first : IsFirstFrom took.ready from (job.place % 64)

-- within a call: `HasTakenInTurn`, and the result says if a higher place was ready
pub record HasTakenFrom (from : ℕ) (taken : TakenJob) (block : ℕ) (k after : Notes) : Type 0 where
  pub turn : HasTakenInTurn from taken.job block k after
  pub more : IsTrue taken.more ↔ (2 * 2 ^ (taken.job.place % 64) ≤ turn.took.ready)

-- The ready word was 0. Or its lowest places were picked, `most` or all. The seat holds those of them whose bits were
-- then found set, with their jobs, as if it had taken the lowest last.
abbrev pub HasTakenMany : ℕ → ℕ → ℕ → Notes → Notes → Type 0
HasTakenMany bits block most k after = ((bits ≡ 0) × (after ≡ noted (ready_at block) 0 k))
    ⊎ ((ready pick found : ℕ) × (jobs : List (ℕ × ℕ)) × (0 < pick) × (bit_and ready pick ≡ pick) × (bits ≡ bit_and found pick) × (map (λ (x : ℕ × ℕ). x.0) jobs ≡ places_in_word block bits)
    × PicksLowest block ready most pick × (after ≡ gaining jobs (noted (ready_at block) found (noted (ready_at block) ready k))))

-- within a call: of the picked bits of the block's ready word, those found set were taken, and the seat holds their
-- jobs
abbrev pub HasTakenBits : (bits block pick : ℕ) → CallView → CallView → Type 0
HasTakenBits bits block pick v after = (jobs : List (ℕ × ℕ)) × (found : ℕ) × (bits ≡ bit_and found pick) × (map (λ (x : ℕ × ℕ). x.0) jobs ≡ places_in_word block bits)
    × (after ≡ record v { known = gaining jobs (noted (ready_at block) found v.known); slots = jobs ++ v.slots })

-- the job that the seat took last, with the name that its mark gives; a wake that the mark recorded is used up
pub record HasStarted (job : HeldJob) (place : ℕ) (k after : Notes) : Type 0 where
  pub there : job.place ≡ place
  pub newest : k.hand ≡ (place, job.job) ∷ older k.hand
  pub mark : ℕ
  pub named : job.name ≡ name_of place mark
  pub then : ℕ
  pub known : after ≡ using_up mark place then (noted (mark_at place) mark k)

-- the ready word was 0, or a place there was found ready, and then not
abbrev pub HasTakenNone : ℕ → Notes → Notes → Type 0
HasTakenNone block k after = (after ≡ noted (ready_at block) 0 k) ⊎ HasMissed (ready_at block) k after

-- within a call: the place's mark recorded no wake, and the job that the seat took last is blocked
abbrev pub HasBlocked : ℕ → CallView → CallView → Type 0
HasBlocked place v after = (mark : ℕ) × (mark % 4 ≡ 0) × (after ≡ record v { known = blocking (noted (mark_at place) mark v.known); slots = rest v.slots })

-- within a call: the place's mark recorded a wake, or was changed by another seat
abbrev pub HasSeenWake : ℕ → CallView → CallView → Type 0
HasSeenWake place v after = (mark : ℕ) × (((mark % 4 ≢ 0) × (after ≡ record v { known = noted (mark_at place) mark v.known }))
    ⊎ ((then : ℕ) × (then ≢ mark) × (after ≡ record v { known = noted (mark_at place) then (noted (mark_at place) mark v.known) })))

-- Blocked: the mark recorded no wake. Ready: it recorded one, or was changed by another seat.
abbrev pub HasRested : JobRested → ℕ → Notes → Notes → Type 0
HasRested rested.Blocked place k after = (mark : ℕ) × (mark % 4 ≡ 0) × (after ≡ blocking (noted (mark_at place) mark k))
HasRested (rested.Ready unpark) place k after = (mark : ℕ)
    × (((mark % 4 ≢ 0) × (after ≡ rousing unpark (worker_at place) (laying_down (noted (mark_at place) mark k))))
    ⊎ ((then : ℕ) × (then ≢ mark) × (after ≡ rousing unpark (worker_at place) (laying_down (noted (mark_at place) then (noted (mark_at place) mark k))))))

-- The job that the seat took last has ended. `mark` is the place's first mark in the call. The place got the next
-- generation and is free. If no name can hold the next generation, the place is retired: blocked for ever.
pub record HasFinished (place : ℕ) (k after : Notes) : Type 0 where
  pub mark : ℕ
  pub then : List (ℕ × ℕ)
  pub found : after.looks ≡ then ++ (mark_at place, mark) ∷ k.looks
  pub heard : ℕ
  pub known : after ≡ record k {
    hand = older k.hand;
    ended = (place, newest_job k.hand) ∷ k.ended;
    heard = heard_more (heard % 2) place k.heard;
    blocked = after.blocked;
    freed = after.freed;
    looks = after.looks;
  }
  pub retired : ((mark / 4 + 1 < last_generation) × (after.blocked ≡ k.blocked) × (after.freed ≡ place ∷ k.freed) × (then ≡ (mark_at place, 4 * (mark / 4 + 1)) ∷ []))
      ⊎ ((last_generation ≤ mark / 4 + 1) × (after.blocked ≡ place ∷ k.blocked) × (after.freed ≡ k.freed) × (then ≡ []))

-- the place's mark has another generation, or there is no such place or no such generation
abbrev pub IsGone : ℕ → ℕ → ℕ → Notes → Notes → Type 0
IsGone places place generation k after = ((after ≡ k) × ((places ≤ place) ⊎ (last_generation ≤ generation)))
    ⊎ ((mark : ℕ) × (mark / 4 ≢ generation) × (after ≡ noted (mark_at place) mark k))

-- the place's mark has this generation, and already records a wake
abbrev pub IsAlready : ℕ → ℕ → Notes → Notes → Type 0
IsAlready place generation k after = (mark : ℕ) × (mark / 4 ≡ generation) × (mark % 2 ≡ 1) × (after ≡ noted (mark_at place) mark k)

-- the place's mark had this generation and recorded no wake, and was then changed by another seat
abbrev pub IsLost : ℕ → ℕ → Notes → Notes → Type 0
IsLost place generation k after = (mark then : ℕ) × (mark / 4 ≡ generation) × (mark % 2 ≢ 1) × (then ≢ mark) × (after ≡ noted (mark_at place) then (noted (mark_at place) mark k))

-- the place's mark was found to be this twice, the second time by the step that changed it
abbrev pub twice : ℕ → ℕ → Notes → Notes
twice place mark k = noted (mark_at place) mark (noted (mark_at place) mark k)

-- the mark was that of a blocked job with this generation, also in the step by which the seat took the job
abbrev pub HasUnblocked : ℕ → ℕ → ℕ → Notes → Notes → Type 0
HasUnblocked place generation job k after = (generation < last_generation) × (after ≡ unblocking place job (twice place (4 * generation + 2) k))

-- the mark was that of a job with this generation that isn't blocked, also in the step that recorded the wake
abbrev pub HasMarked : ℕ → ℕ → Notes → Notes → Type 0
HasMarked place generation k after = after ≡ marking place (twice place (4 * generation) k)

-- the result of a wake, of an executor with this number of places
abbrev pub HasWoken : JobWoken → ℕ → ℕ → ℕ → Notes → Notes → Type 0
HasWoken (woken.Ready unpark) places place generation k after = (job : ℕ) × (held : Notes) × HasUnblocked place generation job k held × (after ≡ rousing unpark (worker_at place) (laying_down held))
HasWoken woken.Marked places place generation k after = HasMarked place generation k after
HasWoken woken.Already places place generation k after = IsAlready place generation k after
HasWoken woken.Gone places place generation k after = IsGone places place generation k after
HasWoken woken.Lost places place generation k after = IsLost place generation k after

abbrev pub HasWokenHere : WokenHere → ℕ → ℕ → ℕ → Notes → Notes → Type 0
HasWokenHere (here.Held job) places place generation k after = (job.place ≡ place) × (job.name ≡ name_of place (4 * generation + 2)) × HasUnblocked place generation job.job k after
HasWokenHere here.Marked places place generation k after = HasMarked place generation k after
HasWokenHere here.Already places place generation k after = IsAlready place generation k after
HasWokenHere here.Gone places place generation k after = IsGone places place generation k after
HasWokenHere here.Lost places place generation k after = IsLost place generation k after

-- each value is of a summary word or a ready word
abbrev pub AreForJobs : List (ℕ × ℕ) → Type 0
AreForJobs [] = Unit {0}
AreForJobs (look ∷ looks) = (((shard : ℕ) × (look.0 ≡ summary_at shard)) ⊎ ((block : ℕ) × (look.0 ≡ ready_at block))) × AreForJobs looks

-- the seat has read summary and ready words, has cleared this worker's idle bit some times to wake the worker, and has
-- cleared no other; nothing else has changed
abbrev pub HasLooked : ℕ → Notes → Notes → Type 0
HasLooked worker k after = (n : ℕ) × (looks : List (ℕ × ℕ)) × AreForJobs looks × (after ≡ record k { looks = looks ++ k.looks; sleeps = often n worker k.sleeps })

-- the record has this number for this word
abbrev pub IsAmong : (word number : ℕ) → List (ℕ × ℕ) → Type 0
IsAmong word number [] = ⊥
IsAmong word number (look ∷ looks) = (look ≡ (word, number)) ⊎ IsAmong word number looks

-- a look found the word without a bit that the look before it has found
abbrev pub HasLost : ℕ → ℕ × ℕ → List (ℕ × ℕ) → Type 0
HasLost word look [] = ⊥
HasLost word look (before ∷ looks) = (look.0 ≡ word) × (before.0 ≡ word) × (index : ℕ) × (bit_at before.1 index ≡ 1) × (bit_at look.1 index ≡ 0)

-- the block's ready word was 0, or it lost a bit from one look to the next
abbrev pub HasNoJob : ℕ → List (ℕ × ℕ) → Type 0
HasNoJob block [] = ⊥
HasNoJob block (look ∷ looks) = (look ≡ (ready_at block, 0)) ⊎ HasLost (ready_at block) look looks ⊎ HasNoJob block looks

-- the shard's summary word was read, and no job was found in any block whose bit was set there
abbrev pub IsSearched : ℕ → List (ℕ × ℕ) → Type 0
IsSearched shard looks = (shown : ℕ) × IsAmong (summary_at shard) shown looks × ((index : ℕ) → index < 64 → bit_at shown index ≡ 1 → HasNoJob (64 * shard + index) looks)

-- the seat has searched this shard and found no job
abbrev pub HasSearched : ℕ → Notes → Notes → Type 0
HasSearched shard k after = (looked : HasLooked (worker_of shard) k after) × IsSearched shard looked.1

-- the seat has searched, and then taken a job of a block of this shard, of an executor with this number of shards
abbrev pub HasTakenInShard : HeldJob → (shards shard : ℕ) → Notes → Notes → Type 0
HasTakenInShard job shards shard k after = (block : ℕ) × (looked : Notes) × (block < 64 * shards) × (block / 64 ≡ shard) × HasLooked (worker_of shard) k looked × HasTaken job block looked after

-- the worker has found each of its summary words 0 since it set its idle bit, and hasn't cleared the bit
abbrev pub HasSeenAll : ℕ → Notes → Type 0
HasSeenAll shards k = (worker j : ℕ) → k.worker ≡ worker + 1 → worker + 64 * j < shards → j < k.seen

-- the worker has set its idle bit, then found all of its summary words 0, and done nothing else
abbrev pub HasFoundNone : ℕ → ℕ → Notes → Notes → Type 0
HasFoundNone shards worker k after = (found seen : ℕ) × (after ≡ having_seen seen (lying worker found k)) × HasSeenAll shards after

-- the worker has set its idle bit, then found one of its summary words not 0, and cleared the bit again
abbrev pub HasFoundSome : ℕ → ℕ → Notes → Notes → Type 0
HasFoundSome shards worker k after = (found shard shown then : ℕ) × (shard < shards) × (worker_of shard ≡ worker) × (shown ≢ 0)
    × (after ≡ rising worker then (noted (summary_at shard) shown (lying worker found k)))

-- Before each result the call may have cleared the worker's own idle bit to wake it, and no other. Run: it has taken a
-- job of a block of the worker. Park: it has set the idle bit, and then found all of the worker's summary words 0.
-- Again: it has searched each of the worker's shards and found no job, and then one of its summary words wasn't 0.
abbrev pub HasAnswered : Next → ℕ → ℕ → Notes → Notes → Type 0
HasAnswered (next.Run job) shards worker k after = (block : ℕ) × (looked : Notes) × (block < 64 * shards) × (worker_of (block / 64) ≡ worker) × HasLooked worker k looked × HasTaken job block looked after
HasAnswered next.Park shards worker k after = (looked : Notes) × HasLooked worker k looked × HasFoundNone shards worker looked after
HasAnswered next.Again shards worker k after = (then : Notes) × (looked : HasLooked worker k then) × ((shard : ℕ) → shard < shards → worker_of shard ≡ worker → IsSearched shard looked.1)
    × HasFoundSome shards worker then after

-- the result of `rouse`
abbrev pub IsFound : RouseResult → ℕ → ℕ → ℕ → CallView → CallView → Type 0
IsFound (found.Held at) places place generation v after = (at ≡ place) × (place < places) × (generation < last_generation)
    × ((job : ℕ) × (after ≡ record v { known = unblocking place job (twice place (4 * generation + 2) v.known); slots = (place, job) ∷ v.slots }))
IsFound found.Marked places place generation v after = (after ≡ record v { known = after.known }) × HasMarked place generation v.known after.known
IsFound found.Already places place generation v after = (after ≡ record v { known = after.known }) × IsAlready place generation v.known after.known
IsFound found.Gone places place generation v after = (after ≡ record v { known = after.known }) × IsGone places place generation v.known after.known
IsFound found.Lost places place generation v after = (after ≡ record v { known = after.known }) × IsLost place generation v.known after.known

-- ---- the jobs that a seat holds after a call

-- the seat's jobs and its worker number are as before
abbrev pub KeepsHand : Notes → Notes → Type 0
KeepsHand k after = (after.hand ≡ k.hand) × (after.worker ≡ k.worker)

-- the seat holds this job too, at a place of an executor with this number of places
abbrev pub HandsOver : ℕ → HeldJob → Notes → Notes → Type 0
HandsOver places job k after = (job.place < places) × (after.hand ≡ (job.place, job.job) ∷ k.hand) × (after.worker ≡ k.worker)

-- the seat holds the jobs of these places of a block too
abbrev pub HandsMany : ℕ → ℕ → Notes → Notes → Type 0
HandsMany bits block k after = ((jobs : List (ℕ × ℕ)) × (map (λ (x : ℕ × ℕ). x.0) jobs ≡ places_in_word block bits) × (after.hand ≡ jobs ++ k.hand)) × (after.worker ≡ k.worker)

-- the seat no longer holds the job that it took last
abbrev pub LaysDown : Notes → Notes → Type 0
LaysDown k after = (after.hand ≡ older k.hand) × (after.worker ≡ k.worker)

abbrev pub HandsNext : Next → ℕ → Notes → Notes → Type 0
HandsNext (next.Run job) places k after = HandsOver places job k after
HandsNext next.Park places k after = KeepsHand k after
HandsNext next.Again places k after = KeepsHand k after

abbrev pub HandsSpawned : SpawnedHere → ℕ → Notes → Notes → Type 0
HandsSpawned (spawned_here.Held job) places k after = HandsOver places job k after
HandsSpawned spawned_here.Full places k after = KeepsHand k after
HandsSpawned spawned_here.Lost places k after = KeepsHand k after

abbrev pub HandsWoken : WokenHere → ℕ → Notes → Notes → Type 0
HandsWoken (here.Held job) places k after = HandsOver places job k after
HandsWoken here.Marked places k after = KeepsHand k after
HandsWoken here.Already places k after = KeepsHand k after
HandsWoken here.Gone places k after = KeepsHand k after
HandsWoken here.Lost places k after = KeepsHand k after
