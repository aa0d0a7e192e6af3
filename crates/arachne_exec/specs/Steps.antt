-- The change of a seat's record by each kind of step, from the seat before, the number found and the seat after.
use Rattle.std.specs.{Prelude.{◌≡◌, ◌≢◌, ℕ, ◌+◌, ◌-◌, ◌*◌, ◌/◌, ◌%◌, ◌^◌, ◌<◌, ◌++◌, map, true, List, ◌∷◌}, Int.bit_at}
use Rattle.std.specs.Int.RustNames.{bit_and}
use Rattle.atomic_table.specs.Table.{Me, Step, rest}
use Rattle.arachne_weights.specs.{declared.token.Token.Token, Tokens.held}
use Rattle.arachne_exec.specs.declared.view.Notes.{Notes}
use Rattle.arachne_exec.specs.Layout.{idle_at, summary_at, ready_at, free_at, mark_at, worker_of, others, places_in_word}
use Rattle.arachne_exec.specs.Changes.{newest_place, newest_job, gained, gaining, unblocking, claiming, laying_down, freeing, blocking, spawning, beginning, ending, marking, hearing, noted, rousing, unshowing, owing, having_seen, lying, rising, working}

-- a seat's record, and the slots that it may access: each a place with the job number in it
abbrev pub Mine : Type 0
Mine = Me ℕ (Token Notes)

abbrev pub IsLive : Mine → Type 0
IsLive me = me.0 ≡ held me.0.weight me.0.known

-- the seat with another record and other slots
abbrev pub with : Mine → Notes → List (ℕ × ℕ) → Mine
with m k slots = (held m.0.weight k, slots)

-- the seat with another record
abbrev pub knowing : Mine → Notes → Mine
knowing m k = with m k m.1

-- the number found is recorded
abbrev pub Looks : Step ℕ → Mine → ℕ → Mine → Type 0
Looks step before found after = after ≡ knowing before (noted step.word found before.0.known)

-- the number found is recorded, and the bit of a place is cleared; if it was set, the seat holds the place with its job
abbrev pub Takes : Step ℕ → Mine → ℕ → Mine → Type 0
Takes step before found after = (place : ℕ) → step.word ≡ ready_at (place / 64) → step.first ≡ others (place % 64)
    → (bit_at found (place % 64) ≡ 1 → (job : ℕ) × (after ≡ with before (gained place job (noted step.word found before.0.known)) ((place, job) ∷ before.1)))
    × (bit_at found (place % 64) ≡ 0 → after ≡ knowing before (noted step.word found before.0.known))

-- The bits of several places of a block are cleared. The seat holds those that were set, as if it had taken the lowest
-- last.
abbrev pub TakesMany : Step ℕ → Mine → ℕ → Mine → Type 0
TakesMany step before found after = (block pick : ℕ) → pick < 2 ^ 64 → step.word ≡ ready_at block → step.first ≡ 2 ^ 64 - 1 - pick
    → (jobs : List (ℕ × ℕ)) × (map (λ (x : ℕ × ℕ). x.0) jobs ≡ places_in_word block (bit_and found pick)) × (after ≡ with before (gaining jobs (noted step.word found before.0.known)) (jobs ++ before.1))

-- like `Takes`, with the free word: the place has no job, and the seat must spawn one there
abbrev pub Claims : Step ℕ → Mine → ℕ → Mine → Type 0
Claims step before found after = (place : ℕ) → step.word ≡ free_at (place / 64) → step.first ≡ others (place % 64)
    → (bit_at found (place % 64) ≡ 1 → after ≡ with before (claiming place (noted step.word found before.0.known)) ((place, 0) ∷ before.1))
    × (bit_at found (place % 64) ≡ 0 → after ≡ knowing before (noted step.word found before.0.known))

-- the place that the seat took last is free, by its bit in the free word
abbrev pub Frees : Step ℕ → Mine → ℕ → Mine → Type 0
Frees step before found after = (step.word ≡ free_at (newest_place before.0.known.hand / 64)) × (after ≡ with before (freeing before.0.known) (rest before.1))

-- the place that the seat took last is ready; if its block had no ready job, the seat owes the bit in the summary word
abbrev pub Readies : Step ℕ → Mine → ℕ → Mine → Type 0
Readies step before found after = (place : ℕ) → step.word ≡ ready_at (place / 64)
    → (found ≡ 0 → after ≡ with before (unshowing (place / 64 + 1) (laying_down before.0.known)) (rest before.1))
    × (found ≢ 0 → after ≡ with before (laying_down before.0.known) (rest before.1))

-- like `Readies`, of a place that has got a new job
abbrev pub Spawns : Step ℕ → Mine → ℕ → Mine → Type 0
Spawns step before found after = (place : ℕ) → step.word ≡ ready_at (place / 64)
    → (found ≡ 0 → after ≡ with before (unshowing (place / 64 + 1) (spawning (newest_job before.1) before.0.known)) (rest before.1))
    × (found ≢ 0 → after ≡ with before (spawning (newest_job before.1) before.0.known) (rest before.1))

-- the place that the seat took last has got its new job, and is still held; the number found is recorded
abbrev pub Begins : Step ℕ → Mine → ℕ → Mine → Type 0
Begins step before found after = after ≡ knowing before (beginning (newest_job before.1) (noted step.word found before.0.known))

-- if the mark was as expected, the job that the seat took last is blocked
abbrev pub Blocks : Step ℕ → Mine → ℕ → Mine → Type 0
Blocks step before found after = (found ≡ step.first → after ≡ with before (blocking before.0.known) (rest before.1)) × (found ≢ step.first → after ≡ knowing before (noted step.word found before.0.known))

-- the job that the seat took last has ended; its place gets a new mark, and a recorded wake is used up
abbrev pub Renews : Step ℕ → Mine → ℕ → Mine → Type 0
Renews step before found after = (place : ℕ) → step.word ≡ mark_at place → after ≡ knowing before (noted step.word step.first (ending place (hearing (found % 2) place before.0.known)))

-- the job that the seat took last has ended, and its place is blocked for ever
abbrev pub Retires : Step ℕ → Mine → ℕ → Mine → Type 0
Retires step before found after = (place : ℕ) → step.word ≡ mark_at place → after ≡ with before (blocking (ending place (hearing (found % 2) place before.0.known))) (rest before.1)

-- the mark records no wake any more; one that it recorded is used up
abbrev pub Hears : Step ℕ → Mine → ℕ → Mine → Type 0
Hears step before found after = (place : ℕ) → step.word ≡ mark_at place → after ≡ knowing before (noted step.word (4 * (found / 4)) (hearing (found % 2) place before.0.known))

-- the mark that was found is recorded; if it was as expected, the seat holds the job, which was blocked
abbrev pub Wakes : Step ℕ → Mine → ℕ → Mine → Type 0
Wakes step before found after = (place : ℕ) → step.word ≡ mark_at place
    → (found ≡ step.first → (job : ℕ) × (after ≡ with before (unblocking place job (noted step.word found before.0.known)) ((place, job) ∷ before.1)))
    × (found ≢ step.first → after ≡ knowing before (noted step.word found before.0.known))

-- the mark that was found is recorded; if it was as expected, it now records a wake
abbrev pub Marks : Step ℕ → Mine → ℕ → Mine → Type 0
Marks step before found after = (place : ℕ) → step.word ≡ mark_at place
    → (found ≡ step.first → after ≡ knowing before (marking place (noted step.word found before.0.known)))
    × (found ≢ step.first → after ≡ knowing before (noted step.word found before.0.known))

-- ---- the summary word

-- if the block's bit is set, the seat no longer owes it
abbrev pub FindsShown : Step ℕ → Mine → ℕ → Mine → Type 0
FindsShown step before found after = (block : ℕ) → before.0.known.unshown ≡ block + 1
    → (bit_at found (block % 64) ≡ 1 → after ≡ knowing before (unshowing 0 before.0.known)) × (bit_at found (block % 64) ≡ 0 → after ≡ before)

-- the block's bit is set; if the summary word was 0, the seat owes a look at the idle word
abbrev pub Shows : Step ℕ → Mine → ℕ → Mine → Type 0
Shows step before found after = (block : ℕ) → step.word ≡ summary_at (block / 64)
    → (found ≡ 0 → after ≡ knowing before (owing (block / 64 + 1) (unshowing 0 before.0.known))) × (found ≢ 0 → after ≡ knowing before (unshowing 0 before.0.known))

-- the block's bit is cleared, and the seat owes it
abbrev pub Hides : Step ℕ → Mine → ℕ → Mine → Type 0
Hides step before found after = (block : ℕ) → step.word ≡ summary_at (block / 64) → step.first ≡ others (block % 64) → after ≡ knowing before (unshowing (block + 1) before.0.known)

-- if the block has no ready job, the seat no longer owes its bit
abbrev pub LooksAgain : Step ℕ → Mine → ℕ → Mine → Type 0
LooksAgain step before found after = (found ≡ 0 → after ≡ knowing before (unshowing 0 before.0.known)) × (found ≢ 0 → after ≡ before)

-- ---- the idle word

-- if the worker's idle bit isn't set, the seat owes nothing any more
abbrev pub LooksIdle : Step ℕ → Mine → ℕ → Mine → Type 0
LooksIdle step before found after = (shard : ℕ) → before.0.known.owes ≡ shard + 1
    → (bit_at found (worker_of shard) ≡ 1 → after ≡ before) × (bit_at found (worker_of shard) ≡ 0 → after ≡ knowing before (owing 0 before.0.known))

-- the worker's idle bit is cleared, and no other; if it was set, the worker must be unparked
abbrev pub Unparks : Step ℕ → Mine → ℕ → Mine → Type 0
Unparks step before found after = (shard : ℕ) → before.0.known.owes ≡ shard + 1
    → (step.word ≡ idle_at) × (step.first ≡ others (worker_of shard))
    × (bit_at found (worker_of shard) ≡ 1 → after ≡ knowing before (rousing true (worker_of shard) (owing 0 before.0.known)))
    × (bit_at found (worker_of shard) ≡ 0 → after ≡ knowing before (owing 0 before.0.known))

-- a worker clears its own idle bit, and no other; if it was set, the worker has risen
abbrev pub Rises : Step ℕ → Mine → ℕ → Mine → Type 0
Rises step before found after = (step.word ≡ idle_at) × (before.0.known.worker ≢ 0)
    × ((worker : ℕ) → before.0.known.worker ≡ worker + 1 → (step.first ≡ others worker) × (after ≡ knowing before (rising worker found before.0.known)))

-- a worker sets its own idle bit, and no other, and has read none of its summary words since; if the bit was clear, the
-- worker has lain down
abbrev pub Rests : Step ℕ → Mine → ℕ → Mine → Type 0
Rests step before found after = (step.word ≡ idle_at) × (before.0.known.worker ≢ 0)
    × ((worker : ℕ) → before.0.known.worker ≡ worker + 1 → (step.first ≡ 2 ^ worker) × (after ≡ knowing before (lying worker found before.0.known)))

-- the worker reads the next one of its summary words; if it is 0, the worker counts it as seen
abbrev pub LooksNext : Step ℕ → Mine → ℕ → Mine → Type 0
LooksNext step before found after =
    (found ≡ 0 → after ≡ knowing before (having_seen (before.0.known.seen + 1) before.0.known)) × (found ≢ 0 → after ≡ knowing before (noted step.word found before.0.known))

-- ---- worker numbers

-- the number found is recorded, and the bit of a worker number is cleared; if it was set, the seat has this number now
abbrev pub Registers : Step ℕ → Mine → ℕ → Mine → Type 0
Registers step before found after = (worker : ℕ) → step.first ≡ others worker → worker < 64
    → (bit_at found worker ≡ 1 → after ≡ knowing before (working (worker + 1) (noted step.word found before.0.known)))
    × (bit_at found worker ≡ 0 → after ≡ knowing before (noted step.word found before.0.known))

-- the seat has no worker number any more
abbrev pub Leaves : Step ℕ → Mine → ℕ → Mine → Type 0
Leaves step before found after = after ≡ knowing before (working 0 (noted step.word found before.0.known))
