-- The changes of workers' idle bits by each call, as the law counts them.
use Rattle.std.specs.Prelude.{◌≡◌, ℕ, Bool, false}
use Rattle.arachne_exec.specs.declared.{view.Notes.Notes, answers.JobSpawned.JobSpawned, answers.JobRested.JobRested}
use Rattle.arachne_exec.specs.declared.answers.JobSpawned.TheVariants as spawned
use Rattle.arachne_exec.specs.declared.answers.JobRested.TheVariants as rested
use Rattle.arachne_exec.specs.declared.answers.{JobWoken.JobWoken, Next.Next}
use Rattle.arachne_exec.specs.declared.answers.JobWoken.TheVariants as woken
use Rattle.arachne_exec.specs.declared.answers.Next.TheVariants as next
use Rattle.arachne_exec.specs.{Changes.{roused_more, often, lain_more, risen_more}, Calls.HasSeenAll}

-- true if a result says to unpark the worker of its place
abbrev pub spawn_unparks : JobSpawned → Bool
spawn_unparks (spawned.Placed at) = at.unpark
spawn_unparks spawned.Full = false
spawn_unparks spawned.Lost = false

abbrev pub rest_unparks : JobRested → Bool
rest_unparks (rested.Ready unpark) = unpark
rest_unparks rested.Blocked = false

abbrev pub wake_unparks : JobWoken → Bool
wake_unparks (woken.Ready unpark) = unpark
wake_unparks woken.Marked = false
wake_unparks woken.Already = false
wake_unparks woken.Gone = false
wake_unparks woken.Lost = false

-- if the result says so, the worker was roused once; no other worker was roused, lay down or rose
abbrev pub Rouses : (unpark : Bool) (worker : ℕ) → Notes → Notes → Type 0
Rouses unpark worker k after = after.sleeps ≡ roused_more unpark worker k.sleeps

abbrev pub RousesNobody : Notes → Notes → Type 0
RousesNobody k after = Rouses false 0 k after

-- First the worker may have roused itself, and nobody else. Then, Run: it has neither lain down nor risen. Park: it has
-- set its idle bit, which was clear (0) or set (1), and has found all of its summary words 0 since. Again: it has set
-- the bit, and has risen, unless it was roused meanwhile (0).
abbrev pub Sleeps : Next → ℕ → ℕ → Notes → Notes → Type 0
Sleeps (next.Run job) shards worker k after = (n : ℕ) × (after.sleeps ≡ often n worker k.sleeps)
Sleeps next.Park shards worker k after = (n was : ℕ) × (after.sleeps ≡ lain_more was worker (often n worker k.sleeps)) × HasSeenAll shards after
Sleeps next.Again shards worker k after = (n was then : ℕ) × (after.sleeps ≡ risen_more then worker (lain_more was worker (often n worker k.sleeps)))
