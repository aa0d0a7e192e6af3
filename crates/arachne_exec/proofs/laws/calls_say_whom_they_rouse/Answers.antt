use Rattle.std.proofs.Common.{◌≡◌, ⊎_elim, ℕ, ◌/◌, List, refl, ap, ◌∙◌, arith}
use Rattle.std.specs.Int.{bit_at}
use Rattle.arachne_exec.specs.declared.{view.Notes.Notes, view.SleepDeed.SleepDeed, answers.JobSpawned.JobSpawned}
use Rattle.arachne_exec.specs.declared.answers.JobSpawned.TheVariants as spawned
use Rattle.arachne_exec.specs.declared.answers.{SpawnedHere.SpawnedHere, JobRested.JobRested, JobWoken.JobWoken}
use Rattle.arachne_exec.specs.declared.answers.SpawnedHere.TheVariants as spawned_here
use Rattle.arachne_exec.specs.declared.answers.JobRested.TheVariants as rested
use Rattle.arachne_exec.specs.declared.answers.JobWoken.TheVariants as woken
use Rattle.arachne_exec.specs.{declared.answers.WokenHere.WokenHere, declared.answers.Next.Next, Layout.worker_of}
use Rattle.arachne_exec.specs.declared.answers.WokenHere.TheVariants as here
use Rattle.arachne_exec.specs.declared.answers.Next.TheVariants as next
use Rattle.arachne_exec.specs.Changes.{roused_more, lain_more, risen_more}
use Rattle.arachne_exec.specs.Calls.{worker_at, HasMissed, HasSpawned, HasSpawnedHere, HasRested, IsGone, HasWoken, HasWokenHere, HasAnswered}
use Rattle.arachne_exec.specs.Sleeps.{spawn_unparks, rest_unparks, wake_unparks, Rouses, RousesNobody, Sleeps}
use Rattle.arachne_exec.proofs.laws.calls_say_whom_they_rouse.Goals as goal

-- what a call did to sleeps
abbrev slept : Notes → List SleepDeed
slept k = k.sleeps

module _ (k after : Notes) where
  quiet : (l : Notes) → after ≡ l → l.sleeps ≡ k.sleeps → RousesNobody k after
  quiet l e same = ap slept e ∙ same

  missed : (word : ℕ) → HasMissed word k after → RousesNobody k after
  missed word is = quiet _ is.known refl

  gone : (places place generation : ℕ) → IsGone places place generation k after → RousesNobody k after
  gone places place generation = ⊎_elim (λ none. quiet k none.0 refl) (λ other. quiet _ other.2 refl)

  on-spawn : (answer : JobSpawned) (block job : ℕ) → HasSpawned answer block job k after → Rouses (spawn_unparks answer) (worker_of (block / 64)) k after
  on-spawn (spawned.Placed at) block job is = let same : worker_at at.place ≡ worker_of (block / 64) = omega (arith, is.there) in ap slept is.known ∙ ap (λ (w : ℕ). roused_more at.unpark w k.sleeps) same
  on-spawn spawned.Full block job is = quiet _ is refl
  on-spawn spawned.Lost block job is = missed _ is

  on-spawn-here : (answer : SpawnedHere) (block job : ℕ) → HasSpawnedHere answer block job k after → RousesNobody k after
  on-spawn-here (spawned_here.Held job) block number is = quiet _ is.known refl
  on-spawn-here spawned_here.Full block number is = quiet _ is refl
  on-spawn-here spawned_here.Lost block number is = missed _ is

  on-rest : (answer : JobRested) (place : ℕ) → HasRested answer place k after → Rouses (rest_unparks answer) (worker_at place) k after
  on-rest rested.Blocked place is = quiet _ is.2 refl
  on-rest (rested.Ready unpark) place is = ⊎_elim (λ found. ap slept found.1) (λ found. ap slept found.2) is.1

  on-wake : (answer : JobWoken) (places place generation : ℕ) → HasWoken answer places place generation k after → Rouses (wake_unparks answer) (worker_at place) k after
  on-wake (woken.Ready unpark) places place generation is = ap slept is.3 ∙ ap (λ (z : Notes). roused_more unpark (worker_at place) z.sleeps) is.2.1
  on-wake woken.Marked places place generation is = quiet _ is refl
  on-wake woken.Already places place generation is = quiet _ is.3 refl
  on-wake woken.Gone places place generation is = gone places place generation is
  on-wake woken.Lost places place generation is = quiet _ is.5 refl

  on-wake-here : (answer : WokenHere) (places place generation : ℕ) → HasWokenHere answer places place generation k after → RousesNobody k after
  on-wake-here (here.Held job) places place generation is = quiet _ is.2.1 refl
  on-wake-here here.Marked places place generation is = quiet _ is refl
  on-wake-here here.Already places place generation is = quiet _ is.3 refl
  on-wake-here here.Gone places place generation is = gone places place generation is
  on-wake-here here.Lost places place generation is = quiet _ is.5 refl

  on-next : (answer : Next) (shards worker : ℕ) → HasAnswered answer shards worker k after → Sleeps answer shards worker k after
  on-next (next.Run job) shards worker is = (is.4.0, ap slept is.5.known ∙ ap slept is.4.3)
  on-next next.Park shards worker is = let was : ℕ = bit_at is.2.0 worker in (is.1.0, was, ap slept is.2.2 ∙ ap (λ (z : Notes). lain_more was worker z.sleeps) is.1.3, is.2.3)
  on-next next.Again shards worker is = let was : ℕ = bit_at is.3.0 worker in let then : ℕ = bit_at is.3.3 worker in
      (is.1.0, was, then, ap slept is.3.7 ∙ ap (λ (z : Notes). risen_more then worker (lain_more was worker z.sleeps)) is.1.3)

pub returns : goal.returns
returns c = record {
  spawn = λ answer block job k after is. on-spawn k after answer block job is;
  rest_ready = λ unpark place k. refl;
  rest_blocked = λ answer place k after is. on-rest k after answer place is;
  wake = λ answer places place generation k after is. on-wake k after answer places place generation is;
  next = λ answer shards worker k after is. on-next k after answer shards worker is;
  spawn_here = λ answer block job k after is. on-spawn-here k after answer block job is;
  wake_here = λ answer places place generation k after is. on-wake-here k after answer places place generation is;
  take = λ job block k after is. quiet k after _ is.known refl;
  take_none = λ block k after is. ⊎_elim (λ none. quiet k after _ none refl) (λ lost. missed k after _ lost) is;
  take_many = λ bits block most k after is. ⊎_elim (λ none. quiet k after _ none.1 refl) (λ some. quiet k after _ some.9 refl) is;
  start = λ job place k after is. quiet k after _ is.known refl;
  finish = λ place k after is. quiet k after _ is.known refl;
}
