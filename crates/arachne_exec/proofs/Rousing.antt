-- A worker that looks for a job, and clears no idle bit but its own.
use Rattle.std.proofs.Common.{◌≡◌, inl, inr, ⊎_elim, ℕ, zero, suc, ◌+◌, ◌*◌, Bool, true, false, List, [], ◌∷◌, ◌++◌, append_assoc, refl, sym, ap, ◌∙◌, subst}
use Rattle.arachne_exec.specs.declared.view.{Notes.Notes, SleepDeed.SleepDeed, SleepDeed.TheVariants.Roused}
use Rattle.arachne_exec.specs.{declared.answers.HeldJob.HeldJob, Layout.{summary_at, ready_at, worker_of}}
use Rattle.arachne_exec.specs.declared.answers.Next.TheVariants as next
use Rattle.arachne_exec.specs.Changes.{noted, rousing, often}
use Rattle.arachne_exec.specs.Calls.{HasMissed, HasTakenNone, AreForJobs, HasLooked, IsAmong, HasLost, HasNoJob, IsSearched, HasTakenInShard, HasAnswered}

often-more : (n more worker : ℕ) (xs : List SleepDeed) → (all : ℕ) × (often n worker (often more worker xs) ≡ often all worker xs)
often-more zero more worker xs = (more, refl)
often-more (suc n) more worker xs = let rest = often-more n more worker xs in (suc rest.0, ap (λ (zs : List SleepDeed). Roused worker ∷ zs) rest.1)

for-jobs : (xs ys : List (ℕ × ℕ)) → AreForJobs xs → AreForJobs ys → AreForJobs (xs ++ ys)
for-jobs [] ys a b = b
for-jobs (x ∷ xs) ys a b = (a.0, for-jobs xs ys a.1 b)

-- ---- what was found stays among the looks

module _ (word number : ℕ) where
  pub among-more : (more looks : List (ℕ × ℕ)) → IsAmong word number looks → IsAmong word number (more ++ looks)
  among-more [] looks is = is
  among-more (x ∷ more) looks is = inr (among-more more looks is)

  among-left : (looks more : List (ℕ × ℕ)) → IsAmong word number looks → IsAmong word number (looks ++ more)
  among-left [] more is = elim is [ ]
  among-left (x ∷ looks) more is = ⊎_elim (λ e. inl e) (λ later. inr (among-left looks more later)) is

lost-left : (word : ℕ) (look : ℕ × ℕ) (looks more : List (ℕ × ℕ)) → HasLost word look looks → HasLost word look (looks ++ more)
lost-left word look [] more is = elim is [ ]
lost-left word look (x ∷ looks) more is = is

module _ (block : ℕ) where
  pub none-more : (more looks : List (ℕ × ℕ)) → HasNoJob block looks → HasNoJob block (more ++ looks)
  none-more [] looks is = is
  none-more (x ∷ more) looks is = inr (inr (none-more more looks is))

  none-left : (looks more : List (ℕ × ℕ)) → HasNoJob block looks → HasNoJob block (looks ++ more)
  none-left [] more is = elim is [ ]
  none-left (x ∷ looks) more is = ⊎_elim (λ e. inl e) (λ older. inr (⊎_elim (λ lost. inl (lost-left (ready_at block) x looks more lost)) (λ later. inr (none-left looks more later)) older)) is

module _ (shard : ℕ) (looks more : List (ℕ × ℕ)) where
  pub searched-more : IsSearched shard looks → IsSearched shard (more ++ looks)
  searched-more is = (is.0, among-more (summary_at shard) is.0 more looks is.1, λ index low set. none-more (64 * shard + index) more looks (is.2 index low set))

  pub searched-left : IsSearched shard looks → IsSearched shard (looks ++ more)
  searched-left is = (is.0, among-left (summary_at shard) is.0 looks more is.1, λ index low set. none-left (64 * shard + index) looks more (is.2 index low set))

-- ---- what it has looked at

pub looked-none : (worker : ℕ) (k : Notes) → HasLooked worker k k
looked-none worker k = (0, [], tt, refl)

module _ (worker : ℕ) (k l : Notes) (looked : HasLooked worker k l) where
  pub looked-missed : (block : ℕ) (m : Notes) → HasTakenNone block l m → (now : HasLooked worker k m) × HasNoJob block now.1 × (more : List (ℕ × ℕ)) × (now.1 ≡ more ++ looked.1)
  looked-missed block m = ⊎_elim
      (λ (e : m ≡ noted (ready_at block) 0 l). (
        (looked.0, (ready_at block, 0) ∷ looked.1, (inr (block, refl), looked.2), e ∙ ap (λ (z : Notes). noted (ready_at block) 0 z) looked.3),
        inl refl,
        (ready_at block, 0) ∷ [],
        refl,
      ))
      (λ (missed : HasMissed (ready_at block) l m). (
        (
          looked.0,
          (ready_at block, missed.then) ∷ (ready_at block, missed.first) ∷ looked.1,
          (inr (block, refl), (inr (block, refl), looked.2)),
          missed.known ∙ ap (λ (z : Notes). noted (ready_at block) missed.then (noted (ready_at block) missed.first z)) looked.3,
        ),
        inr (inl (refl, refl, missed.index, missed.was, missed.gone)),
        (ready_at block, missed.then) ∷ (ready_at block, missed.first) ∷ [],
        refl,
      ))

  pub looked-told : (told : Bool) → (now : HasLooked worker k (rousing told worker l)) × (now.1 ≡ looked.1)
  looked-told false = (looked, refl)
  looked-told true = ((suc looked.0, looked.1, looked.2, ap (λ (z : Notes). record z { sleeps = Roused worker ∷ z.sleeps }) looked.3), refl)

  pub looked-on : (m : Notes) (more : HasLooked worker l m) → (now : HasLooked worker k m) × (now.1 ≡ more.1 ++ looked.1)
  looked-on m more = let all = often-more more.0 looked.0 worker k.sleeps in (
    (
      all.0,
      more.1 ++ looked.1,
      for-jobs more.1 looked.1 more.2 looked.2,
      more.3 ∙ ap (λ (z : Notes). record z { looks = more.1 ++ z.looks; sleeps = often more.0 worker z.sleeps }) looked.3
          ∙ (λ i. record k { looks = sym (append_assoc more.1 looked.1 k.looks) i; sleeps = all.1 i }),
    ),
    refl,
  )

  pub took-on : (shards shard : ℕ) (after : Notes) (job : HeldJob) → worker_of shard ≡ worker → HasTakenInShard job shards shard l after → HasAnswered (next.Run job) shards worker k after
  took-on shards shard after job is took =
      (took.0, took.1, took.2, ap worker_of took.3 ∙ is, (looked-on took.1 (subst (λ (w : ℕ). HasLooked w l took.1) is took.4)).0, took.5)
