-- The results of a table's calls, by the steps that they made: each step is noted with its word, and the numbers in the
-- word before and after it.
use Rattle.std.specs.Prelude.{◌≡◌, ◌≢◌, ◌↔◌, IsTrue, EachIndex, ℕ, ◌+◌, ◌-◌, ◌<◌, ◌≤◌, ◌^◌, ◌⊎◌, Bool, true, false, if◌then◌else◌, [], slice_index_or}
use Rattle.arachne_core.specs.declared.{place.Place.Place, layout.TheConstants.CORE_BITS}
use Rattle.arachne_core.specs.{Occupancy.{Occupancy, occupancy_of}, declared.thread_id.ThreadId.ThreadId}
use Rattle.arachne_core.specs.{Marked.{Marked, mark_word, marked_of}, declared.state.Rest.Rest}
use Rattle.arachne_core.specs.declared.mark.Mark.TheVariants as mark
use Rattle.arachne_core.specs.declared.state.Rest.TheVariants as rest
use Rattle.arachne_contexts.specs.{Words.{ShowsReadyAt, ShowsWoken}, declared.answers.{Rested.Rested, Woken.Woken}}
use Rattle.arachne_contexts.specs.declared.answers.{Taken.Taken, Claimed.Claimed}
use Rattle.arachne_contexts.specs.declared.answers.Rested.TheVariants as rested
use Rattle.arachne_contexts.specs.declared.answers.Woken.TheVariants as woken
use Rattle.arachne_rule.specs.{Plays.{Carries, IsGone}, declared.view.{Carried.Carried, Known.Known}}
use Rattle.arachne_rule.specs.Views.{noted, with_context, without_context, carried_at}
use Rattle.arachne_rule.specs.Changes.{index_sum, release_sum, posted, spent_known, claimed_again, marked_as, marked_free, marked_spent}
use Rattle.arachne_rule.specs.Layout.{Contexts, occ_index, name_index}
use Rattle.arachne_contexts.specs.declared.answers.Taken.TheVariants as taken
use Rattle.arachne_contexts.specs.declared.answers.Claimed.TheVariants as claimed
use Rattle.arachne_rule.specs.declared.view.Kind.TheVariants as kind
use Rattle.arachne_words.specs.Seats.{ClaimView, HoldView, claimed_by, held_by, marked_by}

-- ---- the meaning of words

-- no index is free
abbrev pub HasNoFree : ℕ → Occupancy → Type 0
HasNoFree slots o = (i : ℕ) → i < slots → slice_index_or o.occupied i false ≡ true

-- the core is exclusive, or no index is free
abbrev pub HasNoPlace : ℕ → Occupancy → Type 0
HasNoPlace slots o = (o.exclusive ≡ true) ⊎ HasNoFree slots o

-- the lowest free index of a core that isn't exclusive
pub record IsLowestFree (slots : ℕ) (o : Occupancy) (index : ℕ) : Type 0 where
  pub shared : o.exclusive ≡ false
  pub inside : index < slots
  pub free : slice_index_or o.occupied index false ≡ false
  pub lowest : (i : ℕ) → i < index → slice_index_or o.occupied i false ≡ true

-- ---- steps

-- the knowledge after a word was seen
abbrev pub looked : ℕ → ℕ → Known → Known
looked word found k = noted kind.Look word found found k

-- the knowledge after a place word was seen
abbrev pub learned : ℕ → ℕ → Known → Known
learned word found k = noted kind.Learn word found found k

-- the knowledge after a claim was lost, because this word was found
abbrev pub lost_claim : ℕ → ℕ → Known → Known
lost_claim word found k = noted kind.Claim word found found k

-- the knowledge after an index was claimed in a word, and with it a context
abbrev pub won_claim : ℕ → ℕ → Carried → Known → Known
won_claim word found c k = noted kind.Claim word found (found + index_sum c.place.index) (with_context k c)

-- the knowledge after a place was freed, by subtracting this number from the word
abbrev pub released : ℕ → ℕ → ℕ → Carried → Known → Known
released word found less c k = noted kind.Release word found (found - less) (without_context k c)

-- the number that a claim adds to the word of its core, and its release subtracts
abbrev pub sum_of : Bool → ℕ → ℕ
sum_of alone index = if alone then 2 ^ 63 + index_sum index else index_sum index

-- ---- claims

-- Q is true of each context and generation with which the claim may be out with the seat
abbrev pub EachContextOf : Contexts → Known → ClaimView → (ℕ → ℕ → Type 0) → Type 0
EachContextOf c k claim Q = (x g : ℕ) → x < c.table.slots → Carries k (claimed_by claim x g) → Q x g

-- A place of the core was claimed: the lowest free one of the word that was exchanged, which is the word seen before.
pub record HasClaimed (c : Contexts) (core : ℕ) (k : Known) (claim : ClaimView) (after : Known) : Type 0 where
  pub word : ℕ
  pub context : ℕ
  pub generation : ℕ
  pub core_is : claim.place.core ≡ core
  pub shared : claim.alone ≡ false
  pub is_open : (occupancy_of word).closed ≡ false
  pub lowest : IsLowestFree c.shape.places_per_core (occupancy_of word) claim.place.index
  pub inside : context < c.table.slots
  pub fresh : carried_at context k.carried ≡ []
  pub steps : after ≡ won_claim (occ_index c.table.slots core) word (claimed_by claim context generation) (looked (occ_index c.table.slots core) word k)

abbrev pub ClaimAnswer : Contexts → ℕ → Known → Claimed ClaimView → Known → Type 0
ClaimAnswer c core k (claimed.Place claim) after = HasClaimed c core k claim after
ClaimAnswer c core k (claimed.Full word) after = ((occupancy_of word).closed ≡ false) × HasNoPlace c.shape.places_per_core (occupancy_of word) × (after ≡ looked (occ_index c.table.slots core) word k)
ClaimAnswer c core k (claimed.Closed word) after = ((occupancy_of word).closed ≡ true) × (after ≡ looked (occ_index c.table.slots core) word k)
ClaimAnswer c core k (claimed.Lost word) after = (seen : ℕ) × (word ≢ seen) × (after ≡ lost_claim (occ_index c.table.slots core) word (looked (occ_index c.table.slots core) seen k))

-- An open and empty core was claimed whole, with its index 0.
pub record HasClaimedWhole (c : Contexts) (core : ℕ) (k : Known) (claim : ClaimView) (after : Known) : Type 0 where
  pub context : ℕ
  pub generation : ℕ
  pub place_is : claim.place ≡ record { core = core; index = 0 }
  pub alone : claim.alone ≡ true
  pub inside : context < c.table.slots
  pub fresh : carried_at context k.carried ≡ []
  pub steps : after ≡ noted kind.Alone (occ_index c.table.slots core) 0 (sum_of true 0) (with_context (looked (occ_index c.table.slots core) 0 k) (claimed_by claim context generation))

abbrev pub ClaimAloneAnswer : Contexts → ℕ → Known → Claimed ClaimView → Known → Type 0
ClaimAloneAnswer c core k (claimed.Place claim) after = HasClaimedWhole c core k claim after
ClaimAloneAnswer c core k (claimed.Full word) after = ((occupancy_of word).closed ≡ false) × (word ≢ 0) × (after ≡ looked (occ_index c.table.slots core) word k)
ClaimAloneAnswer c core k (claimed.Closed word) after = ((occupancy_of word).closed ≡ true) × (after ≡ looked (occ_index c.table.slots core) word k)
ClaimAloneAnswer c core k (claimed.Lost word) after = (word ≢ 0) × (after ≡ noted kind.Alone (occ_index c.table.slots core) word word (looked (occ_index c.table.slots core) 0 k))

-- the knowledge after the claim of a context was given up, in the word of its core that was found
abbrev pub given_back : Contexts → ClaimView → ℕ → ℕ → ℕ → Known → Known
given_back c claim x g found k = released (occ_index c.table.slots claim.place.core) found (release_sum (claimed_by claim x g)) (claimed_by claim x g) k

abbrev pub GiveBackAnswer : Contexts → ClaimView → Known → Known → Type 0
GiveBackAnswer c claim k after = EachContextOf c k claim (λ x g. (found : ℕ) × (after ≡ given_back c claim x g found k))

-- ---- posts

-- a thread with this tag is ready in the context of a claim, in its generation
pub record HasPosted (c : Contexts) (k : Known) (claim : ClaimView) (tag : ℕ) (id : ThreadId) (after : Known) : Type 0 where
  pub seen : ℕ
  pub before : ℕ
  pub steps : after ≡ noted kind.Post id.context before (mark_word CORE_BITS (marked_as mark.Ready (claimed_by claim id.context id.generation)))
      (looked id.context seen (learned (name_index c.table.slots claim.place) id.context (posted k (claimed_by claim id.context id.generation) tag)))

-- the id is that of the claim's context, in which the thread was posted
abbrev pub PostAnswer : Contexts → Known → ClaimView → ℕ → ThreadId → Known → Type 0
PostAnswer c k claim tag id after = EachContextOf c k claim (λ x g. (id ≡ record { context = x; generation = g }) × HasPosted c k claim tag id after)

-- ---- takes

-- The thread that a mark word shows ready at the place was taken, and the place word names its context.
pub record HasTaken (c : Contexts) (p : Place) (k : Known) (hold : HoldView) (tag : ℕ) (after : Known) : Type 0 where
  pub place_is : hold.place ≡ p
  pub inside : hold.id.context < c.table.slots
  pub fresh : carried_at hold.id.context k.carried ≡ []
  pub named_before : ℕ
  pub steps : after ≡ noted kind.KeepName (name_index c.table.slots p) named_before hold.id.context
      (noted kind.Take hold.id.context (mark_word CORE_BITS (marked_by mark.Ready hold)) (mark_word CORE_BITS (marked_by mark.Held hold))
      (looked hold.id.context (mark_word CORE_BITS (marked_by mark.Ready hold)) (learned (name_index c.table.slots p) hold.id.context
      (with_context k (held_by hold tag)))))

abbrev pub TakeAnswer : {T : Type 0} → (T → ℕ) → Contexts → Place → Known → Taken T HoldView → Known → Type 0
TakeAnswer tag_of c p k (taken.Run thread) after = HasTaken c p k thread.hold (tag_of thread.value) after
TakeAnswer tag_of c p k (taken.NotReady word) after = (x : ℕ) × (ShowsReadyAt p word → ⊥) × (after ≡ looked x word (learned (name_index c.table.slots p) x k))
TakeAnswer tag_of c p k (taken.Lost word) after = (x seen : ℕ) × (word ≢ seen)
    × (after ≡ noted kind.Take x word word (looked x seen (learned (name_index c.table.slots p) x k)))

-- ---- ends

-- The thread has ended. Either its context is claimed for the next generation, and then its place is freed; or the
-- context is spent, and its place stays occupied.
pub record HasFinished (c : Contexts) (k : Known) (hold : HoldView) (tag : ℕ) (after : Known) : Type 0 where
  pub before : ℕ
  pub ends : hold.id.generation ≢ c.shape.last → (found : ℕ) × (after ≡ noted kind.Release (occ_index c.table.slots hold.place.core) found (found - release_sum (held_by hold tag))
      (noted kind.Retire hold.id.context before (mark_word CORE_BITS (marked_free (claimed_again (held_by hold tag)))) (spent_known k (held_by hold tag))))
  pub spends : hold.id.generation ≡ c.shape.last → after ≡ noted kind.Retire hold.id.context before (mark_word CORE_BITS (marked_spent (held_by hold tag))) (spent_known k (held_by hold tag))

-- ---- wakes

-- the thread of the id was blocked and is ready, or was held and is marked as woken
abbrev pub HasWoken : ThreadId → Known → Known → Type 0
HasWoken id k after = (seen : Marked) × (marked_of CORE_BITS (mark_word CORE_BITS seen) ≡ seen) × (seen.generation ≡ id.generation)
    × (((seen.mark ≡ mark.Blocked) × (after ≡ noted kind.Wake id.context (mark_word CORE_BITS seen) (mark_word CORE_BITS (record seen { mark = mark.Ready })) (looked id.context (mark_word CORE_BITS seen) k)))
    ⊎ ((seen.mark ≡ mark.Held) × (after ≡ noted kind.MarkWoken id.context (mark_word CORE_BITS seen) (mark_word CORE_BITS (record seen { mark = mark.Woken })) (looked id.context (mark_word CORE_BITS seen) k))))

abbrev pub WakeAnswer : Contexts → ThreadId → Known → Woken → Known → Type 0
WakeAnswer c id k woken.Woken after = HasWoken id k after
WakeAnswer c id k (woken.Already word) after = ShowsWoken id word × (after ≡ looked id.context word k)
WakeAnswer c id k woken.Gone after = ((c.table.slots ≤ id.context) × (after ≡ k)) ⊎ ((word : ℕ) × IsGone CORE_BITS id word × (after ≡ looked id.context word k))
WakeAnswer c id k (woken.Lost word) after = (seen : ℕ) × (word ≢ seen)
    × ((after ≡ noted kind.Wake id.context word word (looked id.context seen k)) ⊎ (after ≡ noted kind.MarkWoken id.context word word (looked id.context seen k)))

-- ---- threads that are put back

-- The request, the result, and the steps. A thread that was to be blocked is ready if it was woken while it was
-- held.
abbrev pub RestAnswer : Contexts → HoldView → ℕ → Known → Rest → Rested → Known → Type 0
RestAnswer c hold tag k rest.Ready rested.AsAsked after = (before : ℕ)
    × (after ≡ noted kind.RestReady hold.id.context before (mark_word CORE_BITS (marked_by mark.Ready hold)) (learned (name_index c.table.slots hold.place) hold.id.context (without_context k (held_by hold tag))))
RestAnswer c hold tag k rest.Ready rested.WokenMeanwhile after = ⊥
RestAnswer c hold tag k rest.Blocked rested.AsAsked after =
    after ≡ noted kind.RestBlocked hold.id.context (mark_word CORE_BITS (marked_by mark.Held hold)) (mark_word CORE_BITS (marked_by mark.Blocked hold)) (learned (name_index c.table.slots hold.place) hold.id.context (without_context k (held_by hold tag)))
RestAnswer c hold tag k rest.Blocked rested.WokenMeanwhile after = (found before : ℕ) × (found ≡ mark_word CORE_BITS (marked_by mark.Woken hold))
    × (after ≡ noted kind.RestReady hold.id.context before (mark_word CORE_BITS (marked_by mark.Ready hold)) (noted kind.RestBlocked hold.id.context found found (learned (name_index c.table.slots hold.place) hold.id.context (without_context k (held_by hold tag)))))

-- ---- cores

-- the word of the core was seen; the result is true exactly if it shows the core closed with no place occupied
abbrev pub DrainAnswer : Contexts → ℕ → Known → Bool → Known → Type 0
DrainAnswer c core k answer after = (word : ℕ) × (after ≡ looked (occ_index c.table.slots core) word k)
    × (IsTrue answer ↔ (((occupancy_of word).closed ≡ true) × EachIndex (occupancy_of word).occupied (λ i. slice_index_or (occupancy_of word).occupied i false ≡ false)))
