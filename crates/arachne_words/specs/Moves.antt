-- The results of a move, by its steps: each step is noted with its word, and the numbers in the word before and after
-- it.
use Rattle.std.specs.Prelude.{◌≡◌, ◌≢◌, ℕ, ◌-◌, ◌<◌, ◌⊎◌, ◌==◌, if◌then◌else◌, true, false, []}
use Rattle.arachne_core.specs.{declared.{place.Place.Place, layout.TheConstants.CORE_BITS}, Occupancy.occupancy_of}
use Rattle.arachne_core.specs.Marked.{Marked, mark_word, marked_of}
use Rattle.arachne_core.specs.declared.mark.Mark.TheVariants as mark
use Rattle.arachne_contexts.specs.declared.answers.Moved.{Moved}
use Rattle.arachne_contexts.specs.declared.answers.Moved.TheVariants as moved
use Rattle.arachne_rule.specs.declared.view.Kind.TheVariants as kind
use Rattle.arachne_rule.specs.{declared.view.Known.Known, Changes.index_sum, Layout.{Contexts, occ_index, name_index}}
use Rattle.arachne_rule.specs.{Plays.{IsHeldMark, IsRestMark}, Views.{noted, without_context, carried_at}}
use Rattle.arachne_words.specs.Seats.{ClaimView, claimed_by}
use Rattle.arachne_words.specs.Calls.{HasNoPlace, IsLowestFree, looked, learned, lost_claim, won_claim}

-- a claim of a place on a core that is not exclusive
abbrev pub shared_claim : Place → ClaimView
shared_claim p = record { place = p; alone = false }

-- the fields of the mark word of a context that is free, or claimed, at the place
abbrev pub free_at : Place → ℕ → Marked
free_at p generation = record { mark = mark.Free; alone = false; place = p; generation = generation }

-- The knowledge after the last four steps of a move. The place word of the target names the moved context, unless it
-- was changed meanwhile. Context y, whose place the move took, shows its new place in its mark word, and is named
-- there. That place is free.
abbrev pub moved_off : ℕ → ℕ → ℕ → ℕ → Place → Place → ℕ → ℕ → ℕ → ℕ → Known → Known
moved_off n moving y generation source target named before replaced found k =
    noted kind.Release (occ_index n source.core) found (found - index_sum source.index)
    (noted kind.NameSource (name_index n source) replaced y
    (noted kind.Replace y before (mark_word CORE_BITS (free_at source generation))
    (noted kind.NameTarget (name_index n target) named (if named == y then moving else named) k)))

-- The result of a move after the target was claimed, with the context y that stood there, of this generation. Either
-- the exchange was lost, and the target is free again; or it was won, and the four last steps were made.
abbrev pub ToAnswer : Contexts → ℕ → Marked → Place → ℕ → ℕ → Known → Moved → Known → Type 0
ToAnswer c x seen target y generation k moved.Moved after = (named before replaced found : ℕ)
    × (after ≡ moved_off c.table.slots x y generation seen.place target named before replaced found
    (noted kind.Move x (mark_word CORE_BITS seen) (mark_word CORE_BITS (record seen { place = target }))
    (looked y (mark_word CORE_BITS (free_at target generation)) (learned (name_index c.table.slots target) y (without_context k (claimed_by (shared_claim target) y generation))))))
ToAnswer c x seen target y generation k (moved.Lost word) after = (found : ℕ) × (word ≢ mark_word CORE_BITS seen)
    × (after ≡ noted kind.Release (occ_index c.table.slots target.core) found (found - index_sum target.index)
    (noted kind.Move x word word
    (looked y (mark_word CORE_BITS (free_at target generation)) (learned (name_index c.table.slots target) y (without_context k (claimed_by (shared_claim target) y generation))))))
ToAnswer c x seen target y generation k answer after = ⊥

-- a place of the core was claimed, the lowest free one of the word that was seen and exchanged, and with it a context
pub record HasRoom (c : Contexts) (to : ℕ) (k : Known) (room index y generation : ℕ) (after : Known) : Type 0 where
  pub is_open : (occupancy_of room).closed ≡ false
  pub lowest : IsLowestFree c.shape.places_per_core (occupancy_of room) index
  pub inside : y < c.table.slots
  pub fresh : carried_at y k.carried ≡ []
  pub steps : after ≡ won_claim (occ_index c.table.slots to) room (claimed_by (shared_claim (record { core = to; index = index })) y generation) (looked (occ_index c.table.slots to) room k)

-- the target was claimed, and then the move had this result
abbrev pub HasTried : Contexts → ℕ → Marked → ℕ → Known → Moved → Known → Type 0
HasTried c x seen to k answer after = (room index y generation : ℕ) × (claimed : Known) × HasRoom c to k room index y generation claimed
    × ToAnswer c x seen (record { core = to; index = index }) y generation claimed answer after

-- the result of a move of a thread at rest, after the target core was looked at: it has no room, or its word changed,
-- or a place was claimed
abbrev pub SeenAnswer : Contexts → ℕ → Marked → ℕ → Known → Moved → Known → Type 0
SeenAnswer c x seen to k (moved.NoRoom word) after = (((occupancy_of word).closed ≡ true) ⊎ HasNoPlace c.shape.places_per_core (occupancy_of word)) × (after ≡ looked (occ_index c.table.slots to) word k)
SeenAnswer c x seen to k (moved.Lost word) after = ((room : ℕ) × (word ≢ room) × (after ≡ lost_claim (occ_index c.table.slots to) word (looked (occ_index c.table.slots to) room k)))
    ⊎ HasTried c x seen to k (moved.Lost word) after
SeenAnswer c x seen to k answer after = HasTried c x seen to k answer after

-- the reason why a thread isn't moved: there is none, its core is exclusive to it, or it is held on a shared core
abbrev pub IsObstacle : Marked → Moved → Type 0
IsObstacle seen moved.Unposted = (seen.mark ≡ mark.Free) ⊎ (seen.mark ≡ mark.Spent)
IsObstacle seen moved.Alone = (IsRestMark seen.mark ⊎ IsHeldMark seen.mark) × (seen.alone ≡ true)
IsObstacle seen moved.Running = IsHeldMark seen.mark × (seen.alone ≡ false)
IsObstacle seen answer = ⊥

-- The result of a move, with the context x that the place word named, and the fields of its mark word. Either x stands
-- at another place; or its thread isn't moved; or the thread is at rest there, and then the target was tried.
abbrev pub MoveAnswer : Contexts → Place → ℕ → Known → Moved → Known → Type 0
MoveAnswer c p to k answer after = (x : ℕ) × (seen : Marked) × (marked_of CORE_BITS (mark_word CORE_BITS seen) ≡ seen) × (known : Known) × (known ≡ looked x (mark_word CORE_BITS seen) (learned (name_index c.table.slots p) x k))
    × (((answer ≡ moved.Lost (mark_word CORE_BITS seen)) × (seen.place ≢ p) × (after ≡ known))
    ⊎ (((seen.place ≡ p) × IsObstacle seen answer × (after ≡ known))
    ⊎ ((seen.place ≡ p) × IsRestMark seen.mark × (seen.alone ≡ false) × SeenAnswer c x seen to known answer after)))
