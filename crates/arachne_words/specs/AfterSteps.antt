-- The seat within a call after each step: it has noted the step's kind, its word, and the numbers in the word before
-- and after it. A store doesn't show the number before.
use Rattle.std.specs.Prelude.{◌≡◌, ◌≢◌, ℕ, ◌<◌, [], ◌∷◌, true, false, Some, None}
use Rattle.atomic_table.specs.Table.{rest}
use Rattle.arachne_core.specs.declared.{layout.TheConstants.CORE_BITS, place.Place.Place, mark.Mark.Mark}
use Rattle.arachne_core.specs.{Marked.{Marked, mark_word}, Occupancy.{Occupancy, occupancy_word}}
use Rattle.arachne_core.specs.declared.mark.Mark.TheVariants as mark
use Rattle.arachne_rule.specs.Changes.{claimed_again, left_context, marked_free, marked_spent, posted, retired, spent_known, taken_context}
use Rattle.arachne_rule.specs.{Layout.{Contexts, occ_index, name_index}, declared.view.{Carried.Carried, Kind.Kind}}
use Rattle.arachne_rule.specs.{Views.{noted, with_context, without_context, carried_at}, declared.view.Known.Known}
use Rattle.arachne_rule.specs.declared.view.Kind.TheVariants as kind
use Rattle.arachne_words.specs.Seats.{CallView, ClaimView, HoldView, claimed_by, held_by}
use Rattle.arachne_words.specs.Calls.{EachContextOf, given_back, learned, sum_of, won_claim}
use Rattle.arachne_words.specs.Moves.{moved_off, shared_claim}

-- the knowledge after the mark word that was seen has got another mark
abbrev pub marked_anew : Kind → ℕ → Marked → Mark → Known → Known
marked_anew step x seen m k = noted step x (mark_word CORE_BITS seen) (mark_word CORE_BITS (record seen { mark = m })) k

module _ {T : Type 0} where
  -- ---- exchanges

  -- an exchange was lost: the word found was not the expected one
  abbrev pub LosesTo : Kind → ℕ → ℕ → ℕ → CallView T → CallView T → Type 0
  LosesTo step word expected found s t = (found ≢ expected) × (t ≡ record s { known = noted step word found found s.known })

  -- a place is claimed on a core whose word was seen, and with it a context that the seat didn't carry
  abbrev pub WinsClaim : Contexts → Occupancy → Place → CallView T → CallView T → Type 0
  WinsClaim c seen place s t = (x g : ℕ) × (x < c.table.slots) × (carried_at x s.known.carried ≡ [])
      × (t ≡ record s { known = won_claim (occ_index c.table.slots place.core) (occupancy_word seen) (claimed_by (shared_claim place) x g) s.known })

  -- a core whose word was 0 is claimed whole, with the context at its index 0, which the seat didn't carry
  abbrev pub WinsCore : Contexts → ℕ → CallView T → CallView T → Type 0
  WinsCore c core s t = (x g : ℕ) × (x < c.table.slots) × (carried_at x s.known.carried ≡ [])
      × (t ≡ record s {
        known = noted kind.Alone (occ_index c.table.slots core) 0 (sum_of true 0)
            (with_context s.known (claimed_by (record { place = record { core = core; index = 0 }; alone = true }) x g));
      })

  -- the thread of a context is held, and its value is with the seat, which didn't carry the context
  abbrev pub WinsTake : (T → ℕ) → ℕ → Marked → CallView T → CallView T → Type 0
  WinsTake tag_of x seen s t = (value : T) × (carried_at x s.known.carried ≡ [])
      × (t ≡ record s { known = marked_anew kind.Take x seen mark.Held (with_context s.known (taken_context x seen (tag_of value))); slots = (x, Some value) ∷ s.slots })

  -- the thread of a context that the seat carries is blocked, and the slot that was taken last has gone home
  abbrev pub WinsRest : ℕ → Marked → Carried → CallView T → CallView T → Type 0
  WinsRest x held a s t = t ≡ record s { known = marked_anew kind.RestBlocked x held mark.Blocked (without_context s.known a); slots = rest s.slots }

  -- the thread isn't blocked: the mark word that was found shows that it was woken while it was held
  abbrev pub FindsWoken : ℕ → Marked → ℕ → CallView T → CallView T → Type 0
  FindsWoken x held found s t = (found ≡ mark_word CORE_BITS (record held { mark = mark.Woken })) × (t ≡ record s { known = noted kind.RestBlocked x found found s.known })

  -- the mark word of a context has another mark, and the seat knows nothing else that is new
  abbrev pub WinsMark : Kind → ℕ → Marked → Mark → CallView T → CallView T → Type 0
  WinsMark step x seen m s t = t ≡ record s { known = marked_anew step x seen m s.known }

  -- the mark word of context x has the target as its place, and a, which was claimed there, stands at the place that x
  -- left
  abbrev pub WinsMove : ℕ → Marked → Place → Carried → CallView T → CallView T → Type 0
  WinsMove x seen target a s t = t ≡ record s {
    known = noted kind.Move x (mark_word CORE_BITS seen) (mark_word CORE_BITS (record seen { place = target })) (with_context s.known (left_context a seen.place));
  }

  -- ---- loads

  -- the word of the place names the context, whose empty slot is out with the seat
  abbrev pub LoadsSlot : Contexts → Place → ℕ → Carried → CallView T → CallView T → Type 0
  LoadsSlot c place found a s t = (found ≡ a.context)
      × (t ≡ record s {
        known = learned (name_index c.table.slots place) found (with_context s.known (record a { away = true }));
        slots = (found, None) ∷ s.slots;
      })

  -- ---- stores and swaps

  -- this number is written to the word, and the seat then knows k and the step
  abbrev pub Writes : Kind → ℕ → ℕ → Known → CallView T → CallView T → Type 0
  Writes step word after k s t = (before : ℕ) × (t ≡ record s { known = noted step word before after k })

  -- the same, and the slot that was taken last has gone home
  abbrev pub WritesHome : Kind → ℕ → ℕ → Known → CallView T → CallView T → Type 0
  WritesHome step word after k s t = (before : ℕ) × (t ≡ record s { known = noted step word before after k; slots = rest s.slots })

  -- a thread with this tag is ready in the context
  abbrev pub WritesPost : ℕ → Marked → Carried → ℕ → CallView T → CallView T → Type 0
  WritesPost x ready a tag s t = WritesHome kind.Post x (mark_word CORE_BITS ready) (posted s.known a tag) s t

  -- the thread of the context is ready again
  abbrev pub WritesRest : ℕ → Marked → Carried → CallView T → CallView T → Type 0
  WritesRest x ready a s t = WritesHome kind.RestReady x (mark_word CORE_BITS ready) (without_context s.known a) s t

  -- the word of the place at which a thread was taken names its context
  abbrev pub WritesName : Contexts → Place → ℕ → Carried → CallView T → CallView T → Type 0
  WritesName c place x a s t = WritesHome kind.KeepName (name_index c.table.slots place) x (with_context s.known (record a { named = true; away = false })) s t

  -- the thread has ended, and its context is claimed for the next generation
  abbrev pub WritesFree : HoldView → ℕ → CallView T → CallView T → Type 0
  WritesFree hold tag s t = Writes kind.Retire hold.id.context (mark_word CORE_BITS (marked_free (claimed_again (held_by hold tag)))) (retired s.known (held_by hold tag)) s t

  -- the thread has ended, and its context is spent
  abbrev pub WritesSpent : HoldView → ℕ → CallView T → CallView T → Type 0
  WritesSpent hold tag s t = Writes kind.Retire hold.id.context (mark_word CORE_BITS (marked_spent (held_by hold tag))) (spent_known s.known (held_by hold tag)) s t

  -- the mark word of the context whose place a move took shows its new place
  abbrev pub WritesPlace : ℕ → Marked → Carried → CallView T → CallView T → Type 0
  WritesPlace x free a s t = Writes kind.Replace x (mark_word CORE_BITS free) (with_context s.known (record a { shown = a.place })) s t

  -- the word of the place that a move left names the context that stands there now
  abbrev pub WritesSource : Contexts → Place → ℕ → Carried → CallView T → CallView T → Type 0
  WritesSource c source x a s t = Writes kind.NameSource (name_index c.table.slots source) x (with_context s.known (record a { named = true })) s t

  -- ---- subtractions

  -- the place of a claim is free
  abbrev pub Frees : Contexts → ClaimView → CallView T → CallView T → Type 0
  Frees c claim s t = EachContextOf c s.known claim (λ x g. (found : ℕ) × (t ≡ record s { known = given_back c claim x g found s.known }))

  -- ---- the end of a move

  -- context y, of this generation, whose place the move of x took, stands at the source, and that place is free
  abbrev pub MovesOff : Contexts → ℕ → ℕ → ℕ → Place → Place → CallView T → CallView T → Type 0
  MovesOff c x y generation source target s t = (named before named_before found : ℕ)
      × (t ≡ record s {
        known = moved_off c.table.slots x y generation source target named before named_before found
            (without_context s.known (claimed_by (shared_claim source) y generation));
      })
