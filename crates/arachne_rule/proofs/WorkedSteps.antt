-- The definitions on worked values.
use Rattle.std.proofs.Common.{◌≡◌, ℕ, ◌+◌, ◌-◌, ◌^◌, true, false, List, [], ◌∷◌, refl, arith, inl, inr, get_or, replicate, length, Some, None}
use Rattle.arachne_core.specs.{declared.event.Event.Event, Occupancy.flags, Marked.{mark_word, marked_of}}
use Rattle.arachne_core.specs.declared.event.Event.TheVariants as event
use Rattle.arachne_core.specs.declared.state.State.TheVariants as state
use Rattle.arachne_rule.specs.{declared.view.{Shape.Shape, Kind.Kind}, Rule.is_occupied, Ending.left_from}
use Rattle.arachne_rule.specs.Changes.{alone_context, taken_context, claimed_again, marked_free, marked_spent, index_sum, release_sum}
use Rattle.arachne_rule.specs.History.{Makes, opening_world, world_after, words_after, records_of, IsHistory, Entry}
use Rattle.arachne_rule.specs.declared.view.Kind.TheVariants as kind

-- ---- words

-- a claim of index 0 on the word 0, and of index 1 if 0 and 2 are occupied
first-claim : 0 + index_sum 0 ≡ 0x0100000000000001
first-claim = refl

claim-between : 0x0200000000000005 + index_sum 1 ≡ 0x0300000000000007
claim-between = refl

lowest : (is_occupied 0x0200000000000005 0 ≡ true) × (is_occupied 0x0200000000000005 1 ≡ false)
unfolding flags
lowest = (refl, refl)

-- a whole core
alone-word : 2 ^ 63 + index_sum 0 ≡ 0x8100000000000001
alone-word = refl

alone-release : 0x8100000000000001 - release_sum (alone_context 0 0 0) ≡ 0
alone-release = refl

-- after the end of a thread of generation 0 at the first place of core 0, and at the last generation
next-mark : mark_word 6 (marked_free (claimed_again (taken_context 0 (marked_of 6 3) 7))) ≡ 0x10000
next-mark = refl

last-mark : mark_word 6 (marked_spent (taken_context 0 (marked_of 6 0xFFFFFFFFFFFF0003) 7)) ≡ 0xFFFFFFFFFFFF0005
last-mark = refl

-- a thread that is left: context 1 of generation 2, with the value 9
left-thread : left_from {T = ℕ} 6 0 (0x10000 ∷ 0x20001 ∷ []) (None ∷ Some 9 ∷ []) ≡ (record { context = 1; generation = 2 }, 9) ∷ []
left-thread = refl

-- ---- a history on one core of one place: a claim, a post, a lost take, a take, the end of the thread, and the release

abbrev small : Shape
small = record { cores = 1; places_per_core = 1; first = 0; last = 3 }

abbrev step-of : ℕ → Kind → ℕ → ℕ → ℕ → Event → Entry
step-of seat kind word before after event = record { seat = seat; step = record { kind = kind; word = word; before = before; after = after }; event = event }

abbrev story : List Entry
story =
    step-of 0 kind.Release 17 0x0100000000000001 0 (event.Release 0 0) ∷
    step-of 0 kind.Retire 0 3 0x10000 (event.Retire 0 0) ∷
    step-of 0 kind.Take 0 1 3 (event.Take 0 0) ∷
    step-of 1 kind.Take 0 1 1 event.Still ∷
    step-of 0 kind.Post 0 0 1 (event.Post 0 0 7) ∷
    step-of 0 kind.Claim 17 0 0x0100000000000001 (event.Claim 0 0) ∷ []

abbrev first-words : List ℕ
first-words = replicate 89 0

story-is-lawful : IsHistory 6 (opening_world small) first-words story
story-is-lawful = (
  (
    (
      (
        (
          (
            tt,
            record { found = refl; allowed = record { context = omega arith; free = refl; core = record { not_closed = refl; not_alone = refl } }; makes = inr (0, refl, refl, refl) },
          ),
          record { found = refl; allowed = record { context = omega arith; claimed = refl }; makes = inr (7, refl, refl) },
        ),
        record { found = refl; allowed = tt; makes = inl (tt, refl, refl) },
      ),
      record { found = refl; allowed = record { context = omega arith; ready = tt }; makes = inr (refl, refl) },
    ),
    record { found = refl; allowed = record { context = omega arith; held = refl }; makes = inr (refl, refl) },
  ),
  record { found = refl; allowed = record { context = omega arith; claimed = refl }; makes = inr (0, refl, refl, refl) },
)

-- at the end the core's word is 0, the mark word is that of generation 1, and the thread was given and has ended once
story-ends : (get_or (words_after first-words story) 17 0 ≡ 0) × (get_or (words_after first-words story) 0 0 ≡ 0x10000) × ((world_after (opening_world small) story).state 0 ≡ state.Free)
    × ((world_after (opening_world small) story).given (record { context = 0; generation = 0 }, 7) ≡ 1) × ((world_after (opening_world small) story).ended (record { context = 0; generation = 0 }, 7) ≡ 1)
story-ends = (refl, refl, refl, refl, refl)

-- the second seat has made one step, and the first five
story-records : (records_of 1 story ≡ record { kind = kind.Take; word = 0; before = 1; after = 1 } ∷ []) × (length (records_of 0 story) ≡ 5)
story-records = (refl, refl)

-- a look isn't a step that changes the word, and a claim isn't a step that leaves the count
no-look : Makes 6 (opening_world small) (step-of 0 kind.Look 17 0 1 event.Still) → ⊥
no-look (inl m) = m.0
no-look (inr m) = cc

no-count : Makes 6 (opening_world small) (step-of 0 kind.Claim 17 0 1 (event.Claim 0 0)) → ⊥
no-count (inl m) = cc
no-count (inr m) = cc
