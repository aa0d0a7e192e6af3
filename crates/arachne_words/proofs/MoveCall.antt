-- A move: the conditions of its steps, and the seat after them.
use Rattle.std.proofs.Common.{◌≡◌, ℕ, ◌<◌, ◌∙◌, ◌==◌, if◌then◌else◌, ap, sym, subst, refl, inr, List}
use Rattle.arachne_core.specs.{declared.{layout.TheConstants.CORE_BITS, place.Place.Place}, Marked.{Marked, mark_word}}
use Rattle.arachne_contexts.specs.declared.answers.Moved.{Moved}
use Rattle.arachne_contexts.specs.declared.answers.Moved.TheVariants as moved
use Rattle.arachne_rule.specs.{Views.{noted, with_context, with_carried, without_context, without}, Plays.Carries}
use Rattle.arachne_rule.specs.{Layout.{Contexts, occ_index, name_index}, Changes.{index_sum, left_context}}
use Rattle.arachne_rule.{specs.declared.view.{Carried.Carried, Known.Known}, proofs.Carrying.with-at}
use Rattle.arachne_rule.specs.declared.view.Kind.TheVariants as kind
use Rattle.arachne_words.specs.{Seats.{CallView, HasClaim, claimed_by}, Sizes.IsPlaceIn, Steps.IsClaimed}
use Rattle.arachne_words.specs.{Calls.released, Moves.{shared_claim, free_at, moved_off, HasRoom, ToAnswer, SeenAnswer}}
use Rattle.arachne_words.proofs.Out.{without-with}

module _ (z : Contexts) (moving y g : ℕ) (source target : Place) (inside : y < z.table.slots) where
  abbrev pub left : Carried
  left = left_context (claimed_by (shared_claim target) y g) source

  abbrev pub replaced : Carried
  replaced = record left { shown = source }

  abbrev pub named : Carried
  named = claimed_by (shared_claim source) y g

  module _ {T : Type 0} (s0 s1 : CallView T) (has : Carries s0.known left) (r : ℕ)
      (e1 : s1 ≡ record s0 { known = noted kind.NameTarget (name_index z.table.slots target) r (if r == y then moving else r) s0.known }) where
    pub left-claimed-1 : IsClaimed z s1.known left
    left-claimed-1 = record { inside = inside; carried = subst (λ (v : CallView T). Carries v.known left) (sym e1) has; claimed = refl }

  module _ {T : Type 0} (s1 s2 : CallView T) (b1 : ℕ)
      (e2 : s2 ≡ record s1 { known = noted kind.Replace y b1 (mark_word CORE_BITS (free_at source g)) (with_context s1.known replaced) }) where
    pub replaced-claimed : IsClaimed z s2.known replaced
    replaced-claimed = record { inside = inside; carried = subst (λ (v : CallView T). Carries v.known replaced) (sym e2) (with-at replaced y s1.known.carried refl); claimed = refl }

  module _ {T : Type 0} (s2 s3 : CallView T) (b2 : ℕ)
      (e3 : s3 ≡ record s2 { known = noted kind.NameSource (name_index z.table.slots source) b2 y (with_context s2.known named) }) where
    pub named-carried : Carries s3.known named
    named-carried = subst (λ (v : CallView T). Carries v.known named) (sym e3) (with-at named y s2.known.carried refl)

    pub source-claim : IsPlaceIn z.shape source → HasClaim z s3.known (shared_claim source)
    source-claim p_in = record { context = y; generation = g; placed = p_in; inside = inside; carried = named-carried }

  pub after : {T : Type 0} (s0 s1 s2 s3 s4 : CallView T) (r b1 b2 found : ℕ)
      → s1 ≡ record s0 { known = noted kind.NameTarget (name_index z.table.slots target) r (if r == y then moving else r) s0.known }
      → s2 ≡ record s1 { known = noted kind.Replace y b1 (mark_word CORE_BITS (free_at source g)) (with_context s1.known replaced) }
      → s3 ≡ record s2 { known = noted kind.NameSource (name_index z.table.slots source) b2 y (with_context s2.known named) }
      → s4 ≡ record s3 { known = released (occ_index z.table.slots source.core) found (index_sum source.index) named s3.known }
      → s4 ≡ record s0 { known = moved_off z.table.slots moving y g source target r b1 b2 found (without_context s0.known named) }
  after {T = T} s0 s1 s2 s3 s4 r b1 b2 found e1 e2 e3 e4 =
      e4 ∙ ap (λ (v : CallView T). record v { known = released (occ_index z.table.slots source.core) found (index_sum source.index) named v.known })
      (e3 ∙ ap (λ (v : CallView T). record v { known = noted kind.NameSource (name_index z.table.slots source) b2 y (with_context v.known named) })
      (e2 ∙ ap (λ (v : CallView T). record v { known = noted kind.Replace y b1 (mark_word CORE_BITS (free_at source g)) (with_context v.known replaced) }) e1))
      ∙ ap (λ (cs : List Carried). record s0 { known = moved_off z.table.slots moving y g source target r b1 b2 found (record s0.known { carried = cs }) })
      (without-with named (with_carried replaced s0.known.carried) ∙ without-with replaced s0.known.carried)

-- no other context comes to the seat, or leaves it
pub to-carried : (c : Contexts) (x : ℕ) (seen : Marked) (target : Place) (y g : ℕ) (k after : Known) (answer : Moved) → ToAnswer c x seen target y g k answer after → after.carried ≡ without y k.carried
to-carried c x seen target y g k after moved.Moved is = ap (λ (q : Known). q.carried) is.4
to-carried c x seen target y g k after (moved.Lost word) is = ap (λ (q : Known). q.carried) is.2
to-carried c x seen target y g k after _ is = absurd is

pub seen-answer : (c : Contexts) (x : ℕ) (seen : Marked) (to : ℕ) (k after : Known) (answer : Moved) (room index y g : ℕ) (claimed : Known) → HasRoom c to k room index y g claimed
    → ToAnswer c x seen (record { core = to; index = index }) y g claimed answer after → SeenAnswer c x seen to k answer after
seen-answer c x seen to k after moved.Moved room index y g claimed has is = (room, index, y, g, claimed, has, is)
seen-answer c x seen to k after (moved.Lost word) room index y g claimed has is = inr (room, index, y, g, claimed, has, is)
seen-answer c x seen to k after _ room index y g claimed has is = absurd is
