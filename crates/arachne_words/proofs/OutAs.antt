-- The claims and threads that are out with a seat after each call, by the call's result.
use Rattle.std.proofs.Common.{◌≡◌, ℕ, ◌<◌, ◌∙◌, ap, sym, subst, refl, List, [], ◌∷◌, Ok}
use Rattle.arachne_core.specs.declared.place.Place.{Place}
use Rattle.arachne_contexts.specs.{Out.{Out, Claim, Thread, with_claim, with_thread}, declared.answers.Claimed.Claimed}
use Rattle.arachne_contexts.specs.declared.answers.Taken.{Taken}
use Rattle.arachne_contexts.specs.declared.answers.Claimed.TheVariants as claimed
use Rattle.arachne_contexts.specs.declared.answers.Taken.TheVariants as taken
use Rattle.arachne_rule.specs.{declared.view.{Carried.Carried, Known.Known}, Layout.Contexts}
use Rattle.arachne_rule.{specs.Views.{carried_at, with_carried, without}, proofs.Carrying.with-at}
use Rattle.arachne_words.specs.{Calls.{ClaimAnswer, ClaimAloneAnswer, TakeAnswer}, Sizes.IsPlaceIn}
use Rattle.arachne_words.specs.{Out.{IsOutAs, AreOutAs}, Seats.{ClaimView, HoldView, claimed_by, held_by}}
use Rattle.arachne_words.proofs.Out.{without-fresh, without-with}

-- ---- what is out

module _ (c : Contexts) where
  pub same-out : (cs ds : List Carried) → ds ≡ cs → (outs : List (Out ClaimView HoldView)) → AreOutAs c cs outs → AreOutAs c ds outs
  same-out cs ds e outs has = subst (λ (l : List Carried). AreOutAs c l outs) (sym e) has

  one-more : (cs ds : List Carried) (a : Carried) (out : Out ClaimView HoldView) → IsOutAs c a out → carried_at a.context cs ≡ [] → ds ≡ with_carried a cs
      → (outs : List (Out ClaimView HoldView)) → AreOutAs c cs outs → AreOutAs c ds (out ∷ outs)
  one-more cs ds a out is fresh e outs has = same-out (with_carried a cs) ds e (out ∷ outs) (
    a,
    is,
    with-at a a.context cs refl,
    same-out cs (without a.context (with_carried a cs)) (without-with a cs ∙ without-fresh a.context cs fresh) outs has,
  )

  -- ---- after each call

  pub after-claim : (E : Type 0) (core : ℕ) (k k' : Known) (answer : Claimed ClaimView) → core < c.shape.cores → ClaimAnswer c core k answer k'
      → (outs : List (Out ClaimView HoldView)) → AreOutAs c k.carried outs → AreOutAs c k'.carried (with_claim {E = E} (Ok answer) outs)
  after-claim E core k k' (claimed.Place claim) inside a outs has =
      let placed : IsPlaceIn c.shape claim.place = (subst (λ (x : ℕ). x < c.shape.cores) (sym a.core_is) inside, a.lowest.inside) in
      one-more k.carried k'.carried (claimed_by claim a.context a.generation) (Claim claim) (a.context, a.generation, a.inside, placed, refl) a.fresh (ap (λ (s : Known). s.carried) a.steps) outs has
  after-claim E core k k' (claimed.Full word) inside a outs has = same-out k.carried k'.carried (ap (λ (s : Known). s.carried) a.2) outs has
  after-claim E core k k' (claimed.Closed word) inside a outs has = same-out k.carried k'.carried (ap (λ (s : Known). s.carried) a.1) outs has
  after-claim E core k k' (claimed.Lost word) inside a outs has = same-out k.carried k'.carried (ap (λ (s : Known). s.carried) a.2) outs has

  pub after-claim-alone : (E : Type 0) (core : ℕ) (k k' : Known) (answer : Claimed ClaimView) → core < c.shape.cores → 0 < c.shape.places_per_core → ClaimAloneAnswer c core k answer k'
      → (outs : List (Out ClaimView HoldView)) → AreOutAs c k.carried outs → AreOutAs c k'.carried (with_claim {E = E} (Ok answer) outs)
  after-claim-alone E core k k' (claimed.Place claim) inside some a outs has =
      let placed = subst (IsPlaceIn c.shape) (sym a.place_is) (inside, some) in
      one-more k.carried k'.carried (claimed_by claim a.context a.generation) (Claim claim) (a.context, a.generation, a.inside, placed, refl) a.fresh (ap (λ (s : Known). s.carried) a.steps) outs has
  after-claim-alone E core k k' (claimed.Full word) inside some a outs has = same-out k.carried k'.carried (ap (λ (s : Known). s.carried) a.2) outs has
  after-claim-alone E core k k' (claimed.Closed word) inside some a outs has = same-out k.carried k'.carried (ap (λ (s : Known). s.carried) a.1) outs has
  after-claim-alone E core k k' (claimed.Lost word) inside some a outs has = same-out k.carried k'.carried (ap (λ (s : Known). s.carried) a.1) outs has

  pub after-take : {T : Type 0} (tag_of : T → ℕ) (p : Place) (k k' : Known) (answer : Taken T HoldView) → IsPlaceIn c.shape p → TakeAnswer tag_of c p k answer k'
      → (outs : List (Out ClaimView HoldView)) → AreOutAs c k.carried outs → AreOutAs c k'.carried (with_thread tag_of answer outs)
  after-take tag_of p k k' (taken.Run thread) inside a outs has =
      let placed = subst (IsPlaceIn c.shape) (sym a.place_is) inside in
      one-more k.carried k'.carried (held_by thread.hold (tag_of thread.value)) (Thread thread.hold (tag_of thread.value)) (a.inside, placed, refl) a.fresh (ap (λ (s : Known). s.carried) a.steps) outs has
  after-take tag_of p k k' (taken.NotReady word) inside a outs has = same-out k.carried k'.carried (ap (λ (s : Known). s.carried) a.2) outs has
  after-take tag_of p k k' (taken.Lost word) inside a outs has = same-out k.carried k'.carried (ap (λ (s : Known). s.carried) a.3) outs has
