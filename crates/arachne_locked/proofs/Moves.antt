-- A move: the target is claimed, the two contexts swap places, and the place that was left is freed.
use Rattle.std.proofs.{Common.{◌≡◌, ℕ, inl, inr, [], ◌∷◌, sym, ap, ◌∙◌, subst, Ok, arith}, lemmas.Bool.cases_eq}
use Rattle.arachne_core.specs.declared.state.State.TheVariants.{Free, Claimed}
use Rattle.arachne_core.specs.{World.{World, IsAtRest, Allowed, after}, ContextTable.{ContextTable, Answers, world_of}}
use Rattle.arachne_core.proofs.Changes.{with_at-same, with_at-other}
use Rattle.arachne_core.specs.declared.event.Event.TheVariants as event
use Rattle.arachne_locked.specs.{Room.HasRoom, Calls.{Takes, CanMove}}
use Rattle.arachne_locked.proofs.Room.{kept_room}

module _ (w : World) (h x y : ℕ) (can : CanMove w x y) where
  abbrev claimed : World
  claimed = after w (event.Claim h y)

  abbrev moved : World
  moved = after claimed (event.Move h x y)

  apart : x ≡ y → ⊥
  apart e = subst IsAtRest (ap w.state e ∙ can.target.free) can.at_rest

  pub may_move : Allowed claimed (event.Move h x y)
  may_move = assumption (subst IsAtRest (sym (with_at-other w.state y (Claimed h) x apart)) can.at_rest, with_at-same w.state y (Claimed h))

  pub may_release : Allowed moved (event.Release h y)
  may_release = record { context = can.target.context; claimed = with_at-same w.state y (Claimed h) }

  pub states_kept : (z : ℕ) → (after moved (event.Release h y)).state z ≡ w.state z
  states_kept z = elim (cases_eq z y) [
    | inl e ↦ ap (after moved (event.Release h y)).state e ∙ with_at-same moved.state y Free ∙ sym (ap w.state e ∙ can.target.free)
    | inr n ↦ with_at-other moved.state y Free z n ∙ with_at-other w.state y (Claimed h) z n
  ]

-- the same facts, as tables have them
module _ (old one two new : ContextTable) (h x y : ℕ) (can : CanMove (world_of old) x y) where
  pub allows_move : Answers (event.Claim h y) old one (Ok tt) → Allowed (world_of one) (event.Move h x y)
  allows_move a = subst (λ (z : World). Allowed z (event.Move h x y)) (sym a.1) (may_move (world_of old) h x y can)

  pub allows_release : Answers (event.Claim h y) old one (Ok tt) → Answers (event.Move h x y) one two (Ok tt) → Allowed (world_of two) (event.Release h y)
  allows_release a b =
      subst (λ (z : World). Allowed z (event.Release h y)) (sym (b.1 ∙ ap (λ (z : World). after z (event.Move h x y)) a.1)) (may_release (world_of old) h x y can)

  module _ (a : Answers (event.Claim h y) old one (Ok tt)) (b : Answers (event.Move h x y) one two (Ok tt)) (c : Answers (event.Release h y) two new (Ok tt)) where
    whole : world_of new ≡ after (after (after (world_of old) (event.Claim h y)) (event.Move h x y)) (event.Release h y)
    whole =
        c.1 ∙ ap (λ (z : World). after z (event.Release h y)) b.1
        ∙ ap (λ (z : World). after (after z (event.Move h x y)) (event.Release h y)) a.1

    pub move_takes : Takes (world_of old) (event.Claim h y ∷ event.Move h x y ∷ event.Release h y ∷ []) (world_of new)
    move_takes = record { allowed = (can.target, (may_move (world_of old) h x y can, (may_release (world_of old) h x y can, tt))); made = whole }

    pub move_room : HasRoom old → HasRoom new
    move_room room =
        let p = a.2 in let q = b.2 in let r = c.2 in
        let s = a.3 in let t = b.3 in let u = c.3 in
        kept_room old new room (ap (λ (z : World). z.cores) whole) (ap (λ (z : World). z.slots) whole)
        (λ z. ap (λ (v : World). v.state z) whole ∙ states_kept (world_of old) h x y can z) (omega (arith, p, q, r)) (omega (arith, s, t, u))
