-- A thread that has ended is gone for good.
use Rattle.std.proofs.Common.{◌≡◌, ℕ, ◌+◌, ◌<◌, true, false, ◌⊎◌, inl, inr, refl, sym, ap, ◌∙◌, arith}
use Rattle.std.proofs.lemmas.Bool.{cases_Bool, cond-true, cond-false, and_from, eq-eqb, lt-ltb, true≢false}
use Rattle.arachne_core.specs.declared.state.State.{State, TheVariants.{Free, Claimed, Ready, Blocked, Held, Spent}}
use Rattle.arachne_core.specs.{World.{World, Thread}, OwnedOnce.{OwnedOnce, is_live, has_thread, HasGivenId}}

-- given once, ended, and so not live
pub not-live : (w : World) (t : Thread) → OwnedOnce w → 0 < w.ended t → (0 < w.given t) × (is_live w t ≡ false)
not-live w t o e = elim (cases_Bool (is_live w t)) [
  | inl l ↦ absurd (omega (arith, o.once t, o.live t, cond-true (is_live w t) (w.ended t + 1) (w.ended t) l, e))
  | inr l ↦ (omega (arith, o.live t, cond-false (is_live w t) (w.ended t + 1) (w.ended t) l, e), l)
]

-- a state that has given its id, and is live with no tag that was given, is spent
spent-if : (s : State) → HasGivenId s → ((tag : ℕ) → has_thread s tag ≡ true → ⊥) → s ≡ Spent
spent-if Free g n = absurd g
spent-if (Claimed h) g n = absurd g
spent-if (Ready t) g n = absurd (n t (eq-eqb t t refl))
spent-if (Blocked t) g n = absurd (n t (eq-eqb t t refl))
spent-if (Held h w t) g n = absurd (n t (eq-eqb t t refl))
spent-if Spent g n = refl

pub ended-is-gone : (w : World) (t : Thread) → OwnedOnce w → 0 < w.ended t → (t.0.generation < w.generation t.0.context) ⊎ (w.state t.0.context ≡ Spent)
ended-is-gone w t o e =
    let p = not-live w t o e in
    let q = o.generations t p.0 in
    elim q.1 [
      | inl l ↦ inl l
      | inr r ↦ inr (spent-if (w.state t.0.context) r.1 (λ tag has.
          let u : Thread = (t.0, tag) in
          let live : is_live w u ≡ true = and_from _ _ (and_from _ _ (lt-ltb _ _ q.0) (eq-eqb _ _ (sym r.0))) has in
          let given : 0 < w.given u = omega (arith, o.live u, cond-true (is_live w u) (w.ended u + 1) (w.ended u) live) in
          let same : u ≡ t = o.one_tag u t refl given p.0 in
          true≢false (sym live ∙ ap (is_live w) same ∙ p.1)))
    ]
