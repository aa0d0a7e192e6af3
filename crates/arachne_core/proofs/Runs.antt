-- Facts that are true in every run of the World.
use Rattle.std.proofs.Common.{◌≡◌, ◌≢◌, ℕ, ◌+◌, ◌*◌, ◌/◌, ◌%◌, ◌<◌, Bool, true, false, ltb, inl, inr, List, [], ◌∷◌, sym, ap, ◌∙◌, subst, arith}
use Rattle.std.proofs.lemmas.Bool.{eqb-true, ltb-true, and_parts, and_left, and_right, cases_Bool, cases_eq, true≢false, false≢true, cond-false}
use Rattle.std.proofs.lemmas.Nat.{div_below, mod_below, div-add-mod', div-mul-add, mod-mul-add, mul-add-lt}
use Rattle.std.proofs.Math.Nat.{mul_comm}
use Rattle.arachne_core.proofs.Changes.{with_at-same, with_at-other, with_place-same, with_place-other, cases_place, same_id}
use Rattle.arachne_core.{proofs.KeepsOwnedOnce.keeps_owned_once, specs.OwnedOnce.{OwnedOnce, has_thread, is_live}}
use Rattle.arachne_core.specs.{Place.{first_place, number_of}, declared.{event.Event.Event, place.Place.Place}}
use Rattle.arachne_core.specs.Run.{IsOpening, IsRun, after_all, IsLive, SharesNothing, IsDrained, NeverOpens, LetsGo, NeverLetsGo}
use Rattle.arachne_core.specs.World.{World, Thread, with_at, with_place, IsContext, IsPlace, IsEmptyCore, IsReady, IsHeldBy, woken, Allowed, after}
use Rattle.arachne_core.specs.declared.state.State.{State, TheVariants.{Free, Claimed, Ready, Blocked, Held}}
use Rattle.arachne_core.specs.declared.event.Event.TheVariants as event

-- ---- the opening World

pub first_in : (cores slots x : ℕ) → x < cores * slots → (x / slots < cores) × (x % slots < slots)
first_in cores slots x h =
    let some : 0 < slots = elim (cases_eq slots 0) [
      | inl e ↦ absurd (omega (arith, subst (λ (k : ℕ). x < cores * k) e h))
      | inr n ↦ omega arith
    ] in
    (div_below x slots cores some h, mod_below x slots some)

first_apart : (slots x y : ℕ) → first_place slots x ≡ first_place slots y → x ≡ y
first_apart slots x y e =
    sym (div-add-mod' x slots) ∙ ap (λ (p : Place). p.core * slots + p.index) e ∙ div-add-mod' y slots

pub first_of_number : (slots : ℕ) (p : Place) → p.index < slots → first_place slots (number_of slots p) ≡ p
first_of_number slots p h =
    let a = div-mul-add p.core slots p.index h in
    let b = mod-mul-add p.core slots p.index h in
    λ i. record { core = a i; index = b i }

no_thread : (s : State) (tag : ℕ) → s ≡ Free → has_thread s tag ≡ false
no_thread s tag e = ap (λ (z : State). has_thread z tag) e

not_live_at_first : (w : World) (first : ℕ) (t : Thread) → IsOpening w first → is_live w t ≡ false
not_live_at_first w first t h = elim (cases_Bool (ltb t.0.context (w.cores * w.slots))) [
  | inl e ↦ and_right _ _ (no_thread (w.state t.0.context) t.1 (h.state t.0.context (ltb-true _ _ e)))
  | inr e ↦ and_left _ _ (and_left _ _ e)
]

pub opening_owned_once : (w : World) (first : ℕ) → IsOpening w first → OwnedOnce w
opening_owned_once w first h = record {
  placed = λ x x_in. subst (λ (p : Place). IsPlace w p) (sym (h.at x x_in)) (first_in w.cores w.slots x x_in);
  apart = λ x y x_in y_in e. first_apart w.slots x y (sym (h.at x x_in) ∙ e ∙ h.at y y_in);
  filled = λ p p_in.
      let x : ℕ = number_of w.slots p in
      let x_in : IsContext w x = subst (λ (k : ℕ). x < k) (mul_comm w.slots w.cores) (mul-add-lt p.core w.slots p.index w.cores p_in.0 p_in.1) in
      (x, x_in, h.at x x_in ∙ first_of_number w.slots p p_in.1);
  occupied = λ x x_in. (
    λ b. absurd (false≢true (sym (h.occupied (w.at x) (subst (λ (p : Place). IsPlace w p) (sym (h.at x x_in)) (first_in w.cores w.slots x x_in))) ∙ b)),
    λ n. absurd (n (h.state x x_in)),
  );
  bounded = λ x x_in. omega (arith, h.generation x x_in, h.within);
  once = λ t. omega (arith, h.given t);
  one_tag = λ s t e a b. absurd (omega (arith, a, h.given s));
  generations = λ t a. absurd (omega (arith, a, h.given t));
  live = λ t. h.given t ∙ sym (h.ended t) ∙ sym (cond-false (is_live w t) (w.ended t + 1) (w.ended t) (not_live_at_first w first t h));
  alone = λ c c_in b. absurd (false≢true (sym (h.alone c c_in) ∙ b));
}

-- ---- runs keep the World owned once

pub run_keeps_owned_once : (w : World) (es : List Event) → OwnedOnce w → IsRun w es → OwnedOnce (after_all w es)
run_keeps_owned_once w [] o r = o
run_keeps_owned_once w (e ∷ es) o r = run_keeps_owned_once (after w e) es (keeps_owned_once w e o r.0) r.1

-- ---- live threads share nothing

is_live_of : (w : World) (t : Thread) → OwnedOnce w → IsLive w t → is_live w t ≡ true
is_live_of w t o l = elim (cases_Bool (is_live w t)) [
  | inl e ↦ e
  | inr e ↦ absurd (omega (arith, l, o.live t ∙ cond-false (is_live w t) (w.ended t + 1) (w.ended t) e))
]

live_context : (w : World) (t : Thread) → OwnedOnce w → IsLive w t → IsContext w t.0.context
live_context w t o l = ltb-true _ _ (and_parts _ _ (and_parts _ _ (is_live_of w t o l)).0).0

live_generation : (w : World) (t : Thread) → OwnedOnce w → IsLive w t → w.generation t.0.context ≡ t.0.generation
live_generation w t o l = eqb-true _ _ (and_parts _ _ (and_parts _ _ (is_live_of w t o l)).0).1

one_in_context : (w : World) (s t : Thread) → OwnedOnce w → IsLive w s → IsLive w t → s.0.context ≡ t.0.context → s ≡ t
one_in_context w s t o a b e =
    o.one_tag s t (same_id s.0 t.0 e (sym (live_generation w s o a) ∙ ap w.generation e ∙ live_generation w t o b)) (omega (arith, a)) (omega (arith, b))

one_holder : (h k a b : ℕ) (v w : Bool) → Held h v a ≡ Held k w b → h ≡ k
one_holder h k a b v w e = cc

pub shares_nothing : (w : World) → OwnedOnce w → SharesNothing w
shares_nothing w o = record {
  contexts = λ s t a b e. one_in_context w s t o a b e;
  places = λ s t a b e. one_in_context w s t o a b (o.apart _ _ (live_context w s o a) (live_context w t o b) e);
  holds = λ h k s t a b e. (
    one_in_context w s t o a.0 b.0 e,
    one_holder h k s.1 t.1 a.1.0 b.1.0 (sym a.1.1 ∙ ap w.state e ∙ b.1.1),
  );
}

-- ---- a drained core stays so until it is opened

empty_without : (w : World) (p : Place) (c : ℕ) → IsEmptyCore w c → IsEmptyCore (record w { occupied = with_place w.occupied p false }) c
empty_without w p c h i i_in = elim (cases_place (record { core = c; index = i }) p) [
  | inl e ↦ ap (with_place w.occupied p false) e ∙ with_place-same w.occupied p false
  | inr n ↦ with_place-other w.occupied p false (record { core = c; index = i }) n ∙ h i i_in
]

empty_with : (w : World) (p : Place) (c : ℕ) → (c ≡ p.core → ⊥) → IsEmptyCore w c → IsEmptyCore (record w { occupied = with_place w.occupied p true }) c
empty_with w p c n h i i_in = with_place-other w.occupied p true (record { core = c; index = i }) (λ e. n (ap (λ (q : Place). q.core) e)) ∙ h i i_in

stays : (w : World) (e : Event) (c : ℕ) → IsDrained w c → Allowed w e → e ≢ event.OpenCore c → IsDrained (after w e) c
stays w (event.Claim h x) c d a n = (d.0, d.1, empty_with w (w.at x) c (λ e. true≢false (sym d.1 ∙ ap w.closed e ∙ a.core.not_closed)) d.2)
stays w (event.Alone h x) c d a n = (d.0, d.1, empty_with w (w.at x) c (λ e. true≢false (sym d.1 ∙ ap w.closed e ∙ a.core.not_closed)) d.2)
stays w (event.Release h x) c d a n = (d.0, d.1, empty_without w (w.at x) c d.2)
stays w (event.CloseCore k) c d a n = (
  d.0,
  elim (cases_eq c k) [ inl e ↦ ap (with_at w.closed k true) e ∙ with_at-same w.closed k true | inr m ↦ with_at-other w.closed k true c m ∙ d.1 ],
  d.2,
)
stays w (event.OpenCore k) c d a n = (d.0, with_at-other w.closed k false c (λ e. n (ap event.OpenCore (sym e))) ∙ d.1, d.2)
stays w _ c d a n = d

pub stays_drained : (w : World) (es : List Event) (c : ℕ) → IsDrained w c → IsRun w es → NeverOpens c es → IsDrained (after_all w es) c
stays_drained w [] c d r n = d
stays_drained w (e ∷ es) c d r n = stays_drained (after w e) es c (stays w e c d r.0 n.0) r.1 n.1

-- ---- a held thread stays with its carrier until that lets go of it

held_not_free : (h : ℕ) (s : State) → IsHeldBy h s → s ≡ Free → ⊥
held_not_free h s d e = subst (IsHeldBy h) e d

held_not_claimed : (h k : ℕ) (s : State) → IsHeldBy h s → s ≡ Claimed k → ⊥
held_not_claimed h k s d e = subst (IsHeldBy h) e d

held_not_ready : (h : ℕ) (s : State) → IsHeldBy h s → IsReady s → ⊥
held_not_ready h (Ready t) d r = d
held_not_ready h _ d r = r

one_carrier : (h k : ℕ) (s : State) → IsHeldBy h s → IsHeldBy k s → k ≡ h
one_carrier h k (Held l v t) d e = sym e ∙ d
one_carrier h k _ d e = absurd d

held_woken : (h : ℕ) (s : State) → IsHeldBy h s → IsHeldBy h (woken s)
held_woken h (Blocked t) d = absurd d
held_woken h _ d = d

-- another context's state changes
other : (h : ℕ) (f : ℕ → State) (x y : ℕ) (s : State) → IsHeldBy h (f x) → (x ≡ y → ⊥) → IsHeldBy h (with_at f y s x)
other h f x y s d n = subst (IsHeldBy h) (sym (with_at-other f y s x n)) d

held_after : (w : World) (e : Event) (h x : ℕ) → IsHeldBy h (w.state x) → Allowed w e → (LetsGo h x e → ⊥) → IsHeldBy h ((after w e).state x)
held_after w (event.Claim k y) h x d a n = other h w.state x y _ d (λ e. held_not_free h (w.state x) d (ap w.state e ∙ a.free))
held_after w (event.Alone k y) h x d a n = other h w.state x y _ d (λ e. held_not_free h (w.state x) d (ap w.state e ∙ a.free))
held_after w (event.Post k y tag) h x d a n = other h w.state x y _ d (λ e. held_not_claimed h k (w.state x) d (ap w.state e ∙ a.claimed))
held_after w (event.Take k y) h x d a n = other h w.state x y _ d (λ e. held_not_ready h (w.state x) d (subst (λ (z : ℕ). IsReady (w.state z)) (sym e) a.ready))
held_after w (event.Rest k y r) h x d a n =
    other h w.state x y _ d (λ e. n (one_carrier h k (w.state x) d (subst (λ (z : ℕ). IsHeldBy k (w.state z)) (sym e) a.held), sym e))
held_after w (event.Wake id) h x d a n = elim (cases_eq x id.context) [
  | inl e ↦ subst (IsHeldBy h) (sym (ap (with_at w.state id.context (woken (w.state id.context))) e ∙ with_at-same w.state id.context (woken (w.state id.context))))
      (subst (λ (z : ℕ). IsHeldBy h (woken (w.state z))) e (held_woken h (w.state x) d))
  | inr m ↦ other h w.state x id.context _ d m
]
held_after w (event.Retire k y) h x d a n =
    other h w.state x y _ d (λ e. n (one_carrier h k (w.state x) d (subst (λ (z : ℕ). IsHeldBy k (w.state z)) (sym e) a.held), sym e))
held_after w (event.Release k y) h x d a n = other h w.state x y _ d (λ e. held_not_claimed h k (w.state x) d (ap w.state e ∙ a.claimed))
held_after w _ h x d a n = d

pub stays_held : (w : World) (es : List Event) (h x : ℕ) → IsHeldBy h (w.state x) → IsRun w es → NeverLetsGo h x es → IsHeldBy h ((after_all w es).state x)
stays_held w [] h x d r n = d
stays_held w (e ∷ es) h x d r n = stays_held (after w e) es h x (held_after w e h x d r.0 n.0) r.1 n.1
