-- Each event keeps the values at home.
use Rattle.std.proofs.Common.{◌≡◌, ℕ, ◌<◌, ◌*◌, inl, inr, Bool, true, false, List, length, get_or, set, Option, None, Some, refl, sym, ap, ◌∙◌, subst, replicate, nat_lt, if◌then◌else◌, OnErr, Result, Ok, Err}
use Rattle.std.proofs.lemmas.Bool.{cases_eq}
use Rattle.std.proofs.lemmas.List.{length-set, get_or-set_same, get_or-set_other, length-replicate, get_or-replicate}
use Rattle.arachne_core.specs.declared.state.State.{State, TheVariants.{Free, Claimed, Ready, Blocked, Held, Spent}}
use Rattle.arachne_core.specs.declared.{state.Rest.Rest, event.Event.Event}
use Rattle.arachne_core.specs.World.{World, IsContext, IsReady, IsHeldBy, CanBeWoken, Allowed, after, with_at, taken, put_back, woken, tag_of}
use Rattle.arachne_core.specs.{declared.event.NotApplied.NotApplied, ContextTable.{ContextTable, Answers, world_of}}
use Rattle.arachne_core.{specs.Run.IsOpening, proofs.Changes.{with_at-same, with_at-other}}
use Rattle.arachne_core.specs.declared.state.Rest.TheVariants as rest
use Rattle.arachne_core.specs.declared.event.Event.TheVariants as event
use Rattle.arachne_core.specs.declared.event.NotApplied.TheVariants as refusal
use Rattle.arachne_locked.specs.AtHome.{IsHome, IsKeptAt, LeavesValues, WantsNoRoom}

module _ {T : Type 0} (tag : T → ℕ) where
  -- the state of one context and its value were changed
  pub home_set : (w u : World) (vs : List (Option T)) (x : ℕ) (s : State) (v : Option T) → IsHome tag w vs → u.cores ≡ w.cores → u.slots ≡ w.slots
      → ((y : ℕ) → u.state y ≡ with_at w.state x s y) → x < length vs → IsKeptAt tag s v → IsHome tag u (set vs x v)
  home_set w u vs x s v home cores slots states within kept =
      let sizes : w.cores * w.slots ≡ u.cores * u.slots = (λ i. sym cores i * sym slots i) in
      record {
        contexts = length-set vs x v ∙ home.contexts ∙ sizes;
        kept = λ y h. elim (cases_eq y x) [
          | inl q ↦
              subst (λ z. IsKeptAt tag (u.state z) (get_or (set vs x v) z None)) (sym q)
              (subst (λ a. IsKeptAt tag a (get_or (set vs x v) x None)) (sym (states x ∙ with_at-same w.state x s))
              (subst (IsKeptAt tag s) (sym (get_or-set_same vs x v None within)) kept))
          | inr n ↦
              subst (λ a. IsKeptAt tag a (get_or (set vs x v) y None)) (sym (states y ∙ with_at-other w.state x s y n))
              (subst (IsKeptAt tag (w.state y)) (sym (get_or-set_other vs x y v None n)) (home.kept y (subst (λ n. y < n) (sym sizes) h)))
        ];
      }

  -- the state of one context was changed, and its value at home still fits
  pub home_kept : (w u : World) (vs : List (Option T)) (x : ℕ) (s : State) → IsHome tag w vs → u.cores ≡ w.cores → u.slots ≡ w.slots
      → ((y : ℕ) → u.state y ≡ with_at w.state x s y) → IsKeptAt tag s (get_or vs x None) → IsHome tag u vs
  home_kept w u vs x s home cores slots states kept =
      let sizes : w.cores * w.slots ≡ u.cores * u.slots = (λ i. sym cores i * sym slots i) in
      record {
        contexts = home.contexts ∙ sizes;
        kept = λ y h. elim (cases_eq y x) [
          | inl q ↦
              subst (λ z. IsKeptAt tag (u.state z) (get_or vs z None)) (sym q)
              (subst (λ a. IsKeptAt tag a (get_or vs x None)) (sym (states x ∙ with_at-same w.state x s)) kept)
          | inr n ↦
              subst (λ a. IsKeptAt tag a (get_or vs y None)) (sym (states y ∙ with_at-other w.state x s y n))
              (home.kept y (subst (λ n. y < n) (sym sizes) h))
        ];
      }

  pub within : (w : World) (vs : List (Option T)) (x : ℕ) → IsHome tag w vs → IsContext w x → x < length vs
  within w vs x home h = subst (λ n. x < n) (sym home.contexts) h

  -- at first nothing is at home
  pub new_home : (w : World) (first n : ℕ) (vs : List (Option T)) → IsOpening w first → vs ≡ replicate n None → n ≡ w.cores * w.slots → IsHome tag w vs
  new_home w first n vs opening is size = record {
    contexts = ap length is ∙ length-replicate n None ∙ size;
    kept = λ x h. subst (λ s. IsKeptAt tag s (get_or vs x None)) (sym (opening.state x h)) (ap (λ xs. get_or xs x None) is ∙ get_or-replicate n x None None (subst (λ m. x < m) (sym size) h));
  }

  held_none : (h : ℕ) (s : State) (o : Option T) → IsHeldBy h s → IsKeptAt tag s o → o ≡ None
  held_none h (Held k w t) o i e = e
  held_none h _ o i e = absurd i

  retired_kept : (h : ℕ) (b : Bool) (o : Option T) → o ≡ None → IsKeptAt tag (if b then Claimed h else Spent) o
  retired_kept h true o e = e
  retired_kept h false o e = e

  woken_kept : (s : State) (o : Option T) → CanBeWoken s → IsKeptAt tag s o → IsKeptAt tag (woken s) o
  woken_kept (Blocked t) o c k = k
  woken_kept (Held h false t) o c k = k
  woken_kept _ o c k = absurd c

  -- an event that leaves the values as they are
  event_home : (w : World) (e : Event) (vs : List (Option T)) → LeavesValues e → IsHome tag w vs → Allowed w e → IsHome tag (after w e) vs
  event_home w (event.Claim h x) vs l home a =
      home_kept w (after w (event.Claim h x)) vs x (Claimed h) home refl refl (λ y. refl) (subst (λ s. IsKeptAt tag s (get_or vs x None)) a.free (home.kept x a.context))
  event_home w (event.Alone h x) vs l home a =
      home_kept w (after w (event.Alone h x)) vs x (Claimed h) home refl refl (λ y. refl) (subst (λ s. IsKeptAt tag s (get_or vs x None)) a.free (home.kept x a.context))
  event_home w (event.Wake id) vs l home a =
      home_kept w (after w (event.Wake id)) vs id.context (woken (w.state id.context)) home refl refl (λ y. refl)
      (woken_kept (w.state id.context) (get_or vs id.context None) a.waits (home.kept id.context a.context))
  event_home w (event.Retire h x) vs l home a =
      home_kept w (after w (event.Retire h x)) vs x (if nat_lt (w.generation x) w.last then Claimed h else Spent) home refl refl (λ y. refl)
      (retired_kept h (nat_lt (w.generation x) w.last) (get_or vs x None) (held_none h (w.state x) (get_or vs x None) a.held (home.kept x a.context)))
  event_home w (event.Release h x) vs l home a =
      home_kept w (after w (event.Release h x)) vs x Free home refl refl (λ y. refl) (subst (λ s. IsKeptAt tag s (get_or vs x None)) a.claimed (home.kept x a.context))
  event_home w event.Still vs l home a = home
  event_home w (event.Post h x t) vs l home a = absurd l
  event_home w (event.Take h x) vs l home a = absurd l
  event_home w (event.Rest h x r) vs l home a = absurd l
  event_home w _ vs l home a = record { contexts = home.contexts; kept = home.kept }

  pub made_home : (w u : World) (e : Event) (vs : List (Option T)) → LeavesValues e → IsHome tag w vs → Allowed w e → u ≡ after w e → IsHome tag u vs
  made_home w u e vs l home a is = subst (λ z. IsHome tag z vs) (sym is) (event_home w e vs l home a)

  -- every result keeps the values at home
  pub answered_home : (e : Event) (old new : ContextTable) (r : Result (Unit {0}) NotApplied) (vs : List (Option T)) → LeavesValues e → IsHome tag (world_of old) vs
      → Answers e old new r → OnErr r (new ≡ old) → IsHome tag (world_of new) vs
  answered_home e old new (Ok tt) vs l home a same = made_home (world_of old) (world_of new) e vs l home a.0 a.1
  answered_home e old new (Err refusal) vs l home a same = subst (λ (k : ContextTable). IsHome tag (world_of k) vs) (sym same) home

  -- a thread is posted, and its value is at home
  pub post_home : (w u : World) (vs : List (Option T)) (h x t : ℕ) (v : T) → IsHome tag w vs → Allowed w (event.Post h x t) → u ≡ after w (event.Post h x t)
      → tag v ≡ t → IsHome tag u (set vs x (Some v))
  post_home w u vs h x t v home a e tagged =
      home_set w u vs x (Ready t) (Some v) home (ap (λ (z : World). z.cores) e) (ap (λ (z : World). z.slots) e) (λ y. ap (λ (z : World). z.state y) e) (within w vs x home a.context) tagged

  taken_kept : (h : ℕ) (s : State) → IsReady s → IsKeptAt tag (taken h s) None
  taken_kept h (Ready t) r = refl
  taken_kept h _ r = absurd r

  -- a thread is taken, and its value is no longer at home
  pub take_home : (w u : World) (vs : List (Option T)) (h x : ℕ) → IsHome tag w vs → Allowed w (event.Take h x) → u ≡ after w (event.Take h x) → IsHome tag u (set vs x None)
  take_home w u vs h x home a e =
      home_set w u vs x (taken h (w.state x)) None home (ap (λ (z : World). z.cores) e) (ap (λ (z : World). z.slots) e) (λ y. ap (λ (z : World). z.state y) e) (within w vs x home a.context)
      (taken_kept h (w.state x) a.ready)

  rest_kept : (h : ℕ) (r : Rest) (s : State) (v : T) → IsHeldBy h s → tag_of s ≡ tag v → IsKeptAt tag (put_back r s) (Some v)
  rest_kept h rest.Blocked (Held k false t) v i e = sym e
  rest_kept h rest.Blocked (Held k true t) v i e = sym e
  rest_kept h rest.Ready (Held k w t) v i e = sym e
  rest_kept h r _ v i e = absurd i

  -- a thread is put back, and its value is at home
  pub rest_home : (w u : World) (vs : List (Option T)) (h x : ℕ) (r : Rest) (v : T) → IsHome tag w vs → Allowed w (event.Rest h x r) → tag_of (w.state x) ≡ tag v
      → u ≡ after w (event.Rest h x r) → IsHome tag u (set vs x (Some v))
  rest_home w u vs h x r v home a t e =
      home_set w u vs x (put_back r (w.state x)) (Some v) home (ap (λ (z : World). z.cores) e) (ap (λ (z : World). z.slots) e) (λ y. ap (λ (z : World). z.state y) e) (within w vs x home a.context)
      (rest_kept h r (w.state x) v a.held t)

-- an event that is allowed and needs no memory is applied
pub plain_made : (e : Event) (old new : ContextTable) (r : NotApplied) → WantsNoRoom e → Allowed (world_of old) e → Answers e old new (Err r) → ⊥
plain_made e old new refusal.NotAllowed l h a = a.0 h
plain_made (event.Claim h x) old new refusal.Memory l k a = a.1
plain_made (event.Alone h x) old new refusal.Memory l k a = a.1
plain_made (event.Post h x tag) old new refusal.Memory l k a = absurd l
plain_made (event.Take h x) old new refusal.Memory l k a = a.1
plain_made (event.Rest h x r) old new refusal.Memory l k a = a.1
plain_made (event.Wake id) old new refusal.Memory l k a = a.1
plain_made (event.Retire h x) old new refusal.Memory l k a = absurd l
plain_made (event.Release h x) old new refusal.Memory l k a = a.1
plain_made (event.CloseCore c) old new refusal.Memory l k a = a.1
plain_made (event.OpenCore c) old new refusal.Memory l k a = a.1
plain_made (event.Move h x y) old new refusal.Memory l k a = a.1
plain_made event.Still old new refusal.Memory l k a = a.1
