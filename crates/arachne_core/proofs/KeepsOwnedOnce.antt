-- Each event keeps the World owned once.
use Rattle.std.proofs.Common.{◌≡◌, ◌≢◌, ℕ, ◌+◌, ◌*◌, ◌<◌, ◌≤◌, ◌↔◌, Bool, true, false, cond, eqb, ltb, ◌&&◌, ◌⊎◌, inl, inr, refl, sym, ap, ◌∙◌, subst, arith, IsTrue}
use Rattle.std.proofs.lemmas.Bool.{eqb-true, eq-eqb, and_parts, and_from, and_right, cases_Bool, cases_eq, cases_lt, lt-ltb, ltb-true, true≢false, false_from_ne_true, cond-true, cond-false}
use Rattle.arachne_core.specs.declared.{place.Place.Place, thread_id.ThreadId.ThreadId, state.State.State}
use Rattle.arachne_core.specs.declared.state.State.TheVariants.{Free, Claimed, Ready, Blocked, Held, Spent}
use Rattle.arachne_core.specs.declared.{event.Event.Event, state.Rest.Rest}
use Rattle.arachne_core.specs.declared.event.Event.TheVariants as event
use Rattle.arachne_core.specs.declared.state.Rest.TheVariants as rest
use Rattle.arachne_core.specs.World.{World, Thread, with_at, with_place, with_thread, id_of, IsContext, IsPlace, IsReady, IsAtRest, IsHeldBy, CanBeWoken, taken, put_back, woken, tag_of, Allowed, after}
use Rattle.arachne_core.specs.OwnedOnce.{OwnedOnce, has_thread, is_live, HasGivenId, HasOneOccupied}
use Rattle.arachne_core.proofs.Changes.{with_at-same, with_at-other, with_place-same, with_place-other, with_thread-same, with_thread-other, cases_place, cases_thread, same_id}

-- the parts of a World that an event at one context may change
record Change : Type 0 where
  state : ℕ → State
  generation : ℕ → ℕ
  occupied : Place → Bool
  alone : ℕ → Bool
  given : Thread → ℕ
  ended : Thread → ℕ

abbrev changed : World → Change → World
changed w c = record w { state = c.state; generation = c.generation; occupied = c.occupied; alone = c.alone; given = c.given; ended = c.ended }

-- The event changes only context x, and what is owned once there is so afterwards.
record ChangesOne (w : World) (x : ℕ) (c : Change) : Type 0 where
  state : (y : ℕ) → (y ≡ x → ⊥) → c.state y ≡ w.state y
  generation : (y : ℕ) → (y ≡ x → ⊥) → c.generation y ≡ w.generation y
  occupied : (p : Place) → (p ≡ w.at x → ⊥) → c.occupied p ≡ w.occupied p
  given : (t : Thread) → (t.0.context ≡ x → ⊥) → c.given t ≡ w.given t
  ended : (t : Thread) → (t.0.context ≡ x → ⊥) → c.ended t ≡ w.ended t
  occupied_here : IsTrue (c.occupied (w.at x)) ↔ (c.state x ≢ Free)
  bounded_here : c.generation x ≤ w.last
  once_here : (t : Thread) → t.0.context ≡ x → c.given t ≤ 1
  one_tag_here : (s t : Thread) → s.0 ≡ t.0 → t.0.context ≡ x → 0 < c.given s → 0 < c.given t → s ≡ t
  generations_here : (t : Thread) → t.0.context ≡ x → 0 < c.given t
      → (t.0.generation < c.generation x) ⊎ ((t.0.generation ≡ c.generation x) × HasGivenId (c.state x))
  live_here : (t : Thread) → t.0.context ≡ x → c.given t ≡ cond (is_live (changed w c) t) (c.ended t + 1) (c.ended t)
  alone_here : (k : ℕ) → k < w.cores → IsTrue (c.alone k) → HasOneOccupied (changed w c) k

is_live_elsewhere : (w : World) (x : ℕ) (c : Change) (t : Thread) → ChangesOne w x c → (t.0.context ≡ x → ⊥) → is_live (changed w c) t ≡ is_live w t
is_live_elsewhere w x c t h n =
    ap (λ g. (ltb t.0.context (w.cores * w.slots) && eqb g t.0.generation) && has_thread (c.state t.0.context) t.1) (h.generation t.0.context n)
    ∙ ap (λ s. (ltb t.0.context (w.cores * w.slots) && eqb (w.generation t.0.context) t.0.generation) && has_thread s t.1) (h.state t.0.context n)

owned : (w : World) (x : ℕ) (c : Change) → OwnedOnce w → IsContext w x → ChangesOne w x c → OwnedOnce (changed w c)
owned w x c o x_in h = record {
  placed = o.placed;
  apart = o.apart;
  filled = o.filled;
  occupied = λ y y_in. elim (cases_eq y x) [
    | inl e ↦ subst (λ z. IsTrue (c.occupied (w.at z)) ↔ (c.state z ≢ Free)) (sym e) h.occupied_here
    | inr n ↦
        subst (λ b. IsTrue b ↔ (c.state y ≢ Free)) (sym (h.occupied (w.at y) (λ e. n (o.apart y x y_in x_in e))))
        (subst (λ s. IsTrue (w.occupied (w.at y)) ↔ (s ≢ Free)) (sym (h.state y n)) (o.occupied y y_in))
  ];
  bounded = λ y y_in. elim (cases_eq y x) [
    | inl e ↦ subst (λ z. c.generation z ≤ w.last) (sym e) h.bounded_here
    | inr n ↦ subst (λ g. g ≤ w.last) (sym (h.generation y n)) (o.bounded y y_in)
  ];
  once = λ t. elim (cases_eq t.0.context x) [
    | inl e ↦ h.once_here t e
    | inr n ↦ subst (λ k. k ≤ 1) (sym (h.given t n)) (o.once t)
  ];
  one_tag = λ s t e a b. elim (cases_eq t.0.context x) [
    | inl f ↦ h.one_tag_here s t e f a b
    | inr n ↦ o.one_tag s t e (subst (λ k. 0 < k) (h.given s (λ f. n (sym (ap (λ i. i.context) e) ∙ f))) a) (subst (λ k. 0 < k) (h.given t n) b)
  ];
  generations = λ t a. elim (cases_eq t.0.context x) [
    | inl e ↦ (
      subst (λ y. IsContext w y) (sym e) x_in,
      subst (λ y. (t.0.generation < c.generation y) ⊎ ((t.0.generation ≡ c.generation y) × HasGivenId (c.state y))) (sym e) (h.generations_here t e a),
    )
    | inr n ↦
        let p = o.generations t (subst (λ k. 0 < k) (h.given t n) a) in (
          p.0,
          subst (λ g. (t.0.generation < g) ⊎ ((t.0.generation ≡ g) × HasGivenId (c.state t.0.context))) (sym (h.generation _ n))
              (subst (λ s. (t.0.generation < w.generation t.0.context) ⊎ ((t.0.generation ≡ w.generation t.0.context) × HasGivenId s)) (sym (h.state _ n)) p.1),
        )
  ];
  live = λ t. elim (cases_eq t.0.context x) [
    | inl e ↦ h.live_here t e
    | inr n ↦ h.given t n ∙ o.live t ∙ sym (ap (λ b. cond b (c.ended t + 1) (c.ended t)) (is_live_elsewhere w x c t h n)
        ∙ ap (λ k. cond (is_live w t) (k + 1) k) (h.ended t n))
  ];
  alone = h.alone_here;
}

-- ---- events that give and end no thread

-- Context x gets a state with the same thread, if there is one. Its place and whether its core is exclusive may change.
quiet : (w : World) (x : ℕ) (s : State) (oc : Place → Bool) (al : ℕ → Bool) → OwnedOnce w → IsContext w x
    → ((p : Place) → (p ≡ w.at x → ⊥) → oc p ≡ w.occupied p)
    → (IsTrue (oc (w.at x)) ↔ (s ≢ Free))
    → ((tag : ℕ) → has_thread s tag ≡ has_thread (w.state x) tag)
    → (HasGivenId (w.state x) → HasGivenId s)
    → ((k : ℕ) → k < w.cores → IsTrue (al k) → HasOneOccupied (record w { occupied = oc }) k)
    → OwnedOnce (record w { state = with_at w.state x s; occupied = oc; alone = al })
quiet w x s oc al o x_in elsewhere here thread gave alone =
    let st : ℕ → State = with_at w.state x s in
    let c : Change = record { state = st; generation = w.generation; occupied = oc; alone = al; given = w.given; ended = w.ended } in
    let at_x : st x ≡ s = with_at-same w.state x s in
    owned w x c o x_in (record {
      state = with_at-other w.state x s;
      generation = λ y n. refl;
      occupied = elsewhere;
      given = λ t n. refl;
      ended = λ t n. refl;
      occupied_here = subst (λ (z : State). IsTrue (oc (w.at x)) ↔ (z ≢ Free)) (sym at_x) here;
      bounded_here = o.bounded x x_in;
      once_here = λ t e. o.once t;
      one_tag_here = λ u t e f a b. o.one_tag u t e a b;
      generations_here = λ t e a.
          let p = (o.generations t a).1 in
          let q = subst (λ (y : ℕ). (t.0.generation < w.generation y) ⊎ ((t.0.generation ≡ w.generation y) × HasGivenId (w.state y))) e p in
          elim q [ inl l ↦ inl l | inr l ↦ inr (l.0, subst HasGivenId (sym at_x) (gave l.1)) ];
      live_here = λ t e.
          o.live t ∙ ap (λ (b : Bool). cond ((ltb t.0.context (w.cores * w.slots) && eqb (w.generation t.0.context) t.0.generation) && b) (w.ended t + 1) (w.ended t))
          (ap (λ (y : ℕ). has_thread (w.state y) t.1) e ∙ sym (thread t.1) ∙ ap (λ (z : State). has_thread z t.1) (sym at_x ∙ ap st (sym e)));
      alone_here = alone;
    })

true_true : {b : Bool} {P : Type 0} → IsTrue b → P → IsTrue b ↔ P
true_true b p = (λ _. p, λ _. b)

is_occupied : (w : World) (x : ℕ) → OwnedOnce w → IsContext w x → (w.state x ≡ Free → ⊥) → IsTrue (w.occupied (w.at x))
is_occupied w x o x_in n = (o.occupied x x_in).1 n

-- a core other than that of x keeps its one occupied place
one_elsewhere : (w : World) (x k : ℕ) (b : Bool) → (k ≡ (w.at x).core → ⊥) → HasOneOccupied w k → HasOneOccupied (record w { occupied = with_place w.occupied (w.at x) b }) k
one_elsewhere w x k b n h =
    let same : (i : ℕ) → with_place w.occupied (w.at x) b (record { core = k; index = i }) ≡ w.occupied (record { core = k; index = i }) =
    λ i. with_place-other w.occupied (w.at x) b (record { core = k; index = i }) (λ e. n (ap (λ (p : Place). p.core) e)) in
    (h.0, h.1, subst IsTrue (sym (same h.0)) h.2, λ j j_in a. h.3 j j_in (subst IsTrue (same j) a))

claimed_not_free : (h : ℕ) → Claimed h ≡ Free → ⊥
claimed_not_free h = λ e. cc

claim : (w : World) (h x : ℕ) → OwnedOnce w → Allowed w (event.Claim h x) → OwnedOnce (after w (event.Claim h x))
claim w h x o a =
    quiet w x (Claimed h) (with_place w.occupied (w.at x) true) w.alone o a.context
    (with_place-other w.occupied (w.at x) true)
    (true_true (with_place-same w.occupied (w.at x) true) (claimed_not_free h))
    (λ tag. ap (λ (s : State). has_thread s tag) (sym a.free))
    (λ g. absurd (subst HasGivenId a.free g))
    (λ k k_in al. one_elsewhere w x k true (λ e. true≢false (sym al ∙ ap w.alone e ∙ a.core.not_alone)) (o.alone k k_in al))

alone : (w : World) (h x : ℕ) → OwnedOnce w → Allowed w (event.Alone h x) → OwnedOnce (after w (event.Alone h x))
alone w h x o a =
    let oc : Place → Bool = with_place w.occupied (w.at x) true in
    let al : ℕ → Bool = with_at w.alone (w.at x).core true in
    quiet w x (Claimed h) oc al o a.context
    (with_place-other w.occupied (w.at x) true)
    (true_true (with_place-same w.occupied (w.at x) true) (claimed_not_free h))
    (λ tag. ap (λ (s : State). has_thread s tag) (sym a.free))
    (λ g. absurd (subst HasGivenId a.free g))
    (λ k k_in b. elim (cases_eq k (w.at x).core) [
      | inl e ↦
          let here : (record { core = k; index = (w.at x).index }) ≡ w.at x = λ i. record { core = e i; index = (w.at x).index } in (
            (w.at x).index,
            (o.placed x a.context).1,
            ap oc here ∙ with_place-same w.occupied (w.at x) true,
            λ j j_in c. elim (cases_place (record { core = k; index = j }) (w.at x)) [
              | inl f ↦ ap (λ (p : Place). p.index) f
              | inr n ↦ absurd (true≢false (sym c ∙ with_place-other w.occupied (w.at x) true (record { core = k; index = j }) n
                  ∙ ap (λ (q : ℕ). w.occupied (record { core = q; index = j })) e ∙ a.empty j j_in))
            ],
          )
      | inr n ↦ one_elsewhere w x k true n (o.alone k k_in (sym (with_at-other w.alone (w.at x).core true k n) ∙ b))
    ])

release : (w : World) (h x : ℕ) → OwnedOnce w → Allowed w (event.Release h x) → OwnedOnce (after w (event.Release h x))
release w h x o a =
    quiet w x Free (with_place w.occupied (w.at x) false) (with_at w.alone (w.at x).core false) o a.context
    (with_place-other w.occupied (w.at x) false)
    (λ b. absurd (true≢false (sym b ∙ with_place-same w.occupied (w.at x) false)), λ n. absurd (n refl))
    (λ tag. ap (λ (s : State). has_thread s tag) (sym a.claimed))
    (λ g. absurd (subst HasGivenId a.claimed g))
    (λ k k_in b. elim (cases_eq k (w.at x).core) [
      | inl e ↦ absurd (true≢false (sym b ∙ ap (with_at w.alone (w.at x).core false) e ∙ with_at-same w.alone (w.at x).core false))
      | inr n ↦ one_elsewhere w x k false n (o.alone k k_in (sym (with_at-other w.alone (w.at x).core false k n) ∙ b))
    ])

-- Context x gets another state of the same live thread.
goes_on : (w : World) (x : ℕ) (s : State) → OwnedOnce w → IsContext w x → (w.state x ≡ Free → ⊥) → (s ≡ Free → ⊥)
    → ((tag : ℕ) → has_thread s tag ≡ has_thread (w.state x) tag) → HasGivenId s → OwnedOnce (record w { state = with_at w.state x s })
goes_on w x s o x_in n m thread gave =
    quiet w x s w.occupied w.alone o x_in (λ p e. refl) (true_true (is_occupied w x o x_in n) m) thread (λ _. gave) o.alone

ready_not_free : (s : State) → IsReady s → s ≡ Free → ⊥
ready_not_free s r e = subst IsReady e r

taken_not_free : (h : ℕ) (s : State) → IsReady s → taken h s ≡ Free → ⊥
taken_not_free h (Ready tag) r = λ e. cc
taken_not_free h s r = absurd r

taken-thread : (h : ℕ) (s : State) (tag : ℕ) → has_thread (taken h s) tag ≡ has_thread s tag
taken-thread h (Ready t) tag = refl
taken-thread h _ tag = refl

taken-given : (h : ℕ) (s : State) → IsReady s → HasGivenId (taken h s)
taken-given h (Ready t) r = tt
taken-given h s r = absurd r

take : (w : World) (h x : ℕ) → OwnedOnce w → Allowed w (event.Take h x) → OwnedOnce (after w (event.Take h x))
take w h x o a = goes_on w x (taken h (w.state x)) o a.context (ready_not_free _ a.ready) (taken_not_free h _ a.ready) (taken-thread h (w.state x)) (taken-given h _ a.ready)

held_not_free : (h : ℕ) (s : State) → IsHeldBy h s → s ≡ Free → ⊥
held_not_free h s r e = subst (IsHeldBy h) e r

put_back_not_free : (h : ℕ) (r : Rest) (s : State) → IsHeldBy h s → put_back r s ≡ Free → ⊥
put_back_not_free h rest.Ready (Held k w t) p = λ e. cc
put_back_not_free h rest.Blocked (Held k true t) p = λ e. cc
put_back_not_free h rest.Blocked (Held k false t) p = λ e. cc
put_back_not_free h r s p = absurd p

put_back-thread : (h : ℕ) (r : Rest) (s : State) (tag : ℕ) → IsHeldBy h s → has_thread (put_back r s) tag ≡ has_thread s tag
put_back-thread h rest.Ready (Held k w t) tag p = refl
put_back-thread h rest.Blocked (Held k true t) tag p = refl
put_back-thread h rest.Blocked (Held k false t) tag p = refl
put_back-thread h r s tag p = absurd p

put_back-given : (h : ℕ) (r : Rest) (s : State) → IsHeldBy h s → HasGivenId (put_back r s)
put_back-given h rest.Ready (Held k w t) p = tt
put_back-given h rest.Blocked (Held k true t) p = tt
put_back-given h rest.Blocked (Held k false t) p = tt
put_back-given h r s p = absurd p

rests : (w : World) (h x : ℕ) (r : Rest) → OwnedOnce w → Allowed w (event.Rest h x r) → OwnedOnce (after w (event.Rest h x r))
rests w h x r o a =
    goes_on w x (put_back r (w.state x)) o a.context (held_not_free h _ a.held) (put_back_not_free h r _ a.held) (λ tag. put_back-thread h r _ tag a.held) (put_back-given h r _ a.held)

wakeable_not_free : (s : State) → CanBeWoken s → s ≡ Free → ⊥
wakeable_not_free s r e = subst CanBeWoken e r

woken_not_free : (s : State) → CanBeWoken s → woken s ≡ Free → ⊥
woken_not_free (Blocked t) p = λ e. cc
woken_not_free (Held k w t) p = λ e. cc
woken_not_free s p = absurd p

woken-thread : (s : State) (tag : ℕ) → CanBeWoken s → has_thread (woken s) tag ≡ has_thread s tag
woken-thread (Blocked t) tag p = refl
woken-thread (Held k w t) tag p = refl
woken-thread s tag p = absurd p

woken-given : (s : State) → CanBeWoken s → HasGivenId (woken s)
woken-given (Blocked t) p = tt
woken-given (Held k w t) p = tt
woken-given s p = absurd p

wake : (w : World) (id : ThreadId) → OwnedOnce w → Allowed w (event.Wake id) → OwnedOnce (after w (event.Wake id))
wake w id o a =
    goes_on w id.context (woken (w.state id.context)) o a.context (wakeable_not_free _ a.waits) (woken_not_free _ a.waits) (λ tag. woken-thread _ tag a.waits) (woken-given _ a.waits)

-- ---- Post

same_thread_from : (w : World) (t : Thread) (x tag : ℕ) → t.0.context ≡ x → t.0.generation ≡ w.generation x → t.1 ≡ tag → t ≡ (id_of w x, tag)
same_thread_from w t x tag c g e = λ i. (same_id t.0 (id_of w x) c g i, e i)

-- while a context is claimed, each id of it that was given has an earlier generation
earlier : (w : World) (h : ℕ) (t : Thread) → OwnedOnce w → w.state t.0.context ≡ Claimed h → 0 < w.given t → t.0.generation < w.generation t.0.context
earlier w h t o e a = elim ((o.generations t a).1) [ inl l ↦ l | inr l ↦ absurd (subst HasGivenId e l.1) ]

-- a thread that isn't live was given as often as it has ended
as_often : (w : World) (t : Thread) → OwnedOnce w → is_live w t ≡ false → w.given t ≡ w.ended t
as_often w t o e = o.live t ∙ cond-false (is_live w t) (w.ended t + 1) (w.ended t) e

not_live_state : (w : World) (t : Thread) → has_thread (w.state t.0.context) t.1 ≡ false → is_live w t ≡ false
not_live_state w t e = and_right _ _ e

is_live_from : (w : World) (t : Thread) → IsContext w t.0.context → t.0.generation ≡ w.generation t.0.context → has_thread (w.state t.0.context) t.1 ≡ true → is_live w t ≡ true
is_live_from w t c g s = and_from _ _ (and_from _ _ (lt-ltb _ _ c) (eq-eqb _ _ (sym g))) s

post : (w : World) (h x tag : ℕ) → OwnedOnce w → Allowed w (event.Post h x tag) → OwnedOnce (after w (event.Post h x tag))
post w h x tag o a =
    let new : Thread = (id_of w x, tag) in
    let st : ℕ → State = with_at w.state x (Ready tag) in
    let gv : Thread → ℕ = with_thread w.given new in
    let c : Change = record { state = st; generation = w.generation; occupied = w.occupied; alone = w.alone; given = gv; ended = w.ended } in
    let at_x : st x ≡ Ready tag = with_at-same w.state x (Ready tag) in
    let claimed : (t : Thread) → t.0.context ≡ x → w.state t.0.context ≡ Claimed h = λ t e. ap w.state e ∙ a.claimed in
    let before : (t : Thread) → t.0.context ≡ x → 0 < w.given t → t.0.generation < w.generation x =
    λ t e b. subst (λ (y : ℕ). t.0.generation < w.generation y) e (earlier w h t o (claimed t e) b) in
    let new_none : w.given new ≡ 0 = elim (cases_lt 0 (w.given new)) [
      | inl l ↦ absurd (omega (arith, before new refl l))
      | inr l ↦ omega arith
    ] in
    let same_given : (t : Thread) → (t ≡ new → ⊥) → gv t ≡ w.given t = λ t n. with_thread-other w.given new t n in
    let new_given : gv new ≡ 1 = with_thread-same w.given new ∙ ap (λ (k : ℕ). k + 1) new_none in
    let dead : (t : Thread) → t.0.context ≡ x → is_live w t ≡ false =
    λ t e. not_live_state w t (ap (λ (s : State). has_thread s t.1) (claimed t e)) in
    owned w x c o a.context (record {
      state = with_at-other w.state x (Ready tag);
      generation = λ y n. refl;
      occupied = λ p n. refl;
      given = λ t n. same_given t (λ e. n (ap (λ (u : Thread). u.0.context) e));
      ended = λ t n. refl;
      occupied_here = true_true (is_occupied w x o a.context (λ e. claimed_not_free h (sym a.claimed ∙ e))) (λ e. ready_not_free (Ready tag) tt (sym at_x ∙ e));
      bounded_here = o.bounded x a.context;
      once_here = λ t e. elim (cases_thread t new) [
        | inl f ↦ omega (arith, ap gv f, new_given)
        | inr n ↦ omega (arith, same_given t n, o.once t)
      ];
      one_tag_here = λ s t e f p q. elim (cases_thread s new) [
        | inl g ↦ elim (cases_thread t new) [
          | inl k ↦ g ∙ sym k
          | inr n ↦ absurd (omega (arith, before t f (subst (λ (k : ℕ). 0 < k) (same_given t n) q), ap (λ (u : ThreadId). u.generation) (sym e ∙ ap (λ (u : Thread). u.0) g)))
        ]
        | inr m ↦ elim (cases_thread t new) [
          | inl k ↦ absurd (omega (arith, before s (ap (λ (u : ThreadId). u.context) e ∙ f) (subst (λ (k : ℕ). 0 < k) (same_given s m) p), ap (λ (u : ThreadId). u.generation) (e ∙ ap (λ (u : Thread). u.0) k)))
          | inr n ↦ o.one_tag s t e (subst (λ (k : ℕ). 0 < k) (same_given s m) p) (subst (λ (k : ℕ). 0 < k) (same_given t n) q)
        ]
      ];
      generations_here = λ t e b. elim (cases_thread t new) [
        | inl f ↦ inr (ap (λ (u : Thread). u.0.generation) f, subst HasGivenId (sym at_x) tt)
        | inr n ↦ inl (before t e (subst (λ (k : ℕ). 0 < k) (same_given t n) b))
      ];
      live_here = λ t e. elim (cases_thread t new) [
        | inl f ↦
            let v : World = changed w c in
            let yes : is_live v t ≡ true = is_live_from v t (subst (λ (y : ℕ). IsContext w y) (sym e) a.context) (ap (λ (u : Thread). u.0.generation) f ∙ ap w.generation (sym e))
            (ap (λ (y : ℕ). has_thread (st y) t.1) e ∙ ap (λ (s : State). has_thread s t.1) at_x ∙ eq-eqb tag t.1 (ap (λ (u : Thread). u.1) (sym f))) in
            let none : w.ended t ≡ 0 = sym (as_often w t o (dead t e)) ∙ ap w.given f ∙ new_none in
            ap gv f ∙ new_given ∙ ap (λ (k : ℕ). k + 1) (sym none) ∙ sym (cond-true (is_live v t) (w.ended t + 1) (w.ended t) yes)
        | inr n ↦
            let v : World = changed w c in
            let no : is_live v t ≡ false = false_from_ne_true (is_live v t) (λ l.
            let p = and_parts _ _ l in
            let g = eqb-true _ _ (and_parts _ _ p.0).1 in
            let s : eqb tag t.1 ≡ true = ap (λ (z : State). has_thread z t.1) (sym at_x) ∙ ap (λ (y : ℕ). has_thread (st y) t.1) (sym e) ∙ p.1 in
            n (same_thread_from w t x tag e (sym g ∙ ap w.generation e) (sym (eqb-true tag t.1 s)))) in
            same_given t n ∙ as_often w t o (dead t e) ∙ sym (cond-false (is_live v t) (w.ended t + 1) (w.ended t) no)
      ];
      alone_here = o.alone;
    })

-- ---- Retire

-- The live thread of context x ends; the context gets a state with no thread.
ends : (w : World) (x tag g : ℕ) (s : State) → OwnedOnce w → IsContext w x
    → has_thread (w.state x) tag ≡ true → ((u : ℕ) → has_thread (w.state x) u ≡ true → u ≡ tag) → (s ≡ Free → ⊥) → ((u : ℕ) → has_thread s u ≡ false)
    → ((k : ℕ) → k ≤ w.generation x → (k < g) ⊎ ((k ≡ g) × HasGivenId s)) → g ≤ w.last
    → OwnedOnce (record w { state = with_at w.state x s; generation = with_at w.generation x g; ended = with_thread w.ended (id_of w x, tag) })
ends w x tag g s o x_in has only m none rises within =
    let old : Thread = (id_of w x, tag) in
    let st : ℕ → State = with_at w.state x s in
    let gn : ℕ → ℕ = with_at w.generation x g in
    let en : Thread → ℕ = with_thread w.ended old in
    let c : Change = record { state = st; generation = gn; occupied = w.occupied; alone = w.alone; given = w.given; ended = en } in
    let at_x : st x ≡ s = with_at-same w.state x s in
    let was_live : w.state x ≡ Free → ⊥ = λ e. true≢false (sym has ∙ ap (λ (z : State). has_thread z tag) e) in
    owned w x c o x_in (record {
      state = with_at-other w.state x s;
      generation = with_at-other w.generation x g;
      occupied = λ p n. refl;
      given = λ t n. refl;
      ended = λ t n. with_thread-other w.ended old t (λ e. n (ap (λ (u : Thread). u.0.context) e));
      occupied_here = true_true (is_occupied w x o x_in was_live) (λ e. m (sym at_x ∙ e));
      bounded_here = subst (λ (k : ℕ). k ≤ w.last) (sym (with_at-same w.generation x g)) within;
      once_here = λ t e. o.once t;
      one_tag_here = λ u t e f a b. o.one_tag u t e a b;
      generations_here = λ t e a.
          let before : t.0.generation ≤ w.generation t.0.context = elim ((o.generations t a).1) [ inl l ↦ omega arith | inr l ↦ omega (arith, l.0) ] in
          let p = rises t.0.generation (subst (λ (y : ℕ). t.0.generation ≤ w.generation y) e before) in
          let gx : gn x ≡ g = with_at-same w.generation x g in
          elim p [ inl l ↦ inl (subst (λ (k : ℕ). t.0.generation < k) (sym gx) l) | inr l ↦ inr (l.0 ∙ sym gx, subst HasGivenId (sym at_x) l.1) ];
      live_here = λ t e.
          let v : World = changed w c in
          let no : is_live v t ≡ false = not_live_state v t (ap (λ (y : ℕ). has_thread (st y) t.1) e ∙ ap (λ (z : State). has_thread z t.1) at_x ∙ none t.1) in
          let right : cond (is_live v t) (en t + 1) (en t) ≡ en t = cond-false (is_live v t) (en t + 1) (en t) no in
          elim (cases_thread t old) [
            | inl f ↦
                let yes : is_live w t ≡ true = is_live_from w t (subst (λ (y : ℕ). IsContext w y) (sym e) x_in) (ap (λ (u : Thread). u.0.generation) f ∙ ap w.generation (sym e))
                (ap (λ (y : ℕ). has_thread (w.state y) t.1) e ∙ ap (λ (u : ℕ). has_thread (w.state x) u) (ap (λ (u : Thread). u.1) f) ∙ has) in
                o.live t ∙ cond-true (is_live w t) (w.ended t + 1) (w.ended t) yes ∙ ap (λ (u : Thread). w.ended u + 1) f
                ∙ sym (with_thread-same w.ended old) ∙ ap en (sym f) ∙ sym right
            | inr n ↦
                let dead : is_live w t ≡ false = false_from_ne_true (is_live w t) (λ l.
                let p = and_parts _ _ l in
                let k = eqb-true _ _ (and_parts _ _ p.0).1 in
                n (same_thread_from w t x tag e (sym k ∙ ap w.generation e) (only t.1 (ap (λ (y : ℕ). has_thread (w.state y) t.1) (sym e) ∙ p.1)))) in
                as_often w t o dead ∙ sym (with_thread-other w.ended old t n) ∙ sym right
          ];
      alone_here = o.alone;
    })

held-thread : (h : ℕ) (s : State) → IsHeldBy h s → has_thread s (tag_of s) ≡ true
held-thread h (Held k w t) p = eq-eqb t t refl
held-thread h s p = absurd p

held-only : (h : ℕ) (s : State) → IsHeldBy h s → (u : ℕ) → has_thread s u ≡ true → u ≡ tag_of s
held-only h (Held k w t) p u e = sym (eqb-true t u e)
held-only h s p u e = absurd p

ended_not_free : (b : Bool) (h : ℕ) → cond b (Claimed h) Spent ≡ Free → ⊥
ended_not_free true h = λ e. cc
ended_not_free false h = λ e. cc

ended-thread : (b : Bool) (h u : ℕ) → has_thread (cond b (Claimed h) Spent) u ≡ false
ended-thread true h u = refl
ended-thread false h u = refl

ended-rises : (b : Bool) (h g k : ℕ) → k ≤ g → (k < cond b (g + 1) g) ⊎ ((k ≡ cond b (g + 1) g) × HasGivenId (cond b (Claimed h) Spent))
ended-rises true h g k l = inl (omega arith)
ended-rises false h g k l = elim (cases_lt k g) [ inl m ↦ inl m | inr m ↦ inr (omega arith, tt) ]

ended-within : (g l : ℕ) → g ≤ l → cond (ltb g l) (g + 1) g ≤ l
ended-within g l h = elim (cases_lt g l) [
  | inl m ↦ subst (λ k. k ≤ l) (sym (cond-true (ltb g l) (g + 1) g (lt-ltb g l m))) (omega arith)
  | inr m ↦ elim (cases_Bool (ltb g l)) [
    | inl e ↦ subst (λ k. k ≤ l) (sym (cond-true (ltb g l) (g + 1) g e)) (omega (arith, ltb-true g l e))
    | inr e ↦ subst (λ k. k ≤ l) (sym (cond-false (ltb g l) (g + 1) g e)) h
  ]
]

retire : (w : World) (h x : ℕ) → OwnedOnce w → Allowed w (event.Retire h x) → OwnedOnce (after w (event.Retire h x))
retire w h x o a =
    let b : Bool = ltb (w.generation x) w.last in
    ends w x (tag_of (w.state x)) (cond b (w.generation x + 1) (w.generation x)) (cond b (Claimed h) Spent) o a.context
    (held-thread h _ a.held) (held-only h _ a.held) (ended_not_free b h) (ended-thread b h) (ended-rises b h (w.generation x)) (ended-within (w.generation x) w.last (o.bounded x a.context))

-- ---- Move

resting_not_free : (s : State) → IsAtRest s → s ≡ Free → ⊥
resting_not_free s r e = subst IsAtRest e r

move : (w : World) (h x y : ℕ) → OwnedOnce w → Allowed w (event.Move h x y) → OwnedOnce (after w (event.Move h x y))
move w h x y o a =
    let p : Place = w.at x in
    let q : Place = w.at y in
    let apart : x ≡ y → ⊥ = λ e. a.apart (ap (λ (z : ℕ). (w.at z).core) e) in
    let at : ℕ → Place = with_at (with_at w.at x q) y p in
    let at_y : at y ≡ p = with_at-same (with_at w.at x q) y p in
    let at_x : at x ≡ q = with_at-other (with_at w.at x q) y p x apart ∙ with_at-same w.at x q in
    let at_z : (z : ℕ) → (z ≡ x → ⊥) → (z ≡ y → ⊥) → at z ≡ w.at z = λ z n m. with_at-other (with_at w.at x q) y p z m ∙ with_at-other w.at x q z n in
    -- the context that stood before at the place at which z stands now
    let from : (z : ℕ) → IsContext w z → (u : ℕ) × IsContext w u × (at z ≡ w.at u) × ((z ≡ x → u ≡ y) × (z ≡ y → u ≡ x) × ((z ≡ x → ⊥) → (z ≡ y → ⊥) → u ≡ z)) =
    λ z z_in. elim (cases_eq z x) [
      | inl e ↦ (y, a.to, ap at e ∙ at_x, ((λ _. refl), (λ f. absurd (apart (sym e ∙ f))), (λ n m. absurd (n e))))
      | inr n ↦ elim (cases_eq z y) [
        | inl f ↦ (x, a.from, ap at f ∙ at_y, ((λ e. absurd (n e)), (λ _. refl), (λ k m. absurd (m f))))
        | inr m ↦ (z, z_in, at_z z n m, ((λ e. absurd (n e)), (λ e. absurd (m e)), (λ k l. refl)))
      ]
    ] in
    record {
      placed = λ z z_in. let u = from z z_in in subst (λ (r : Place). IsPlace w r) (sym u.2) (o.placed u.0 u.1);
      apart = λ z z' z_in z'_in e.
          let u = from z z_in in
          let u' = from z' z'_in in
          let same : u.0 ≡ u'.0 = o.apart u.0 u'.0 u.1 u'.1 (sym u.2 ∙ e ∙ u'.2) in
          elim (cases_eq z x) [
            | inl f ↦ elim (cases_eq z' x) [
              | inl f' ↦ f ∙ sym f'
              | inr n' ↦ elim (cases_eq z' y) [
                | inl k' ↦ absurd (apart (sym (u'.3.1 k') ∙ sym same ∙ u.3.0 f))
                | inr m' ↦ absurd (m' (sym (u'.3.2 n' m') ∙ sym same ∙ u.3.0 f))
              ]
            ]
            | inr n ↦ elim (cases_eq z y) [
              | inl k ↦ elim (cases_eq z' x) [
                | inl f' ↦ absurd (apart (sym (u.3.1 k) ∙ same ∙ u'.3.0 f'))
                | inr n' ↦ elim (cases_eq z' y) [
                  | inl k' ↦ k ∙ sym k'
                  | inr m' ↦ absurd (n' (sym (u'.3.2 n' m') ∙ sym same ∙ u.3.1 k))
                ]
              ]
              | inr m ↦ elim (cases_eq z' x) [
                | inl f' ↦ absurd (m (sym (u.3.2 n m) ∙ same ∙ u'.3.0 f'))
                | inr n' ↦ elim (cases_eq z' y) [
                  | inl k' ↦ absurd (n (sym (u.3.2 n m) ∙ same ∙ u'.3.1 k'))
                  | inr m' ↦ sym (u.3.2 n m) ∙ same ∙ u'.3.2 n' m'
                ]
              ]
            ]
          ];
      filled = λ r r_in.
          let u = o.filled r r_in in
          elim (cases_eq u.0 x) [
            | inl e ↦ (y, a.to, at_y ∙ ap w.at (sym e) ∙ u.2)
            | inr n ↦ elim (cases_eq u.0 y) [
              | inl f ↦ (x, a.from, at_x ∙ ap w.at (sym f) ∙ u.2)
              | inr m ↦ (u.0, u.1, at_z u.0 n m ∙ u.2)
            ]
          ];
      occupied = λ z z_in. elim (cases_eq z x) [
        | inl e ↦ true_true (ap (λ (v : ℕ). w.occupied (at v)) e ∙ ap w.occupied at_x ∙ is_occupied w y o a.to (λ f. claimed_not_free h (sym a.claimed ∙ f)))
            (λ f. resting_not_free _ a.at_rest (sym (ap w.state e) ∙ f))
        | inr n ↦ elim (cases_eq z y) [
          | inl f ↦ true_true (ap (λ (v : ℕ). w.occupied (at v)) f ∙ ap w.occupied at_y ∙ is_occupied w x o a.from (resting_not_free _ a.at_rest))
              (λ k. claimed_not_free h (sym a.claimed ∙ sym (ap w.state f) ∙ k))
          | inr m ↦ subst (λ (r : Place). IsTrue (w.occupied r) ↔ (w.state z ≢ Free)) (sym (at_z z n m)) (o.occupied z z_in)
        ]
      ];
      bounded = o.bounded;
      once = o.once;
      one_tag = o.one_tag;
      generations = o.generations;
      live = o.live;
      alone = o.alone;
    }

-- ---- all events

pub keeps_owned_once : (w : World) (e : Event) → OwnedOnce w → Allowed w e → OwnedOnce (after w e)
keeps_owned_once w (event.Claim h x) o a = claim w h x o a
keeps_owned_once w (event.Alone h x) o a = alone w h x o a
keeps_owned_once w (event.Post h x tag) o a = post w h x tag o a
keeps_owned_once w (event.Take h x) o a = take w h x o a
keeps_owned_once w (event.Rest h x r) o a = rests w h x r o a
keeps_owned_once w (event.Wake id) o a = wake w id o a
keeps_owned_once w (event.Retire h x) o a = retire w h x o a
keeps_owned_once w (event.Release h x) o a = release w h x o a
keeps_owned_once w (event.CloseCore c) o a = record { placed = o.placed; apart = o.apart; filled = o.filled; occupied = o.occupied; bounded = o.bounded; once = o.once; one_tag = o.one_tag; generations = o.generations; live = o.live; alone = o.alone }
keeps_owned_once w (event.OpenCore c) o a = record { placed = o.placed; apart = o.apart; filled = o.filled; occupied = o.occupied; bounded = o.bounded; once = o.once; one_tag = o.one_tag; generations = o.generations; live = o.live; alone = o.alone }
keeps_owned_once w (event.Move h x y) o a = move w h x y o a
keeps_owned_once w event.Still o a = o
