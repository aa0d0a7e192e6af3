-- One context changed: what a step must show there, and nothing else.
use Rattle.std.proofs.Common.{◌≡◌, ℕ, ◌<◌, Bool, true, false, cond, eqb, ◌&&◌, ◌∷◌, refl, sym, ap, ◌∙◌, subst, inl, inr, [], arith}
use Rattle.std.proofs.lemmas.Bool.{cases_eq}
use Rattle.arachne_core.specs.declared.{place.Place.Place, state.State.State}
use Rattle.arachne_core.specs.{declared.state.State.TheVariants.{Free, Claimed, Held, Spent}, Marked.mark_word}
use Rattle.arachne_core.specs.{World.{World, Thread, IsContext, IsPlace, core_of}, OwnedOnce.OwnedOnce}
use Rattle.arachne_core.{specs.ContextTable.{mark_of, is_live_state}, proofs.Changes.cases_place}
use Rattle.arachne_weights.specs.Tokens.{IsReachable}
use Rattle.arachne_rule.specs.{declared.view.Carried.Carried, Views.{blank, known_at, carried_at, given_in, ended_in}}
use Rattle.arachne_rule.specs.Rule.{Coherent, carried_if, carried_of, share_of, HasValue, Board, Phase, ShowsWord, ShowsContext, Shows}

-- the parts of a World that a step at one context may change
pub record Change : Type 0 where
  pub state : ℕ → State
  pub generation : ℕ → ℕ
  pub occupied : Place → Bool
  pub closed : ℕ → Bool
  pub alone : ℕ → Bool
  pub given : Thread → ℕ
  pub ended : Thread → ℕ

abbrev pub changed : World → Change → World
changed w c = record w { state = c.state; generation = c.generation; occupied = c.occupied; closed = c.closed; alone = c.alone; given = c.given; ended = c.ended }

alone-same : (s : State) (a b : Bool) → ((s ≡ Free → ⊥) → a ≡ b) → (is_live_state s && a) ≡ (is_live_state s && b)
alone-same Free a b e = refl
alone-same (Claimed h) a b e = refl
alone-same Spent a b e = refl
alone-same _ a b e = e (λ f. cc)

carried-same : (s : State) (h : ℕ) (f g : Bool → ℕ → Carried) → ((s ≡ Free → ⊥) → (held : Bool) (tag : ℕ) → f held tag ≡ g held tag) → carried_if s h f ≡ carried_if s h g
carried-same (Claimed k) h f g e = ap (λ (r : Carried). cond (eqb k h) (r ∷ []) []) (e (λ q. cc) false 0)
carried-same (Held k w t) h f g e = ap (λ (r : Carried). cond (eqb k h) (r ∷ []) []) (e (λ q. cc) true t)
carried-same _ h f g e = refl

module _ {T : Type 0} (tag_in : T → ℕ) (bits : ℕ) where
  -- nothing has changed except at context x
  pub record Elsewhere (w : World) (c : Change) (d e : ℕ → Phase) (b a : Board T) (x : ℕ) : Type 0 where
    pub state : (y : ℕ) → (y ≡ x → ⊥) → c.state y ≡ w.state y
    pub generation : (y : ℕ) → (y ≡ x → ⊥) → c.generation y ≡ w.generation y
    pub occupied : (p : Place) → (p ≡ w.at x → ⊥) → c.occupied p ≡ w.occupied p
    pub phase : (y : ℕ) → (y ≡ x → ⊥) → e y ≡ d y
    pub alone : (y : ℕ) → IsContext w y → (y ≡ x → ⊥) → (w.state y ≡ Free → ⊥) → c.alone (core_of w y) ≡ w.alone (core_of w y)
    pub mark : (y : ℕ) → IsContext w y → (y ≡ x → ⊥) → a.mark y ≡ b.mark y
    pub home : (y : ℕ) → IsContext w y → (y ≡ x → ⊥) → a.home y ≡ b.home y
    pub name : (p : Place) → IsPlace w p → (p ≡ w.at x → ⊥) → a.name p ≡ b.name p
    pub carried : (k y : ℕ) → IsContext w y → (y ≡ x → ⊥) → carried_at y (known_at a.views k).carried ≡ carried_at y (known_at b.views k).carried

  pub one_context : (w : World) (c : Change) (d e : ℕ → Phase) (b a : Board T) (x : ℕ) → Shows tag_in bits w d b → IsContext w x
      → Elsewhere w c d e b a x
      → OwnedOnce (changed w c)
      → ((k : ℕ) → k < w.cores → ShowsWord (changed w c) k (a.occ k))
      → ShowsContext tag_in bits (changed w c) e a x
      → IsContext w (a.name (w.at x))
      → ((k : ℕ) → carried_at x (known_at a.views k).carried ≡ share_of (changed w c) e k x)
      → IsReachable blank a.views
      → ((t : Thread) → c.given t ≡ given_in t a.views)
      → ((t : Thread) → c.ended t ≡ ended_in t a.views)
      → Shows tag_in bits (changed w c) e a
  one_context w c d e b a x s x_in h owned cores here name carried seats given ended = record {
    owned = owned;
    fits = s.fits;
    cores = cores;
    beyond = λ p l. h.occupied p (λ f. omega (arith, l, ap (λ (q : Place). q.index) f, (s.owned.placed x x_in).1)) ∙ s.beyond p l;
    contexts = λ y y_in. elim (cases_eq y x) [
      | inl f ↦ subst (λ (z : ℕ). ShowsContext tag_in bits (changed w c) e a z) (sym f) here
      | inr n ↦
          let o = s.contexts y y_in in
          let st = h.state y n in
          let asd = h.phase y n in
          let apart : w.at y ≡ w.at x → ⊥ = λ f. n (s.owned.apart y x y_in x_in f) in
          let al : (is_live_state (c.state y) && c.alone (core_of w y)) ≡ (is_live_state (w.state y) && w.alone (core_of w y)) =
          ap (λ (t : State). is_live_state t && c.alone (core_of w y)) st ∙ alone-same (w.state y) (c.alone (core_of w y)) (w.alone (core_of w y)) (h.alone y y_in n) in
          record {
            within = subst (λ (r : Phase). IsPlace w r.shown) (sym asd) o.within;
            coherent = subst (λ (t : State). Coherent t (w.at y) (e y)) (sym st) (subst (λ (r : Phase). Coherent (w.state y) (w.at y) r) (sym asd) o.coherent);
            mark = h.mark y y_in n ∙ o.mark ∙ sym (ap (mark_word bits) (λ i. record { mark = mark_of (st i); alone = al i; place = (asd i).shown; generation = h.generation y n i }));
            named = λ f. h.name (w.at y) (s.owned.placed y y_in) apart ∙ o.named (ap (λ (r : Phase). r.named) (sym asd) ∙ f);
            value = λ f. subst (λ (t : State). HasValue tag_in t (a.home y)) (sym st) (subst (HasValue tag_in (w.state y)) (sym (h.home y y_in n)) (o.value (ap (λ (r : Phase). r.away) (sym asd) ∙ f)));
          }
    ];
    names = λ p p_in. elim (cases_place p (w.at x)) [
      | inl f ↦ subst (λ (q : Place). IsContext w (a.name q)) (sym f) name
      | inr n ↦ subst (IsContext w) (sym (h.name p p_in n)) (s.names p p_in)
    ];
    carried = λ k y y_in. elim (cases_eq y x) [
      | inl f ↦ subst (λ (z : ℕ). carried_at z (known_at a.views k).carried ≡ share_of (changed w c) e k z) (sym f) (carried k)
      | inr n ↦ h.carried k y y_in n ∙ s.carried k y y_in
          ∙ sym (ap (λ (t : State). carried_if t k (carried_of (changed w c) e y)) (h.state y n)
          ∙ carried-same (w.state y) k (carried_of (changed w c) e y) (carried_of w d y) (λ m held tag. λ i. record {
            context = y;
            place = w.at y;
            shown = (h.phase y n i).shown;
            generation = h.generation y n i;
            held = held;
            tag = tag;
            alone = h.alone y y_in n m i;
            named = (h.phase y n i).named;
            away = (h.phase y n i).away;
          }))
    ];
    seats = seats;
    given = given;
    ended = ended;
  }
