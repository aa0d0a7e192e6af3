-- Steps that leave the occupancy words as they are.
use Rattle.std.proofs.Common.{◌≡◌, ℕ, ◌<◌, Bool, true, false, cond, eqb, List, ◌∷◌, refl, sym, ap, ◌∙◌, subst, set, []}
use Rattle.std.proofs.lemmas.Bool.{eqb-true, eq-eqb, ne_eqb, cond-true, cond-false, true≢false}
use mathlib.Core.Option.{some}
use lib.ListN.{get_elem?}
use Rattle.arachne_core.specs.declared.{place.Place.Place, state.State.State, state.State.TheVariants.{Claimed, Held}}
use Rattle.arachne_core.specs.{World.{World, Thread, IsContext, IsPlace}, OwnedOnce.OwnedOnce}
use Rattle.arachne_weights.specs.{declared.token.Token.Token, Tokens.{held, IsReachable, learns}}
use Rattle.arachne_rule.specs.declared.view.{Carried.Carried, Known.Known}
use Rattle.arachne_rule.specs.Views.{blank, known_at, carried_at, given_in, ended_in}
use Rattle.arachne_rule.specs.Rule.{carried_if, share_of, Board, Phase, ShowsWord, ShowsContext, Shows}
use Rattle.arachne_rule.proofs.{OneContext.{Change, changed, one_context}, Views.{learned-else, learned-here}}

-- the parts of the table that a step on a mark word or a place word may change
pub record Small : Type 0 where
  pub state : ℕ → State
  pub generation : ℕ → ℕ
  pub given : Thread → ℕ
  pub ended : Thread → ℕ

abbrev pub small : World → Small → World
small w c = record w { state = c.state; generation = c.generation; given = c.given; ended = c.ended }

module _ {T : Type 0} (tag_in : T → ℕ) (bits : ℕ) where
  -- the effect of a seat's step at context x, and the seat's knowledge after it
  pub record AtOne (w : World) (c : Small) (d e : ℕ → Phase) (b a : Board T) (x h weight : ℕ) (before after : Known) : Type 0 where
    pub mine : get_elem? b.views h ≡ some (held weight before)
    pub views : a.views ≡ set b.views h (held weight after)
    pub occ : (k : ℕ) → k < w.cores → a.occ k ≡ b.occ k
    pub mark : (y : ℕ) → IsContext w y → (y ≡ x → ⊥) → a.mark y ≡ b.mark y
    pub home : (y : ℕ) → IsContext w y → (y ≡ x → ⊥) → a.home y ≡ b.home y
    pub name : (p : Place) → IsPlace w p → (p ≡ w.at x → ⊥) → a.name p ≡ b.name p
    pub phase : (y : ℕ) → (y ≡ x → ⊥) → e y ≡ d y
    pub carried : (y : ℕ) → (y ≡ x → ⊥) → carried_at y after.carried ≡ carried_at y before.carried
    pub state : (y : ℕ) → (y ≡ x → ⊥) → c.state y ≡ w.state y
    pub generation : (y : ℕ) → (y ≡ x → ⊥) → c.generation y ≡ w.generation y

  pub marking : (w : World) (c : Small) (d e : ℕ → Phase) (b a : Board T) (x h weight : ℕ) (before after : Known)
      → Shows tag_in bits w d b → IsContext w x → AtOne w c d e b a x h weight before after
      → OwnedOnce (small w c)
      → ShowsContext tag_in bits (small w c) e a x
      → IsContext w (a.name (w.at x))
      → carried_at x after.carried ≡ share_of (small w c) e h x
      → ((k : ℕ) → (k ≡ h → ⊥) → share_of w d k x ≡ share_of (small w c) e k x)
      → ((t : Thread) → c.given t ≡ given_in t (set b.views h (held weight after)))
      → ((t : Thread) → c.ended t ≡ ended_in t (set b.views h (held weight after)))
      → Shows tag_in bits (small w c) e a
  marking w c d e b a x h weight before after s x_in o owned here name share others given ended =
      let all : Change = record { state = c.state; generation = c.generation; occupied = w.occupied; closed = w.closed; alone = w.alone; given = c.given; ended = c.ended } in
      one_context tag_in bits w all d e b a x s x_in
      (record {
        state = o.state;
        generation = o.generation;
        occupied = λ p n. refl;
        phase = o.phase;
        alone = λ y y_in n m. refl;
        mark = o.mark;
        home = o.home;
        name = o.name;
        carried = λ k y y_in n. ap (λ (vs : List (Token Known)). carried_at y (known_at vs k).carried) o.views
            ∙ learned-else b.views h weight before after o.mine y (o.carried y n) k;
      })
      owned
      (λ k k_in. let q = s.cores k k_in in subst (λ (n : ℕ). ShowsWord (changed w all) k n) (sym (o.occ k k_in))
      (record { packed = q.packed; shows = record { occupied = q.shows.occupied; closed = q.shows.closed; exclusive = q.shows.exclusive } }))
      here name
      (λ k. ap (λ (vs : List (Token Known)). carried_at x (known_at vs k).carried) o.views
      ∙ learned-here b.views h weight before after o.mine x (λ (j : ℕ). share_of (small w c) e j x) share (λ j n. s.carried j x x_in ∙ others j n) k)
      (subst (IsReachable blank) (sym o.views) (learns s.seats h weight before after o.mine))
      (λ t. given t ∙ ap (given_in t) (sym o.views))
      (λ t. ended t ∙ ap (ended_in t) (sym o.views))

-- ---- the state of a carried context

abbrev head : Carried → List Carried → Carried
head d [] = d
head d (g ∷ gs) = g

pub one-carried : (f g : Carried) → f ∷ [] ≡ g ∷ [] → f ≡ g
one-carried f g e = ap (head f) e

pub carried-of-held : (b : Bool) (f g : Carried) → cond b (f ∷ []) [] ≡ g ∷ [] → (b ≡ true) × (g ≡ f)
carried-of-held true f g e = (refl, sym (one-carried f g e))
carried-of-held false f g e = cc

-- a context that is carried and not held is claimed
pub claimed-carried : (s : State) (h : ℕ) (f : Bool → ℕ → Carried) (g : Carried) → ((b : Bool) (t : ℕ) → (f b t).held ≡ b) → carried_if s h f ≡ g ∷ [] → g.held ≡ false → (s ≡ Claimed h) × (g ≡ f false 0)
claimed-carried (Claimed k) h f g hs e n = let q = carried-of-held (eqb k h) (f false 0) g e in (ap Claimed (eqb-true k h q.0), q.1)
claimed-carried (Held k w t) h f g hs e n = let q = carried-of-held (eqb k h) (f true t) g e in absurd (true≢false (sym (hs true t) ∙ ap (λ (r : Carried). r.held) (sym q.1) ∙ n))
claimed-carried _ h f g hs e n = cc

-- a context that is carried and held is held in the World
pub held-carried : (s : State) (h : ℕ) (f : Bool → ℕ → Carried) (g : Carried) → ((b : Bool) (t : ℕ) → (f b t).held ≡ b) → carried_if s h f ≡ g ∷ [] → g.held ≡ true
    → (woken : Bool) × (tag : ℕ) × (s ≡ Held h woken tag) × (g ≡ f true tag)
held-carried (Claimed k) h f g hs e n = let q = carried-of-held (eqb k h) (f false 0) g e in absurd (true≢false (sym n ∙ ap (λ (r : Carried). r.held) q.1 ∙ hs false 0))
held-carried (Held k w t) h f g hs e n = let q = carried-of-held (eqb k h) (f true t) g e in (w, t, ap (λ (j : ℕ). Held j w t) (eqb-true k h q.0), q.1)
held-carried _ h f g hs e n = cc

pub mine-claimed : (h : ℕ) (f : Bool → ℕ → Carried) → carried_if (Claimed h) h f ≡ f false 0 ∷ []
mine-claimed h f = cond-true (eqb h h) _ _ (eq-eqb h h refl)

pub not-claimed : (h k : ℕ) (f : Bool → ℕ → Carried) → (k ≡ h → ⊥) → carried_if (Claimed h) k f ≡ []
not-claimed h k f n = cond-false (eqb h k) _ _ (ne_eqb h k (λ e. n (sym e)))

pub mine-held : (h : ℕ) (w : Bool) (t : ℕ) (f : Bool → ℕ → Carried) → carried_if (Held h w t) h f ≡ f true t ∷ []
mine-held h w t f = cond-true (eqb h h) _ _ (eq-eqb h h refl)

pub not-held : (h : ℕ) (w : Bool) (t k : ℕ) (f : Bool → ℕ → Carried) → (k ≡ h → ⊥) → carried_if (Held h w t) k f ≡ []
not-held h w t k f n = cond-false (eqb h k) _ _ (ne_eqb h k (λ e. n (sym e)))
