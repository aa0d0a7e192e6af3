-- The empty slot of a context that is claimed or held is out with its carrier, which has learned the place word.
use Rattle.std.proofs.Common.{◌≡◌, ℕ, Bool, true, false, eqb, Option, ◌∷◌, refl, sym, ap, ◌∙◌, subst, set, []}
use Rattle.std.proofs.lemmas.Bool.{eqb-true, ne_eqb, true≢false, cond-true, cond-false}
use Rattle.std.specs.declared.option.Option.TheVariants.{None}
use mathlib.Core.Option as opt
use lib.ListN.{get_elem?}
use Rattle.arachne_core.{proofs.Changes.{with_at-same, with_at-other}, specs.{ContextTable.marked, Marked.mark_word}}
use Rattle.arachne_core.specs.{World.{World, IsContext, IsPlace, with_at}, declared.place.Place.Place}
use Rattle.arachne_core.specs.declared.state.State.{State, TheVariants.{Claimed, Ready, Blocked, Held}}
use Rattle.arachne_weights.specs.Tokens.{held}
use Rattle.arachne_rule.specs.{declared.view.{Carried.Carried, Known.Known}, Views.{carried_at, with_context}}
use Rattle.arachne_rule.specs.Rule.{Coherent, carried_if, carried_of, HasValue, Board, Phase, Shows}
use Rattle.arachne_rule.proofs.{Carrying.{with-at, with-else, known-there}, Views.{given-same, ended-same}}
use Rattle.arachne_rule.proofs.Marking.{Small, marking, carried-of-held}

carried-again : (s : State) (h : ℕ) (f f' : Bool → ℕ → Carried) (g g' : Carried) → carried_if s h f ≡ g ∷ [] → ((q : Bool) (t : ℕ) → g ≡ f q t → g' ≡ f' q t) → carried_if s h f' ≡ g' ∷ []
carried-again (Claimed k) h f f' g g' e up = let r = carried-of-held (eqb k h) (f false 0) g e in cond-true (eqb k h) (f' false 0 ∷ []) [] r.0 ∙ ap (λ (u : Carried). u ∷ []) (sym (up false 0 r.1))
carried-again (Held k w t) h f f' g g' e up = let r = carried-of-held (eqb k h) (f true t) g e in cond-true (eqb k h) (f' true t ∷ []) [] r.0 ∙ ap (λ (u : Carried). u ∷ []) (sym (up true t r.1))
carried-again _ h f f' g g' e up = cc

pub carried-says : {A : Type 0} (s : State) (h : ℕ) (f : Bool → ℕ → Carried) (field : Carried → A) (g : Carried) (v : A) → carried_if s h f ≡ g ∷ [] → ((q : Bool) (t : ℕ) → field (f q t) ≡ v) → field g ≡ v
carried-says (Claimed k) h f field g v e all = ap field (carried-of-held (eqb k h) (f false 0) g e).1 ∙ all false 0
carried-says (Held k w t) h f field g v e all = ap field (carried-of-held (eqb k h) (f true t) g e).1 ∙ all true t
carried-says _ h f field g v e all = cc

pub carried-alone : (s : State) (h j : ℕ) (f f' : Bool → ℕ → Carried) (g : Carried) → carried_if s h f ≡ g ∷ [] → (j ≡ h → ⊥) → carried_if s j f' ≡ []
carried-alone (Claimed k) h j f f' g e n = let r = carried-of-held (eqb k h) (f false 0) g e in cond-false (eqb k j) (f' false 0 ∷ []) [] (ne_eqb k j (λ u. n (sym u ∙ eqb-true k h r.0)))
carried-alone (Held k w t) h j f f' g e n = let r = carried-of-held (eqb k h) (f true t) g e in cond-false (eqb k j) (f' true t ∷ []) [] (ne_eqb k j (λ u. n (sym u ∙ eqb-true k h r.0)))
carried-alone _ h j f f' g e n = refl

pub carried-empty : {T : Type 0} (tag_in : T → ℕ) (s : State) (h : ℕ) (f : Bool → ℕ → Carried) (g : Carried) (z : opt.Option (opt.Option (Option T))) → carried_if s h f ≡ g ∷ [] → HasValue tag_in s z → z ≡ opt.some (opt.some None)
carried-empty tag_in (Ready t) h f g z e v = cc
carried-empty tag_in (Blocked t) h f g z e v = cc
carried-empty tag_in _ h f g z e v = v

carried-coherent : (s : State) (p : Place) (a : Phase) (h : ℕ) (f : Bool → ℕ → Carried) (g : Carried) (q : Bool) → carried_if s h f ≡ g ∷ [] → Coherent s p a → Coherent s p (record a { away = q })
carried-coherent (Claimed k) p a h f g q e c = c
carried-coherent (Held k w t) p a h f g q e c = c
carried-coherent _ p a h f g q e c = cc

module _ {T : Type 0} (tag_in : T → ℕ) (bits : ℕ) (w : World) (d : ℕ → Phase) (b : Board T) (s : Shows tag_in bits w d b)
    (h weight : ℕ) (k : Known) (mine : get_elem? b.views h ≡ opt.some (held weight k)) where
  -- the slot is empty, and the place word names the context if the seat's view says so
  pub learn : (x : ℕ) (g : Carried) → IsContext w x → carried_at x k.carried ≡ g ∷ [] → g.context ≡ x → g.away ≡ false
      → (b.home x ≡ opt.some (opt.some None)) × (g.named ≡ true → b.name g.place ≡ x)
      × Shows tag_in bits w (with_at d x (record (d x) { away = true })) (record b {
        home = with_at b.home x (opt.some opt.none);
        views = set b.views h (held weight (with_context k (record g { away = true })));
      })
  learn x g x_in got same home =
      let has : carried_if (w.state x) h (carried_of w d x) ≡ g ∷ [] = sym (s.carried h x x_in) ∙ ap (λ (r : Known). carried_at x r.carried) (known-there b.views h (held weight k) mine) ∙ got in
      let f : Bool → ℕ → Carried = carried_of w d x in
      let place : g.place ≡ w.at x = carried-says (w.state x) h f (λ (u : Carried). u.place) g (w.at x) has (λ q t. refl) in
      let is_away : (d x).away ≡ false = sym (carried-says (w.state x) h f (λ (u : Carried). u.away) g (d x).away has (λ q t. refl)) ∙ home in
      let is_named : g.named ≡ (d x).named = carried-says (w.state x) h f (λ (u : Carried). u.named) g (d x).named has (λ q t. refl) in
      let old = s.contexts x x_in in
      let r : Phase = record (d x) { away = true } in
      let e : ℕ → Phase = with_at d x r in
      let now : e x ≡ r = with_at-same d x r in
      let g' : Carried = record g { away = true } in
      let a : Board T = record b { home = with_at b.home x (opt.some opt.none); views = set b.views h (held weight (with_context k g')) } in
      let c : Small = record { state = w.state; generation = w.generation; given = w.given; ended = w.ended } in (
        carried-empty tag_in (w.state x) h f g (b.home x) has (old.value is_away),
        (λ m. ap b.name place ∙ old.named (sym is_named ∙ m)),
        marking tag_in bits w c d e b a x h weight k (with_context k g') s x_in
            (record {
              mine = mine;
              views = refl;
              occ = λ j _. refl;
              mark = λ z _ m. refl;
              home = λ z _ m. with_at-other b.home x (opt.some opt.none) z m;
              name = λ p _ m. refl;
              phase = λ z m. with_at-other d x r z m;
              carried = λ z m. with-else g' x z k.carried same m;
              state = λ z m. refl;
              generation = λ z m. refl;
            })
            s.owned
            (record {
              within = subst (λ (u : Phase). IsPlace w u.shown) (sym now) old.within;
              coherent = subst (λ (u : Phase). Coherent (w.state x) (w.at x) u) (sym now) (carried-coherent (w.state x) (w.at x) (d x) h f g true has old.coherent);
              mark = old.mark ∙ ap (λ (u : Phase). mark_word bits (record (marked w x) { place = u.shown })) (sym now);
              named = λ m. old.named (ap (λ (u : Phase). u.named) (sym now) ∙ m);
              value = λ m. absurd (true≢false (ap (λ (u : Phase). u.away) (sym now) ∙ m));
            })
            (s.names (w.at x) (s.owned.placed x x_in))
            (with-at g' x k.carried same ∙ sym (carried-again (w.state x) h f (carried_of w e x) g g' has (λ q t is. λ i. record {
              context = (is i).context;
              place = (is i).place;
              shown = (ap (λ (u : Carried). u.shown) is ∙ sym (ap (λ (u : Phase). u.shown) now)) i;
              generation = (is i).generation;
              held = (is i).held;
              tag = (is i).tag;
              alone = (is i).alone;
              named = (ap (λ (u : Carried). u.named) is ∙ sym (ap (λ (u : Phase). u.named) now)) i;
              away = sym (ap (λ (u : Phase). u.away) now) i;
            })))
            (λ j m. carried-alone (w.state x) h j f f g has m ∙ sym (carried-alone (w.state x) h j f (carried_of w e x) g has m))
            (λ t. s.given t ∙ given-same b.views h weight k (with_context k g') mine refl t)
            (λ t. s.ended t ∙ ended-same b.views h weight k (with_context k g') mine refl t),
      )

  -- what a seat carries at one place is one context
  pub one-claim : (x y : ℕ) (g f : Carried) → IsContext w x → IsContext w y → carried_at x k.carried ≡ g ∷ [] → carried_at y k.carried ≡ f ∷ [] → g.place ≡ f.place → x ≡ y
  one-claim x y g f x_in y_in got also same =
      let at : (z : ℕ) (u : Carried) → IsContext w z → carried_at z k.carried ≡ u ∷ [] → u.place ≡ w.at z = λ z u z_in has.
      carried-says (w.state z) h (carried_of w d z) (λ (r : Carried). r.place) u (w.at z) (sym (s.carried h z z_in) ∙ ap (λ (r : Known). carried_at z r.carried) (known-there b.views h (held weight k) mine) ∙ has) (λ q t. refl) in
      s.owned.apart x y x_in y_in (sym (at x g x_in got) ∙ same ∙ at y f y_in also)
