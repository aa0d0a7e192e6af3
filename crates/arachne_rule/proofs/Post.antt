-- A post.
use Rattle.std.proofs.Common.{◌≡◌, ℕ, true, false, ◌&&◌, ◌∷◌, refl, sym, ap, ◌∙◌, subst, set, []}
use Rattle.std.specs.declared.option.Option.TheVariants.{Some}
use mathlib.Core.Option as opt
use lib.ListN.{get_elem?}
use Rattle.arachne_core.specs.{declared.{place.Place.Place, state.State.State}, Marked.mark_word}
use Rattle.arachne_core.specs.{declared.state.State.TheVariants.{Claimed, Ready}, ContextTable.{mark_of, is_live_state}}
use Rattle.arachne_core.specs.World.{World, IsContext, IsPlace, core_of, id_of, with_at, with_thread, Allowed, after}
use Rattle.arachne_core.proofs.{Changes.{with_at-same, with_at-other}, KeepsOwnedOnce.keeps_owned_once}
use Rattle.arachne_core.specs.declared.event.Event.TheVariants as event
use Rattle.arachne_core.specs.declared.mark.Mark.TheVariants as mark
use Rattle.arachne_weights.specs.Tokens.{held}
use Rattle.arachne_rule.proofs.{Carrying.{without-at, without-else, known-there}, Views.{given-more, ended-same}}
use Rattle.arachne_rule.{proofs.Marking.{Small, small, marking, claimed-carried, not-claimed}, specs.Changes.posted}
use Rattle.arachne_rule.specs.Rule.{settled, Coherent, carried_if, carried_of, share_of, HasValue, Board, Phase, Shows}
use Rattle.arachne_rule.specs.{Views.{carried_at, without}, declared.view.{Carried.Carried, Known.Known}}

module _ {T : Type 0} (tag_in : T → ℕ) (bits : ℕ) (w : World) (d : ℕ → Phase) (b : Board T) (s : Shows tag_in bits w d b)
    (h weight : ℕ) (k : Known) (mine : get_elem? b.views h ≡ opt.some (held weight k)) where
  pub post : (x : ℕ) (g : Carried) (v : T) → IsContext w x → carried_at x k.carried ≡ g ∷ [] → g.context ≡ x → g.held ≡ false → g.named ≡ true
      → Allowed w (event.Post h x (tag_in v))
      × Shows tag_in bits (after w (event.Post h x (tag_in v))) (with_at d x (settled g.place)) (record b {
        mark = with_at b.mark x (mark_word bits (record { mark = mark.Ready; alone = g.alone; place = g.place; generation = g.generation }));
        home = with_at b.home x (opt.some (opt.some (Some v)));
        views = set b.views h (held weight (posted k g (tag_in v)));
      })
  post x g v x_in got same free named =
      let has : share_of w d h x ≡ g ∷ [] = sym (s.carried h x x_in) ∙ ap (λ (r : Known). carried_at x r.carried) (known-there b.views h (held weight k) mine) ∙ got in
      let is = claimed-carried (w.state x) h (carried_of w d x) g (λ q t. refl) has free in
      let claimed : w.state x ≡ Claimed h = is.0 in
      let place : g.place ≡ w.at x = ap (λ (r : Carried). r.place) is.1 in
      let gen : g.generation ≡ w.generation x = ap (λ (r : Carried). r.generation) is.1 in
      let alone : g.alone ≡ w.alone (core_of w x) = ap (λ (r : Carried). r.alone) is.1 in
      let has_name : (d x).named ≡ true = sym (ap (λ (r : Carried). r.named) is.1) ∙ named in
      let may : Allowed w (event.Post h x (tag_in v)) = record { context = x_in; claimed = claimed } in
      let tag : ℕ = tag_in v in
      let c : Small = record { state = with_at w.state x (Ready tag); generation = w.generation; given = with_thread w.given (id_of w x, tag); ended = w.ended } in
      let e : ℕ → Phase = with_at d x (settled g.place) in
      let now : c.state x ≡ Ready tag = with_at-same w.state x (Ready tag) in
      let phase : e x ≡ settled g.place = with_at-same d x (settled g.place) in
      let a : Board T = record b {
        mark = with_at b.mark x (mark_word bits (record { mark = mark.Ready; alone = g.alone; place = g.place; generation = g.generation }));
        home = with_at b.home x (opt.some (opt.some (Some v)));
        views = set b.views h (held weight (posted k g tag));
      } in
      let old = s.contexts x x_in in
      let al : (is_live_state (c.state x) && w.alone (core_of w x)) ≡ g.alone = ap (λ (t : State). is_live_state t && w.alone (core_of w x)) now ∙ sym alone in (
        may,
        marking tag_in bits w c d e b a x h weight k (posted k g tag) s x_in
            (record {
              mine = mine;
              views = refl;
              occ = λ j _. refl;
              mark = λ y _ n. with_at-other b.mark x _ y n;
              home = λ y _ n. with_at-other b.home x _ y n;
              name = λ p _ n. refl;
              phase = λ y n. with_at-other d x (settled g.place) y n;
              carried = λ y n. without-else g.context y k.carried (λ f. n (f ∙ same));
              state = λ y n. with_at-other w.state x (Ready tag) y n;
              generation = λ y n. refl;
            })
            (keeps_owned_once w (event.Post h x tag) s.owned may)
            (record {
              within = subst (λ (p : Place). IsPlace w p) (sym (ap (λ (r : Phase). r.shown) phase ∙ place)) (s.owned.placed x x_in);
              coherent = subst (λ (t : State). Coherent t (w.at x) (e x)) (sym now) ((ap (λ (r : Phase). r.away) phase), ap (λ (r : Phase). r.shown) phase ∙ place);
              mark = with_at-same b.mark x _ ∙ sym (ap (mark_word bits) (λ i. record { mark = mark_of (now i); alone = al i; place = (phase i).shown; generation = sym gen i }));
              named = λ _. old.named has_name;
              value = λ _. subst (λ (t : State). HasValue tag_in t (a.home x)) (sym now) (v, with_at-same b.home x _, refl);
            })
            (s.names (w.at x) (s.owned.placed x x_in))
            (ap (λ (y : ℕ). carried_at y (without g.context k.carried)) (sym same) ∙ without-at g.context k.carried ∙ sym (ap (λ (t : State). carried_if t h (carried_of (small w c) e x)) now))
            (λ j n. ap (λ (t : State). carried_if t j (carried_of w d x)) claimed ∙ not-claimed h j (carried_of w d x) n ∙ sym (ap (λ (t : State). carried_if t j (carried_of (small w c) e x)) now))
            (given-more b.views h weight k (posted k g tag) mine w.given (id_of w x, tag) s.given (λ i. (record { context = same i; generation = gen i }, tag) ∷ k.given))
            (λ t. s.ended t ∙ ended-same b.views h weight k (posted k g tag) mine refl t),
      )
