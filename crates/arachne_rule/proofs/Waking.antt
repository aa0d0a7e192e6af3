-- A wake, by any seat.
use Rattle.std.proofs.Common.{◌≡◌, ℕ, Bool, true, false, ◌&&◌, refl, sym, ap, ◌∙◌, subst, set}
use mathlib.Core.Option as opt
use lib.ListN.{get_elem?}
use Rattle.arachne_core.proofs.{Changes.{with_at-same, with_at-other}, KeepsOwnedOnce.keeps_owned_once}
use Rattle.arachne_core.specs.{ContextTable.{mark_of, is_live_state, marked}, Marked.{Marked, mark_word, marked_of}}
use Rattle.arachne_core.specs.World.{World, IsContext, core_of, with_at, Allowed, after, CanBeWoken, woken}
use Rattle.arachne_core.specs.declared.{mark.Mark.Mark, place.Place.Place, state.State.State}
use Rattle.arachne_core.specs.declared.{state.State.TheVariants.{Ready, Blocked, Held}, thread_id.ThreadId.ThreadId}
use Rattle.arachne_core.specs.declared.event.Event.TheVariants as event
use Rattle.arachne_core.specs.declared.mark.Mark.TheVariants as mark
use Rattle.arachne_weights.specs.Tokens.{held}
use Rattle.arachne_rule.specs.{declared.view.{Carried.Carried, Known.Known}, Views.carried_at}
use Rattle.arachne_rule.specs.Rule.{Coherent, carried_if, carried_of, share_of, HasValue, Board, Phase, Shows}
use Rattle.arachne_rule.proofs.{Carrying.known-there, Views.{given-same, ended-same}, Marking.{Small, marking}}
use Rattle.arachne_rule.proofs.Seen.{seen}

pub blocked-mark : (s : State) → mark_of s ≡ mark.Blocked → (t : ℕ) × (s ≡ Blocked t)
blocked-mark (Blocked t) e = (t, refl)
blocked-mark (Held h true t) e = absurd cc
blocked-mark _ e = absurd cc

pub held-mark : (s : State) → mark_of s ≡ mark.Held → (h t : ℕ) × (s ≡ Held h false t)
held-mark (Held h false t) e = (h, t, refl)
held-mark _ e = absurd cc

module _ {T : Type 0} (tag_in : T → ℕ) (bits : ℕ) (w : World) (d : ℕ → Phase) (b : Board T) (s : Shows tag_in bits w d b)
    (h weight : ℕ) (k : Known) (mine : get_elem? b.views h ≡ opt.some (held weight k)) where
  wakes : (x : ℕ) (old_state new_state : State) (m : Marked) (mk : Mark) → IsContext w x → m ≡ record (marked w x) { place = (d x).shown } → w.state x ≡ old_state
      → CanBeWoken old_state → woken old_state ≡ new_state → mark_of new_state ≡ mk → is_live_state new_state ≡ is_live_state old_state
      → ((j : ℕ) (f : Bool → ℕ → Carried) → carried_if old_state j f ≡ carried_if new_state j f)
      → ((p : Place) (a : Phase) → Coherent old_state p a → Coherent new_state p a)
      → ((z : opt.Option (opt.Option _)) → HasValue tag_in old_state z → HasValue tag_in new_state z)
      → Allowed w (event.Wake (record { context = x; generation = m.generation }))
      × Shows tag_in bits (after w (event.Wake (record { context = x; generation = m.generation }))) d (record b {
        mark = with_at b.mark x (mark_word bits (record m { mark = mk }));
        views = set b.views h (held weight k);
      })
  wakes x os ns m mk x_in x_is was can becomes marks live shares coherent value =
      let id : ThreadId = record { context = x; generation = m.generation } in
      let old = s.contexts x x_in in
      let may : Allowed w (event.Wake id) = record { context = x_in; generation = sym (ap (λ (u : Marked). u.generation) x_is); waits = subst CanBeWoken (sym was) can } in
      let q : World = after w (event.Wake id) in
      let c : Small = record { state = q.state; generation = w.generation; given = w.given; ended = w.ended } in
      let now : q.state x ≡ ns = with_at-same w.state x (woken (w.state x)) ∙ ap woken was ∙ becomes in
      let n : Marked = record m { mark = mk } in
      let a : Board T = record b { mark = with_at b.mark x (mark_word bits n); views = set b.views h (held weight k) } in
      let al : (is_live_state (q.state x) && w.alone (core_of w x)) ≡ m.alone =
      ap (λ (t : State). is_live_state t && w.alone (core_of w x)) now ∙ ap (λ (t : Bool). t && w.alone (core_of w x)) live
      ∙ sym (ap (λ (t : State). is_live_state t && w.alone (core_of w x)) was) ∙ sym (ap (λ (u : Marked). u.alone) x_is) in
      let at_mark : mark_of (q.state x) ≡ mk = ap mark_of now ∙ marks in
      let shared : (j : ℕ) → share_of w d j x ≡ share_of q d j x = λ j.
      ap (λ (t : State). carried_if t j (carried_of w d x)) was ∙ shares j (carried_of w d x) ∙ sym (ap (λ (t : State). carried_if t j (carried_of w d x)) now) in (
        may,
        marking tag_in bits w c d d b a x h weight k k s x_in
            (record {
              mine = mine;
              views = refl;
              occ = λ j _. refl;
              mark = λ y _ o. with_at-other b.mark x (mark_word bits n) y o;
              home = λ y _ o. refl;
              name = λ p _ o. refl;
              phase = λ y o. refl;
              carried = λ y o. refl;
              state = λ y o. with_at-other w.state x (woken (w.state x)) y o;
              generation = λ y o. refl;
            })
            (keeps_owned_once w (event.Wake id) s.owned may)
            (record {
              within = old.within;
              coherent = subst (λ (t : State). Coherent t (w.at x) (d x)) (sym now) (coherent (w.at x) (d x) (subst (λ (t : State). Coherent t (w.at x) (d x)) was old.coherent));
              mark = with_at-same b.mark x (mark_word bits n) ∙ sym (ap (mark_word bits) (λ i. record { mark = at_mark i; alone = al i; place = (sym x_is i).place; generation = (sym x_is i).generation }));
              named = old.named;
              value = λ e. subst (λ (t : State). HasValue tag_in t (b.home x)) (sym now) (value (b.home x) (subst (λ (t : State). HasValue tag_in t (b.home x)) was (old.value e)));
            })
            (s.names (w.at x) (s.owned.placed x x_in))
            (sym (ap (λ (r : Known). carried_at x r.carried) (known-there b.views h (held weight k) mine)) ∙ s.carried h x x_in ∙ shared h)
            (λ j _. shared j)
            (λ t. s.given t ∙ given-same b.views h weight k k mine refl t)
            (λ t. s.ended t ∙ ended-same b.views h weight k k mine refl t),
      )

  -- BLOCKED to READY
  pub wake_blocked : (x : ℕ) (m : Marked) → IsContext w x → marked_of bits (b.mark x) ≡ m → m.mark ≡ mark.Blocked
      → Allowed w (event.Wake (record { context = x; generation = m.generation }))
      × Shows tag_in bits (after w (event.Wake (record { context = x; generation = m.generation }))) d (record b {
        mark = with_at b.mark x (mark_word bits (record m { mark = mark.Ready }));
        views = set b.views h (held weight k);
      })
  wake_blocked x m x_in read is_blocked =
      let x_is : m ≡ record (marked w x) { place = (d x).shown } = sym read ∙ seen tag_in bits w d b s x x_in in
      let r = blocked-mark (w.state x) (sym (ap (λ (u : Marked). u.mark) x_is) ∙ is_blocked) in
      wakes x (Blocked r.0) (Ready r.0) m mark.Ready x_in x_is r.1 tt refl refl refl (λ j f. refl) (λ p a c. c) (λ z c. c)

  -- HELD to WOKEN
  pub wake_held : (x : ℕ) (m : Marked) → IsContext w x → marked_of bits (b.mark x) ≡ m → m.mark ≡ mark.Held
      → Allowed w (event.Wake (record { context = x; generation = m.generation }))
      × Shows tag_in bits (after w (event.Wake (record { context = x; generation = m.generation }))) d (record b {
        mark = with_at b.mark x (mark_word bits (record m { mark = mark.Woken }));
        views = set b.views h (held weight k);
      })
  wake_held x m x_in read is_held =
      let x_is : m ≡ record (marked w x) { place = (d x).shown } = sym read ∙ seen tag_in bits w d b s x x_in in
      let r = held-mark (w.state x) (sym (ap (λ (u : Marked). u.mark) x_is) ∙ is_held) in
      wakes x (Held r.0 false r.1) (Held r.0 true r.1) m mark.Woken x_in x_is r.2 tt refl refl refl (λ j f. refl) (λ p a c. c) (λ z c. c)
