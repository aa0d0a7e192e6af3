-- Steps on an occupancy word.
use Rattle.std.proofs.Common.{◌≡◌, ℕ, ◌+◌, ◌<◌, ◌^◌, Bool, true, false, List, refl, sym, ap, ◌∙◌, subst, arith, inl, inr, set, get_or, get_or-set_other, get_or-set_same}
use Rattle.std.proofs.lemmas.Bool.{cases_eq}
use mathlib.Core.Option.{some}
use lib.ListN.{get_elem?}
use Rattle.arachne_core.specs.declared.{layout.TheConstants.MASK_BITS, place.Place.Place, state.State.State}
use Rattle.arachne_core.specs.{declared.state.State.TheVariants.Free, Occupancy.{occupancy_of, HasOneMore}}
use Rattle.arachne_core.specs.{World.{World, IsContext, IsPlace, core_of, with_at, with_place}, OwnedOnce.OwnedOnce}
use Rattle.arachne_core.proofs.Changes.{with_at-other, with_place-same, with_place-other}
use Rattle.arachne_core.proofs.OccupancyWords.{has_one_more, length-flags}
use Rattle.arachne_weights.specs.{declared.token.Token.Token, Tokens.{held, IsReachable, learns}}
use Rattle.arachne_rule.specs.{declared.view.Known.Known, Views.{blank, known_at, carried_at, given_in, ended_in}}
use Rattle.arachne_rule.specs.Rule.{share_of, Board, Phase, ShowsWord, ShowsContext, Shows}
use Rattle.arachne_rule.proofs.OneContext.{Change, changed, one_context}
use Rattle.arachne_rule.proofs.Views.{learned-else, learned-here, given-same, ended-same}

-- context x gets a state, its place is occupied or not, and cores may be exclusive or not
abbrev pub occupying_world : World → ℕ → State → Bool → (ℕ → Bool) → World
occupying_world w x st q al = record w { state = with_at w.state x st; occupied = with_place w.occupied (w.at x) q; alone = al }

module _ {T : Type 0} (tag_in : T → ℕ) (bits : ℕ) where
  pub record AtCore (w : World) (x : ℕ) (al : ℕ → Bool) (d e : ℕ → Phase) (b a : Board T) (h weight : ℕ) (before after : Known) : Type 0 where
    pub mine : get_elem? b.views h ≡ some (held weight before)
    pub views : a.views ≡ set b.views h (held weight after)
    pub occ : (k : ℕ) → k < w.cores → (k ≡ core_of w x → ⊥) → a.occ k ≡ b.occ k
    pub mark : (y : ℕ) → IsContext w y → a.mark y ≡ b.mark y
    pub home : (y : ℕ) → IsContext w y → a.home y ≡ b.home y
    pub name : (p : Place) → IsPlace w p → a.name p ≡ b.name p
    pub phase : (y : ℕ) → (y ≡ x → ⊥) → e y ≡ d y
    pub carried : (y : ℕ) → (y ≡ x → ⊥) → carried_at y after.carried ≡ carried_at y before.carried
    pub given : after.given ≡ before.given
    pub ended : after.ended ≡ before.ended
    pub alone : (k : ℕ) → k < w.cores → (k ≡ core_of w x → ⊥) → al k ≡ w.alone k
    pub beside : (y : ℕ) → IsContext w y → (y ≡ x → ⊥) → (w.state y ≡ Free → ⊥) → al (core_of w y) ≡ w.alone (core_of w y)

  pub occupying : (w : World) (x : ℕ) (st : State) (q : Bool) (al : ℕ → Bool) (d e : ℕ → Phase) (b a : Board T) (h weight : ℕ) (before after : Known)
      → Shows tag_in bits w d b → IsContext w x → AtCore w x al d e b a h weight before after
      → OwnedOnce (occupying_world w x st q al)
      → ShowsWord (occupying_world w x st q al) (core_of w x) (a.occ (core_of w x))
      → ShowsContext tag_in bits (occupying_world w x st q al) e a x
      → carried_at x after.carried ≡ share_of (occupying_world w x st q al) e h x
      → ((k : ℕ) → (k ≡ h → ⊥) → share_of w d k x ≡ share_of (occupying_world w x st q al) e k x)
      → Shows tag_in bits (occupying_world w x st q al) e a
  occupying w x st q al d e b a h weight before after s x_in o owned word here share others =
      let all : Change = record { state = with_at w.state x st; generation = w.generation; occupied = with_place w.occupied (w.at x) q; closed = w.closed; alone = al; given = w.given; ended = w.ended } in
      one_context tag_in bits w all d e b a x s x_in
      (record {
        state = with_at-other w.state x st;
        generation = λ y n. refl;
        occupied = with_place-other w.occupied (w.at x) q;
        phase = o.phase;
        alone = o.beside;
        mark = λ y y_in n. o.mark y y_in;
        home = λ y y_in n. o.home y y_in;
        name = λ p p_in n. o.name p p_in;
        carried = λ k y y_in n. ap (λ (vs : List (Token Known)). carried_at y (known_at vs k).carried) o.views
            ∙ learned-else b.views h weight before after o.mine y (o.carried y n) k;
      })
      owned
      (λ k k_in. elim (cases_eq k (core_of w x)) [
        | inl f ↦ subst (λ (j : ℕ). ShowsWord (changed w all) j (a.occ j)) (sym f) word
        | inr n ↦ let v = s.cores k k_in in subst (λ (m : ℕ). ShowsWord (changed w all) k m) (sym (o.occ k k_in n))
            (record {
              packed = v.packed;
              shows = record {
                occupied = λ i. v.shows.occupied i ∙ sym (with_place-other w.occupied (w.at x) q (record { core = k; index = i }) (λ f. n (ap (λ (p : Place). p.core) f)));
                closed = v.shows.closed;
                exclusive = v.shows.exclusive ∙ sym (o.alone k k_in n);
              };
            })
      ])
      here
      (subst (IsContext w) (sym (o.name (w.at x) (s.owned.placed x x_in))) (s.names (w.at x) (s.owned.placed x x_in)))
      (λ k. ap (λ (vs : List (Token Known)). carried_at x (known_at vs k).carried) o.views
      ∙ learned-here b.views h weight before after o.mine x (λ (j : ℕ). share_of (occupying_world w x st q al) e j x) share (λ j n. s.carried j x x_in ∙ others j n) k)
      (subst (IsReachable blank) (sym o.views) (learns s.seats h weight before after o.mine))
      (λ t. s.given t ∙ given-same b.views h weight before after o.mine o.given t ∙ ap (given_in t) (sym o.views))
      (λ t. s.ended t ∙ ended-same b.views h weight before after o.mine o.ended t ∙ ap (ended_in t) (sym o.views))

-- the word with one more index shows the World in which that place is occupied
pub one-more-shows : (w : World) (x word i : ℕ) (st : State) (al : ℕ → Bool) → ShowsWord w (core_of w x) word → (w.at x).index ≡ i → i < MASK_BITS
    → al (core_of w x) ≡ w.alone (core_of w x)
    → get_or (occupancy_of word).occupied i false ≡ false
    → ShowsWord (occupying_world w x st true al) (core_of w x) (word + (2 ^ i + 2 ^ MASK_BITS))
one-more-shows w x word i st al v at_i i_in same free =
    let m : HasOneMore word i (word + (2 ^ i + 2 ^ MASK_BITS)) = has_one_more word i v.packed i_in free in
    let c : ℕ = core_of w x in
    record {
      packed = m.new_word;
      shows = record {
        occupied = λ j. ap (λ (bs : List Bool). get_or bs j false) m.occupied ∙ elim (cases_eq j i) [
          | inl f ↦ ap (λ (n : ℕ). get_or (set (occupancy_of word).occupied i true) n false) f
              ∙ get_or-set_same (occupancy_of word).occupied i true false (omega (arith, length-flags MASK_BITS word))
              ∙ sym (with_place-same w.occupied (w.at x) true)
              ∙ ap (λ (n : ℕ). with_place w.occupied (w.at x) true (record { core = c; index = n })) (at_i ∙ sym f)
          | inr n ↦ get_or-set_other (occupancy_of word).occupied i j true false n ∙ v.shows.occupied j
              ∙ sym (with_place-other w.occupied (w.at x) true (record { core = c; index = j }) (λ f. n (ap (λ (p : Place). p.index) f ∙ at_i)))
        ];
        closed = m.closed ∙ v.shows.closed;
        exclusive = m.exclusive ∙ v.shows.exclusive ∙ sym same;
      };
    }
