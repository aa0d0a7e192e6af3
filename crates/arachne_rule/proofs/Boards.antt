-- Words that change, and what the table shows after that.
use Rattle.std.proofs.Common.{◌≡◌, ℕ, ◌*◌, ◌<◌, ◌≤◌, List, length, refl, sym, ap, ◌∙◌, subst, arith, inl, inr, set, get_or, get_or-set_other, Option, get_or-set_same}
use Rattle.std.proofs.lemmas.Bool.{cases_eq}
use mathlib.Core.Option as opt
use lib.ListN.{get_elem?}
use Rattle.atomic_table.{specs.Table.{Act, keeps, stepped, homes_after}, proofs.Lists.{set_here, set_else}}
use Rattle.arachne_core.{proofs.Changes.{with_at-same, with_at-other, cases_place}, specs.declared.place.Place.Place}
use Rattle.arachne_core.specs.{World.{World, IsContext, IsPlace, with_at}, declared.layout.TheConstants.SLOTS}
use Rattle.arachne_weights.specs.{declared.token.Token.Token, Tokens.IsReachable}
use Rattle.arachne_rule.{proofs.Naming.{with_name-same, with_name-other}, specs.{Changes.with_name, Table.Table}}
use Rattle.arachne_rule.specs.Layout.{contexts_in, occ_index, name_index, words_in, board_of}
use Rattle.arachne_rule.specs.{Rule.{HasValue, Board, Phase, ShowsWord, Shows}, declared.view.Known.Known}
use Rattle.arachne_rule.specs.{Views.{blank, known_at, carried_at, given_in, ended_in}, declared.view.Shape.Shape}

-- a table of this shape has the place
abbrev pub IsIn : Shape → Place → Type 0
IsIn shape p = (p.core < shape.cores) × (p.index < shape.places_per_core)

-- place words of different places are different words
pub name-apart : (n : ℕ) (p q : Place) → p.index < 64 → q.index < 64 → name_index n p ≡ name_index n q → p ≡ q
name-apart n p q p_in q_in e =
    let c : p.core ≡ q.core = omega (arith, e, p_in, q_in) in
    let k : p.index ≡ q.index = omega (arith, e, c) in
    λ j. record { core = c j; index = k j }

module _ {T : Type 0} where
  -- two boards that agree on all words, slots and views of the World
  pub record Same (shape : Shape) (b a : Board T) : Type 0 where
    pub occ : (c : ℕ) → c < shape.cores → a.occ c ≡ b.occ c
    pub mark : (y : ℕ) → y < contexts_in shape → a.mark y ≡ b.mark y
    pub name : (p : Place) → IsIn shape p → a.name p ≡ b.name p
    pub home : (y : ℕ) → y < contexts_in shape → a.home y ≡ b.home y
    pub views : a.views ≡ b.views

  pub same_board : (tag_in : T → ℕ) (bits : ℕ) (shape : Shape) (w : World) (d : ℕ → Phase) (b a : Board T) → w.cores ≡ shape.cores → w.slots ≡ shape.places_per_core
      → Shows tag_in bits w d b → Same shape b a → Shows tag_in bits w d a
  same_board tag_in bits shape w d b a ec es s o =
      let in_context : (x : ℕ) → IsContext w x → x < contexts_in shape = λ x x_in. subst (λ (n : ℕ). x < n) (λ i. ec i * es i) x_in in
      let in_place : (p : Place) → IsPlace w p → IsIn shape p = λ p p_in. (subst (λ (n : ℕ). p.core < n) ec p_in.0, subst (λ (n : ℕ). p.index < n) es p_in.1) in
      record {
        owned = s.owned;
        fits = s.fits;
        beyond = s.beyond;
        cores = λ c c_in. subst (ShowsWord w c) (sym (o.occ c (subst (λ (n : ℕ). c < n) ec c_in))) (s.cores c c_in);
        contexts = λ x x_in. let old = s.contexts x x_in in let y_in = in_context x x_in in record {
          within = old.within;
          coherent = old.coherent;
          mark = o.mark x y_in ∙ old.mark;
          named = λ e. o.name (w.at x) (in_place (w.at x) (s.owned.placed x x_in)) ∙ old.named e;
          value = λ e. subst (HasValue tag_in (w.state x)) (sym (o.home x y_in)) (old.value e);
        };
        names = λ p p_in. subst (IsContext w) (sym (o.name p (in_place p p_in))) (s.names p p_in);
        carried = λ h x x_in. ap (λ (vs : List (Token Known)). carried_at x (known_at vs h).carried) o.views ∙ s.carried h x x_in;
        seats = subst (IsReachable blank) (sym o.views) s.seats;
        given = λ t. s.given t ∙ ap (given_in t) (sym o.views);
        ended = λ t. s.ended t ∙ ap (ended_in t) (sym o.views);
      }

  -- an occupancy word and a view change
  pub core-steps : (shape : Shape) (s : Table T) (c m id : ℕ) (l : List (ℕ × Option T)) (u : Token Known)
      → length s.words ≡ words_in shape → c < shape.cores → shape.places_per_core ≤ SLOTS
      → Same shape (record (board_of (contexts_in shape) s) { occ = with_at (λ (k : ℕ). get_or s.words (occ_index (contexts_in shape) k) 0) c m; views = set s.views id u })
      (board_of (contexts_in shape) (stepped s (occ_index (contexts_in shape) c) m id l u keeps))
  core-steps shape s c m id l u long c_in few =
      let n : ℕ = contexts_in shape in
      let at : ℕ = occ_index n c in
      let f : ℕ → ℕ = λ (k : ℕ). get_or s.words (occ_index n k) 0 in record {
        occ = λ k k_in. elim (cases_eq k c) [
          | inl e ↦ ap (λ (j : ℕ). get_or (set s.words at m) (occ_index n j) 0) e ∙ get_or-set_same s.words at m 0 (omega (arith, long, c_in)) ∙ sym (ap (with_at f c m) e ∙ with_at-same f c m)
          | inr e ↦ get_or-set_other s.words at (occ_index n k) m 0 (λ g. e (omega (arith, g))) ∙ sym (with_at-other f c m k e)
        ];
        mark = λ y y_in. get_or-set_other s.words at y m 0 (λ e. absurd (omega (arith, e, y_in)));
        name = λ p p_in. get_or-set_other s.words at (name_index n p) m 0 (λ e. absurd (omega (arith, e, p_in.1, few)));
        home = λ y y_in. refl;
        views = refl;
      }

  -- a mark word, slots and a view change
  pub mark-steps : (shape : Shape) (s : Table T) (x m id : ℕ) (l : List (ℕ × Option T)) (u : Token Known) (act : Act (Option T)) (home : ℕ → opt.Option (opt.Option (Option T)))
      → length s.words ≡ words_in shape → x < contexts_in shape
      → ((y : ℕ) → y < contexts_in shape → get_elem? (homes_after s.homes l act) y ≡ home y)
      → Same shape (record (board_of (contexts_in shape) s) { mark = with_at (λ (k : ℕ). get_or s.words k 0) x m; home = home; views = set s.views id u })
      (board_of (contexts_in shape) (stepped s x m id l u act))
  mark-steps shape s x m id l u act home long x_in homes =
      let n : ℕ = contexts_in shape in
      let f : ℕ → ℕ = λ (k : ℕ). get_or s.words k 0 in record {
        occ = λ k k_in. get_or-set_other s.words x (occ_index n k) m 0 (λ e. absurd (omega (arith, e, x_in)));
        mark = λ y y_in. elim (cases_eq y x) [
          | inl e ↦ ap (λ (j : ℕ). get_or (set s.words x m) j 0) e ∙ get_or-set_same s.words x m 0 (omega (arith, long, x_in)) ∙ sym (ap (with_at f x m) e ∙ with_at-same f x m)
          | inr e ↦ get_or-set_other s.words x y m 0 e ∙ sym (with_at-other f x m y e)
        ];
        name = λ p p_in. get_or-set_other s.words x (name_index n p) m 0 (λ e. absurd (omega (arith, e, x_in)));
        home = homes;
        views = refl;
      }

  -- a place word, slots and a view change
  pub name-steps : (shape : Shape) (s : Table T) (q : Place) (m id : ℕ) (l : List (ℕ × Option T)) (u : Token Known) (act : Act (Option T)) (home : ℕ → opt.Option (opt.Option (Option T)))
      → length s.words ≡ words_in shape → IsIn shape q → shape.places_per_core ≤ SLOTS
      → ((y : ℕ) → y < contexts_in shape → get_elem? (homes_after s.homes l act) y ≡ home y)
      → Same shape (record (board_of (contexts_in shape) s) { name = with_name (λ (p : Place). get_or s.words (name_index (contexts_in shape) p) 0) q m; home = home; views = set s.views id u })
      (board_of (contexts_in shape) (stepped s (name_index (contexts_in shape) q) m id l u act))
  name-steps shape s q m id l u act home long q_in few homes =
      let n : ℕ = contexts_in shape in
      let i : ℕ = name_index n q in
      let f : Place → ℕ = λ (p : Place). get_or s.words (name_index n p) 0 in record {
        occ = λ k k_in. get_or-set_other s.words i (occ_index n k) m 0 (λ e. absurd (omega (arith, e, q_in.1, few)));
        mark = λ y y_in. get_or-set_other s.words i y m 0 (λ e. absurd (omega (arith, e, y_in)));
        name = λ p p_in. elim (cases_place p q) [
          | inl e ↦ ap (λ (r : Place). get_or (set s.words i m) (name_index n r) 0) e ∙ get_or-set_same s.words i m 0 (omega (arith, long, q_in.0, q_in.1, few)) ∙ sym (ap (with_name f q m) e ∙ with_name-same f q m)
          | inr e ↦ get_or-set_other s.words i (name_index n p) m 0 (λ g. e (name-apart n p q (omega (arith, p_in.1, few)) (omega (arith, q_in.1, few)) g)) ∙ sym (with_name-other f q m p e)
        ];
        home = homes;
        views = refl;
      }

-- one slot leaves, or comes home
pub home-set : {A : Type 0} (hs : List (opt.Option A)) (x : ℕ) (v : opt.Option A) → x < length hs → (y : ℕ) → get_elem? (set hs x v) y ≡ with_at (λ (k : ℕ). get_elem? hs k) x (opt.some v) y
home-set hs x v x_in y = elim (cases_eq y x) [
  | inl e ↦ ap (get_elem? (set hs x v)) e ∙ set_here hs x v x_in ∙ sym (ap (with_at (λ (k : ℕ). get_elem? hs k) x (opt.some v)) e ∙ with_at-same (λ (k : ℕ). get_elem? hs k) x (opt.some v))
  | inr e ↦ set_else hs x y v e ∙ sym (with_at-other (λ (k : ℕ). get_elem? hs k) x (opt.some v) y e)
]
