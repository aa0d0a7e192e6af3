-- The conditions of the table for a split and a join of seats.
use Rattle.std.proofs.Common.{◌≡◌, ℕ, zero, suc, ◌+◌, ◌≤◌, ◌⊎◌, eqb, List, [], ◌∷◌, ◌++◌, length, length-set, length-append, refl, sym, ap, ◌∙◌, subst, arith, inl, inr, set}
use Rattle.std.proofs.lemmas.Bool.{true≢false, cond-false, ne_eqb}
use mathlib.Core.Option.{some, some-injective, some-ne-none}
use lib.ListN.{get_elem?}
use Rattle.atomic_table.{specs.Table.{Splits, Joins}, proofs.Lists.{at_set, set_else}}
use Rattle.arachne_weights.specs.{declared.token.Token.Token, Tokens.{held, spent}}
use Rattle.arachne_rule.specs.{declared.view.{Known.Known, Shape.Shape}, Layout.{contexts_in, board_of}, Table.Holds}
use Rattle.arachne_rule.{specs.Views.{blank, first_seat, second_seat, joined_seat}, proofs.Joining.{split, join}}
use Rattle.arachne_rule.specs.History.{records_of, AreOfSeats, Entry}

snoc-at : {A : Type 0} (l : List A) (a b : A) (j : ℕ) → get_elem? (l ++ a ∷ []) j ≡ some b → (get_elem? l j ≡ some b) ⊎ ((j ≡ length l) × (a ≡ b))
snoc-at [] a b zero e = inr (refl, some-injective a b e)
snoc-at [] a b (suc j) e = absurd (some-ne-none b (sym e))
snoc-at (x ∷ xs) a b zero e = inl e
snoc-at (x ∷ xs) a b (suc j) e = elim (snoc-at xs a b j e) [
  | inl f ↦ inl f
  | inr f ↦ inr (ap suc f.0, f.1)
]

-- a seat that isn't there yet has made no step
none-yet : (m h : ℕ) (es : List Entry) → m ≤ h → AreOfSeats m es → records_of h es ≡ []
none-yet m h [] l o = refl
none-yet m h (e ∷ es) l o = cond-false (eqb e.seat h) (e.step ∷ records_of h es) (records_of h es) (ne_eqb e.seat h (λ f. omega (arith, o.0, l, f))) ∙ none-yet m h es l o.1

more-seats : (m q : ℕ) (es : List Entry) → m ≤ q → AreOfSeats m es → AreOfSeats q es
more-seats m q [] l o = tt
more-seats m q (e ∷ es) l o = (omega (arith, o.0, l), more-seats m q es l o.1)

module _ {T : Type 0} (tag_in : T → ℕ) (bits : ℕ) (shape : Shape) where
  deals : (id weight : ℕ) (k : Known) → Splits (Holds tag_in bits shape) id (held weight k) (first_seat (held weight k)) (second_seat (held weight k))
  deals id weight k s hs mine =
      let left : Token Known = first_seat (held weight k) in
      let right : Token Known = second_seat (held weight k) in
      let t = hs.tells in
      let long : length (set s.views id left ++ right ∷ []) ≡ length s.views + 1 = length-append (set s.views id left) (right ∷ []) ∙ ap (λ (m : ℕ). m + 1) (length-set s.views id left) in
      record {
        world = hs.world;
        phase = hs.phase;
        first = hs.first;
        history = hs.history;
        fits = record { cores = hs.fits.cores; slots = hs.fits.slots; last = hs.fits.last; words = hs.fits.words; homes = hs.fits.homes };
        shows = split tag_in bits hs.world hs.phase (board_of (contexts_in shape) s) hs.shows id weight k mine;
        tells = record {
          first_words = t.first_words;
          lawful = t.lawful;
          world = t.world;
          words = t.words;
          seats = more-seats (length s.views) (length (set s.views id left ++ right ∷ [])) hs.history (omega (arith, long)) t.seats;
          records = λ h q r got. elim (snoc-at (set s.views id left) right (held q r) h got) [
            | inl e ↦ elim (at_set s.views id h left (held q r) e) [
              | inl f ↦ ap (λ (z : Token Known). z.known.records) (sym f.1) ∙ t.records id weight k mine ∙ ap (λ (j : ℕ). records_of j hs.history) (sym f.0)
              | inr f ↦ t.records h q r f.1
            ]
            | inr e ↦ ap (λ (z : Token Known). z.known.records) (sym e.1) ∙ sym (none-yet (length s.views) h hs.history (omega (arith, e.0, length-set s.views id left)) t.seats)
          ];
        };
      }

  pub split-allowed : (id : ℕ) (v : Token Known) → v ≡ held v.weight v.known → Splits (Holds tag_in bits shape) id v (first_seat v) (second_seat v)
  split-allowed id v live = subst (λ (u : Token Known). Splits (Holds tag_in bits shape) id u (first_seat v) (second_seat v)) (sym live) (deals id v.weight v.known)

  gathers : (id weight : ℕ) (k : Known) (other added : ℕ) (o : Known) → o.carried ≡ []
      → Joins (Holds tag_in bits shape) id (held weight k) other (held added o) (joined_seat (held weight k) (held added o)) (spent blank)
  gathers id weight k other added o none_out s hs mine apart from =
      let both : Token Known = joined_seat (held weight k) (held added o) in
      let nothing : Token Known = spent blank in
      let t = hs.tells in
      let theirs : get_elem? s.views other ≡ some (held added o) = sym (set_else s.views id other both apart) ∙ from in
      let long : length (set (set s.views id both) other nothing) ≡ length s.views = length-set (set s.views id both) other nothing ∙ length-set s.views id both in
      record {
        world = hs.world;
        phase = hs.phase;
        first = hs.first;
        history = hs.history;
        fits = record { cores = hs.fits.cores; slots = hs.fits.slots; last = hs.fits.last; words = hs.fits.words; homes = hs.fits.homes };
        shows = join tag_in bits hs.world hs.phase (board_of (contexts_in shape) s) hs.shows id weight k mine other added o apart theirs none_out;
        tells = record {
          first_words = t.first_words;
          lawful = t.lawful;
          world = t.world;
          words = t.words;
          seats = subst (λ (m : ℕ). AreOfSeats m hs.history) (sym long) t.seats;
          records = λ h q r got. elim (at_set (set s.views id both) other h nothing (held q r) got) [
            | inl e ↦ absurd (true≢false (sym (ap (λ (z : Token Known). z.live) e.1)))
            | inr e ↦ elim (at_set s.views id h both (held q r) e.1) [
              | inl f ↦ ap (λ (z : Token Known). z.known.records) (sym f.1) ∙ t.records id weight k mine ∙ ap (λ (j : ℕ). records_of j hs.history) (sym f.0)
              | inr f ↦ t.records h q r f.1
            ]
          ];
        };
      }

  pub join-allowed : (id : ℕ) (v : Token Known) (other : ℕ) (u : Token Known) → v ≡ held v.weight v.known → u ≡ held u.weight u.known → u.known.carried ≡ []
      → Joins (Holds tag_in bits shape) id v other u (joined_seat v u) (spent blank)
  join-allowed id v other u mine theirs none_out =
      subst (λ (a : Token Known). Joins (Holds tag_in bits shape) id a other u (joined_seat v u) (spent blank)) (sym mine)
      (subst (λ (a : Token Known). Joins (Holds tag_in bits shape) id (held v.weight v.known) other a (joined_seat v u) (spent blank)) (sym theirs)
      (gathers id v.weight v.known other u.weight u.known none_out))
