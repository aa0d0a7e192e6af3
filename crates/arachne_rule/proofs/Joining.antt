-- A split and a join of seats, neither of which changes the World. A seat that is joined into another carries nothing.
use Rattle.std.proofs.Common.{◌≡◌, ◌≢◌, ℕ, zero, suc, ◌+◌, cond, List, ◌∷◌, ◌++◌, length, refl, sym, ap, ◌∙◌, arith, inl, inr, set, get_or, [], count_by}
use Rattle.std.proofs.{Math.Seq.get_or-append_seam, lemmas.List.{get_or_past, Sums.sum_by-append}}
use Rattle.std.{specs.List.sum_by, proofs.lemmas.Bool.cases_eq}
use mathlib.Core.Option as opt
use lib.ListN.{get_elem?}
use Rattle.atomic_table.proofs.Lists.{set_else}
use Rattle.arachne_core.specs.World.{World, Thread, IsContext, same_thread}
use Rattle.arachne_weights.specs.{declared.token.Token.Token, Weight.{first_part, second_part, joined}}
use Rattle.arachne_weights.{specs.Tokens.{held, spent, splits, joins}, proofs.Totals.{total-set, total-snoc}}
use Rattle.arachne_rule.{proofs.Carrying.{known-there, known-set, known-else}, specs.declared.view.Known.Known}
use Rattle.arachne_rule.specs.{Rule.{share_of, Board, Phase, Shows}, Views.{blank, known_at, carried_at, joined_known}}

-- ---- a split

length-set' : {A : Type 0} (xs : List A) (i : ℕ) (y : A) → length (set xs i y) ≡ length xs
length-set' [] i y = refl
length-set' (x ∷ xs) zero y = refl
length-set' (x ∷ xs) (suc i) y = ap suc (length-set' xs i y)

get_or-snoc-else : {A : Type 0} (xs : List A) (y d : A) (k : ℕ) → (k ≡ length xs → ⊥) → get_or (xs ++ y ∷ []) k d ≡ get_or xs k d
get_or-snoc-else [] y d zero n = absurd (n refl)
get_or-snoc-else [] y d (suc k) n = refl
get_or-snoc-else (x ∷ xs) y d zero n = refl
get_or-snoc-else (x ∷ xs) y d (suc k) n = get_or-snoc-else xs y d k (λ e. n (ap suc e))

module _ {T : Type 0} (tag_in : T → ℕ) (bits : ℕ) (w : World) (d : ℕ → Phase) (b : Board T) (s : Shows tag_in bits w d b)
    (h weight : ℕ) (k : Known) (mine : get_elem? b.views h ≡ opt.some (held weight k)) where
  abbrev pub split_views : List (Token Known)
  split_views = set b.views h (held (first_part weight) k) ++ held (second_part weight) blank ∷ []

  known-split : (j : ℕ) → known_at split_views j ≡ known_at b.views j
  known-split j =
      let left : Token Known = held (first_part weight) k in
      let right : Token Known = held (second_part weight) blank in
      elim (cases_eq j (length (set b.views h left))) [
        | inl e ↦ ap (known_at split_views) e ∙ ap (λ (t : Token Known). t.known) (get_or-append_seam (set b.views h left) right [] (spent blank))
            ∙ sym (ap (known_at b.views) (e ∙ length-set' b.views h left) ∙ ap (λ (t : Token Known). t.known) (get_or_past b.views (length b.views) (spent blank) (omega arith)))
        | inr n ↦ ap (λ (t : Token Known). t.known) (get_or-snoc-else (set b.views h left) right (spent blank) j n) ∙ elim (cases_eq j h) [
          | inl f ↦ ap (known_at (set b.views h left)) f ∙ known-set b.views h (held weight k) left mine ∙ sym (ap (known_at b.views) f ∙ known-there b.views h (held weight k) mine)
          | inr m ↦ known-else b.views h j left m
        ]
      ]

  split-total : (f : Token Known → ℕ) → f (held weight k) ≡ f (held (first_part weight) k) → f (held (second_part weight) blank) ≡ 0 → sum_by f b.views ≡ sum_by f split_views
  split-total f e z =
      let one = total-set f b.views h (held weight k) (held (first_part weight) k) mine in
      let two = total-snoc f (set b.views h (held (first_part weight) k)) (held (second_part weight) blank) in omega arith

  pub split : Shows tag_in bits w d (record b { views = split_views })
  split = record {
    owned = s.owned;
    fits = s.fits;
    beyond = s.beyond;
    cores = s.cores;
    contexts = λ x x_in. let o = s.contexts x x_in in record { within = o.within; coherent = o.coherent; mark = o.mark; named = o.named; value = o.value };
    names = s.names;
    carried = λ j x x_in. ap (λ (r : Known). carried_at x r.carried) (known-split j) ∙ s.carried j x x_in;
    seats = splits s.seats h weight k k blank mine;
    given = λ t. s.given t ∙ split-total (λ (v : Token Known). count_by (same_thread t) v.known.given) refl refl;
    ended = λ t. s.ended t ∙ split-total (λ (v : Token Known). count_by (same_thread t) v.known.ended) refl refl;
  }

-- ---- a join

module _ {T : Type 0} (tag_in : T → ℕ) (bits : ℕ) (w : World) (d : ℕ → Phase) (b : Board T) (s : Shows tag_in bits w d b)
    (i weight : ℕ) (k : Known) (mine : get_elem? b.views i ≡ opt.some (held weight k))
    (j added : ℕ) (o : Known) (apart : j ≢ i) (theirs : get_elem? b.views j ≡ opt.some (held added o)) (none_out : o.carried ≡ []) where
  abbrev pub join_views : List (Token Known)
  join_views = set (set b.views i (held (joined weight added) (joined_known k o))) j (spent blank)

  still-theirs : get_elem? (set b.views i (held (joined weight added) (joined_known k o))) j ≡ opt.some (held added o)
  still-theirs = set_else b.views i j (held (joined weight added) (joined_known k o)) apart ∙ theirs

  joined-carried : (h x : ℕ) → IsContext w x → carried_at x (known_at join_views h).carried ≡ share_of w d h x
  joined-carried h x x_in =
      let both : Token Known = held (joined weight added) (joined_known k o) in
      let vs : List (Token Known) = set b.views i both in
      elim (cases_eq h j) [
        | inl e ↦ ap (λ (m : ℕ). carried_at x (known_at join_views m).carried) e ∙ ap (λ (r : Known). carried_at x r.carried) (known-set vs j (held added o) (spent blank) still-theirs)
            ∙ sym (ap (carried_at x) none_out) ∙ sym (ap (λ (r : Known). carried_at x r.carried) (known-there b.views j (held added o) theirs)) ∙ s.carried j x x_in ∙ ap (λ (m : ℕ). share_of w d m x) (sym e)
        | inr m ↦ ap (λ (r : Known). carried_at x r.carried) (known-else vs j h (spent blank) m) ∙ elim (cases_eq h i) [
          | inl e ↦ ap (λ (m : ℕ). carried_at x (known_at vs m).carried) e ∙ ap (λ (r : Known). carried_at x r.carried) (known-set b.views i (held weight k) both mine)
              ∙ sym (ap (λ (r : Known). carried_at x r.carried) (known-there b.views i (held weight k) mine)) ∙ s.carried i x x_in ∙ ap (λ (m : ℕ). share_of w d m x) (sym e)
          | inr l ↦ ap (λ (r : Known). carried_at x r.carried) (known-else b.views i h both l) ∙ s.carried h x x_in
        ]
      ]

  join-total : (f : Token Known → ℕ) → f (held (joined weight added) (joined_known k o)) ≡ f (held weight k) + f (held added o) → f (spent blank) ≡ 0 → sum_by f b.views ≡ sum_by f join_views
  join-total f e z =
      let both : Token Known = held (joined weight added) (joined_known k o) in
      let one = total-set f b.views i (held weight k) both mine in
      let two = total-set f (set b.views i both) j (held added o) (spent blank) still-theirs in omega arith

  pub join : Shows tag_in bits w d (record b { views = join_views })
  join = record {
    owned = s.owned;
    fits = s.fits;
    beyond = s.beyond;
    cores = s.cores;
    contexts = λ x x_in. let q = s.contexts x x_in in record { within = q.within; coherent = q.coherent; mark = q.mark; named = q.named; value = q.value };
    names = s.names;
    carried = joined-carried;
    seats = joins s.seats i j weight added k o (joined_known k o) mine apart theirs;
    given = λ t. s.given t ∙ join-total (λ (v : Token Known). count_by (same_thread t) v.known.given) (sum_by-append (λ (u : Thread). cond (same_thread t u) 1 0) k.given o.given) refl;
    ended = λ t. s.ended t ∙ join-total (λ (v : Token Known). count_by (same_thread t) v.known.ended) (sum_by-append (λ (u : Thread). cond (same_thread t u) 1 0) k.ended o.ended) refl;
  }
