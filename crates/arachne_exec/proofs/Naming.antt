-- Each kind of step keeps that a mark says how many jobs have ended at its place.
use Rattle.std.proofs.Common.{◌≡◌, ◌≢◌, ⊎_elim, ℕ, ◌+◌, ◌*◌, ◌/◌, ◌<◌, ◌≤◌, min, List, [], ◌∷◌, ◌++◌, length, get_or, set, sym, ap, ◌∙◌, subst, arith, get_or-set_other}
use Rattle.std.proofs.lemmas.Grind.{get_or-set_at}
use mathlib.Core.{Logic.dite, Option.some}
use mathlib.Core.Option as maybe
use native.Mathlib.Decide.{ℕ_discrete}
use lib.ListN.{get_elem?}
use Rattle.atomic_table.proofs.Lists.{at_set}
use Rattle.arachne_weights.specs.declared.token.Token.{Token}
use Rattle.arachne_weights.proofs.Totals.{total-set}
use Rattle.arachne_exec.specs.{declared.view.Notes.Notes, Layout.{mark_at, last_generation}}
use Rattle.arachne_exec.specs.Board.{places_in, ends_at, Board, FoundLast, CountsEnds}
use Rattle.arachne_exec.proofs.{Bits.{one-same, one-apart}, Keeping.{mark_apart, places-cons}}

-- what a seat has found last of the marks of the places in its hand
abbrev pub Knows : ℕ → List ℕ → Notes → Type 0
Knows blocks words k = (p : ℕ) → p < 64 * blocks → 0 < places_in p k.hand → FoundLast words p k.looks

pub found-word : (ws : List ℕ) (p i : ℕ) (ds : List (ℕ × ℕ)) → FoundLast ws p ((i, get_or ws i 0) ∷ ds)
found-word ws p i ds = λ e. ap (λ x. get_or ws x 0 / 4) e

-- the mark has the generation that it had
pub found-on : (ws now : List ℕ) (p : ℕ) → get_or now (mark_at p) 0 / 4 ≡ get_or ws (mark_at p) 0 / 4 → (ds : List (ℕ × ℕ)) → FoundLast ws p ds → FoundLast now p ds
found-on ws now p same [] f = elim f [ ]
found-on ws now p same (look ∷ ds) f = λ e. f e ∙ sym same

-- older looks don't matter
pub found-longer : (ws : List ℕ) (p : ℕ) (ds es : List (ℕ × ℕ)) → FoundLast ws p ds → FoundLast ws p (ds ++ es)
found-longer ws p [] es f = elim f [ ]
found-longer ws p (look ∷ ds) es f = f

module _ (blocks : ℕ) (b : Board) (r : CountsEnds blocks b) (h : ℕ) (v u : Token Notes) (mine : get_elem? b.views h ≡ some v) where
  -- the hand has no other place, and nothing was looked at
  pub knows-less : u.known.looks ≡ v.known.looks → ((p : ℕ) → places_in p u.known.hand ≤ places_in p v.known.hand) → Knows blocks b.words u.known
  knows-less same less p inside has = subst (λ ds. FoundLast b.words p ds) (sym same) (r.found h v mine p inside (omega (arith, has, less p)))

  module _ (homes : List (maybe.Option ℕ)) where
    -- no mark gets another generation
    pub names-on : (ws : List ℕ) → ((p : ℕ) → p < 64 * blocks → get_or ws (mark_at p) 0 / 4 ≡ get_or b.words (mark_at p) 0 / 4) → u.known.ended ≡ v.known.ended → Knows blocks b.words u.known
        → CountsEnds blocks (record { words = ws; homes = homes; views = set b.views h u })
    names-on ws marks ended knows = record {
      counted = λ p inside.
          let total = total-set (λ (t : Token Notes). places_in p t.known.ended) b.views h v u mine in let same = ap (places_in p) ended in
          marks p inside ∙ r.counted p inside ∙ ap (min last_generation) (omega (arith, total, same));
      found = λ j t there p inside has. found-on b.words ws p (marks p inside) t.known.looks (⊎_elim
          (λ e. subst (λ (y : Token Notes). FoundLast b.words p y.known.looks) e.1 (knows p inside (subst (λ (y : Token Notes). 0 < places_in p y.known.hand) (sym e.1) has)))
          (λ e. r.found j t e.1 p inside has)
          (at_set b.views h j u t there));
    }

    -- a job has ended at a place that no other seat has in hand
    module _ (q : ℕ) (room : mark_at q < length b.words) (m : ℕ) where
      pub mark-else : (p : ℕ) → q ≢ p → get_or (set b.words (mark_at q) m) (mark_at p) 0 ≡ get_or b.words (mark_at p) 0
      mark-else p ne = get_or-set_other b.words (mark_at q) (mark_at p) m 0 (λ e. ne (sym (mark_apart p q e)))

      pub found-new : (p : ℕ) (ds : List (ℕ × ℕ)) → FoundLast (set b.words (mark_at q) m) p ((mark_at q, m) ∷ ds)
      found-new p ds = λ e. ap (λ x. x / 4) (sym (get_or-set_at b.words (mark_at q) (mark_at p) m 0 (sym e) room))

      pub names-ended : (x : ℕ) → u.known.ended ≡ (q, x) ∷ v.known.ended → m / 4 ≡ min last_generation (ends_at q b.views + 1)
          → ((j : ℕ) (t : Token Notes) → j ≢ h → get_elem? b.views j ≡ some t → places_in q t.known.hand ≡ 0)
          → Knows blocks (set b.words (mark_at q) m) u.known → CountsEnds blocks (record { words = set b.words (mark_at q) m; homes = homes; views = set b.views h u })
      names-ended x ended now alone knows = record {
        counted = λ p inside.
            let total = total-set (λ (t : Token Notes). places_in p t.known.ended) b.views h v u mine in let more = ap (places_in p) ended ∙ places-cons p q x v.known.ended in dite (ℕ_discrete q p)
            (λ e. let one_ = one-same q p e in let count : ends_at q b.views + 1 ≡ ends_at p (set b.views h u) = ap (λ x. ends_at x b.views + 1) e ∙ omega (arith, total, more, one_) in
            ap (λ x. x / 4) (get_or-set_at b.words (mark_at q) (mark_at p) m 0 (ap mark_at (sym e)) room) ∙ now ∙ ap (min last_generation) count)
            (λ ne. let none_ = one-apart q p ne in
            ap (λ x. x / 4) (mark-else p ne) ∙ r.counted p inside ∙ ap (min last_generation) (omega (arith, total, more, none_)));
        found = λ j t there p inside has. ⊎_elim
            (λ e. subst (λ (y : Token Notes). FoundLast (set b.words (mark_at q) m) p y.known.looks) e.1 (knows p inside (subst (λ (y : Token Notes). 0 < places_in p y.known.hand) (sym e.1) has)))
            (λ e. dite (ℕ_discrete q p)
            (λ same. let none_ = alone j t e.0 e.1 in let is = ap (λ x. places_in x t.known.hand) same in absurd (omega (arith, has, none_, is)))
            (λ ne. found-on b.words (set b.words (mark_at q) m) p (ap (λ x. x / 4) (mark-else p ne)) t.known.looks (r.found j t e.1 p inside has)))
            (at_set b.views h j u t there);
      }
