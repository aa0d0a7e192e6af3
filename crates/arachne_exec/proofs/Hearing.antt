-- Each kind of step keeps that each mark of a wake was used up or is there, and that each job that was blocked was
-- unblocked or is blocked.
use Rattle.std.proofs.Common.{◌≡◌, ◌≢◌, ℕ, zero, suc, ◌+◌, ◌*◌, ◌/◌, ◌%◌, ◌<◌, List, length, get_or, set, sym, ap, ◌∙◌, subst, arith, get_or-set_same, get_or-set_other}
use mathlib.Core.{Logic.dite, Option.some}
use mathlib.Core.Option as maybe
use native.Mathlib.Decide.{ℕ_discrete}
use lib.ListN.{get_elem?}
use Rattle.arachne_weights.specs.declared.token.Token.{Token}
use Rattle.arachne_weights.proofs.Totals.{total-set}
use Rattle.arachne_exec.specs.{declared.view.Notes.Notes, Layout.mark_at, Board.{one, times, Board, HearsWakes}}
use Rattle.arachne_exec.specs.Changes.{heard_more}
use Rattle.arachne_exec.proofs.{Bits.{one-same, one-apart}, Balancing.more-times, Keeping.mark_apart}

-- one more, or none
times-more : (p n q : ℕ) (xs : List ℕ) → n < 2 → times p (heard_more n q xs) ≡ n * one q p + times p xs
times-more p zero q xs low = omega arith
times-more p (suc zero) q xs low = more-times p q xs ∙ omega arith
times-more p (suc (suc n)) q xs low = absurd (omega (arith, low))

-- it has neither marked a job as woken nor used up such a mark, and has neither blocked nor unblocked one
abbrev pub KeepsMarks : Notes → Notes → Type 0
KeepsMarks k l = (l.woken ≡ k.woken) × (l.heard ≡ k.heard) × (l.blocked ≡ k.blocked) × (l.unblocked ≡ k.unblocked)

-- these are new: how often the place was marked, the mark used up, the place blocked, and unblocked
pub record MarksMore (q a c d e : ℕ) (k l : Notes) : Type 0 where
  pub woken : l.woken ≡ heard_more a q k.woken
  pub heard : l.heard ≡ heard_more c q k.heard
  pub blocked : l.blocked ≡ heard_more d q k.blocked
  pub unblocked : l.unblocked ≡ heard_more e q k.unblocked

module _ (blocks : ℕ) (b : Board) (r : HearsWakes blocks b) (h : ℕ) (v u : Token Notes) (mine : get_elem? b.views h ≡ some v) (homes : List (maybe.Option ℕ)) where
  pub hears-on : (ws : List ℕ) → ((p : ℕ) → p < 64 * blocks → get_or ws (mark_at p) 0 % 4 ≡ get_or b.words (mark_at p) 0 % 4) → KeepsMarks v.known u.known
      → HearsWakes blocks (record { words = ws; homes = homes; views = set b.views h u })
  hears-on ws same marks = record {
    marks = λ p inside.
        let one_ = total-set (λ (t : Token Notes). times p t.known.woken) b.views h v u mine in let two = total-set (λ (t : Token Notes). times p t.known.heard) b.views h v u mine in
        let w = ap (times p) marks.0 in let d = ap (times p) marks.1 in let m = same p inside in let old = r.marks p inside in omega (arith, one_, two, w, d, m, old);
    rests = λ p inside.
        let one_ = total-set (λ (t : Token Notes). times p t.known.blocked) b.views h v u mine in let two = total-set (λ (t : Token Notes). times p t.known.unblocked) b.views h v u mine in
        let w = ap (times p) marks.2 in let d = ap (times p) marks.3 in let m = same p inside in let old = r.rests p inside in omega (arith, one_, two, w, d, m, old);
    unheard = λ p inside. let m = same p inside in let old = r.unheard p inside in omega (arith, m, old);
  }

  module _ (q : ℕ) (room : mark_at q < length b.words) (m : ℕ) where
    abbrev pub old : ℕ
    old = get_or b.words (mark_at q) 0

    here : (p : ℕ) → q ≡ p → get_or (set b.words (mark_at q) m) (mark_at p) 0 ≡ m
    here p e = subst (λ x. get_or (set b.words (mark_at q) m) (mark_at x) 0 ≡ m) e (get_or-set_same b.words (mark_at q) m 0 room)

    there : (p : ℕ) → q ≡ p → get_or b.words (mark_at p) 0 ≡ old
    there p e = sym (ap (λ x. get_or b.words (mark_at x) 0) e)

    else-same : (p : ℕ) → q ≢ p → get_or (set b.words (mark_at q) m) (mark_at p) 0 ≡ get_or b.words (mark_at p) 0
    else-same p ne = get_or-set_other b.words (mark_at q) (mark_at p) m 0 (λ e. ne (sym (mark_apart p q e)))

    -- a mark that says this as before
    pub as-marked : (f : ℕ → ℕ) → f m ≡ f old → (p : ℕ) → f (get_or (set b.words (mark_at q) m) (mark_at p) 0) ≡ f (get_or b.words (mark_at p) 0)
    as-marked f same p = dite (ℕ_discrete q p)
        (λ e. ap f (here p e) ∙ same ∙ ap f (sym (there p e)))
        (λ ne. ap f (else-same p ne))

    module _ (a c d e : ℕ) (few : (a < 2) × (c < 2) × (d < 2) × (e < 2)) (noted : MarksMore q a c d e v.known u.known) where
      -- the mark is another, and what it says more or less is noted
      pub hears-mark : a + old % 2 ≡ c + m % 2 → d + old / 2 % 2 ≡ e + m / 2 % 2 → m % 4 < 3 → HearsWakes blocks (record { words = set b.words (mark_at q) m; homes = homes; views = set b.views h u })
      hears-mark marks rests low = record {
        marks = λ p inside.
            let one_ = total-set (λ (t : Token Notes). times p t.known.woken) b.views h v u mine in let two = total-set (λ (t : Token Notes). times p t.known.heard) b.views h v u mine in
            let w = ap (times p) noted.woken ∙ times-more p a q v.known.woken few.0 in let g = ap (times p) noted.heard ∙ times-more p c q v.known.heard few.1 in let before = r.marks p inside in dite (ℕ_discrete q p)
            (λ s. let x : a * one q p ≡ a = ap (λ y. a * y) (one-same q p s) ∙ omega arith in let y : c * one q p ≡ c = ap (λ y. c * y) (one-same q p s) ∙ omega arith in
            let i = ap (λ y. y % 2) (here p s) in let j = ap (λ y. y % 2) (there p s) in omega (arith, one_, two, w, g, before, x, y, i, j, marks))
            (λ ne. let x : a * one q p ≡ 0 = ap (λ y. a * y) (one-apart q p ne) ∙ omega arith in let y : c * one q p ≡ 0 = ap (λ y. c * y) (one-apart q p ne) ∙ omega arith in
            let i = ap (λ y. y % 2) (else-same p ne) in omega (arith, one_, two, w, g, before, x, y, i));
        rests = λ p inside.
            let one_ = total-set (λ (t : Token Notes). times p t.known.blocked) b.views h v u mine in let two = total-set (λ (t : Token Notes). times p t.known.unblocked) b.views h v u mine in
            let w = ap (times p) noted.blocked ∙ times-more p d q v.known.blocked few.2 in let g = ap (times p) noted.unblocked ∙ times-more p e q v.known.unblocked few.3 in let before = r.rests p inside in dite (ℕ_discrete q p)
            (λ s. let x : d * one q p ≡ d = ap (λ y. d * y) (one-same q p s) ∙ omega arith in let y : e * one q p ≡ e = ap (λ y. e * y) (one-same q p s) ∙ omega arith in
            let i = ap (λ y. y / 2 % 2) (here p s) in let j = ap (λ y. y / 2 % 2) (there p s) in omega (arith, one_, two, w, g, before, x, y, i, j, rests))
            (λ ne. let x : d * one q p ≡ 0 = ap (λ y. d * y) (one-apart q p ne) ∙ omega arith in let y : e * one q p ≡ 0 = ap (λ y. e * y) (one-apart q p ne) ∙ omega arith in
            let i = ap (λ y. y / 2 % 2) (else-same p ne) in omega (arith, one_, two, w, g, before, x, y, i));
        unheard = λ p inside. dite (ℕ_discrete q p)
            (λ s. let is = here p s in omega (arith, is, low))
            (λ ne. let is = else-same p ne in let was = r.unheard p inside in omega (arith, is, was));
      }
