-- Each kind of step keeps that a block with a ready job has its bit in the summary word, or is owed it.
use Rattle.std.proofs.Common.{◌≡◌, ◌≢◌, inl, inr, ⊎_elim, ℕ, ◌+◌, ◌<◌, List, get_or, set, sym, ◌∙◌, subst, arith}
use mathlib.Core.{Logic.dite, Option.some}
use mathlib.Core.Option as maybe
use native.Mathlib.Decide.{ℕ_discrete}
use lib.ListN.{get_elem?}
use Rattle.arachne_weights.specs.declared.token.Token.{Token}
use Rattle.arachne_exec.specs.{declared.view.Notes.Notes, Layout.{summary_at, ready_at, in_word}}
use Rattle.arachne_exec.specs.Board.{Board, IsShown}
use Rattle.arachne_exec.proofs.{Bits.one-same, Debts.{with-same, with-more, with-others}}

module _ (blocks : ℕ) (b : Board) (r : IsShown blocks b) (h : ℕ) (v u : Token Notes) (mine : get_elem? b.views h ≡ some v) (ws : List ℕ) (homes : List (maybe.Option ℕ)) where
  -- no block's ready word gets its first job, and no summary word changes
  pub shows-on : ((c : ℕ) → 0 < get_or ws (ready_at c) 0 → 0 < get_or b.words (ready_at c) 0) → ((c : ℕ) → in_word summary_at ws c ≡ in_word summary_at b.words c)
      → u.known.unshown ≡ v.known.unshown → IsShown blocks (record { words = ws; homes = homes; views = set b.views h u })
  shows-on fewer bits same = record {
    shown = λ c inside some_ready. ⊎_elim (λ set_. inl (bits c ∙ set_)) (λ o. let e = with-same (λ k. k.unshown) b.views h v u mine same c in inr (omega (arith, o, e))) (r.shown c inside (fewer c some_ready));
  }

  module _ (d : ℕ) where
    -- the seat owes the bit of one block more
    pub shows-owing : v.known.unshown ≡ 0 → u.known.unshown ≡ d + 1 → ((c : ℕ) → c ≢ d → 0 < get_or ws (ready_at c) 0 → 0 < get_or b.words (ready_at c) 0)
        → ((c : ℕ) → c ≢ d → in_word summary_at ws c ≡ in_word summary_at b.words c) → IsShown blocks (record { words = ws; homes = homes; views = set b.views h u })
    shows-owing was now fewer bits = record {
      shown = λ c inside some_ready. let more = with-more (λ k. k.unshown) b.views h v u mine d was now c in dite (ℕ_discrete d c)
          (λ e. let here = one-same (d + 1) (c + 1) (omega (arith, e)) in inr (omega (arith, more, here)))
          (λ ne. ⊎_elim (λ set_. inl (bits c (λ s. ne (sym s)) ∙ set_)) (λ o. inr (omega (arith, o, more))) (r.shown c inside (fewer c (λ s. ne (sym s)) some_ready)));
    }

    -- the seat has paid for one block
    pub shows-paid : v.known.unshown ≡ d + 1 → u.known.unshown ≡ 0 → (0 < get_or ws (ready_at d) 0 → in_word summary_at ws d ≡ 1)
        → ((c : ℕ) → c ≢ d → 0 < get_or ws (ready_at c) 0 → 0 < get_or b.words (ready_at c) 0)
        → ((c : ℕ) → c ≢ d → in_word summary_at ws c ≡ in_word summary_at b.words c) → IsShown blocks (record { words = ws; homes = homes; views = set b.views h u })
    shows-paid was now here fewer bits = record {
      shown = λ c inside some_ready. dite (ℕ_discrete d c)
          (λ e. inl (subst (λ x. 0 < get_or ws (ready_at x) 0 → in_word summary_at ws x ≡ 1) e here some_ready))
          (λ ne. let same = with-others (λ k. k.unshown) b.views h v u mine d was now c (λ s. ne (sym s)) in
          ⊎_elim (λ set_. inl (bits c (λ s. ne (sym s)) ∙ set_)) (λ o. inr (omega (arith, o, same))) (r.shown c inside (fewer c (λ s. ne (sym s)) some_ready)));
    }
