-- Each kind of step keeps that a place which isn't free has a job that was spawned there, or is owed one.
use Rattle.std.proofs.Common.{◌≡◌, ℕ, ◌+◌, List, ◌∷◌, set, ap, ◌∙◌, arith}
use mathlib.Core.{Logic.dite, Option.some}
use mathlib.Core.Option as maybe
use native.Mathlib.Decide.{ℕ_discrete}
use lib.ListN.{get_elem?}
use Rattle.arachne_weights.specs.declared.token.Token.{Token}
use Rattle.arachne_weights.proofs.Totals.{total-set}
use Rattle.arachne_exec.specs.{declared.view.Notes.Notes, Board.{one, times, places_in, is_free, Board, HasJobOrIsFree}}
use Rattle.arachne_exec.proofs.{Bits.{one-same, one-apart}, Keeping.places-cons, Balancing.more-times}
use Rattle.arachne_exec.proofs.Debts.{with-same, with-more, with-less}

-- it has spawned no job and freed no place, and owes what it owed
abbrev pub KeepsTurns : Notes → Notes → Type 0
KeepsTurns k l = (l.spawned ≡ k.spawned) × (l.freed ≡ k.freed) × (l.unspawned ≡ k.unspawned)

one-next : (q p : ℕ) → one (q + 1) (p + 1) ≡ one q p
one-next q p = dite (ℕ_discrete q p)
    (λ e. let a = one-same q p e in let b = one-same (q + 1) (p + 1) (ap (λ n. n + 1) e) in omega (arith, a, b))
    (λ ne. let a = one-apart q p ne in let b = one-apart (q + 1) (p + 1) (λ e. ne (omega (arith, e))) in omega (arith, a, b))

module _ (blocks : ℕ) (b : Board) (r : HasJobOrIsFree blocks b) (h : ℕ) (v u : Token Notes) (mine : get_elem? b.views h ≡ some v) (ws : List ℕ) (homes : List (maybe.Option ℕ)) where
  pub turns-on : ((p : ℕ) → is_free ws p ≡ is_free b.words p) → KeepsTurns v.known u.known → HasJobOrIsFree blocks (record { words = ws; homes = homes; views = set b.views h u })
  turns-on free same = record {
    turns = λ p inside.
        let a = ap (places_in p) same.0 in let c = ap (times p) same.1 in let d = with-same (λ k. k.unspawned) b.views h v u mine same.2 p in
        omega (arith, total-set (λ (t : Token Notes). places_in p t.known.spawned) b.views h v u mine, total-set (λ (t : Token Notes). times p t.known.freed) b.views h v u mine, a, c, d, free p, r.turns p inside);
  }

  module _ (q : ℕ) where
    -- a free place is claimed
    pub turns-claimed : ((p : ℕ) → is_free ws p + one q p ≡ is_free b.words p) → v.known.unspawned ≡ 0 → u.known.unspawned ≡ q + 1 → u.known.spawned ≡ v.known.spawned → u.known.freed ≡ v.known.freed
        → HasJobOrIsFree blocks (record { words = ws; homes = homes; views = set b.views h u })
    turns-claimed free was now spawned freed = record {
      turns = λ p inside.
          let a = ap (places_in p) spawned in let c = ap (times p) freed in let d = with-more (λ k. k.unspawned) b.views h v u mine q was now p in
          omega (arith, total-set (λ (t : Token Notes). places_in p t.known.spawned) b.views h v u mine, total-set (λ (t : Token Notes). times p t.known.freed) b.views h v u mine, a, c, d, one-next q p, free p, r.turns p inside);
    }

    -- a job is spawned at the place that was claimed
    pub turns-spawned : (x : ℕ) → ((p : ℕ) → is_free ws p ≡ is_free b.words p) → v.known.unspawned ≡ q + 1 → u.known.unspawned ≡ 0 → u.known.spawned ≡ (q, x) ∷ v.known.spawned → u.known.freed ≡ v.known.freed
        → HasJobOrIsFree blocks (record { words = ws; homes = homes; views = set b.views h u })
    turns-spawned x free was now spawned freed = record {
      turns = λ p inside.
          let a = ap (places_in p) spawned ∙ places-cons p q x v.known.spawned in let c = ap (times p) freed in let d = with-less (λ k. k.unspawned) b.views h v u mine q was now p in
          omega (arith, total-set (λ (t : Token Notes). places_in p t.known.spawned) b.views h v u mine, total-set (λ (t : Token Notes). times p t.known.freed) b.views h v u mine, a, c, d, one-next q p, free p, r.turns p inside);
    }

    -- a place is freed
    pub turns-freed : ((p : ℕ) → is_free ws p ≡ is_free b.words p + one q p) → u.known.unspawned ≡ v.known.unspawned → u.known.spawned ≡ v.known.spawned → u.known.freed ≡ q ∷ v.known.freed
        → HasJobOrIsFree blocks (record { words = ws; homes = homes; views = set b.views h u })
    turns-freed free same spawned freed = record {
      turns = λ p inside.
          let a = ap (places_in p) spawned in let c = ap (times p) freed ∙ more-times p q v.known.freed in let d = with-same (λ k. k.unspawned) b.views h v u mine same p in
          omega (arith, total-set (λ (t : Token Notes). places_in p t.known.spawned) b.views h v u mine, total-set (λ (t : Token Notes). times p t.known.freed) b.views h v u mine, a, c, d, free p, r.turns p inside);
    }
