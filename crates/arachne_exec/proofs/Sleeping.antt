-- Each kind of step keeps that a sleeper is woken, and that each sleep ends once.
use Rattle.std.proofs.Common.{◌≡◌, ◌≢◌, ◌⊎◌, inl, ⊎_elim, ℕ, zero, suc, ◌+◌, ◌-◌, ◌*◌, ◌%◌, ◌<◌, ◌≤◌, List, ◌∷◌, get_or, set, sym, ap, ◌∙◌, subst, arith}
use Rattle.std.proofs.lemmas.List.Sums.{sum_by-cons}
use Rattle.std.specs.Int.{bit_at}
use mathlib.Core.Option.{some}
use mathlib.Core.Option as maybe
use lib.ListN.{get_elem?}
use Rattle.atomic_table.proofs.Lists.{at_set}
use Rattle.arachne_weights.specs.declared.token.Token.{Token}
use Rattle.arachne_weights.proofs.Totals.{total-set, two-le-total}
use Rattle.arachne_exec.specs.declared.view.{Notes.Notes, SleepDeed.SleepDeed}
use Rattle.arachne_exec.specs.declared.view.SleepDeed.TheVariants.{LayDown, LayOn, Rose, Roused}
use Rattle.arachne_exec.specs.Layout.{idle_at, numbers_at, summary_at}
use Rattle.arachne_exec.specs.Board.{one, lies_by, rises_by, rouses_by, lies_in, rises_in, rouses_in, owed, seats_of, is_idle, Board, WakesSleepers}
use Rattle.arachne_exec.specs.Changes.{lain_more, risen_more}
use Rattle.arachne_exec.proofs.{Bits.one-same, Debts.with-same}

-- what one deed more counts
deed-counts : (w : ℕ) (d : SleepDeed) (xs : List SleepDeed) → (lies_in w (d ∷ xs) ≡ lies_by w d + lies_in w xs) × (rises_in w (d ∷ xs) ≡ rises_by w d + rises_in w xs) × (rouses_in w (d ∷ xs) ≡ rouses_by w d + rouses_in w xs)
deed-counts w d xs = (sum_by-cons (λ (x : SleepDeed). lies_by w x) d xs, sum_by-cons (λ (x : SleepDeed). rises_by w x) d xs, sum_by-cons (λ (x : SleepDeed). rouses_by w x) d xs)

-- so often more lain down, risen and roused
abbrev pub Counts : ℕ → (lie rise rouse : ℕ) → (xs more : List SleepDeed) → Type 0
Counts w lie rise rouse xs more = (lies_in w more ≡ lie + lies_in w xs) × (rises_in w more ≡ rise + rises_in w xs) × (rouses_in w more ≡ rouse + rouses_in w xs)

pub roused-counts : (w j : ℕ) (xs : List SleepDeed) → Counts w 0 0 (one j w) xs (Roused j ∷ xs)
roused-counts w j xs = deed-counts w (Roused j) xs

-- a worker that rises, or lies down, or doesn't
pub risen-counts : (w n j : ℕ) (xs : List SleepDeed) → n < 2 → Counts w 0 (n * one j w) 0 xs (risen_more n j xs)
risen-counts w zero j xs low = (omega arith, omega arith, omega arith)
risen-counts w (suc zero) j xs low = let more = deed-counts w (Rose j) xs in (more.0, more.1 ∙ omega arith, more.2)
risen-counts w (suc (suc n)) j xs low = absurd (omega (arith, low))

pub lain-counts : (w n j : ℕ) (xs : List SleepDeed) → n < 2 → Counts w ((1 - n) * one j w) 0 0 xs (lain_more n j xs)
lain-counts w zero j xs low = let more = deed-counts w (LayDown j) xs in (more.0 ∙ omega arith, more.1, more.2)
lain-counts w (suc zero) j xs low = let more = deed-counts w (LayOn j) xs in (more.0 ∙ omega arith, more.1, more.2)
lain-counts w (suc (suc n)) j xs low = absurd (omega (arith, low))

-- it has neither lain down nor risen, and woken nobody
abbrev pub Unmoved : Notes → Notes → Type 0
Unmoved k l = l.sleeps ≡ k.sleeps

-- what a step has to keep of each worker, of this view and of the idle word
abbrev pub Ends : Notes → Notes → List ℕ → List ℕ → Type 0
Ends k l words now = (w : ℕ) → w < 64
    → lies_in w l.sleeps + rises_in w k.sleeps + rouses_in w k.sleeps + is_idle words w ≡ lies_in w k.sleeps + rises_in w l.sleeps + rouses_in w l.sleeps + is_idle now w

pub ends-same : (k l : Notes) (words now : List ℕ) → get_or now idle_at 0 ≡ get_or words idle_at 0 → Unmoved k l → Ends k l words now
ends-same k l words now idle same w low =
    let a = ap (lies_in w) same in let d = ap (rises_in w) same in let c = ap (rouses_in w) same in let e = ap (λ n. bit_at n w) idle in omega (arith, a, d, c, e)

module _ (b : Board) (r : WakesSleepers b) (h : ℕ) (v u : Token Notes) (mine : get_elem? b.views h ≡ some v) where
  pub seats-same : u.known.worker ≡ v.known.worker → (w : ℕ) → seats_of w (set b.views h u) ≡ seats_of w b.views
  seats-same e w = with-same (λ k. k.worker) b.views h v u mine e w

  -- no two seats are one worker
  pub alone : (j w : ℕ) (x : Token Notes) → j ≢ h → get_elem? b.views j ≡ some x → v.known.worker ≡ w + 1 → x.known.worker ≡ w + 1 → ⊥
  alone j w x ne there first second =
      let two = two-le-total (λ (t : Token Notes). one t.known.worker (w + 1)) b.views h j v x mine ne there in
      let one_ = one-same v.known.worker (w + 1) first in let other = one-same x.known.worker (w + 1) second in
      let low : w < 64 = let within = r.near h v mine in omega (arith, within, first) in
      omega (arith, r.single w low, two, one_, other)

  module _ (ws : List ℕ) (homes : List (maybe.Option ℕ))
      (number : (w : ℕ) → w < 64 → bit_at (get_or ws numbers_at 0) w + seats_of w (set b.views h u) ≡ 1)
      (low : u.known.worker ≤ 64)
      (idle : (w : ℕ) → is_idle ws w ≡ 1 → (is_idle b.words w ≡ 1) ⊎ ((v.known.worker ≡ w + 1) × (u.known.seen ≡ 0)))
      (more : (s : ℕ) → is_idle ws (s % 64) ≡ 1 → 0 < get_or ws (summary_at s) 0
      → (0 < owed s b.views → 0 < owed s (set b.views h u)) × ((0 < get_or b.words (summary_at s) 0) ⊎ (0 < owed s (set b.views h u))))
      (own : (w k : ℕ) → u.known.worker ≡ w + 1 → k < u.known.seen → ((v.known.worker ≡ w + 1) × (k < v.known.seen)) ⊎ (get_or ws (summary_at (w + 64 * k)) 0 ≡ 0))
      (ends : Ends v.known u.known b.words ws) where
    finish : (w k : ℕ) → w < 64 → is_idle ws w ≡ 1 → 0 < get_or ws (summary_at (w + 64 * k)) 0 → (0 < get_or b.words (summary_at (w + 64 * k)) 0 → 0 < owed (w + 64 * k) b.views)
        → 0 < owed (w + 64 * k) (set b.views h u)
    finish w k small i some_ready was =
        let at : (w + 64 * k) % 64 ≡ w = omega (arith, small) in
        let told = more (w + 64 * k) (ap (is_idle ws) at ∙ i) some_ready in
        ⊎_elim (λ old. told.0 (was old)) (λ now. now) told.1

    awake : (j : ℕ) (x : Token Notes) → get_elem? (set b.views h u) j ≡ some x → (w k : ℕ) → x.known.worker ≡ w + 1 → k < x.known.seen → is_idle ws w ≡ 1
        → 0 < get_or ws (summary_at (w + 64 * k)) 0 → 0 < owed (w + 64 * k) (set b.views h u)
    awake j x there w k is small i some_ready = ⊎_elim
        (λ t. let worker = ap (λ (y : Token Notes). y.known.worker) t.1 ∙ is in let within : k < u.known.seen = subst (λ (y : Token Notes). k < y.known.seen) (sym t.1) small in ⊎_elim
        (λ o. ⊎_elim
        (λ old. let near = r.near h v mine in finish w k (omega (arith, near, o.0)) i some_ready (r.awake h v mine w k o.0 o.1 old))
        (λ fresh. absurd (omega (arith, within, fresh.1)))
        (idle w i))
        (λ none_ready. absurd (omega (arith, some_ready, none_ready)))
        (own w k worker within))
        (λ t. let near = r.near j x t.1 in ⊎_elim
        (λ old. finish w k (omega (arith, near, is)) i some_ready (r.awake j x t.1 w k is small old))
        (λ fresh. absurd (alone j w x t.0 t.1 fresh.0 is))
        (idle w i))
        (at_set b.views h j u x there)

    pub keeps-sleep : WakesSleepers (record { words = ws; homes = homes; views = set b.views h u })
    keeps-sleep = record {
      single = number;
      near = λ j x there. ⊎_elim (λ t. subst (λ (y : Token Notes). y.known.worker ≤ 64) t.1 low) (λ t. r.near j x t.1) (at_set b.views h j u x there);
      awake = awake;
      ended = λ w small.
          let one_ = total-set (λ (t : Token Notes). lies_in w t.known.sleeps) b.views h v u mine in
          let two = total-set (λ (t : Token Notes). rises_in w t.known.sleeps) b.views h v u mine in
          let three = total-set (λ (t : Token Notes). rouses_in w t.known.sleeps) b.views h v u mine in
          omega (arith, one_, two, three, r.ended w small, ends w small);
    }

  -- nothing of this changes, and summary words are only cleared
  pub sleeps-on : (ws : List ℕ) (homes : List (maybe.Option ℕ)) → get_or ws numbers_at 0 ≡ get_or b.words numbers_at 0 → get_or ws idle_at 0 ≡ get_or b.words idle_at 0
      → ((s : ℕ) → 0 < get_or ws (summary_at s) 0 → 0 < get_or b.words (summary_at s) 0) → u.known.owes ≡ v.known.owes → u.known.worker ≡ v.known.worker → u.known.seen ≡ v.known.seen → Unmoved v.known u.known
      → WakesSleepers (record { words = ws; homes = homes; views = set b.views h u })
  sleeps-on ws homes numbers idles fewer owes worker seen unmoved =
      keeps-sleep ws homes
      (λ w low. (λ i. bit_at (numbers i) w + seats-same worker w i) ∙ r.single w low)
      (let near = r.near h v mine in omega (arith, near, worker))
      (λ w i. inl (ap (λ n. bit_at n w) (sym idles) ∙ i))
      (λ s i some_ready. ((λ o. let same = with-same (λ k. k.owes) b.views h v u mine owes s in omega (arith, o, same)), inl (fewer s some_ready)))
      (λ w k is small. inl (sym worker ∙ is, omega (arith, small, seen)))
      (ends-same v.known u.known b.words ws idles unmoved)
