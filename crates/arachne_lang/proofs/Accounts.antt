-- The growth of the accounts of an evaluation.
use Rattle.std.proofs.Common.{◌≡◌, ℕ, zero, suc, ◌+◌, ◌^◌, ◌<◌, ◌≤◌, List, [], ◌∷◌, ◌++◌, length, get_or, take, drop, Vec, Global, Bool, true, false, refl, ap, sym, ◌∙◌, subst, arith, append_assoc, append-nil, length-append, add-one, inl, inr, ◌==◌}
use Rattle.std.{specs.{Cmp.unsigned_Decides, Vec.with_items}, proofs.Math.ListN.{set, replicate, get_or-append}}
use Rattle.std.proofs.{Math.Seq.{set-append_seam, get_or-append_seam, take-length}, lemmas.Bool.cases_eq}
use Rattle.std.proofs.lemmas.List.{ext_get_or, get_or-set_same, get_or-set_other, length-set, set_past, take-append-le}
use Rattle.std.proofs.{Math.Nat.mod-add-mod, lemmas.Grind.replicate_next}
use Rattle.arachne_lang.specs.{declared.evaluator.Own.Own, Evaluation.{Gains, HasDone, HasEnded}}
use Rattle.arachne_program.specs.{declared.meaning.Line.Line, Value.wrapped}
use Rattle.arachne_program.specs.Effects.{Effects, Child, nothing, ◌⨾◌, tallied, held, forked, tabulated, line_of}

pub tabulated-same : (count : ℕ) (f g : ℕ → ℕ) → ((k : ℕ) → f k ≡ g k) → tabulated count f ≡ tabulated count g
tabulated-same zero f g same = refl
tabulated-same (suc n) f g same = rw (tabulated-same n f g same, same n)

tabulated-nothing : (count : ℕ) → replicate count 0 ≡ tabulated count (λ k. 0)
tabulated-nothing zero = refl
tabulated-nothing (suc n) = rw add-one at (replicate_next {X = ℕ} n 0) ∙ ap (λ xs. xs ++ 0 ∷ []) (tabulated-nothing n)

pub length-tabulated : (count : ℕ) (f : ℕ → ℕ) → length (tabulated count f) ≡ count
length-tabulated zero f = refl
length-tabulated (suc n) f = simp (length-append, length-tabulated n f) (omega arith)

get_or-tabulated : (count k : ℕ) (f : ℕ → ℕ) → k < count → get_or (tabulated count f) k 0 ≡ wrapped (f k)
get_or-tabulated zero k f below = absurd (omega arith)
get_or-tabulated (suc n) k f below =
    elim (cases_eq k n) [
      | inl same ↦
          let is : k ≡ length (tabulated n f) = same ∙ sym (length-tabulated n f) in
          let seam : get_or (tabulated n f ++ wrapped (f n) ∷ []) (length (tabulated n f)) 0 ≡ wrapped (f n) = get_or-append_seam (tabulated n f) (wrapped (f n)) [] 0 in
          subst (λ (i : ℕ). get_or (tabulated n f ++ wrapped (f n) ∷ []) i 0 ≡ wrapped (f k)) (sym is) (seam ∙ ap (λ (i : ℕ). wrapped (f i)) (sym same))
      | inr differs ↦
          let front : k < length (tabulated n f) = rw (length-tabulated n f) (omega arith) in
          get_or-append (tabulated n f) (wrapped (f n) ∷ []) 0 k front ∙ get_or-tabulated n k f (omega arith)
    ]

pub Gains-nothing : (xs : List ℕ) → Gains (λ k. 0) xs xs
Gains-nothing xs count before is = is ∙ tabulated-same count before (λ k. before k + 0) (λ k. omega arith)

pub Gains-then : (f g : ℕ → ℕ) (xs ys zs : List ℕ) → Gains f xs ys → Gains g ys zs → Gains (λ k. f k + g k) xs zs
Gains-then f g xs ys zs first second count before is =
    second count (λ k. before k + f k) (first count before is)
    ∙ tabulated-same count (λ k. before k + f k + g k) (λ k. before k + (f k + g k)) (λ k. omega arith)

pub Gains-swapped : (f g : ℕ → ℕ) (xs ys : List ℕ) → Gains (λ k. f k + g k) xs ys → Gains (λ k. g k + f k) xs ys
Gains-swapped f g xs ys both count before is =
    both count before is ∙ tabulated-same count (λ k. before k + (f k + g k)) (λ k. before k + (g k + f k)) (λ k. omega arith)

-- an account that begins with nothing
pub Gains-all : (f : ℕ → ℕ) (count : ℕ) (xs ys : List ℕ) → xs ≡ replicate count 0 → Gains f xs ys → ys ≡ tabulated count f
Gains-all f count xs ys none gains = gains count (λ k. 0) (none ∙ tabulated-nothing count) ∙ tabulated-same count (λ k. 0 + f k) f (λ k. omega arith)

eq-itself : (n : ℕ) → (n == n) ≡ true
eq-itself n = (unsigned_Decides n n).1 refl

pub eq-other : (m n : ℕ) → (m ≡ n → ⊥) → (m == n) ≡ false
eq-other m n differ = elim (m == n) as (λ (b : Bool). (b ≡ true → m ≡ n) → b ≡ false) [ true ↦ λ is. absurd (differ (is refl)) | false ↦ λ is. refl ] ((unsigned_Decides m n).0)

-- one of the numbers gains an amount
Gains-at-index : (xs : List ℕ) (place amount count : ℕ) (before : ℕ → ℕ) → xs ≡ tabulated count before → (k : ℕ) → k < count
    → get_or (set xs place (wrapped (get_or xs place 0 + amount))) k 0 ≡ wrapped (before k + (tallied place amount).sums k)
Gains-at-index xs place amount count before is k below =
    let size : length xs ≡ count = ap length is ∙ length-tabulated count before in
    let in_range : k < length xs = omega arith in
    let old : get_or xs k 0 ≡ wrapped (before k) = ap (λ (ys : List ℕ). get_or ys k 0) is ∙ get_or-tabulated count k before below in
    elim (cases_eq k place) [
      | inl same ↦
          let here : get_or (set xs k (wrapped (get_or xs k 0 + amount))) k 0 ≡ wrapped (get_or xs k 0 + amount) = get_or-set_same xs k (wrapped (get_or xs k 0 + amount)) 0 in_range in
          let gained : wrapped (get_or xs k 0 + amount) ≡ wrapped (before k + amount) = rw old (mod-add-mod (before k) (2 ^ 64) amount) in
          let is_it : (k == k) ≡ true = eq-itself k in
          subst (λ (p : ℕ). get_or (set xs p (wrapped (get_or xs p 0 + amount))) k 0 ≡ wrapped (before k + (tallied p amount).sums k)) same
          (here ∙ gained ∙ sym (rw is_it refl))
      | inr differs ↦
          let other : get_or (set xs place (wrapped (get_or xs place 0 + amount))) k 0 ≡ get_or xs k 0 =
          get_or-set_other xs place k (wrapped (get_or xs place 0 + amount)) 0 differs in
          let is_not : (k == place) ≡ false = eq-other k place differs in
          let same : wrapped (before k) ≡ wrapped (before k + 0) = ap wrapped (omega arith) in
          other ∙ old ∙ same ∙ sym (rw is_not refl)
    ]

pub Gains-at : (xs : List ℕ) (place amount : ℕ) → Gains (tallied place amount).sums xs (set xs place (wrapped (get_or xs place 0 + amount)))
Gains-at xs place amount count before is =
    let ys = set xs place (wrapped (get_or xs place 0 + amount)) in
    let after : ℕ → ℕ = λ k. before k + (tallied place amount).sums k in
    let size : length xs ≡ count = ap length is ∙ length-tabulated count before in
    let grown : length ys ≡ count = length-set xs place (wrapped (get_or xs place 0 + amount)) ∙ size in
    ext_get_or 0 ys (tabulated count after) (grown ∙ sym (length-tabulated count after))
    (λ k below.
    let in_range : k < count = omega arith in
    Gains-at-index xs place amount count before is k in_range ∙ sym (get_or-tabulated count k after in_range))

pub Gains-past : (xs : List ℕ) (place amount : ℕ) → length xs ≤ place → Gains (tallied place amount).sums xs xs
Gains-past xs place amount past =
    subst (λ (ys : List ℕ). Gains (tallied place amount).sums xs ys) (set_past xs place (wrapped (get_or xs place 0 + amount)) past) (Gains-at xs place amount)

-- the same in a Vec whose items were written through a slice
pub Gains-written : (place amount : ℕ) (vec : Vec ℕ Global) (xs : List ℕ) → length xs ≡ length vec.items → Gains (tallied place amount).sums vec.items xs
    → Gains (tallied place amount).sums vec.items (with_items vec xs).items
Gains-written place amount vec xs same gains =
    let size : vec.len ≡ length xs = omega (arith, vec.ok.0) in
    let front : take vec.len (xs ++ drop (length xs) vec.items) ≡ take vec.len xs = take-append-le vec.len xs (drop (length xs) vec.items) (omega arith) in
    let all : take vec.len xs ≡ xs = rw size (take-length xs) in
    subst (λ (ys : List ℕ). Gains (tallied place amount).sums vec.items ys) (sym (front ∙ all)) gains

pub HasDone-nothing : (own : Own) (sums : List ℕ) (lines : List Line) → HasDone nothing own sums lines own sums lines
HasDone-nothing own sums lines = record {
  same_name = refl;
  forks = omega arith;
  holds = Gains-nothing own.holds.items;
  gained = Gains-nothing sums;
  come = sym (append-nil lines);
}

pub HasDone-then : (a b : Effects) (own : Own) (sums : List ℕ) (lines : List Line) (own₁ : Own) (sums₁ : List ℕ) (lines₁ : List Line) (own₂ : Own) (sums₂ : List ℕ) (lines₂ : List Line)
    → HasDone a own sums lines own₁ sums₁ lines₁ → HasDone b own₁ sums₁ lines₁ own₂ sums₂ lines₂ → HasDone (a ⨾ b) own sums lines own₂ sums₂ lines₂
HasDone-then a b own sums lines own₁ sums₁ lines₁ own₂ sums₂ lines₂ first second = record {
  same_name = second.same_name ∙ first.same_name;
  forks = second.forks ∙ (rw first.forks (rw length-append (omega arith)));
  holds = Gains-then a.holds b.holds own.holds.items own₁.holds.items own₂.holds.items first.holds second.holds;
  gained = Gains-then a.sums b.sums sums sums₁ sums₂ first.gained second.gained;
  come = second.come
      ∙ rw (first.come, first.same_name, first.forks) (append_assoc lines (a.lines own.name own.forks) (b.lines own.name (own.forks + length a.children)));
}

pub HasDone-tallied : (ledger amount : ℕ) (own : Own) (sums sums₁ : List ℕ) (lines : List Line)
    → Gains (tallied ledger amount).sums sums sums₁ → HasDone (tallied ledger amount) own sums lines own sums₁ lines
HasDone-tallied ledger amount own sums sums₁ lines gains = record {
  same_name = refl;
  forks = omega arith;
  holds = Gains-nothing own.holds.items;
  gained = gains;
  come = sym (append-nil lines);
}

pub HasDone-held : (lock : ℕ) (own own₁ : Own) (sums : List ℕ) (lines : List Line)
    → own₁.name ≡ own.name → own₁.forks ≡ own.forks → Gains (tallied lock 1).sums own.holds.items own₁.holds.items → HasDone (held lock) own sums lines own₁ sums lines
HasDone-held lock own own₁ sums lines same_name same_forks gains = record {
  same_name = same_name;
  forks = same_forks ∙ omega arith;
  holds = gains;
  gained = Gains-nothing sums;
  come = sym (append-nil lines);
}

-- A thread forks a child, has effects of its own while that runs, and the child has ended.
pub HasDone-forked : (locks : ℕ) (task : Child) (child during : Effects) (own : Own) (sums : List ℕ) (lines : List Line) (own₁ : Own) (sums₁ : List ℕ) (lines₁ : List Line)
    (sums₂ : List ℕ) (lines₂ : List Line)
    → HasDone during (record own { forks = own.forks + 1 }) sums lines own₁ sums₁ lines₁
    → HasEnded locks child (own.name ++ own.forks ∷ []) sums₁ lines₁ sums₂ lines₂
    → HasDone (forked locks task child during) own sums lines own₁ sums₂ lines₂
HasDone-forked locks task child during own sums lines own₁ sums₁ lines₁ sums₂ lines₂ done ended = record {
  same_name = done.same_name;
  forks = done.forks ∙ omega arith;
  holds = done.holds;
  gained = Gains-swapped during.sums child.sums sums sums₂ (Gains-then during.sums child.sums sums sums₁ sums₂ done.gained ended.gained);
  come = ended.come ∙ rw done.come (simp append_assoc);
}

-- The line that was kept for a thread gets what the thread did.
pub HasEnded-line : (locks : ℕ) (effects : Effects) (name : List ℕ) (own : Own) (sums : List ℕ) (lines : List Line) (kept : Line) (own₁ : Own) (sums₁ : List ℕ) (lines₁ : List Line)
    → own.name ≡ name
    → own.forks ≡ 0
    → own.holds.items ≡ replicate locks 0
    → HasDone effects own sums (lines ++ kept ∷ []) own₁ sums₁ lines₁
    → HasEnded locks effects name sums lines sums₁ (set lines₁ (length lines) (record { name = own₁.name; holds = own₁.holds.items }))
HasEnded-line locks effects name own sums lines kept own₁ sums₁ lines₁ named no_forks no_holds done =
    let holds : own₁.holds.items ≡ tabulated locks effects.holds = Gains-all effects.holds locks own.holds.items own₁.holds.items no_holds done.holds in
    let line : Line = record { name = own₁.name; holds = own₁.holds.items } in
    let is_line : line ≡ line_of locks own.name effects = rw (done.same_name, holds) refl in
    let come : lines₁ ≡ lines ++ kept ∷ effects.lines own.name 0 = done.come ∙ rw no_forks (simp append_assoc) in
    let set_line : set lines₁ (length lines) line ≡ lines ++ line_of locks own.name effects ∷ effects.lines own.name 0 =
    rw (come, is_line) (set-append_seam lines kept (effects.lines own.name 0) (line_of locks own.name effects)) in
    let seam : lines ++ line_of locks own.name effects ∷ effects.lines own.name 0 ≡ lines ++ line_of locks own.name effects ∷ [] ++ effects.lines own.name 0 = simp append_assoc in
    subst (λ (n : List ℕ). HasEnded locks effects n sums lines sums₁ (set lines₁ (length lines) line)) named (record {
      gained = done.gained;
      come = set_line ∙ seam;
    })
