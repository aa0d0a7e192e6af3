-- Tables of numbers modulo 2 ^ 64.
use Rattle.std.proofs.Common.{◌≡◌, ◌≢◌, set, ℕ, zero, suc, ◌+◌, ◌^◌, ◌<◌, ◌≤◌, inl, inr, List, [], ◌∷◌, ◌++◌, length, get_or, replicate, refl, ap, sym, ◌∙◌, arith, length-append, add-one, ◌==◌, if◌then◌else◌}
use Rattle.std.proofs.{lemmas.{Bool.Decides.eqb_tells, Option.slice_get_cases}, Math.Seq.get_or-append_seam}
use Rattle.std.proofs.lemmas.List.{ext_get_or, get_or_append_left, get_or-set_other, length-set, set_past}
use Rattle.std.proofs.{Math.Nat.{add-mod, mod-add-mod, eq-or-lt_of_le}, lemmas.Grind.{replicate_next, get_or-set_at}}
use Rattle.arachne_program.specs.{Value.wrapped, Effects.tabulated}
use Rattle.arachne_machine.specs.Suspended.{raised, added}

pub length-tabulated : (n : ℕ) (f : ℕ → ℕ) → length (tabulated n f) ≡ n
length-tabulated zero f = refl
length-tabulated (suc n) f = length-append (tabulated n f) (wrapped (f n) ∷ []) ∙ omega (arith, length-tabulated n f)

pub tabulated-zeros : (n : ℕ) → replicate n 0 ≡ tabulated n (λ k. 0)
tabulated-zeros zero = refl
tabulated-zeros (suc n) = ap (λ k. replicate k 0) (sym (add-one n)) ∙ replicate_next n 0 ∙ ap (λ xs. xs ++ 0 ∷ []) (tabulated-zeros n)

-- only the values within the table matter
pub tabulated-same : (n : ℕ) (f g : ℕ → ℕ) → ((k : ℕ) → f k ≡ g k) → tabulated n f ≡ tabulated n g
tabulated-same zero f g h = refl
tabulated-same (suc n) f g h = ap (λ xs. xs ++ wrapped (f n) ∷ []) (tabulated-same n f g h) ∙ ap (λ x. tabulated n g ++ wrapped x ∷ []) (h n)

pub get_or-tabulated : (n : ℕ) (f : ℕ → ℕ) (k : ℕ) → k < n → get_or (tabulated n f) k 0 ≡ wrapped (f k)
get_or-tabulated zero f k h = absurd (omega arith)
get_or-tabulated (suc n) f k h =
    let le : k ≤ n = omega arith in
    elim (eq-or-lt_of_le le) [
      | inl e ↦ ap (λ j. get_or (tabulated n f ++ wrapped (f n) ∷ []) j 0) (e ∙ sym (length-tabulated n f))
          ∙ get_or-append_seam (tabulated n f) (wrapped (f n)) [] 0 ∙ ap (λ j. wrapped (f j)) (sym e)
      | inr lt ↦ let within : k < length (tabulated n f) = omega (arith, length-tabulated n f) in
          get_or_append_left (tabulated n f) (wrapped (f n) ∷ []) 0 k within ∙ get_or-tabulated n f k lt
    ]

-- a table of sums, item by item
pub tabulated-sum : (n : ℕ) (f g : ℕ → ℕ) (xs : List ℕ) → length xs ≡ n →
    ((k : ℕ) → k < n → get_or xs k 0 ≡ wrapped (get_or (tabulated n f) k 0 + get_or (tabulated n g) k 0)) → xs ≡ tabulated n (λ k. f k + g k)
tabulated-sum n f g xs e h =
    ext_get_or 0 xs (tabulated n (λ k. f k + g k)) (e ∙ sym (length-tabulated n (λ k. f k + g k)))
    (λ k lt. let within : k < n = omega (arith, e) in
    h k within
    ∙ ap (λ x. wrapped (x + get_or (tabulated n g) k 0)) (get_or-tabulated n f k within)
    ∙ ap (λ x. wrapped (wrapped (f k) + x)) (get_or-tabulated n g k within)
    ∙ sym (add-mod (f k) (g k) (2 ^ 64))
    ∙ sym (get_or-tabulated n (λ j. f j + g j) k within))

-- nothing was added
pub tabulated-kept : (n : ℕ) (f : ℕ → ℕ) (xs : List ℕ) → xs ≡ tabulated n f → xs ≡ tabulated n (λ k. f k + 0)
tabulated-kept n f xs e = e ∙ tabulated-same n f (λ k. f k + 0) (λ k. omega arith)

-- an amount that is added at one place of the table
same_place : (place amount k x : ℕ) → k ≡ place → x + (if k == place then amount else 0) ≡ x + amount
same_place place amount k x e =
    elim (eqb_tells k place) [
      | inl yes_ ↦ ap (λ b. x + (if b then amount else 0)) yes_.0
      | inr no_ ↦ absurd (no_.1 e)
    ]

other_place : (place amount k x : ℕ) → k ≢ place → x + (if k == place then amount else 0) ≡ x
other_place place amount k x e =
    elim (eqb_tells k place) [
      | inl yes_ ↦ absurd (e yes_.1)
      | inr no_ ↦ ap (λ b. x + (if b then amount else 0)) no_.0 ∙ omega arith
    ]

pub tabulated-added : (n : ℕ) (f : ℕ → ℕ) (place amount : ℕ) (xs : List ℕ) → xs ≡ tabulated n f → place < length xs →
    set xs place (wrapped (get_or xs place 0 + amount)) ≡ tabulated n (λ k. f k + (if k == place then amount else 0))
tabulated-added n f place amount xs e lt =
    let g : ℕ → ℕ = λ k. f k + (if k == place then amount else 0) in
    let y = wrapped (get_or xs place 0 + amount) in
    let size : length xs ≡ n = ap length e ∙ length-tabulated n f in
    let kept : length (set xs place y) ≡ length xs = length-set xs place y in
    let long : length (set xs place y) ≡ n = kept ∙ size in
    let is_within : place < n = omega (arith, size, lt) in
    ext_get_or 0 (set xs place y) (tabulated n g) (long ∙ sym (length-tabulated n g))
    (λ k within.
    let k_within : k < n = omega (arith, within, long) in
    elim (eqb_tells k place) [
      | inl yes_ ↦ get_or-set_at xs place k y 0 yes_.1 lt
          ∙ ap (λ l. wrapped (get_or l place 0 + amount)) e
          ∙ ap (λ x. wrapped (x + amount)) (get_or-tabulated n f place is_within)
          ∙ mod-add-mod (f place) (2 ^ 64) amount
          ∙ ap (λ i. wrapped (f i + amount)) (sym yes_.1)
          ∙ ap wrapped (sym (same_place place amount k (f k) yes_.1))
          ∙ sym (get_or-tabulated n g k k_within)
      | inr no_ ↦ get_or-set_other xs place k y 0 no_.1
          ∙ ap (λ l. get_or l k 0) e
          ∙ get_or-tabulated n f k k_within
          ∙ ap wrapped (sym (other_place place amount k (f k) no_.1))
          ∙ sym (get_or-tabulated n g k k_within)
    ])

-- a place beyond the table
pub tabulated-beyond : (n : ℕ) (f : ℕ → ℕ) (place amount : ℕ) → n ≤ place → tabulated n f ≡ tabulated n (λ k. f k + (if k == place then amount else 0))
tabulated-beyond zero f place amount le = refl
tabulated-beyond (suc n) f place amount le =
    let g : ℕ → ℕ = λ k. f k + (if k == place then amount else 0) in
    let apart : n ≢ place = λ e. absurd (omega (arith, e, le)) in
    ap (λ xs. xs ++ wrapped (f n) ∷ []) (tabulated-beyond n f place amount (omega arith))
    ∙ ap (λ x. tabulated n g ++ wrapped x ∷ []) (sym (other_place place amount n (f n) apart))

-- the view that callers have of it: the number at a place is raised
pub raised_is : (n : ℕ) (f : ℕ → ℕ) (place amount : ℕ) (xs ys : List ℕ) → xs ≡ tabulated n f → ys ≡ tabulated n (λ k. f k + (if k == place then amount else 0)) →
    ys ≡ raised xs place amount
raised_is n f place amount xs ys ex ey =
    elim (slice_get_cases xs place).1 [
      | inl found ↦ ey ∙ sym (tabulated-added n f place amount xs ex found.1)
      | inr none ↦
          let size : length xs ≡ n = ap length ex ∙ length-tabulated n f in
          ey ∙ sym (tabulated-beyond n f place amount (omega (arith, size, none.0))) ∙ sym ex ∙ sym (set_past xs place (wrapped (get_or xs place 0 + amount)) none.0)
    ]

-- nothing is raised
pub kept_is : (n : ℕ) (f : ℕ → ℕ) (xs ys : List ℕ) → xs ≡ tabulated n f → ys ≡ tabulated n (λ k. f k + 0) → ys ≡ xs
kept_is n f xs ys ex ey = ey ∙ sym (tabulated-kept n f xs ex)

-- each number is raised
pub added_is : (n : ℕ) (f g : ℕ → ℕ) (xs ys zs : List ℕ) → xs ≡ tabulated n f → ys ≡ tabulated n g → zs ≡ tabulated n (λ k. f k + g k) → zs ≡ added xs ys
added_is n f g xs ys zs ex ey ez =
    let each : ℕ → ℕ = λ k. get_or (tabulated n f) k 0 + get_or (tabulated n g) k 0 in
    ez ∙ sym (tabulated-sum n f g (tabulated n each) (length-tabulated n each) (get_or-tabulated n each))
    ∙ ap (λ m. tabulated m each) (sym (length-tabulated n f))
    ∙ ap (λ l. added l (tabulated n g)) (sym ex) ∙ ap (added xs) (sym ey)
