-- The digits of a number: their value, and that each number has one numeral.
use Rattle.std.proofs.Common.{◌≡◌, ℕ, zero, suc, ◌+◌, ◌-◌, ◌*◌, ◌/◌, ◌%◌, ◌<◌, ◌≤◌, List, [], ◌∷◌, ◌++◌, refl, sym, ap, subst, ◌∙◌, arith, inl, inr}
use Rattle.std.proofs.lemmas.{Bool.{lt-ltb, le-ltb, cases_lt}, Nat.{div-mul-add, mod-mul-add}}
use Rattle.arachne_lang.specs.Spelling.{digits_within, numeral}

abbrev pub IsDigit : ℕ → Type 0
IsDigit byte = (48 ≤ byte) × (byte ≤ 57)

abbrev pub AreDigits : List ℕ → Type 0
AreDigits [] = Unit {0}
AreDigits (byte ∷ bytes) = IsDigit byte × AreDigits bytes

pub AreDigits-append : (a b : List ℕ) → AreDigits a → AreDigits b → AreDigits (a ++ b)
AreDigits-append [] b h k = k
AreDigits-append (byte ∷ a) b h k = (h.0, AreDigits-append a b h.1 k)

-- ---- digits_within

digits_small : (fuel n : ℕ) → n < 10 → digits_within (suc fuel) n ≡ (48 + n) ∷ []
digits_small fuel n lt = rw (lt-ltb n 10 lt) refl

digits_large : (fuel n : ℕ) → 10 ≤ n → digits_within (suc fuel) n ≡ digits_within fuel (n / 10) ++ (48 + n % 10) ∷ []
digits_large fuel n le = rw (le-ltb n 10 le) refl

-- a fuel above the number is enough
more_fuel : (fuel other n : ℕ) → n < fuel → n < other → digits_within fuel n ≡ digits_within other n
more_fuel zero other n lt mt = absurd (omega arith)
more_fuel (suc fuel) zero n lt mt = absurd (omega arith)
more_fuel (suc fuel) (suc other) n lt mt =
    elim (cases_lt n 10) [
      | inl small ↦ digits_small fuel n small ∙ sym (digits_small other n small)
      | inr large ↦
          let e = more_fuel fuel other (n / 10) (omega arith) (omega arith) in
          digits_large fuel n large ∙ ap (λ (x : List ℕ). x ++ (48 + n % 10) ∷ []) e ∙ sym (digits_large other n large)
    ]

pub numeral-digit : (n : ℕ) → n < 10 → numeral n ≡ (48 + n) ∷ []
numeral-digit n lt = let e : n + 1 ≡ suc n = omega arith in rw e (digits_small n n lt)

-- a digit more
pub numeral-more : (n d : ℕ) → 0 < n → d < 10 → numeral (n * 10 + d) ≡ numeral n ++ (48 + d) ∷ []
numeral-more n d pos lt =
    let quotient : (n * 10 + d) / 10 ≡ n = div-mul-add n 10 d lt in
    let remainder : (n * 10 + d) % 10 ≡ d = mod-mul-add n 10 d lt in
    let e : n * 10 + d + 1 ≡ suc (n * 10 + d) = omega arith in
    let fuel = more_fuel (n * 10 + d) (n + 1) n (omega arith) (omega arith) in
    ap (λ (k : ℕ). digits_within k (n * 10 + d)) e ∙ digits_large (n * 10 + d) (n * 10 + d) (omega arith)
    ∙ ap (λ (q : ℕ). digits_within (n * 10 + d) q ++ (48 + (n * 10 + d) % 10) ∷ []) quotient
    ∙ ap (λ (r : ℕ). digits_within (n * 10 + d) n ++ (48 + r) ∷ []) remainder
    ∙ ap (λ (x : List ℕ). x ++ (48 + d) ∷ []) fuel

digits_within-AreDigits : (fuel n : ℕ) → AreDigits (digits_within fuel n)
digits_within-AreDigits zero n = tt
digits_within-AreDigits (suc fuel) n =
    elim (cases_lt n 10) [
      | inl small ↦ rw (digits_small fuel n small) ((omega arith, omega arith), tt)
      | inr large ↦ rw (digits_large fuel n large)
          (AreDigits-append (digits_within fuel (n / 10)) ((48 + n % 10) ∷ []) (digits_within-AreDigits fuel (n / 10)) ((omega arith, omega arith), tt))
    ]

pub numeral-AreDigits : (n : ℕ) → AreDigits (numeral n)
numeral-AreDigits n = digits_within-AreDigits (n + 1) n

-- ---- the value of digits

-- the number whose first digits have the value n, and whose others are these
abbrev pub worth : ℕ → List ℕ → ℕ
worth n [] = n
worth n (byte ∷ bytes) = worth (n * 10 + (byte - 48)) bytes

pub worth-append : (n : ℕ) (a b : List ℕ) → worth n (a ++ b) ≡ worth (worth n a) b
worth-append n [] b = refl
worth-append n (byte ∷ a) b = worth-append (n * 10 + (byte - 48)) a b

pub worth-grows : (n : ℕ) (bytes : List ℕ) → n ≤ worth n bytes
worth-grows n [] = omega arith
worth-grows n (byte ∷ bytes) = omega (arith, worth-grows (n * 10 + (byte - 48)) bytes)

worth-digits_within : (fuel n : ℕ) → n < fuel → worth 0 (digits_within fuel n) ≡ n
worth-digits_within zero n lt = absurd (omega arith)
worth-digits_within (suc fuel) n lt =
    elim (cases_lt n 10) [
      | inl small ↦ rw (digits_small fuel n small) (omega arith)
      | inr large ↦
          let e = worth-digits_within fuel (n / 10) (omega arith) in
          rw (digits_large fuel n large, worth-append 0 (digits_within fuel (n / 10)) ((48 + n % 10) ∷ []), e) (omega arith)
    ]

pub worth-numeral : (n : ℕ) → worth 0 (numeral n) ≡ n
worth-numeral n = worth-digits_within (n + 1) n (omega arith)

pub numeral-unique : (m n : ℕ) → numeral m ≡ numeral n → m ≡ n
numeral-unique m n e = sym (worth-numeral m) ∙ ap (worth 0) e ∙ worth-numeral n

-- ---- digits before a byte that is no digit

abbrev pub NoDigit : ℕ → Type 0
NoDigit byte = IsDigit byte → ⊥

pub bracket_is_no_digit : NoDigit 41
bracket_is_no_digit h = omega (arith, h.0)

-- Digits at the front of a text are a prefix of all its digits up to the first byte that is no digit.
pub digits_before : (a b x y : List ℕ) (end : ℕ) → AreDigits a → AreDigits b → NoDigit end → a ++ end ∷ x ≡ b ++ y
    → (more : List ℕ) × AreDigits more × (a ≡ b ++ more) × (y ≡ more ++ end ∷ x)
digits_before a [] x y end h k none e = (a, h, refl, sym e)
digits_before [] (byte ∷ b) x y end h k none e =
    let same : end ≡ byte = cc in
    absurd (none (subst IsDigit (sym same) k.0))
digits_before (digit ∷ a) (byte ∷ b) x y end h k none e =
    let same : digit ≡ byte = cc in
    let others : a ++ end ∷ x ≡ b ++ y = cc in
    let behind = digits_before a b x y end h.1 k.1 none others in
    (behind.0, behind.1, cc, behind.3)

-- The digits before the last are those of a tenth of the number. If they begin with 0, they are those of 0.
no_zero_at_front : (front : List ℕ) (last tenth : ℕ) (more : List ℕ) → 0 < tenth → worth 0 front ≡ tenth → front ++ last ∷ [] ≡ 48 ∷ more
    → ((rest : List ℕ) → front ≡ 48 ∷ rest → tenth ≡ 0) → ⊥
no_zero_at_front [] last tenth more pos w e zero_so = omega (arith, w)
no_zero_at_front (byte ∷ front) last tenth more pos w e zero_so =
    let same : byte ≡ 48 = cc in
    omega (arith, zero_so front (ap (λ (b : ℕ). b ∷ front) same))

zero_at_front : (fuel n : ℕ) (more : List ℕ) → n < fuel → digits_within fuel n ≡ 48 ∷ more → (n ≡ 0) × (more ≡ [])
zero_at_front zero n more lt e = absurd (omega arith)
zero_at_front (suc fuel) n more lt e =
    elim (cases_lt n 10) [
      | inl small ↦
          let one : (48 + n) ∷ [] ≡ 48 ∷ more = sym (digits_small fuel n small) ∙ e in
          let same : 48 + n ≡ 48 = cc in
          let none : more ≡ [] = cc in
          (omega arith, none)
      | inr large ↦
          let split : digits_within fuel (n / 10) ++ (48 + n % 10) ∷ [] ≡ 48 ∷ more = sym (digits_large fuel n large) ∙ e in
          absurd (no_zero_at_front (digits_within fuel (n / 10)) (48 + n % 10) (n / 10) more (omega arith) (worth-digits_within fuel (n / 10) (omega arith)) split
          (λ rest is. (zero_at_front fuel (n / 10) rest (omega arith) is).0))
    ]

-- a numeral that begins with 0 is that of zero
pub zero_first : (n : ℕ) (more : List ℕ) → numeral n ≡ 48 ∷ more → (n ≡ 0) × (more ≡ [])
zero_first n more e = zero_at_front (n + 1) n more (omega arith) e

pub numeral-not_empty : (n : ℕ) → numeral n ≡ [] → ⊥
numeral-not_empty n e =
    let zero : n ≡ 0 = sym (worth-numeral n) ∙ ap (worth 0) e in
    let none : numeral 0 ≡ [] = ap numeral (sym zero) ∙ e in
    absurd (cc)

pub space_is_no_digit : NoDigit 32
space_is_no_digit h = omega (arith, h.0)

pub newline_is_no_digit : NoDigit 10
newline_is_no_digit h = omega (arith, h.0)
