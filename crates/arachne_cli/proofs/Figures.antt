-- A number and a word at the front of bytes: the result of reading them, and the bytes that have this result.
use Rattle.std.proofs.Common.{◌≡◌, ℕ, ◌+◌, ◌-◌, ◌*◌, ◌<◌, ◌≤◌, List, [], ◌∷◌, ◌++◌, Some, Ok, Err, refl, sym, ap, ◌∙◌, append_assoc, arith, ◌==◌, ◌&&◌, nat_le, nat_lt, if◌then◌else◌, Bool, true, false}
use Rattle.std.proofs.lemmas.Bool.{eqb-true, eqb-false, leb-true, le-leb, ltb-true, lt-ltb, and_parts}
use Rattle.arachne_lang.specs.{Spelling.numeral, Reading.{Departs, Overflows, Reading, word_at, digits_at, figures_at}}
use Rattle.arachne_lang.proofs.Numerals.{IsDigit, AreDigits, NoDigit, numeral-digit, numeral-more, numeral-AreDigits, numeral-not_empty, worth, worth-grows, worth-numeral, zero_first}
use Rattle.arachne_lang.proofs.Languages.{first}

-- ---- words

letter_taken : (byte letter : ℕ) (word bytes rest : List ℕ) → (word_at word bytes ≡ Ok rest → bytes ≡ word ++ rest) → (test : Bool) → (byte == letter) ≡ test
    → (if test then word_at word bytes else Err (Departs (byte ∷ bytes))) ≡ Ok rest → byte ∷ bytes ≡ letter ∷ (word ++ rest)
letter_taken byte letter word bytes rest others true is e = let one : byte ≡ letter = eqb-true byte letter is in let behind = others e in (cc)
letter_taken byte letter word bytes rest others false is e = absurd (cc)

-- a word that is taken stood there
pub word_taken : (word bytes rest : List ℕ) → word_at word bytes ≡ Ok rest → bytes ≡ word ++ rest
word_taken [] bytes rest e = cc
word_taken (letter ∷ word) [] rest e = absurd (cc)
word_taken (letter ∷ word) (byte ∷ bytes) rest e = letter_taken byte letter word bytes rest (word_taken word bytes rest) (byte == letter) refl e

-- ---- the digits as a test

abbrev is_digit : ℕ → Bool
is_digit byte = nat_le 48 byte && nat_le byte 57

is_digit-true : (byte : ℕ) → is_digit byte ≡ true → IsDigit byte
is_digit-true byte e = let both = and_parts (nat_le 48 byte) (nat_le byte 57) e in (leb-true 48 byte both.0, leb-true byte 57 both.1)

digit_is : (byte : ℕ) → IsDigit byte → is_digit byte ≡ true
digit_is byte digit = rw (le-leb 48 byte digit.0, le-leb byte 57 digit.1) refl

no_digit_is : (byte : ℕ) → NoDigit byte → (test : Bool) → is_digit byte ≡ test → test ≡ false
no_digit_is byte none true e = absurd (none (is_digit-true byte e))
no_digit_is byte none false e = refl

-- ---- the result of reading

abbrev Reads : Reading ℕ → Reading ℕ → Type 0
Reads one other = one ≡ other

parts : (v n : ℕ) (bytes rest : List ℕ) → Reads (Ok (v, bytes)) (Ok (n, rest)) → (v ≡ n) × (bytes ≡ rest)
parts v n bytes rest e = let same : (v, bytes) ≡ (n, rest) = cc in (ap (λ (p : ℕ × List ℕ). p.0) same, ap (λ (p : ℕ × List ℕ). p.1) same)

read_as : (limit v n : ℕ) (bytes rest : List ℕ) → v < limit → Reads (Ok (v, bytes)) (Ok (n, rest)) → (numeral v ++ bytes ≡ numeral n ++ rest) × (n < limit)
read_as limit v n bytes rest fits e = let p = parts v n bytes rest e in (rw (p.0, p.1) refl, omega (arith, fits, p.0))

digits_read : (limit v n : ℕ) (bytes rest : List ℕ) → 0 < v → v < limit → digits_at limit v bytes ≡ Ok (n, rest) → (numeral v ++ bytes ≡ numeral n ++ rest) × (n < limit)
digits_read limit v n [] rest pos fits e = read_as limit v n [] rest fits e
digits_read limit v n (byte ∷ bytes) rest pos fits e =
    at_byte limit v n byte bytes rest pos fits (λ next. digits_read limit next n bytes rest) (is_digit byte) refl (nat_lt (v * 10 + (byte - 48)) limit) refl e
  where
    at_byte : (limit v n byte : ℕ) (bytes rest : List ℕ) → 0 < v → v < limit
        → ((next : ℕ) → 0 < next → next < limit → digits_at limit next bytes ≡ Ok (n, rest) → (numeral next ++ bytes ≡ numeral n ++ rest) × (n < limit))
        → (test : Bool) → is_digit byte ≡ test → (below : Bool) → nat_lt (v * 10 + (byte - 48)) limit ≡ below
        → (if test then (if below then digits_at limit (v * 10 + (byte - 48)) bytes else Err (Overflows (byte ∷ bytes))) else Ok (v, byte ∷ bytes)) ≡ Ok (n, rest)
        → (numeral v ++ byte ∷ bytes ≡ numeral n ++ rest) × (n < limit)
    at_byte limit v n byte bytes rest pos fits others true is true low e =
        let digit = is_digit-true byte is in
        let behind = others (v * 10 + (byte - 48)) (omega arith) (ltb-true (v * 10 + (byte - 48)) limit low) e in
        let same : 48 + (byte - 48) ≡ byte = omega (arith, digit.0) in
        let whole : numeral (v * 10 + (byte - 48)) ≡ numeral v ++ byte ∷ [] =
        numeral-more v (byte - 48) pos (omega (arith, digit.1)) ∙ ap (λ (d : ℕ). numeral v ++ d ∷ []) same in
        (sym (append_assoc (numeral v) (byte ∷ []) bytes) ∙ ap (λ (u : List ℕ). u ++ bytes) (sym whole) ∙ behind.0, behind.1)
    at_byte limit v n byte bytes rest pos fits others true is false low e = absurd (cc)
    at_byte limit v n byte bytes rest pos fits others false is below low e = read_as limit v n (byte ∷ bytes) rest fits e

-- a number that is read stood there, and is below the limit
pub figures_read : (limit n : ℕ) (bytes rest : List ℕ) → 9 < limit → figures_at limit bytes ≡ Ok (n, rest) → (bytes ≡ numeral n ++ rest) × (n < limit)
figures_read limit n [] rest pos e = absurd (cc)
figures_read limit n (byte ∷ bytes) rest pos e = at_byte limit n byte bytes rest pos (byte == 48) refl (nat_le 49 byte && nat_le byte 57) refl e
  where
    at_byte : (limit n byte : ℕ) (bytes rest : List ℕ) → 9 < limit → (naught : Bool) → (byte == 48) ≡ naught → (digit : Bool) → (nat_le 49 byte && nat_le byte 57) ≡ digit
        → (if naught then Ok (0, bytes) else if digit then digits_at limit (byte - 48) bytes else Err (Departs (byte ∷ bytes))) ≡ Ok (n, rest)
        → (byte ∷ bytes ≡ numeral n ++ rest) × (n < limit)
    at_byte limit n byte bytes rest pos true is digit f e =
        let p = read_as limit 0 n bytes rest (omega (arith, pos)) e in
        (ap (λ (b : ℕ). b ∷ bytes) (eqb-true byte 48 is) ∙ p.0, p.1)
    at_byte limit n byte bytes rest pos false is true f e =
        let both = and_parts (nat_le 49 byte) (nat_le byte 57) f in
        let low = leb-true 49 byte both.0 in
        let high = leb-true byte 57 both.1 in
        let same : 48 + (byte - 48) ≡ byte = omega (arith, low) in
        let one : numeral (byte - 48) ≡ byte ∷ [] = numeral-digit (byte - 48) (omega (arith, high)) ∙ ap (λ (d : ℕ). d ∷ []) same in
        let p = digits_read limit (byte - 48) n bytes rest (omega (arith, low)) (omega (arith, high, pos)) e in
        (ap (λ (u : List ℕ). u ++ bytes) (sym one) ∙ p.0, p.1)
    at_byte limit n byte bytes rest pos false is false f e = absurd (cc)

-- ---- the bytes that have this result

digits_again : (limit v : ℕ) (digits rest : List ℕ) → AreDigits digits → worth v digits < limit → ((byte : ℕ) → first rest ≡ Some byte → NoDigit byte)
    → digits_at limit v (digits ++ rest) ≡ Ok (worth v digits, rest)
digits_again limit v [] [] are fits none = refl
digits_again limit v [] (byte ∷ rest) are fits none = rw (no_digit_is byte (none byte refl) (is_digit byte) refl) refl
digits_again limit v (digit ∷ digits) rest are fits none =
    let next = v * 10 + (digit - 48) in
    let below : nat_lt (v * 10 + (digit - 48)) limit ≡ true = lt-ltb next limit (omega (arith, fits, worth-grows next digits)) in
    rw (digit_is digit are.0, below) (digits_again limit next digits rest are.1 fits none)

-- a numeral before a byte that is no digit is read as its number
pub figures_again : (limit n : ℕ) (rest : List ℕ) → n < limit → ((byte : ℕ) → first rest ≡ Some byte → NoDigit byte) → figures_at limit (numeral n ++ rest) ≡ Ok (n, rest)
figures_again limit n rest fits none = at_front (numeral n) refl (numeral-AreDigits n)
  where
    first_of_two : (digit : ℕ) → 48 ≤ digit → (digit ≡ 48 → ⊥) → 49 ≤ digit
    first_of_two digit le differs = omega (arith, le, differs)

    at_front : (digits : List ℕ) → numeral n ≡ digits → AreDigits digits → figures_at limit (digits ++ rest) ≡ Ok (n, rest)
    at_front [] e are = absurd (numeral-not_empty n e)
    at_front (digit ∷ digits) e are = at_digit (digit == 48) refl
      where
        worth_is : worth (digit - 48) digits ≡ n
        worth_is = let start : 0 * 10 + (digit - 48) ≡ digit - 48 = omega arith in
            ap (λ (v : ℕ). worth v digits) (sym start) ∙ ap (worth 0) (sym e) ∙ worth-numeral n

        at_digit : (naught : Bool) → (digit == 48) ≡ naught → figures_at limit (digit ∷ (digits ++ rest)) ≡ Ok (n, rest)
        at_digit true is =
            let zero = zero_first n digits (e ∙ ap (λ (d : ℕ). d ∷ digits) (eqb-true digit 48 is)) in
            rw (is, zero.0, zero.1) refl
        at_digit false is =
            let differs = eqb-false digit 48 is in
            let low : 49 ≤ digit = first_of_two digit are.0.0 differs in
            rw (is, le-leb 49 digit low, le-leb digit 57 are.0.1)
            (digits_again limit (digit - 48) digits rest are.1 (omega (arith, worth_is, fits)) none ∙ ap (λ (v : ℕ). Ok (v, rest)) worth_is)
