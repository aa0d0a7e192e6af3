-- The digits that std writes for a number are its numeral.
use Rattle.std.proofs.Common.{◌≡◌, ℕ, ◌^◌, ◌<◌, List, [], ◌∷◌, length, get_or, refl, ap, ◌∙◌, sym, arith, decimal}
use Rattle.std.proofs.lemmas.Fmt.{decimal-digits_value}
use Rattle.std.proofs.lemmas.Str.Parse.{IsDigitsTest, FoldsDigits, IsNumeralModel, numerals_by_fold}
use Rattle.arachne_lang.specs.Spelling.{numeral}
use Rattle.arachne_lang.proofs.Numerals.{AreDigits, worth, worth-numeral, numeral-AreDigits, numeral-not_empty, zero_first}

digits_test : IsDigitsTest AreDigits
digits_test = record { empty = tt; parts = λ byte bytes h. (h.0, h.1); more = λ byte bytes h k. (h, k) }

folds_digits : FoldsDigits worth
folds_digits = record { empty = λ n. refl; more = λ n byte bytes h. refl }

numerals : IsNumeralModel AreDigits (worth 0)
numerals = numerals_by_fold AreDigits digits_test worth folds_digits

-- a numeral that begins with 0 has one digit
one_if_zero : (n : ℕ) (digits : List ℕ) → numeral n ≡ digits → get_or digits 0 0 ≡ 48 → length digits ≡ 1
one_if_zero n [] is e = absurd (omega (arith, e))
one_if_zero n (byte ∷ bytes) is e =
    let zero_first_byte : byte ≡ 48 = e in
    let none = (zero_first n bytes (is ∙ ap (λ (b : ℕ). b ∷ bytes) zero_first_byte)).1 in
    rw none refl

some_digit : (n : ℕ) (digits : List ℕ) → numeral n ≡ digits → 0 < length digits
some_digit n [] is = absurd (numeral-not_empty n is)
some_digit n (byte ∷ bytes) is = omega arith

pub decimal-numeral : (n : ℕ) → n < 2 ^ 64 → decimal n ≡ numeral n
decimal-numeral n fits =
    ap decimal (sym (worth-numeral n))
    ∙ decimal-digits_value numerals (numeral n) (numeral-AreDigits n) (some_digit n (numeral n) refl) (one_if_zero n (numeral n) refl) (rw (worth-numeral n) fits)
