-- The number of an option, from what the parser of command lines found.
use Rattle.std.proofs.Common.{◌≡◌, ℕ, ◌^◌, ◌<◌, List, [], ◌∷◌, Bool, true, false, Option, Some, None, refl, ap, ◌∙◌, arith, ◌==◌, ◌&&◌, not, nat_lt, length, codes, option_and_then, option_map, unwrap_or, if◌then◌else◌}
use Rattle.std.{proofs.lemmas.Bool.{and_parts, lt-ltb, ltb-true, ne_eqb}, specs.Char.{is_digit, digit_value}}
use Rattle.std.specs.{List.list_all, Str.Parse.{AllDigits, IsNumeral, digits_value, without_leading_plus}}
use Rattle.clap.specs.{Words.{first_value, matched_of, raw_values, rows_of}, declared.parser.matches.Found.Found}
use Rattle.clap.proofs.WalkLemmas.{first_value-rows, raw_values-rows}
use Rattle.arachne_cli.specs.CommandLine.{number_of, number_under, order_words}

digits_pass : (digits : List ℕ) → AllDigits 10 digits → list_all (λ c. is_digit c 10) digits ≡ true
digits_pass [] h = refl
digits_pass (c ∷ digits) h = rw (lt-ltb (digit_value c) 10 h.0) (digits_pass digits h.1)

pass_digits : (digits : List ℕ) → list_all (λ c. is_digit c 10) digits ≡ true → AllDigits 10 digits
pass_digits [] e = tt
pass_digits (c ∷ digits) e =
    let both = and_parts (is_digit c 10) (list_all (λ c. is_digit c 10) digits) e in
    (ltb-true (digit_value c) 10 both.0, pass_digits digits both.1)

some_digits : (digits : List ℕ) → not (length digits == 0) ≡ true → 0 < length digits
some_digits [] e = absurd (cc)
some_digits (c ∷ digits) e = omega arith

number_is : (text : List ℕ) (n : ℕ) → IsNumeral 10 (without_leading_plus text) → digits_value 10 (without_leading_plus text) < 2 ^ 64 → n ≡ digits_value 10 (without_leading_plus text)
    → Some n ≡ number_of text
unfolding number_of
number_is text n numeral fits e =
    let some : (length (without_leading_plus text) == 0) ≡ false = ne_eqb (length (without_leading_plus text)) 0 (λ none. omega (arith, none, numeral.0)) in
    rw (some, digits_pass (without_leading_plus text) numeral.1, lt-ltb (digits_value 10 (without_leading_plus text)) (2 ^ 64) fits) (ap (λ (v : ℕ). Some v) e)

number_is_none : (text : List ℕ) → (IsNumeral 10 (without_leading_plus text) × (digits_value 10 (without_leading_plus text) < 2 ^ 64) → ⊥) → None ≡ number_of text
unfolding number_of
number_is_none text none =
    by_test ((not (length (without_leading_plus text) == 0) && list_all (λ c. is_digit c 10) (without_leading_plus text)) && nat_lt (digits_value 10 (without_leading_plus text)) (2 ^ 64)) refl
  where
    by_test : (test : Bool) → ((not (length (without_leading_plus text) == 0) && list_all (λ c. is_digit c 10) (without_leading_plus text)) && nat_lt (digits_value 10 (without_leading_plus text)) (2 ^ 64)) ≡ test
        → None ≡ (if test then Some (digits_value 10 (without_leading_plus text)) else None)
    by_test false e = refl
    by_test true e =
        let digits = without_leading_plus text in
        let both = and_parts (not (length (without_leading_plus text) == 0) && list_all (λ c. is_digit c 10) (without_leading_plus text)) (nat_lt (digits_value 10 (without_leading_plus text)) (2 ^ 64)) e in
        let front = and_parts (not (length (without_leading_plus text) == 0)) (list_all (λ c. is_digit c 10) (without_leading_plus text)) both.0 in
        absurd (none ((some_digits digits front.0, pass_digits digits front.1), ltb-true (digits_value 10 digits) (2 ^ 64) both.1))

by_text : (found : Found) (option text : List ℕ) → Some text ≡ first_value found option → number_of text ≡ number_under option (rows_of found)
by_text found option text e = ap (λ (o : Option (List ℕ)). option_and_then number_of o) (e ∙ first_value-rows found option)

-- the number that is read is the one of the option
pub number_read : (found : Found) (option text : List ℕ) (n : ℕ) → Some text ≡ first_value found option
    → (IsNumeral 10 (without_leading_plus text) × (digits_value 10 (without_leading_plus text) < 2 ^ 64)) × (n ≡ digits_value 10 (without_leading_plus text))
    → Some n ≡ number_under option (rows_of found)
number_read found option text n e parsed = number_is text n parsed.0.0 parsed.0.1 parsed.1 ∙ by_text found option text e

-- if no number is read, the option has none
pub number_refused : (found : Found) (option text : List ℕ) → Some text ≡ first_value found option
    → (IsNumeral 10 (without_leading_plus text) × (digits_value 10 (without_leading_plus text) < 2 ^ 64) → ⊥) → None ≡ number_under option (rows_of found)
number_refused found option text e none = number_is_none text none ∙ by_text found option text e

pub number_absent : (found : Found) (option : List ℕ) → None ≡ first_value found option → None ≡ number_under option (rows_of found)
number_absent found option e = ap (λ (o : Option (List ℕ)). option_and_then number_of o) (e ∙ first_value-rows found option)

-- ---- the order words

pub some_words : (found : Found) (words : List (List ℕ)) → Some words ≡ option_map raw_values (matched_of found (codes "order")) → words ≡ order_words (rows_of found)
some_words found words e = ap (λ (o : Option (List (List ℕ))). unwrap_or o []) (e ∙ raw_values-rows found (codes "order"))

pub no_words : (found : Found) → None ≡ option_map raw_values (matched_of found (codes "order")) → [] ≡ order_words (rows_of found)
no_words found e = ap (λ (o : Option (List (List ℕ))). unwrap_or o []) (e ∙ raw_values-rows found (codes "order"))
