-- A number is read exactly: each fault is at its byte.
use Rattle.std.proofs.Common.{◌≡◌, ℕ, ◌+◌, ◌-◌, ◌*◌, ◌<◌, ◌≤◌, List, [], ◌∷◌, ◌++◌, length, Some, Result, Ok, Err, refl, sym, ap, subst, ◌∙◌, append_assoc, arith, inl, inr, ◌==◌, ◌&&◌, nat_le, nat_lt, if◌then◌else◌, Bool, true, false, append-nil}
use Rattle.std.proofs.lemmas.Bool.{eqb-true, eqb-false, ne_eqb, leb-true, leb-false, ltb-true, ltb-false, and_parts, and_cases}
use Rattle.arachne_lang.specs.Spelling.{numeral}
use Rattle.arachne_lang.specs.Reading.{Halt, Departs, Overflows, ◌>>=◌, word_at, digits_at, figures_at, number_at}
use Rattle.arachne_lang.proofs.Numerals.{IsDigit, AreDigits, NoDigit, numeral-digit, numeral-more, numeral-AreDigits, numeral-unique, numeral-not_empty, worth, worth-append, worth-grows, worth-numeral, digits_before, zero_first}
use Rattle.arachne_lang.proofs.Languages.{level_behind, levels_behind, Language, first, Departure, Overflow, Exact, Exact-residual, Exact-among, byte_residual, same_residual, nothing_more, exact_nothing_more, behind_word, exact_word, after}

-- ---- the digits as a test

abbrev is_digit : ℕ → Bool
is_digit byte = nat_le 48 byte && nat_le byte 57

is_digit-true : (byte : ℕ) → is_digit byte ≡ true → IsDigit byte
is_digit-true byte e = let both = and_parts (nat_le 48 byte) (nat_le byte 57) e in (leb-true 48 byte both.0, leb-true byte 57 both.1)

is_digit-false : (byte : ℕ) → is_digit byte ≡ false → NoDigit byte
is_digit-false byte e digit =
    elim (and_cases (nat_le 48 byte) (nat_le byte 57) e) [
      | inl low ↦ omega (arith, leb-false 48 byte low, digit.0)
      | inr high ↦ omega (arith, leb-false byte 57 high, digit.1)
    ]

pub level_behind_digit : (n byte : ℕ) → IsDigit byte → level_behind n byte ≡ Some n
level_behind_digit n byte digit =
    let no_open : (byte == 40) ≡ false = ne_eqb byte 40 (λ e. omega (arith, e, digit.0)) in
    let no_close : (byte == 41) ≡ false = ne_eqb byte 41 (λ e. omega (arith, e, digit.0)) in
    rw (no_open, no_close) refl

-- ---- the language

-- each text begins with a byte that is no digit
abbrev pub Ends : {A : Type 0} → Language A → Type 0
Ends {A} L = (a : A) (s : List ℕ) → L.shape a s → (end : ℕ) × (more : List ℕ) × (s ≡ end ∷ more) × NoDigit end

-- a number, and behind it a text of the language that belongs to the number
pub record Numbered {A : Type 0} (Q : ℕ → A → List ℕ → Type 0) (IsOne : ℕ → Type 0) (a : A) (t : List ℕ) : Type 0 where
  pub value : ℕ
  pub is_one : IsOne value
  pub back : List ℕ
  pub back_text : Q value a back
  pub split : t ≡ numeral value ++ back

abbrev pub Shaped : {A : Type 0} → (ℕ → Language A) → A → List ℕ → Type 0
Shaped K = Numbered (λ n. (K n).shape) (λ n. Unit {0})

abbrev pub Ranged : {A : Type 0} → ℕ → (ℕ → Language A) → A → List ℕ → Type 0
Ranged limit K = Numbered (λ n. (K n).range) (λ n. n < limit)

pub shaped_of : {A : Type 0} (limit : ℕ) (K : ℕ → Language A) (a : A) (t : List ℕ) → Ranged limit K a t → Shaped K a t
shaped_of limit K a t h = record { value = h.value; is_one = tt; back = h.back; back_text = (K h.value).within a h.back h.back_text; split = h.split }

-- behind the digits of a number: no more digits and the end, or a digit
record Behind (n v : ℕ) (s t : List ℕ) : Type 0 where
  more : List ℕ
  digits : AreDigits more
  number : numeral v ≡ numeral n ++ more
  text : t ≡ more ++ s

behind_digits : (n v : ℕ) (s t : List ℕ) (end : ℕ) (rest : List ℕ) → s ≡ end ∷ rest → NoDigit end → numeral n ++ t ≡ numeral v ++ s → Behind n v s t
behind_digits n v s t end rest is none e =
    let behind = digits_before (numeral v) (numeral n) rest t end (numeral-AreDigits v) (numeral-AreDigits n) none (ap (λ (u : List ℕ). numeral v ++ u) (sym is) ∙ sym e) in
    record { more = behind.0; digits = behind.1; number = behind.2; text = behind.3 ∙ ap (λ (u : List ℕ). behind.0 ++ u) (sym is) }

-- if the rest begins with no digit, the number is the same
same_number : (n v : ℕ) (s t y : List ℕ) → Behind n v s t → ((digit : ℕ) → first (t ++ y) ≡ Some digit → NoDigit digit) → (v ≡ n) × (t ≡ s)
same_number n v s t y behind none = by_digits behind.more behind.digits behind.number behind.text
  where
    by_digits : (more : List ℕ) → AreDigits more → numeral v ≡ numeral n ++ more → t ≡ more ++ s → (v ≡ n) × (t ≡ s)
    by_digits [] digits e is = (numeral-unique v n (e ∙ append-nil (numeral n)), is)
    by_digits (digit ∷ more) digits e is = absurd (none digit (ap (λ (u : List ℕ). first (u ++ y)) is) digits.0)

pub shaped-unique : {A : Type 0} (K : ℕ → Language A) (ends : (n : ℕ) → Ends (K n)) (a b : A) (s t x y : List ℕ) → Shaped K a s → Shaped K b t → s ++ x ≡ t ++ y → (a ≡ b) × (s ≡ t)
shaped-unique K ends a b s t x y h k e =
    let one = ends h.value a h.back h.back_text in
    let two = ends k.value b k.back k.back_text in
    let whole : numeral k.value ++ (k.back ++ y) ≡ numeral h.value ++ (h.back ++ x) =
    sym (append_assoc (numeral k.value) k.back y) ∙ ap (λ (u : List ℕ). u ++ y) (sym k.split) ∙ sym e ∙ ap (λ (u : List ℕ). u ++ x) h.split ∙ append_assoc (numeral h.value) h.back x in
    let behind = behind_digits k.value h.value (h.back ++ x) (k.back ++ y) one.0 (one.1 ++ x) (ap (λ (u : List ℕ). u ++ x) one.2) one.3 whole in
    let same = same_number k.value h.value (h.back ++ x) (k.back ++ y) [] behind (λ digit is. at_end digit two.0 (two.1 ++ y) (k.back ++ y) (ap (λ (u : List ℕ). u ++ y) two.2) two.3 is) in
    let others = (K k.value).unique a b h.back k.back x y (subst (λ (n : ℕ). (K n).shape a h.back) same.0 h.back_text) k.back_text (sym same.1) in
    (others.0, h.split ∙ ap (λ (n : ℕ). numeral n ++ h.back) same.0 ∙ ap (λ (u : List ℕ). numeral k.value ++ u) others.1 ∙ sym k.split)
  where
    at_end : (digit end : ℕ) (rest u : List ℕ) → u ≡ end ∷ rest → NoDigit end → first (u ++ []) ≡ Some digit → NoDigit digit
    at_end digit end rest u e none is =
        let head : Some end ≡ Some digit = sym (ap (λ (v : List ℕ). first (v ++ [])) e) ∙ is in
        let same : end ≡ digit = cc in
        subst NoDigit same none

-- two numbers before bytes that are no digits
pub numeral-apart : (m n end other : ℕ) (x y : List ℕ) → NoDigit end → NoDigit other → numeral m ++ end ∷ x ≡ numeral n ++ other ∷ y → (m ≡ n) × (end ∷ x ≡ other ∷ y)
numeral-apart m n end other x y none no_other e =
    let behind = behind_digits n m (end ∷ x) (other ∷ y) end x refl none (sym e) in
    let same = same_number n m (end ∷ x) (other ∷ y) [] behind (λ digit is. at_first digit is) in
    (same.0, sym same.1)
  where
    at_first : (digit : ℕ) → Some other ≡ Some digit → NoDigit digit
    at_first digit is = let same : other ≡ digit = cc in subst NoDigit same no_other

-- a number below a limit, in its range, and the text that belongs to it
unfoldable pub numbered : {A : Type 0} (limit : ℕ) → 0 < limit → (K : ℕ → Language A) → ((n : ℕ) → Ends (K n)) → Language A
numbered limit pos K ends = record {
  shape = Shaped K;
  range = Ranged limit K;
  within = shaped_of limit K;
  sample = let one = (K 0).sample in (one.0, numeral 0 ++ one.1, record { value = 0; is_one = pos; back = one.1; back_text = one.2; split = refl });
  unique = shaped-unique K ends;
}

-- the texts that may follow the digits of a number
unfoldable More : {A : Type 0} (limit : ℕ) (pos : 0 < limit) (K : ℕ → Language A) (ends : (n : ℕ) → Ends (K n)) (n : ℕ) → n < limit → Language A
unfolding numbered
More limit pos K ends n fits =
    let one = (K n).sample in
    after (numeral n) (numbered limit pos K ends) one.0 one.1 record { value = n; is_one = fits; back = one.1; back_text = one.2; split = refl }

joined : (n digit m : ℕ) (t : List ℕ) → 0 < n → IsDigit digit → m ≡ n * 10 + (digit - 48) → numeral m ++ t ≡ numeral n ++ digit ∷ t
joined n digit m t pos is_one e =
    let same : 48 + (digit - 48) ≡ digit = omega (arith, is_one.0) in
    let whole : numeral m ≡ numeral n ++ digit ∷ [] =
    ap numeral e ∙ numeral-more n (digit - 48) pos (omega (arith, is_one.1)) ∙ ap (λ (d : ℕ). numeral n ++ d ∷ []) same in
    ap (λ (u : List ℕ). u ++ t) whole ∙ append_assoc (numeral n) (digit ∷ []) t

levels_of_digit : (n digit : ℕ) → IsDigit digit → levels_behind n (digit ∷ []) ≡ Some n
levels_of_digit n digit is_one = rw (level_behind_digit n digit is_one) refl

not_nil : (a b : List ℕ) (c : ℕ) (d : List ℕ) → d ≡ c ∷ b → [] ≡ a ++ d → ⊥
not_nil [] b c d is e = let none : [] ≡ c ∷ b = e ∙ is in absurd (cc)
not_nil (h ∷ a) b c d is e = absurd (cc)

nil_digits : (a b s : List ℕ) (c : ℕ) → s ≡ c ∷ b → [] ≡ a ++ s → ⊥
nil_digits a b s c is e = not_nil a b c s is e

behind_is_not_empty : {A : Type 0} (K : ℕ → Language A) (ends : (n : ℕ) → Ends (K n)) (n : ℕ) (a : A) (t : List ℕ) → Shaped K a (numeral n ++ t) → t ≡ [] → ⊥
behind_is_not_empty K ends n a t h none =
    let one = ends h.value a h.back h.back_text in
    let behind = behind_digits n h.value h.back t one.0 one.1 one.2 one.3 h.split in
    nil_digits behind.more one.1 h.back one.0 one.2 (sym none ∙ behind.text)

-- a digit more of the number
one_digit_more : {A : Type 0} (limit : ℕ) (pos : 0 < limit) (K : ℕ → Language A) (ends : (n : ℕ) → Ends (K n)) (n digit m : ℕ) (fits : n < limit) (more_fits : m < limit)
    → 0 < n → IsDigit digit → m ≡ n * 10 + (digit - 48) → (l k : ℕ) (bytes : List ℕ) (r : Result (A × List ℕ) Halt)
    → Exact (More limit pos K ends m more_fits) l k bytes r → Exact (More limit pos K ends n fits) l k (digit ∷ bytes) r
unfolding More after numbered
one_digit_more limit pos K ends n digit m fits more_fits positive is_one e l k bytes r exact =
    Exact-residual (More limit pos K ends m more_fits) (More limit pos K ends n fits) l l k (digit ∷ []) bytes (levels_of_digit l digit is_one)
    (byte_residual digit (λ a t. Shaped K a (numeral m ++ t)) (λ a t. Shaped K a (numeral n ++ t))
    (λ a h. behind_is_not_empty K ends n a [] h refl)
    (λ a t h. subst (λ (u : List ℕ). Shaped K a u) (joined n digit m t positive is_one e) h)
    (λ a t h. subst (λ (u : List ℕ). Shaped K a u) (sym (joined n digit m t positive is_one e)) h))
    (byte_residual digit (λ a t. Ranged limit K a (numeral m ++ t)) (λ a t. Ranged limit K a (numeral n ++ t))
    (λ a h. behind_is_not_empty K ends n a [] (shaped_of limit K a (numeral n ++ []) h) refl)
    (λ a t h. subst (λ (u : List ℕ). Ranged limit K a u) (joined n digit m t positive is_one e) h)
    (λ a t h. subst (λ (u : List ℕ). Ranged limit K a u) (sym (joined n digit m t positive is_one e)) h))
    r exact

-- if the next byte is no digit, the number ends
number_ends : {A : Type 0} (limit : ℕ) (pos : 0 < limit) (K : ℕ → Language A) (ends : (n : ℕ) → Ends (K n)) (n : ℕ) (fits : n < limit) (l k : ℕ) (bytes : List ℕ)
    → ((byte : ℕ) → first bytes ≡ Some byte → NoDigit byte) → (r : Result (A × List ℕ) Halt) → Exact (K n) l k bytes r → Exact (More limit pos K ends n fits) l k bytes r
unfolding More after numbered shaped_of
number_ends {A} limit pos K ends n fits l k bytes no_digit r exact =
    Exact-among (K n) (More limit pos K ends n fits) l k bytes
    (λ a t h. record { value = n; is_one = tt; back = t; back_text = h; split = refl })
    (λ a t h. record { value = n; is_one = fits; back = t; back_text = h; split = refl })
    (λ a t y h is.
    let same = same a t y h is in
    subst (λ (u : List ℕ). (K n).shape a u) (sym same.1) (subst (λ (m : ℕ). (K m).shape a h.back) same.0 h.back_text))
    (λ a t y h is.
    let same = same a t y (shaped_of limit K a (numeral n ++ t) h) is in
    subst (λ (u : List ℕ). (K n).range a u) (sym same.1) (subst (λ (m : ℕ). (K m).range a h.back) same.0 h.back_text))
    r exact
  where
    same : (a : A) (t y : List ℕ) (h : Shaped K a (numeral n ++ t)) → first (t ++ y) ≡ first bytes → (h.value ≡ n) × (t ≡ h.back)
    same a t y h is =
        let one = ends h.value a h.back h.back_text in
        same_number n h.value h.back t y (behind_digits n h.value h.back t one.0 one.1 one.2 one.3 h.split) (λ digit at. no_digit digit (sym is ∙ at))

-- a digit that brings the number over its range
overflow : {A : Type 0} (limit : ℕ) (pos : 0 < limit) (K : ℕ → Language A) (ends : (n : ℕ) → Ends (K n)) (n digit : ℕ) (fits : n < limit) → 0 < n → IsDigit digit
    → limit ≤ n * 10 + (digit - 48) → (l : ℕ) (bytes : List ℕ) → Overflow (More limit pos K ends n fits) l (digit ∷ bytes) (digit ∷ bytes)
unfolding More after numbered
overflow {A} limit pos K ends n digit fits positive is_one over l bytes = record {
  front = [];
  split = refl;
  left = l;
  levels = refl;
  alive = let one = (K n).sample in record { value = one.0; more = one.1; text = record { value = n; is_one = fits; back = one.1; back_text = one.2; split = refl } };
  digit = digit;
  others = bytes;
  head = refl;
  is_no_bracket = λ e. omega (arith, e, is_one.0);
  shaped =
      let m = n * 10 + (digit - 48) in
      let one = (K m).sample in
      record {
        value = one.0;
        more = one.1;
        text = record { value = m; is_one = tt; back = one.1; back_text = (K m).within one.0 one.1 one.2; split = sym (joined n digit m one.1 positive is_one refl) };
      };
  dead = λ a x t y agrees h is.
      let one = ends h.value a h.back ((K h.value).within a h.back h.back_text) in
      let behind = behind_digits n h.value h.back t one.0 one.1 one.2 one.3 h.split in
      omega (arith, h.is_one, too_large h.value behind.more h.back t y one.0 one.1 one.2 one.3 behind.digits behind.number behind.text (sym (ap first is) ∙ agrees));
}
  where
    too_large : (v : ℕ) (more s t y : List ℕ) (end : ℕ) (rest : List ℕ) → s ≡ end ∷ rest → NoDigit end → AreDigits more → numeral v ≡ numeral n ++ more → t ≡ more ++ s
        → first (t ++ y) ≡ Some digit → limit ≤ v
    too_large v [] s t y end rest ended none digits e is head =
        let at : first (t ++ y) ≡ Some end = ap (λ (u : List ℕ). first (u ++ y)) (is ∙ ended) in
        let same : end ≡ digit = cc in
        absurd (none (subst IsDigit (sym same) is_one))
    too_large v (one ∷ more) s t y end rest ended none digits e is head =
        let at : first (t ++ y) ≡ Some one = ap (λ (u : List ℕ). first (u ++ y)) is in
        let same : one ≡ digit = cc in
        let w : v ≡ worth (worth 0 (numeral n)) (one ∷ more) = sym (worth-numeral v) ∙ ap (worth 0) e ∙ worth-append 0 (numeral n) (one ∷ more) in
        let u : v ≡ worth (n * 10 + (digit - 48)) more = w ∙ ap (λ (q : ℕ). worth q (one ∷ more)) (worth-numeral n) ∙ ap (λ (d : ℕ). worth (n * 10 + (d - 48)) more) same in
        omega (arith, over, u, worth-grows (n * 10 + (digit - 48)) more)

-- The text that belongs to a number is read exactly, if at most `most` bytes are left.
abbrev pub Reads : {A : Type 0} → (ℕ → Language A) → ℕ → ℕ → ℕ → (ℕ × List ℕ → Result (A × List ℕ) Halt) → Type 0
Reads K l k most f = (n : ℕ) (rest : List ℕ) → length rest ≤ most → Exact (K n) l k rest (f (n, rest))

exact_digits : {A : Type 0} (limit : ℕ) (pos : 0 < limit) (K : ℕ → Language A) (ends : (n : ℕ) → Ends (K n)) (l k most : ℕ) (f : ℕ × List ℕ → Result (A × List ℕ) Halt) → Reads K l k most f
    → (bytes : List ℕ) → length bytes ≤ most → (n : ℕ) (fits : n < limit) → 0 < n → Exact (More limit pos K ends n fits) l k bytes (digits_at limit n bytes >>= f)
exact_digits limit pos K ends l k most f reads [] le n fits positive = number_ends limit pos K ends n fits l k [] (λ byte e. absurd (cc)) (f (n, [])) (reads n [] le)
exact_digits limit pos K ends l k most f reads (byte ∷ bytes) le n fits positive =
    at_byte limit pos K ends l k most f reads byte bytes le n fits positive (is_digit byte) refl (nat_lt (n * 10 + (byte - 48)) limit) refl
    (λ m more_fits more_positive. exact_digits limit pos K ends l k most f reads bytes (omega (arith, le)) m more_fits more_positive)
  where
    at_byte : {A : Type 0} (limit : ℕ) (pos : 0 < limit) (K : ℕ → Language A) (ends : (n : ℕ) → Ends (K n)) (l k most : ℕ) (f : ℕ × List ℕ → Result (A × List ℕ) Halt) → Reads K l k most f
        → (byte : ℕ) (bytes : List ℕ) → length (byte ∷ bytes) ≤ most → (n : ℕ) (fits : n < limit) → 0 < n → (test : Bool) → is_digit byte ≡ test → (below : Bool) → nat_lt (n * 10 + (byte - 48)) limit ≡ below
        → ((m : ℕ) (more_fits : m < limit) → 0 < m → Exact (More limit pos K ends m more_fits) l k bytes (digits_at limit m bytes >>= f))
        → Exact (More limit pos K ends n fits) l k (byte ∷ bytes)
        ((if test then (if below then digits_at limit (n * 10 + (byte - 48)) bytes else Err (Overflows (byte ∷ bytes))) else Ok (n, byte ∷ bytes)) >>= f)
    at_byte limit pos K ends l k most f reads byte bytes le n fits positive true e true below others =
        let more_fits : n * 10 + (byte - 48) < limit = ltb-true (n * 10 + (byte - 48)) limit below in
        one_digit_more limit pos K ends n byte (n * 10 + (byte - 48)) fits more_fits positive (is_digit-true byte e) refl l k bytes
        (digits_at limit (n * 10 + (byte - 48)) bytes >>= f) (others (n * 10 + (byte - 48)) more_fits (omega arith))
    at_byte limit pos K ends l k most f reads byte bytes le n fits positive true e false below others =
        overflow limit pos K ends n byte fits positive (is_digit-true byte e) (ltb-false (n * 10 + (byte - 48)) limit below) l bytes
    at_byte limit pos K ends l k most f reads byte bytes le n fits positive false e test below others =
        number_ends limit pos K ends n fits l k (byte ∷ bytes) (λ b is. subst NoDigit (cc) (is_digit-false byte e)) (f (n, byte ∷ bytes)) (reads n (byte ∷ bytes) le)

-- ---- the first digit

zero_behind : {A : Type 0} (K : ℕ → Language A) (ends : (n : ℕ) → Ends (K n)) (a : A) (t : List ℕ) (h : Shaped K a (48 ∷ t)) → (h.value ≡ 0) × (t ≡ h.back)
zero_behind K ends a t h =
    let one = ends h.value a h.back h.back_text in
    let behind = digits_before (numeral h.value) (48 ∷ []) one.1 t one.0 (numeral-AreDigits h.value) ((omega arith, omega arith), tt) one.3
    (ap (λ (u : List ℕ). numeral h.value ++ u) (sym one.2) ∙ sym h.split) in
    let is_zero = zero_first h.value behind.0 behind.2 in
    (is_zero.0, behind.3 ∙ ap (λ (u : List ℕ). u ++ one.0 ∷ one.1) is_zero.1 ∙ sym one.2)

no_text_is_empty : {A : Type 0} (K : ℕ → Language A) (ends : (n : ℕ) → Ends (K n)) (a : A) → Shaped K a [] → ⊥
no_text_is_empty K ends a h = let one = ends h.value a h.back h.back_text in nil_digits (numeral h.value) one.1 h.back one.0 one.2 h.split

exact_zero : {A : Type 0} (limit : ℕ) (pos : 0 < limit) (K : ℕ → Language A) (ends : (n : ℕ) → Ends (K n)) (l k : ℕ) (bytes : List ℕ) (r : Result (A × List ℕ) Halt)
    → Exact (K 0) l k bytes r → Exact (numbered limit pos K ends) l k (48 ∷ bytes) r
unfolding numbered shaped_of
exact_zero limit pos K ends l k bytes r exact =
    Exact-residual (K 0) (numbered limit pos K ends) l l k (48 ∷ []) bytes refl
    (byte_residual 48 (K 0).shape (Shaped K)
    (λ a h. no_text_is_empty K ends a h)
    (λ a t h. record { value = 0; is_one = tt; back = t; back_text = h; split = refl })
    (λ a t h.
    let same = zero_behind K ends a t h in
    subst (λ (u : List ℕ). (K 0).shape a u) (sym same.1) (subst (λ (m : ℕ). (K m).shape a h.back) same.0 h.back_text)))
    (byte_residual 48 (K 0).range (Ranged limit K)
    (λ a h. no_text_is_empty K ends a (shaped_of limit K a [] h))
    (λ a t h. record { value = 0; is_one = pos; back = t; back_text = h; split = refl })
    (λ a t h.
    let same = zero_behind K ends a t (shaped_of limit K a (48 ∷ t) h) in
    subst (λ (u : List ℕ). (K 0).range a u) (sym same.1) (subst (λ (m : ℕ). (K m).range a h.back) same.0 h.back_text)))
    r exact

-- a first digit that is not 0
exact_first : {A : Type 0} (limit : ℕ) (above : 9 < limit) (pos : 0 < limit) (K : ℕ → Language A) (ends : (n : ℕ) → Ends (K n)) (l k most : ℕ) (f : ℕ × List ℕ → Result (A × List ℕ) Halt) → Reads K l k most f
    → (byte : ℕ) → 48 < byte → byte ≤ 57 → (bytes : List ℕ) → length bytes ≤ most → Exact (numbered limit pos K ends) l k (byte ∷ bytes) (digits_at limit (byte - 48) bytes >>= f)
unfolding More after numbered
exact_first limit above pos K ends l k most f reads byte low high bytes le =
    Exact-residual (More limit pos K ends (byte - 48) fits) (numbered limit pos K ends) l l k (byte ∷ []) bytes (levels_of_digit l byte (omega arith, high))
    (byte_residual byte (λ a t. Shaped K a (numeral (byte - 48) ++ t)) (Shaped K)
    (λ a h. no_text_is_empty K ends a h)
    (λ a t h. subst (λ (u : List ℕ). Shaped K a u) (one t) h)
    (λ a t h. subst (λ (u : List ℕ). Shaped K a u) (sym (one t)) h))
    (byte_residual byte (λ a t. Ranged limit K a (numeral (byte - 48) ++ t)) (Ranged limit K)
    (λ a h. no_text_is_empty K ends a (shaped_of limit K a [] h))
    (λ a t h. subst (λ (u : List ℕ). Ranged limit K a u) (one t) h)
    (λ a t h. subst (λ (u : List ℕ). Ranged limit K a u) (sym (one t)) h))
    (digits_at limit (byte - 48) bytes >>= f)
    (exact_digits limit pos K ends l k most f reads bytes le (byte - 48) fits (omega arith))
  where
    fits : byte - 48 < limit
    fits = omega arith

    same : 48 + (byte - 48) ≡ byte
    same = omega arith

    one : (t : List ℕ) → numeral (byte - 48) ++ t ≡ byte ∷ t
    one t = ap (λ (u : List ℕ). u ++ t) (numeral-digit (byte - 48) (omega arith) ∙ ap (λ (b : ℕ). b ∷ []) same)

-- a number begins with a digit
first_digit : (digits s t y : List ℕ) → AreDigits digits → (digits ≡ [] → ⊥) → t ≡ digits ++ s → (digit : ℕ) × (first (t ++ y) ≡ Some digit) × IsDigit digit
first_digit [] s t y are some e = absurd (some refl)
first_digit (digit ∷ digits) s t y are some e = (digit, ap (λ (u : List ℕ). first (u ++ y)) e, are.0)

no_number : {A : Type 0} (limit : ℕ) (pos : 0 < limit) (K : ℕ → Language A) (ends : (n : ℕ) → Ends (K n)) (l : ℕ) (bytes : List ℕ) → ((byte : ℕ) → first bytes ≡ Some byte → NoDigit byte)
    → Departure (numbered limit pos K ends) l bytes bytes
unfolding numbered
no_number limit pos K ends l bytes no_digit = record {
  front = [];
  split = refl;
  left = l;
  levels = refl;
  alive = let one = (K 0).sample in record { value = one.0; more = numeral 0 ++ one.1; text = record { value = 0; is_one = pos; back = one.1; back_text = one.2; split = refl } };
  dead = λ a x t y agrees h e.
      let start = first_digit (numeral h.value) h.back t y (numeral-AreDigits h.value) (numeral-not_empty h.value) h.split in
      no_digit start.0 (sym agrees ∙ ap first e ∙ start.1) start.2;
}

pub exact_numbered : {A : Type 0} (limit : ℕ) (above : 9 < limit) (pos : 0 < limit) (K : ℕ → Language A) (ends : (n : ℕ) → Ends (K n)) (l k : ℕ) (f : ℕ × List ℕ → Result (A × List ℕ) Halt)
    → (bytes : List ℕ) → Reads K l k (length bytes) f → Exact (numbered limit pos K ends) l k bytes (figures_at limit bytes >>= f)
exact_numbered limit above pos K ends l k f [] reads = no_number limit pos K ends l [] (λ byte e. absurd (cc))
exact_numbered {A} limit above pos K ends l k f (byte ∷ bytes) reads = at_byte (byte == 48) refl (nat_le 49 byte && nat_le byte 57) refl
  where
    at_byte : (naught : Bool) → (byte == 48) ≡ naught → (digit : Bool) → (nat_le 49 byte && nat_le byte 57) ≡ digit
        → Exact (numbered limit pos K ends) l k (byte ∷ bytes)
        ((if naught then Ok (0, bytes) else if digit then digits_at limit (byte - 48) bytes else Err (Departs (byte ∷ bytes))) >>= f)
    at_byte true e digit test =
        subst (λ (b : ℕ). Exact (numbered limit pos K ends) l k (b ∷ bytes) (f (0, bytes))) (sym (eqb-true byte 48 e))
        (exact_zero limit pos K ends l k bytes (f (0, bytes)) (reads 0 bytes (omega arith)))
    at_byte false e true test =
        let both = and_parts (nat_le 49 byte) (nat_le byte 57) test in
        let low : 48 < byte = omega (arith, leb-true 49 byte both.0) in
        exact_first limit above pos K ends l k (length (byte ∷ bytes)) f reads byte low (leb-true byte 57 both.1) bytes (omega arith)
    at_byte false e false test =
        no_number limit pos K ends l (byte ∷ bytes) (λ b is digit. no_digit b (cc) digit)
      where
        no_digit : (b : ℕ) → b ≡ byte → NoDigit b
        no_digit b same digit =
            elim (and_cases (nat_le 49 byte) (nat_le byte 57) test) [
              | inl low ↦ eqb-false byte 48 e (omega (arith, leb-false 49 byte low, digit.0, same))
              | inr high ↦ omega (arith, leb-false byte 57 high, digit.1, same)
            ]

-- ---- a number and one byte that ends it

abbrev pub ended_by : ℕ → ℕ → Language ℕ
ended_by end n = behind_word (end ∷ []) (nothing_more n)

pub ended_by-Ends : (end : ℕ) → NoDigit end → (n : ℕ) → Ends (ended_by end n)
unfolding behind_word nothing_more
ended_by-Ends end none n a s h = (end, h.0, h.2, none)

unfoldable pub number_before : (limit end : ℕ) → 0 < limit → NoDigit end → Language ℕ
unfolding numbered behind_word nothing_more
number_before limit end pos none = record {
  shape = λ n t. t ≡ numeral n ++ end ∷ [];
  range = λ n t. (n < limit) × (t ≡ numeral n ++ end ∷ []);
  within = λ n t h. h.1;
  sample = (0, numeral 0 ++ end ∷ [], (pos, refl));
  unique = λ m n s t x y h k e.
      (numbered limit pos (ended_by end) (ended_by-Ends end none)).unique m n s t x y
      record { value = m; is_one = tt; back = end ∷ []; back_text = ([], (refl, refl), refl); split = h }
      record { value = n; is_one = tt; back = end ∷ []; back_text = ([], (refl, refl), refl); split = k }
      e;
}

pub exact_number : (limit end : ℕ) (above : 9 < limit) (pos : 0 < limit) (none : NoDigit end) (l k : ℕ) → levels_behind l (end ∷ []) ≡ Some k
    → (bytes : List ℕ) → Exact (number_before limit end pos none) l k bytes (number_at limit (end ∷ []) bytes)
unfolding number_at number_before numbered behind_word nothing_more
exact_number limit end above pos none l k levels bytes =
    Exact-residual (numbered limit pos (ended_by end) (ended_by-Ends end none)) (number_before limit end pos none) l l k [] bytes refl
    (same_residual (Shaped (ended_by end)) (λ n t. t ≡ numeral n ++ end ∷ []) to_shape
    (λ n t h. record { value = n; is_one = tt; back = end ∷ []; back_text = ([], (refl, refl), refl); split = h }))
    (same_residual (Ranged limit (ended_by end)) (λ n t. (n < limit) × (t ≡ numeral n ++ end ∷ []))
    (λ n t h. (subst (λ (m : ℕ). m < limit) (sym h.back_text.1.0) h.is_one, to_shape n t (shaped_of limit (ended_by end) n t h)))
    (λ n t h. record { value = n; is_one = h.0; back = end ∷ []; back_text = ([], (refl, refl), refl); split = h.1 }))
    (number_at limit (end ∷ []) bytes)
    (exact_numbered limit above pos (ended_by end) (ended_by-Ends end none) l k (λ number. word_at (end ∷ []) number.1 >>= λ rest. Ok (number.0, rest)) bytes
    (λ n rest le. exact_word (nothing_more n) l k k (end ∷ []) rest (λ more. Ok (n, more)) levels (λ more. exact_nothing_more n k more)))
  where
    to_shape : (n : ℕ) (t : List ℕ) → Shaped (ended_by end) n t → t ≡ numeral n ++ end ∷ []
    to_shape n t h =
        h.split ∙ ap (λ (m : ℕ). numeral m ++ h.back) (sym h.back_text.1.0) ∙ ap (λ (u : List ℕ). numeral n ++ u) (h.back_text.2 ∙ ap (λ (u : List ℕ). end ∷ u) h.back_text.1.1)
