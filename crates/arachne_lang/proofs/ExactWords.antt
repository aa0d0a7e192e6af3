-- Words that their letters distinguish are read exactly.
use Rattle.std.proofs.Common.{◌≡◌, ℕ, zero, suc, List, [], ◌∷◌, ◌++◌, Option, Some, None, refl, sym, ap, subst, ◌∙◌, append_assoc, inl, inr, ◌==◌, ◌&&◌, if◌then◌else◌, Bool, true, false, ◌⊎◌, append-nil}
use Rattle.std.proofs.lemmas.{Bool.{eqb-true, eqb-false, and_parts}, List.append_cancel_left}
use Rattle.arachne_lang.specs.Reading.{Words, End, Behind, Letter, words_at}
use Rattle.arachne_lang.proofs.Languages.{level_behind, levels_behind, Language, first, Exact, Residual, Exact-residual, Exact-among, byte_residual, same_residual, behind_word, exact_word}

-- ---- the spelling of the words

abbrev pub spells : {A : Type 0} → Words A → A → List ℕ → Type 0
spells (End value) a t = (a ≡ value) × (t ≡ [])
spells (Behind letters words) a t = (s : List ℕ) × spells words a s × (t ≡ letters ++ s)
spells (Letter letter words others) a t = ((s : List ℕ) × spells words a s × (t ≡ letter ∷ s)) ⊎ spells others a t

-- ---- words that differ by their letters

-- no bracket
abbrev pub is_letter : ℕ → Bool
is_letter byte = if byte == 40 then false else if byte == 41 then false else true

abbrev pub are_letters : List ℕ → Bool
are_letters [] = true
are_letters (byte ∷ bytes) = is_letter byte && are_letters bytes

-- none is empty or begins with this letter
abbrev pub avoids : {A : Type 0} → ℕ → Words A → Bool
avoids letter (End value) = false
avoids letter (Behind [] words) = avoids letter words
avoids letter (Behind (byte ∷ letters) words) = if byte == letter then false else true
avoids letter (Letter other words others) = (if other == letter then false else true) && avoids letter others

abbrev pub are_told : {A : Type 0} → Words A → Bool
are_told (End value) = true
are_told (Behind letters words) = are_letters letters && are_told words
are_told (Letter letter words others) = is_letter letter && (avoids letter others && (are_told words && are_told others))

differs : (test : Bool) → (if test then false else true) ≡ true → test ≡ false
differs true e = absurd (cc)
differs false e = refl

pub avoids-apart : {A : Type 0} (letter : ℕ) (words : Words A) → avoids letter words ≡ true → (a : A) (t y : List ℕ) → spells words a t → first (t ++ y) ≡ Some letter → ⊥
avoids-apart letter (End value) e a t y h is = absurd (cc)
avoids-apart letter (Behind [] words) e a t y h is = avoids-apart letter words e a t y (subst (λ (u : List ℕ). spells words a u) (sym h.2) h.1) is
avoids-apart letter (Behind (byte ∷ letters) words) e a t y h is =
    let at : first (t ++ y) ≡ Some byte = ap (λ (u : List ℕ). first (u ++ y)) h.2 in
    eqb-false byte letter (differs (byte == letter) e) (cc)
avoids-apart letter (Letter other words others) e a t y (inl h) is =
    let at : first (t ++ y) ≡ Some other = ap (λ (u : List ℕ). first (u ++ y)) h.2 in
    eqb-false other letter (differs (other == letter) (and_parts (if other == letter then false else true) (avoids letter others) e).0) (cc)
avoids-apart letter (Letter other words others) e a t y (inr h) is =
    avoids-apart letter others (and_parts (if other == letter then false else true) (avoids letter others) e).1 a t y h is

level_of_letter : (n byte : ℕ) → is_letter byte ≡ true → level_behind n byte ≡ Some n
level_of_letter n byte e = by_tests (byte == 40) (byte == 41) e
  where
    by_tests : (opening closing : Bool) → (if opening then false else if closing then false else true) ≡ true
        → (if opening then (elim n as (λ k. Option ℕ) [ zero ↦ None | suc m ↦ Some m ]) else if closing then Some (suc n) else Some n) ≡ Some n
    by_tests true closing e = absurd (cc)
    by_tests false true e = absurd (cc)
    by_tests false false e = refl

levels_of_letters : (n : ℕ) (letters : List ℕ) → are_letters letters ≡ true → levels_behind n letters ≡ Some n
levels_of_letters n [] e = refl
levels_of_letters n (byte ∷ bytes) e =
    let both = and_parts (is_letter byte) (are_letters bytes) e in
    rw (level_of_letter n byte both.0) (levels_of_letters n bytes both.1)

-- the facts about words that go on with a letter, and others that don't
record Told {A : Type 0} (letter : ℕ) (words others : Words A) : Type 0 where
  is_one : is_letter letter ≡ true
  apart : avoids letter others ≡ true
  with_it : are_told words ≡ true
  without : are_told others ≡ true

told : {A : Type 0} (letter : ℕ) (words others : Words A) → are_told (Letter letter words others) ≡ true → Told letter words others
told letter words others e =
    let one = and_parts (is_letter letter) (avoids letter others && (are_told words && are_told others)) e in
    let two = and_parts (avoids letter others) (are_told words && are_told others) one.1 in
    let three = and_parts (are_told words) (are_told others) two.1 in
    record { is_one = one.0; apart = two.0; with_it = three.0; without = three.1 }

pub sample_of : {A : Type 0} (words : Words A) → (a : A) × (t : List ℕ) × spells words a t
sample_of (End value) = (value, [], (refl, refl))
sample_of (Behind letters words) = let one = sample_of words in (one.0, letters ++ one.1, (one.1, one.2, refl))
sample_of (Letter letter words others) = let one = sample_of words in (one.0, letter ∷ one.1, inl (one.1, one.2, refl))

pub spells-unique : {A : Type 0} (words : Words A) → are_told words ≡ true → (a b : A) (s t x y : List ℕ) → spells words a s → spells words b t → s ++ x ≡ t ++ y → (a ≡ b) × (s ≡ t)
spells-unique (End value) known a b s t x y h k e = (h.0 ∙ sym k.0, h.1 ∙ sym k.1)
spells-unique (Behind letters words) known a b s t x y h k e =
    let whole : letters ++ (h.0 ++ x) ≡ letters ++ (k.0 ++ y) =
    sym (append_assoc letters h.0 x) ∙ ap (λ (u : List ℕ). u ++ x) (sym h.2) ∙ e ∙ ap (λ (u : List ℕ). u ++ y) k.2 ∙ append_assoc letters k.0 y in
    let same =
    spells-unique words (and_parts (are_letters letters) (are_told words) known).1 a b h.0 k.0 x y h.1 k.1 (append_cancel_left letters (h.0 ++ x) (k.0 ++ y) whole) in
    (same.0, h.2 ∙ ap (λ (u : List ℕ). letters ++ u) same.1 ∙ sym k.2)
spells-unique (Letter letter words others) known a b s t x y (inl h) (inl k) e =
    let whole : letter ∷ (h.0 ++ x) ≡ letter ∷ (k.0 ++ y) = ap (λ (u : List ℕ). u ++ x) (sym h.2) ∙ e ∙ ap (λ (u : List ℕ). u ++ y) k.2 in
    let same = spells-unique words (told letter words others known).with_it a b h.0 k.0 x y h.1 k.1 (append_cancel_left (letter ∷ []) (h.0 ++ x) (k.0 ++ y) whole) in
    (same.0, h.2 ∙ ap (λ (u : List ℕ). letter ∷ u) same.1 ∙ sym k.2)
spells-unique (Letter letter words others) known a b s t x y (inl h) (inr k) e =
    absurd (avoids-apart letter others (told letter words others known).apart b t y k (sym (ap first e) ∙ ap (λ (u : List ℕ). first (u ++ x)) h.2))
spells-unique (Letter letter words others) known a b s t x y (inr h) (inl k) e =
    absurd (avoids-apart letter others (told letter words others known).apart a s x h (ap first e ∙ ap (λ (u : List ℕ). first (u ++ y)) k.2))
spells-unique (Letter letter words others) known a b s t x y (inr h) (inr k) e =
    spells-unique others (told letter words others known).without a b s t x y h k e

-- the language of the words
unfoldable pub vocabulary : {A : Type 0} (words : Words A) → are_told words ≡ true → Language A
vocabulary words known = record {
  shape = spells words;
  range = spells words;
  within = λ a t h. h;
  sample = sample_of words;
  unique = spells-unique words known;
}

-- ---- reading them

-- with a letter, those that have it
behind_letter : {A : Type 0} (letter : ℕ) (words others : Words A) (known : are_told (Letter letter words others) ≡ true) (n : ℕ) (bytes : List ℕ)
    → Exact (vocabulary words (told letter words others known).with_it) n n bytes (words_at words bytes)
    → Exact (vocabulary (Letter letter words others) known) n n (letter ∷ bytes) (words_at words bytes)
unfolding vocabulary
behind_letter {A} letter words others known n bytes exact =
    Exact-residual (vocabulary words (told letter words others known).with_it) (vocabulary (Letter letter words others) known) n n n (letter ∷ []) bytes
    (rw (level_of_letter n letter (told letter words others known).is_one) refl) residual residual (words_at words bytes) exact
  where
    apart : (a : A) (t y : List ℕ) → spells others a t → first (t ++ y) ≡ Some letter → ⊥
    apart a t y h is = avoids-apart letter others (told letter words others known).apart a t y h is

    empty : (a : A) → spells (Letter letter words others) a [] → ⊥
    empty a (inl h) = let e = h.2 in absurd (cc)
    empty a (inr h) = apart a [] (letter ∷ []) h refl

    from : (a : A) (t : List ℕ) → spells (Letter letter words others) a (letter ∷ t) → spells words a t
    from a t (inl h) = subst (λ (u : List ℕ). spells words a u) (sym (append_cancel_left (letter ∷ []) t h.0 h.2)) h.1
    from a t (inr h) = absurd (apart a (letter ∷ t) [] h refl)

    residual : Residual (letter ∷ []) (spells words) (spells (Letter letter words others))
    residual = byte_residual letter (spells words) (spells (Letter letter words others)) empty (λ a t h. inl (t, h, refl)) from

-- without it, the others
without_letter : {A : Type 0} (letter : ℕ) (words others : Words A) (known : are_told (Letter letter words others) ≡ true) (n : ℕ) (bytes : List ℕ)
    → (first bytes ≡ Some letter → ⊥) → Exact (vocabulary others (told letter words others known).without) n n bytes (words_at others bytes)
    → Exact (vocabulary (Letter letter words others) known) n n bytes (words_at others bytes)
unfolding vocabulary
without_letter {A} letter words others known n bytes differ exact =
    Exact-among (vocabulary others (told letter words others known).without) (vocabulary (Letter letter words others) known) n n bytes
    (λ a t h. inr h) (λ a t h. inr h) only only (words_at others bytes) exact
  where
    only : (a : A) (t y : List ℕ) → spells (Letter letter words others) a t → first (t ++ y) ≡ first bytes → spells others a t
    only a t y (inl h) is = absurd (differ (sym is ∙ ap (λ (u : List ℕ). first (u ++ y)) h.2))
    only a t y (inr h) is = h

pub exact_words : {A : Type 0} (words : Words A) (known : are_told words ≡ true) (n : ℕ) (bytes : List ℕ) → Exact (vocabulary words known) n n bytes (words_at words bytes)
unfolding vocabulary behind_word
exact_words (End value) known n bytes = ([], (refl, refl), refl, refl)
exact_words (Behind letters words) known n bytes =
    let both = and_parts (are_letters letters) (are_told words) known in
    Exact-residual (behind_word letters (vocabulary words both.1)) (vocabulary (Behind letters words) known) n n n [] bytes refl
    (same_residual (behind_word letters (vocabulary words both.1)).shape (spells (Behind letters words)) (λ a t h. h) (λ a t h. h))
    (same_residual (behind_word letters (vocabulary words both.1)).range (spells (Behind letters words)) (λ a t h. h) (λ a t h. h))
    (words_at (Behind letters words) bytes)
    (exact_word (vocabulary words both.1) n n n letters bytes (λ rest. words_at words rest) (levels_of_letters n letters both.0) (λ rest. exact_words words both.1 n rest))
exact_words (Letter letter words others) known n [] =
    without_letter letter words others known n [] (λ e. absurd (cc)) (exact_words others (told letter words others known).without n [])
exact_words (Letter letter words others) known n (byte ∷ bytes) =
    at_byte letter words others known n byte bytes (byte == letter) refl
    (exact_words words (told letter words others known).with_it n bytes) (exact_words others (told letter words others known).without n (byte ∷ bytes))
  where
    at_byte : {A : Type 0} (letter : ℕ) (words others : Words A) (known : are_told (Letter letter words others) ≡ true) (n byte : ℕ) (bytes : List ℕ) (test : Bool) → (byte == letter) ≡ test
        → Exact (vocabulary words (told letter words others known).with_it) n n bytes (words_at words bytes)
        → Exact (vocabulary others (told letter words others known).without) n n (byte ∷ bytes) (words_at others (byte ∷ bytes))
        → Exact (vocabulary (Letter letter words others) known) n n (byte ∷ bytes) (if test then words_at words bytes else words_at others (byte ∷ bytes))
    at_byte letter words others known n byte bytes true e with_it without =
        subst (λ (b : ℕ). Exact (vocabulary (Letter letter words others) known) n n (b ∷ bytes) (words_at words bytes)) (sym (eqb-true byte letter e))
        (behind_letter letter words others known n bytes with_it)
    at_byte letter words others known n byte bytes false e with_it without =
        without_letter letter words others known n (byte ∷ bytes) (λ is. eqb-false byte letter e (cc)) without

-- ---- all words

-- of each word, behind these bytes
abbrev pub OfEach : {A : Type 0} → (A → List ℕ → Type 0) → Words A → List ℕ → Type 0
OfEach P (End value) before = P value before
OfEach P (Behind letters words) before = OfEach P words (before ++ letters)
OfEach P (Letter letter words others) before = OfEach P words (before ++ letter ∷ []) × OfEach P others before

pub of_each : {A : Type 0} (P : A → List ℕ → Type 0) (words : Words A) (before : List ℕ) → OfEach P words before → (a : A) (t : List ℕ) → spells words a t → P a (before ++ t)
of_each {A} P (End value) before each a t h =
    subst (λ (u : List ℕ). P a u) (sym (ap (λ (u : List ℕ). before ++ u) h.1 ∙ append-nil before)) (subst (λ (b : A). P b before) (sym h.0) each)
of_each {A} P (Behind letters words) before each a t h =
    subst (λ (u : List ℕ). P a u) (append_assoc before letters h.0 ∙ ap (λ (u : List ℕ). before ++ u) (sym h.2)) (of_each P words (before ++ letters) each a h.0 h.1)
of_each {A} P (Letter letter words others) before each a t (inl h) =
    subst (λ (u : List ℕ). P a u) (append_assoc before (letter ∷ []) h.0 ∙ ap (λ (u : List ℕ). before ++ u) (sym h.2))
    (of_each P words (before ++ letter ∷ []) each.0 a h.0 h.1)
of_each {A} P (Letter letter words others) before each a t (inr h) = of_each P others before each.1 a t h
