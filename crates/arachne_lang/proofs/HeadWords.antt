-- The words of the forms are read exactly.
use Rattle.std.proofs.Common.{◌≡◌, ℕ, List, [], ◌++◌, Some, Result, Ok, refl, sym, subst, ◌∙◌, true, append-nil}
use Rattle.arachne_program.specs.declared.program.Class.TheVariants as class
use Rattle.arachne_program.specs.declared.program.Operation.TheVariants as operation
use Rattle.arachne_program.specs.declared.program.Reduction.TheVariants as reduction
use Rattle.arachne_lang.proofs.ExactWords.{spells, spells-unique, are_told, vocabulary, exact_words, OfEach, of_each}
use Rattle.arachne_lang.proofs.{Forms.word_of, Languages.{levels_behind, Language, Exact}}
use Rattle.arachne_lang.specs.Reading.{Halt, words_at, form_words, words_in_f, words_in_i, words_in_l, words_in_m, words_in_s, words_of_sweeps, sweeps_in_m}
use Rattle.arachne_lang.specs.declared.reading.heads.Head.{Head}
use Rattle.arachne_lang.specs.declared.reading.heads.Head.TheVariants as head

pub form_words-told : are_told form_words ≡ true
unfolding form_words words_in_f words_in_i words_in_l words_in_m words_in_s words_of_sweeps sweeps_in_m
form_words-told = refl

-- each word is read
again : (h : Head) → words_at form_words (word_of h) ≡ Ok (h, [])
unfolding form_words words_in_f words_in_i words_in_l words_in_m words_in_s words_of_sweeps sweeps_in_m
again (head.Binary operation.Add) = refl
again (head.Fork class.Normal) = refl
again (head.Sweep reduction.Sum) = refl
again _ = refl

-- and there is no other
abbrev IsWord : Head → List ℕ → Type 0
IsWord h t = t ≡ word_of h

each_word : OfEach IsWord form_words []
unfolding form_words words_in_f words_in_i words_in_l words_in_m words_in_s words_of_sweeps sweeps_in_m
each_word = (
  refl,
  (
    refl,
    (
      (refl, (refl, refl)),
      (
        refl,
        (
          (refl, refl),
          (
            ((refl, refl), refl),
            (
              (refl, (refl, refl)),
              (
                refl,
                (
                  (refl, (refl, (refl, (refl, (refl, refl))))),
                  (
                    refl,
                    (
                      refl,
                      refl,
                    ),
                  ),
                ),
              ),
            ),
          ),
        ),
      ),
    ),
  ),
)

pub word_spelled : (h : Head) (t : List ℕ) → spells form_words h t → t ≡ word_of h
word_spelled h t is = of_each IsWord form_words [] each_word h t is

unfoldable pub heads : Language Head
heads = vocabulary form_words form_words-told

pub exact_head : (n : ℕ) (bytes : List ℕ) → Exact heads n n bytes (words_at form_words bytes)
unfolding heads
exact_head n bytes = exact_words form_words form_words-told n bytes

pub spelled : (h : Head) → spells form_words h (word_of h)
unfolding vocabulary
spelled h =
    let P : Result (Head × List ℕ) Halt → Type 0 = λ r. Exact (vocabulary form_words form_words-told) 0 0 (word_of h) r in
    let exact : P (Ok (h, [])) = subst P (again h) (exact_words form_words form_words-told 0 (word_of h)) in
    subst (λ (t : List ℕ). spells form_words h t) (sym (append-nil exact.0) ∙ sym exact.2) exact.1

-- and has no bracket
pub word-levels : (n : ℕ) (h : Head) → levels_behind n (word_of h) ≡ Some n
unfolding vocabulary
word-levels n h =
    let P : Result (Head × List ℕ) Halt → Type 0 = λ r. Exact (vocabulary form_words form_words-told) n n (word_of h) r in
    let exact : P (Ok (h, [])) = subst P (again h) (exact_words form_words form_words-told n (word_of h)) in
    subst (λ (t : List ℕ). levels_behind n t ≡ Some n) (sym (append-nil exact.0) ∙ sym exact.2) exact.3

pub word-unique : (g h : Head) (x y : List ℕ) → word_of g ++ x ≡ word_of h ++ y → g ≡ h
word-unique g h x y e = (spells-unique form_words form_words-told g h (word_of g) (word_of h) x y (spelled g) (spelled h) e).0
