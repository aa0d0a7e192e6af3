-- An expression is read exactly: each fault is at its byte.
use Rattle.std.proofs.Common.{◌≡◌, ℕ, zero, suc, List, [], ◌∷◌, ◌++◌, Some, Err, refl, sym, ap, subst, ◌∙◌, lit<, ◌==◌, if◌then◌else◌, Bool, true, false, codes}
use Rattle.std.proofs.lemmas.{Bool.{eqb-true, eqb-false}, List.append_cancel_left}
use Rattle.arachne_lang.proofs.ExactForms.{Exactly, contents, contents_at, exact_contents, contents_shown, contents_of_shown, range_contents_shown, range_of_contents_shown}
use Rattle.arachne_lang.proofs.{ExactWords.vocabulary, ExpressionTexts.{expression, opens}}
use Rattle.arachne_lang.proofs.Forms.{contents_text, kind_of, made, word_of, formed, made-text, made-fits, fits-made}
use Rattle.arachne_lang.proofs.HeadWords.{heads, exact_head, spelled, word_spelled}
use Rattle.arachne_lang.proofs.Languages.{Language, first, Departure, Deepening, Exact, Residual, Exact-residual, byte_residual, same_residual, sequence, exact_sequence, after}
use Rattle.arachne_lang.specs.Reading.{Departs, TooDeep, Reading, words_at, form_words, behind_word_at, form_at, expression_at}
use Rattle.arachne_lang.specs.{Spelling.spelling, Text.NumbersFit, declared.reading.heads.Head.Head}
use Rattle.arachne_lang.specs.declared.reading.heads.Head.TheVariants as head
use Rattle.arachne_program.specs.Tree.{Tree, Number}

-- ---- a form

-- the reading of each form behind its word
form_is : (h : Head) (tree_at : List ℕ → Reading Tree) (bytes : List ℕ) → contents_at (kind_of h) (made h) tree_at bytes ≡ behind_word_at tree_at h bytes
unfolding behind_word_at
form_is head.Num tree_at bytes = refl
form_is _ tree_at bytes = refl

-- behind the opening bracket
unfoldable forms : Language Tree
unfolding expression
forms = after (codes "(") expression (Number 0) (codes "num 0)") (lit< tt, refl)

-- a word, and the contents that go with it
abbrev Spelled : Language Tree
Spelled = sequence heads (λ h. contents (kind_of h) (made h))

spelled_form : (h : Head) (tree : Tree) (front back t text : List ℕ) → t ≡ front ++ back → front ≡ word_of h → back ≡ text → spelling tree ≡ 40 ∷ (word_of h ++ text) → 40 ∷ t ≡ spelling tree
spelled_form h tree front back t text e f g is =
    ap (λ (u : List ℕ). 40 ∷ u) (e ∙ ap (λ (u : List ℕ). u ++ back) f ∙ ap (λ (u : List ℕ). word_of h ++ u) g) ∙ sym is

to_shape : (tree : Tree) (t : List ℕ) → Spelled.shape tree t → 40 ∷ t ≡ spelling tree
unfolding sequence heads vocabulary
to_shape tree t h =
    let shown = contents_shown (kind_of h.value) (made h.value) tree h.back h.back_text in
    spelled_form h.value tree h.front h.back t (contents_text (kind_of h.value) shown.values) h.split (word_spelled h.value h.front h.front_text) shown.text
    (ap spelling shown.is ∙ made-text h.value shown.values)

to_range : (tree : Tree) (t : List ℕ) → Spelled.range tree t → NumbersFit tree × (40 ∷ t ≡ spelling tree)
unfolding sequence heads vocabulary
to_range tree t h =
    let shown = range_contents_shown (kind_of h.value) (made h.value) tree h.back h.back_text in (
      subst NumbersFit (sym shown.is) (made-fits h.value shown.values shown.fit),
      spelled_form h.value tree h.front h.back t (contents_text (kind_of h.value) shown.values) h.split (word_spelled h.value h.front h.front_text) shown.text
          (ap spelling shown.is ∙ made-text h.value shown.values),
    )

from_shape : (tree : Tree) (t : List ℕ) → 40 ∷ t ≡ spelling tree → Spelled.shape tree t
unfolding sequence heads vocabulary
from_shape tree t e =
    let f = formed tree in
    record {
      value = f.form;
      front = word_of f.form;
      back = contents_text (kind_of f.form) f.contents;
      front_text = spelled f.form;
      back_text = contents_of_shown (kind_of f.form) (made f.form) tree f.contents f.is;
      split = append_cancel_left (40 ∷ []) t (word_of f.form ++ contents_text (kind_of f.form) f.contents) (e ∙ ap spelling f.is ∙ made-text f.form f.contents);
    }

from_range : (tree : Tree) (t : List ℕ) → NumbersFit tree × (40 ∷ t ≡ spelling tree) → Spelled.range tree t
unfolding sequence heads vocabulary
from_range tree t h =
    let f = formed tree in
    record {
      value = f.form;
      front = word_of f.form;
      back = contents_text (kind_of f.form) f.contents;
      front_text = spelled f.form;
      back_text = range_of_contents_shown (kind_of f.form) (made f.form) tree f.contents (fits-made f.form f.contents (subst NumbersFit f.is h.0)) f.is;
      split = append_cancel_left (40 ∷ []) t (word_of f.form ++ contents_text (kind_of f.form) f.contents) (h.1 ∙ ap spelling f.is ∙ made-text f.form f.contents);
    }

exact_form : (levels : ℕ) (tree_at : List ℕ → Reading Tree) → Exactly levels tree_at → (bytes : List ℕ) → Exact forms levels (suc levels) bytes (form_at tree_at bytes)
unfolding form_at forms expression after
exact_form levels tree_at tree bytes =
    Exact-residual Spelled forms levels levels (suc levels) [] bytes refl
    (same_residual Spelled.shape (λ tree t. 40 ∷ t ≡ spelling tree) to_shape from_shape)
    (same_residual Spelled.range (λ tree t. NumbersFit tree × (40 ∷ t ≡ spelling tree)) to_range from_range)
    (form_at tree_at bytes)
    (exact_sequence heads (λ h. contents (kind_of h) (made h)) levels levels (suc levels) bytes (words_at form_words bytes) (λ head. behind_word_at tree_at head.0 head.1)
    (exact_head levels bytes)
    (λ head. subst (Exact (contents (kind_of head.0) (made head.0)) levels (suc levels) head.1) (form_is head.0 tree_at head.1)
    (exact_contents (kind_of head.0) (made head.0) levels tree_at tree head.1)))

-- ---- expressions

not_empty : (tree : Tree) → [] ≡ spelling tree → ⊥
not_empty tree e = let at = opens tree in absurd (none at.0 (e ∙ at.1))
  where
    none : (rest : List ℕ) → [] ≡ 40 ∷ rest → ⊥
    none rest e = cc

-- behind the opening bracket
bracket_shape : Residual (40 ∷ []) forms.shape expression.shape
unfolding forms expression after
bracket_shape =
    byte_residual 40 (λ tree t. 40 ∷ t ≡ spelling tree) (λ tree t. t ≡ spelling tree) (λ tree h. not_empty tree h) (λ tree t h. h) (λ tree t h. h)

bracket_range : Residual (40 ∷ []) forms.range expression.range
unfolding forms expression after
bracket_range =
    byte_residual 40 (λ tree t. NumbersFit tree × (40 ∷ t ≡ spelling tree)) (λ tree t. NumbersFit tree × (t ≡ spelling tree))
    (λ tree h. not_empty tree h.1) (λ tree t h. h) (λ tree t h. h)

no_expression : (levels : ℕ) (bytes : List ℕ) → (first bytes ≡ Some 40 → ⊥) → Departure expression levels bytes bytes
unfolding expression
no_expression levels bytes no_bracket = record {
  front = [];
  split = refl;
  left = levels;
  levels = refl;
  alive = record { value = Number 0; more = codes "(num 0)"; text = (lit< tt, refl) };
  dead = λ tree x t y agrees h e.
      let at = opens tree in
      no_bracket (sym agrees ∙ ap first e ∙ ap (λ (u : List ℕ). first (u ++ y)) (h ∙ at.1));
}

too_deep : (bytes : List ℕ) → Deepening expression 0 (40 ∷ bytes) (40 ∷ bytes)
unfolding expression
too_deep bytes = record {
  front = [];
  split = refl;
  levels = refl;
  others = bytes;
  head = refl;
  alive = record { value = Number 0; more = codes "num 0)"; text = (lit< tt, refl) };
}

bracketed : (levels byte : ℕ) (bytes : List ℕ) (tree_at : List ℕ → Reading Tree) → Exactly levels tree_at → (test : Bool) → (byte == 40) ≡ test
    → Exact expression (suc levels) (suc levels) (byte ∷ bytes) (if test then form_at tree_at bytes else Err (Departs (byte ∷ bytes)))
bracketed levels byte bytes tree_at tree true e =
    subst (λ (b : ℕ). Exact expression (suc levels) (suc levels) (b ∷ bytes) (form_at tree_at bytes)) (sym (eqb-true byte 40 e))
    (Exact-residual forms expression (suc levels) levels (suc levels) (40 ∷ []) bytes refl bracket_shape bracket_range (form_at tree_at bytes) (exact_form levels tree_at tree bytes))
bracketed levels byte bytes tree_at tree false e = no_expression (suc levels) (byte ∷ bytes) (λ at. eqb-false byte 40 e (cc))

no_level : (byte : ℕ) (bytes : List ℕ) (test : Bool) → (byte == 40) ≡ test → Exact expression 0 0 (byte ∷ bytes) (if test then Err (TooDeep (40 ∷ bytes)) else Err (Departs (byte ∷ bytes)))
no_level byte bytes true e = subst (λ (b : ℕ). Deepening expression 0 (b ∷ bytes) (40 ∷ bytes)) (sym (eqb-true byte 40 e)) (too_deep bytes)
no_level byte bytes false e = no_expression 0 (byte ∷ bytes) (λ is. eqb-false byte 40 e (cc))

pub exact_expression : (levels : ℕ) (bytes : List ℕ) → Exact expression levels levels bytes (expression_at levels bytes)
unfolding expression_at
exact_expression zero [] = no_expression 0 [] (λ e. absurd (cc))
exact_expression zero (byte ∷ bytes) = no_level byte bytes (byte == 40) refl
exact_expression (suc levels) [] = no_expression (suc levels) [] (λ e. absurd (cc))
exact_expression (suc levels) (byte ∷ bytes) = bracketed levels byte bytes (expression_at levels) (exact_expression levels) (byte == 40) refl
