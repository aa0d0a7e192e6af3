-- The rest of a form behind its word is read exactly.
use Rattle.std.proofs.Common.{◌≡◌, ℕ, zero, suc, ◌^◌, ◌<◌, List, [], ◌++◌, Some, Ok, refl, sym, ap, subst, ◌∙◌, append_assoc, lit<, codes, append-nil}
use Rattle.arachne_program.specs.Tree.{Tree, Number}
use Rattle.arachne_lang.{proofs.ExactNumber.{number_before, exact_number}, specs.Text.NumbersFit}
use Rattle.arachne_lang.proofs.ExpressionTexts.{expression, spelling-unique}
use Rattle.arachne_lang.proofs.Forms.{Values, Each, joined, Kind, Numeral, Parts, Both, Contents, contents_text, Fit}
use Rattle.arachne_lang.proofs.Languages.{levels_behind, Language, Exact, Exact-residual, same_residual, sequence, exact_sequence, nothing_more, exact_nothing_more, behind_word, exact_word}
use Rattle.arachne_lang.proofs.Numerals.{bracket_is_no_digit, space_is_no_digit}
use Rattle.arachne_lang.specs.{Reading.{Reading, ◌>>=◌, word_at, number_at, part_at}, Spelling.{numeral, spelling}}

-- An expression is read exactly with this many levels left.
abbrev pub Exactly : ℕ → (List ℕ → Reading Tree) → Type 0
Exactly levels tree_at = (bytes : List ℕ) → Exact expression levels levels bytes (tree_at bytes)

any_digit : 9 < 2 ^ 64
any_digit = lit< tt

-- ---- an expression and what ends it

unfoldable pub expression_before : List ℕ → Language Tree
expression_before end = record {
  shape = λ tree t. t ≡ spelling tree ++ end;
  range = λ tree t. NumbersFit tree × (t ≡ spelling tree ++ end);
  within = λ tree t h. h.1;
  sample = (Number 0, spelling (Number 0) ++ end, (lit< tt, refl));
  unique = λ a b s t x y h k e.
      let whole : spelling a ++ (end ++ x) ≡ spelling b ++ (end ++ y) =
      sym (append_assoc (spelling a) end x) ∙ ap (λ (u : List ℕ). u ++ x) (sym h) ∙ e ∙ ap (λ (u : List ℕ). u ++ y) k ∙ append_assoc (spelling b) end y in
      let same = spelling-unique a b (end ++ x) (end ++ y) whole in
      (same, h ∙ ap (λ (u : Tree). spelling u ++ end) same ∙ sym k);
}

before_joined : (t front back s end text : List ℕ) → t ≡ front ++ back → front ≡ text → back ≡ end ++ s → s ≡ [] → t ≡ text ++ end
before_joined t front back s end text e f g h = let n = append-nil end in cc

exact_before : (levels behind : ℕ) (end : List ℕ) → levels_behind levels end ≡ Some behind → (tree_at : List ℕ → Reading Tree) → Exactly levels tree_at → (bytes : List ℕ)
    → Exact (expression_before end) levels behind bytes (part_at tree_at end bytes)
unfolding part_at expression_before expression sequence behind_word nothing_more
exact_before levels behind end same tree_at tree bytes =
    Exact-residual (sequence expression (λ a. behind_word end (nothing_more a))) (expression_before end) levels levels behind [] bytes refl
    (same_residual (sequence expression (λ a. behind_word end (nothing_more a))).shape (expression_before end).shape to_shape from_shape)
    (same_residual (sequence expression (λ a. behind_word end (nothing_more a))).range (expression_before end).range to_range from_range)
    (part_at tree_at end bytes)
    (exact_sequence expression (λ a. behind_word end (nothing_more a)) levels levels behind bytes (tree_at bytes) (λ part. word_at end part.1 >>= λ rest. Ok (part.0, rest)) (tree bytes)
    (λ part. exact_word (nothing_more part.0) levels behind behind end part.1 (λ rest. Ok (part.0, rest)) same (λ rest. exact_nothing_more part.0 behind rest)))
  where
    to_shape : (tree : Tree) (t : List ℕ) → (sequence expression (λ a. behind_word end (nothing_more a))).shape tree t → (expression_before end).shape tree t
    to_shape tree t h =
        let is : tree ≡ h.value = h.back_text.1.0 in
        before_joined t h.front h.back h.back_text.0 end (spelling tree) h.split (h.front_text ∙ ap spelling (sym is)) h.back_text.2 h.back_text.1.1

    to_range : (tree : Tree) (t : List ℕ) → (sequence expression (λ a. behind_word end (nothing_more a))).range tree t → (expression_before end).range tree t
    to_range tree t h =
        let is : tree ≡ h.value = h.back_text.1.0 in (
          subst NumbersFit (sym is) h.front_text.0,
          before_joined t h.front h.back h.back_text.0 end (spelling tree) h.split (h.front_text.1 ∙ ap spelling (sym is)) h.back_text.2 h.back_text.1.1,
        )

    from_shape : (tree : Tree) (t : List ℕ) → (expression_before end).shape tree t → (sequence expression (λ a. behind_word end (nothing_more a))).shape tree t
    from_shape tree t h = record { value = tree; front = spelling tree; back = end; front_text = refl; back_text = ([], (refl, refl), sym (append-nil end)); split = h }

    from_range : (tree : Tree) (t : List ℕ) → (expression_before end).range tree t → (sequence expression (λ a. behind_word end (nothing_more a))).range tree t
    from_range tree t h = record { value = tree; front = spelling tree; back = end; front_text = (h.0, refl); back_text = ([], (refl, refl), sym (append-nil end)); split = h.1 }

-- ---- k + 1 expressions

unfoldable pub parts : (k : ℕ) → (Values k → Tree) → Language Tree
parts zero made = sequence (expression_before (codes ")")) (λ a. nothing_more (made a))
parts (suc k) made = sequence (expression_before (codes " ")) (λ a. parts k (λ v. made (a, v)))

abbrev pub parts_at : (k : ℕ) → (Values k → Tree) → (List ℕ → Reading Tree) → List ℕ → Reading Tree
parts_at zero made tree_at bytes = part_at tree_at (codes ")") bytes >>= λ a. Ok (made a.0, a.1)
parts_at (suc k) made tree_at bytes = part_at tree_at (codes " ") bytes >>= λ a. parts_at k (λ v. made (a.0, v)) tree_at a.1

exact_parts : (k : ℕ) (made : Values k → Tree) (levels : ℕ) (tree_at : List ℕ → Reading Tree) → Exactly levels tree_at → (bytes : List ℕ)
    → Exact (parts k made) levels (suc levels) bytes (parts_at k made tree_at bytes)
unfolding parts
exact_parts zero made levels tree_at tree bytes =
    exact_sequence (expression_before (codes ")")) (λ a. nothing_more (made a)) levels (suc levels) (suc levels) bytes (part_at tree_at (codes ")") bytes) (λ a. Ok (made a.0, a.1))
    (exact_before levels (suc levels) (codes ")") refl tree_at tree bytes) (λ a. exact_nothing_more (made a.0) (suc levels) a.1)
exact_parts (suc k) made levels tree_at tree bytes =
    exact_sequence (expression_before (codes " ")) (λ a. parts k (λ v. made (a, v))) levels levels (suc levels) bytes (part_at tree_at (codes " ") bytes)
    (λ a. parts_at k (λ v. made (a.0, v)) tree_at a.1) (exact_before levels levels (codes " ") refl tree_at tree bytes)
    (λ a. exact_parts k (λ v. made (a.0, v)) levels tree_at tree a.1)

-- the values of a text of k + 1 expressions
record Shown (k : ℕ) (made : Values k → Tree) (tree : Tree) (t : List ℕ) : Type 0 where
  values : Values k
  is : tree ≡ made values
  text : t ≡ joined k values

last_joined : (t front back text : List ℕ) → t ≡ front ++ back → front ≡ text → back ≡ [] → t ≡ text
last_joined t front back text e f g = let n = append-nil front in cc

first_joined : (t front back text others : List ℕ) → t ≡ front ++ back → front ≡ text ++ codes " " → back ≡ others → t ≡ text ++ (codes " " ++ others)
first_joined t front back text others e f g = e ∙ ap (λ (u : List ℕ). u ++ back) f ∙ ap (λ (u : List ℕ). (text ++ codes " ") ++ u) g ∙ append_assoc text (codes " ") others

shape_shown : (k : ℕ) (made : Values k → Tree) (tree : Tree) (t : List ℕ) → (parts k made).shape tree t → Shown k made tree t
unfolding parts sequence expression_before nothing_more
shape_shown zero made tree t h =
    record { values = h.value; is = h.back_text.0; text = last_joined t h.front h.back (spelling h.value ++ codes ")") h.split h.front_text h.back_text.1 }
shape_shown (suc k) made tree t h =
    let others = shape_shown k (λ v. made (h.value, v)) tree h.back h.back_text in
    record { values = (h.value, others.values); is = others.is; text = first_joined t h.front h.back (spelling h.value) (joined k others.values) h.split h.front_text others.text }

shape_of_shown : (k : ℕ) (made : Values k → Tree) (tree : Tree) (values : Values k) → tree ≡ made values → (parts k made).shape tree (joined k values)
unfolding parts sequence expression_before nothing_more
shape_of_shown zero made tree values is =
    record { value = values; front = spelling values ++ codes ")"; back = []; front_text = refl; back_text = (is, refl); split = sym (append-nil (spelling values ++ codes ")")) }
shape_of_shown (suc k) made tree values is =
    record {
      value = values.0;
      front = spelling values.0 ++ codes " ";
      back = joined k values.1;
      front_text = refl;
      back_text = shape_of_shown k (λ v. made (values.0, v)) tree values.1 is;
      split = sym (append_assoc (spelling values.0) (codes " ") (joined k values.1));
    }

-- their numbers are in range
record InRange (k : ℕ) (made : Values k → Tree) (tree : Tree) (t : List ℕ) : Type 0 where
  values : Values k
  fit : Each NumbersFit k values
  is : tree ≡ made values
  text : t ≡ joined k values

range_shown : (k : ℕ) (made : Values k → Tree) (tree : Tree) (t : List ℕ) → (parts k made).range tree t → InRange k made tree t
unfolding parts sequence expression_before nothing_more
range_shown zero made tree t h =
    record { values = h.value; fit = h.front_text.0; is = h.back_text.0; text = last_joined t h.front h.back (spelling h.value ++ codes ")") h.split h.front_text.1 h.back_text.1 }
range_shown (suc k) made tree t h =
    let others = range_shown k (λ v. made (h.value, v)) tree h.back h.back_text in
    record {
      values = (h.value, others.values);
      fit = (h.front_text.0, others.fit);
      is = others.is;
      text = first_joined t h.front h.back (spelling h.value) (joined k others.values) h.split h.front_text.1 others.text;
    }

range_of_shown : (k : ℕ) (made : Values k → Tree) (tree : Tree) (values : Values k) → Each NumbersFit k values → tree ≡ made values → (parts k made).range tree (joined k values)
unfolding parts sequence expression_before nothing_more
range_of_shown zero made tree values fit is =
    record { value = values; front = spelling values ++ codes ")"; back = []; front_text = (fit, refl); back_text = (is, refl); split = sym (append-nil (spelling values ++ codes ")")) }
range_of_shown (suc k) made tree values fit is =
    record {
      value = values.0;
      front = spelling values.0 ++ codes " ";
      back = joined k values.1;
      front_text = (fit.0, refl);
      back_text = range_of_shown k (λ v. made (values.0, v)) tree values.1 fit.1 is;
      split = sym (append_assoc (spelling values.0) (codes " ") (joined k values.1));
    }

-- ---- the rest of a form behind its word

unfoldable pub contents : (k : Kind) → (Contents k → Tree) → Language Tree
unfolding parts
contents Numeral made = sequence (number_before (2 ^ 64) 41 (lit< tt) bracket_is_no_digit) (λ n. nothing_more (made n))
contents (Parts k) made = parts k made
contents (Both k) made = sequence (number_before (2 ^ 64) 32 (lit< tt) space_is_no_digit) (λ n. parts k (λ v. made (n, v)))

abbrev pub contents_at : (k : Kind) → (Contents k → Tree) → (List ℕ → Reading Tree) → List ℕ → Reading Tree
contents_at Numeral made tree_at bytes = number_at (2 ^ 64) (codes ")") bytes >>= λ n. Ok (made n.0, n.1)
contents_at (Parts k) made tree_at bytes = parts_at k made tree_at bytes
contents_at (Both k) made tree_at bytes = number_at (2 ^ 64) (codes " ") bytes >>= λ n. parts_at k (λ v. made (n.0, v)) tree_at n.1

pub exact_contents : (k : Kind) (made : Contents k → Tree) (levels : ℕ) (tree_at : List ℕ → Reading Tree) → Exactly levels tree_at → (bytes : List ℕ)
    → Exact (contents k made) levels (suc levels) bytes (contents_at k made tree_at bytes)
unfolding contents
exact_contents Numeral made levels tree_at tree bytes =
    exact_sequence (number_before (2 ^ 64) 41 (lit< tt) bracket_is_no_digit) (λ n. nothing_more (made n)) levels (suc levels) (suc levels) bytes
    (number_at (2 ^ 64) (codes ")") bytes) (λ n. Ok (made n.0, n.1))
    (exact_number (2 ^ 64) 41 any_digit (lit< tt) bracket_is_no_digit levels (suc levels) refl bytes)
    (λ n. exact_nothing_more (made n.0) (suc levels) n.1)
exact_contents (Parts k) made levels tree_at tree bytes = exact_parts k made levels tree_at tree bytes
exact_contents (Both k) made levels tree_at tree bytes =
    exact_sequence (number_before (2 ^ 64) 32 (lit< tt) space_is_no_digit) (λ n. parts k (λ v. made (n, v))) levels levels (suc levels) bytes
    (number_at (2 ^ 64) (codes " ") bytes) (λ n. parts_at k (λ v. made (n.0, v)) tree_at n.1)
    (exact_number (2 ^ 64) 32 any_digit (lit< tt) space_is_no_digit levels levels refl bytes)
    (λ n. exact_parts k (λ v. made (n.0, v)) levels tree_at tree n.1)

-- the contents of a text of such a rest
pub record ShownBy (k : Kind) (made : Contents k → Tree) (tree : Tree) (t : List ℕ) : Type 0 where
  pub values : Contents k
  pub is : tree ≡ made values
  pub text : t ≡ contents_text k values

pub contents_shown : (k : Kind) (made : Contents k → Tree) (tree : Tree) (t : List ℕ) → (contents k made).shape tree t → ShownBy k made tree t
unfolding contents parts sequence number_before nothing_more
contents_shown Numeral made tree t h =
    record { values = h.value; is = h.back_text.0; text = last_joined t h.front h.back (numeral h.value ++ codes ")") h.split h.front_text h.back_text.1 }
contents_shown (Parts k) made tree t h = let shown = shape_shown k made tree t h in record { values = shown.values; is = shown.is; text = shown.text }
contents_shown (Both k) made tree t h =
    let shown = shape_shown k (λ v. made (h.value, v)) tree h.back h.back_text in
    record { values = (h.value, shown.values); is = shown.is; text = first_joined t h.front h.back (numeral h.value) (joined k shown.values) h.split h.front_text shown.text }

pub contents_of_shown : (k : Kind) (made : Contents k → Tree) (tree : Tree) (values : Contents k) → tree ≡ made values → (contents k made).shape tree (contents_text k values)
unfolding contents parts sequence number_before nothing_more
contents_of_shown Numeral made tree values is =
    record { value = values; front = numeral values ++ codes ")"; back = []; front_text = refl; back_text = (is, refl); split = sym (append-nil (numeral values ++ codes ")")) }
contents_of_shown (Parts k) made tree values is = shape_of_shown k made tree values is
contents_of_shown (Both k) made tree values is =
    record {
      value = values.0;
      front = numeral values.0 ++ codes " ";
      back = joined k values.1;
      front_text = refl;
      back_text = shape_of_shown k (λ v. made (values.0, v)) tree values.1 is;
      split = sym (append_assoc (numeral values.0) (codes " ") (joined k values.1));
    }

-- its numbers are in range
pub record RangedBy (k : Kind) (made : Contents k → Tree) (tree : Tree) (t : List ℕ) : Type 0 where
  pub values : Contents k
  pub fit : Fit k values
  pub is : tree ≡ made values
  pub text : t ≡ contents_text k values

pub range_contents_shown : (k : Kind) (made : Contents k → Tree) (tree : Tree) (t : List ℕ) → (contents k made).range tree t → RangedBy k made tree t
unfolding contents parts sequence number_before nothing_more
range_contents_shown Numeral made tree t h =
    record { values = h.value; fit = h.front_text.0; is = h.back_text.0; text = last_joined t h.front h.back (numeral h.value ++ codes ")") h.split h.front_text.1 h.back_text.1 }
range_contents_shown (Parts k) made tree t h = let shown = range_shown k made tree t h in record { values = shown.values; fit = shown.fit; is = shown.is; text = shown.text }
range_contents_shown (Both k) made tree t h =
    let shown = range_shown k (λ v. made (h.value, v)) tree h.back h.back_text in
    record {
      values = (h.value, shown.values);
      fit = (h.front_text.0, shown.fit);
      is = shown.is;
      text = first_joined t h.front h.back (numeral h.value) (joined k shown.values) h.split h.front_text.1 shown.text;
    }

pub range_of_contents_shown : (k : Kind) (made : Contents k → Tree) (tree : Tree) (values : Contents k) → Fit k values → tree ≡ made values → (contents k made).range tree (contents_text k values)
unfolding contents parts sequence number_before nothing_more
range_of_contents_shown Numeral made tree values fit is =
    record { value = values; front = numeral values ++ codes ")"; back = []; front_text = (fit, refl); back_text = (is, refl); split = sym (append-nil (numeral values ++ codes ")")) }
range_of_contents_shown (Parts k) made tree values fit is = range_of_shown k made tree values fit is
range_of_contents_shown (Both k) made tree values fit is =
    record {
      value = values.0;
      front = numeral values.0 ++ codes " ";
      back = joined k values.1;
      front_text = (fit.0, refl);
      back_text = range_of_shown k (λ v. made (values.0, v)) tree values.1 fit.1 is;
      split = sym (append_assoc (numeral values.0) (codes " ") (joined k values.1));
    }
