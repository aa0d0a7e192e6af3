-- No expression begins another.
use Rattle.std.proofs.Common.{◌≡◌, ℕ, zero, suc, List, [], ◌∷◌, ◌++◌, refl, sym, ap, subst, ◌∙◌, append_assoc, lit<, codes}
use Rattle.std.proofs.lemmas.List.{append_cancel_left}
use Rattle.arachne_lang.specs.{declared.reading.heads.Head.Head, Spelling.{numeral, spelling}, Text.NumbersFit}
use Rattle.arachne_lang.proofs.{Numerals.{NoDigit, bracket_is_no_digit, space_is_no_digit}, Languages.Language}
use Rattle.arachne_lang.proofs.{ExactNumber.number_before, HeadWords.word-unique}
use Rattle.arachne_lang.proofs.Forms.{Values, Each, joined, Kind, Numeral, Parts, Both, Contents, contents_text, EachPart, kind_of, made, word_of, formed, by_forms, made-text}
use Rattle.arachne_program.specs.Tree.{Tree, Number}

-- numbers that end with the same byte
same_number : (end : ℕ) → NoDigit end → (m n : ℕ) (x y : List ℕ) → numeral m ++ end ∷ x ≡ numeral n ++ end ∷ y → m ≡ n
unfolding number_before
same_number end none m n x y e =
    ((number_before 1 end (lit< tt) none).unique m n (numeral m ++ end ∷ []) (numeral n ++ end ∷ []) x y refl refl
    (append_assoc (numeral m) (end ∷ []) x ∙ e ∙ sym (append_assoc (numeral n) (end ∷ []) y))).0

-- A text that begins with this expression begins with no other.
abbrev Alone : Tree → Type 0
Alone a = (b : Tree) (x y : List ℕ) → spelling a ++ x ≡ spelling b ++ y → a ≡ b

same_values : (k : ℕ) (v w : Values k) → Each Alone k v → (x y : List ℕ) → joined k v ++ x ≡ joined k w ++ y → v ≡ w
same_values zero v w alone x y e = alone w (codes ")" ++ x) (codes ")" ++ y) (sym (append_assoc (spelling v) (codes ")") x) ∙ e ∙ append_assoc (spelling w) (codes ")") y)
same_values (suc k) v w alone x y e =
    let whole : spelling v.0 ++ (32 ∷ (joined k v.1 ++ x)) ≡ spelling w.0 ++ (32 ∷ (joined k w.1 ++ y)) =
    sym (append_assoc (spelling v.0) (32 ∷ joined k v.1) x) ∙ e ∙ append_assoc (spelling w.0) (32 ∷ joined k w.1) y in
    let one = alone.0 w.0 (32 ∷ (joined k v.1 ++ x)) (32 ∷ (joined k w.1 ++ y)) whole in
    let behind : 32 ∷ (joined k v.1 ++ x) ≡ 32 ∷ (joined k w.1 ++ y) =
    append_cancel_left (spelling w.0) (32 ∷ (joined k v.1 ++ x)) (32 ∷ (joined k w.1 ++ y)) (ap (λ (t : Tree). spelling t ++ (32 ∷ (joined k v.1 ++ x))) (sym one) ∙ whole) in
    let others = same_values k v.1 w.1 alone.1 x y (append_cancel_left (32 ∷ []) (joined k v.1 ++ x) (joined k w.1 ++ y) behind) in
    let first : Tree → Values (suc k) = λ t. (t, v.1) in
    let rest : Values k → Values (suc k) = λ u. (w.0, u) in
    ap first one ∙ ap rest others

same_contents : (k : Kind) (c d : Contents k) → EachPart Alone k c → (x y : List ℕ) → contents_text k c ++ x ≡ contents_text k d ++ y → c ≡ d
same_contents Numeral c d alone x y e =
    same_number 41 bracket_is_no_digit c d x y (sym (append_assoc (numeral c) (codes ")") x) ∙ e ∙ append_assoc (numeral d) (codes ")") y)
same_contents (Parts k) c d alone x y e = same_values k c d alone x y e
same_contents (Both k) c d alone x y e =
    let whole : numeral c.0 ++ (32 ∷ (joined k c.1 ++ x)) ≡ numeral d.0 ++ (32 ∷ (joined k d.1 ++ y)) =
    sym (append_assoc (numeral c.0) (32 ∷ joined k c.1) x) ∙ e ∙ append_assoc (numeral d.0) (32 ∷ joined k d.1) y in
    let one = same_number 32 space_is_no_digit c.0 d.0 (joined k c.1 ++ x) (joined k d.1 ++ y) whole in
    let behind : 32 ∷ (joined k c.1 ++ x) ≡ 32 ∷ (joined k d.1 ++ y) =
    append_cancel_left (numeral d.0) (32 ∷ (joined k c.1 ++ x)) (32 ∷ (joined k d.1 ++ y)) (ap (λ (n : ℕ). numeral n ++ (32 ∷ (joined k c.1 ++ x))) (sym one) ∙ whole) in
    let others = same_values k c.1 d.1 alone x y (append_cancel_left (32 ∷ []) (joined k c.1 ++ x) (joined k d.1 ++ y) behind) in
    let first : ℕ → Contents (Both k) = λ n. (n, c.1) in
    let rest : Values k → Contents (Both k) = λ u. (d.0, u) in
    ap first one ∙ ap rest others

-- behind the bracket
pub made-whole : (h : Head) (c : Contents (kind_of h)) (x : List ℕ) → spelling (made h c) ++ x ≡ 40 ∷ (word_of h ++ (contents_text (kind_of h) c ++ x))
made-whole h c x = ap (λ (u : List ℕ). u ++ x) (made-text h c) ∙ ap (λ (u : List ℕ). 40 ∷ u) (append_assoc (word_of h) (contents_text (kind_of h) c) x)

-- no other form, and with the same word no other contents
abbrev AloneIn : (h : Head) (c : Contents (kind_of h)) (x y : List ℕ) → Head → Type 0
AloneIn h c x y g =
    (d : Contents (kind_of g)) → word_of h ++ (contents_text (kind_of h) c ++ x) ≡ word_of g ++ (contents_text (kind_of g) d ++ y) → made h c ≡ made g d

alone_in : (h : Head) (c : Contents (kind_of h)) (x y : List ℕ) → EachPart Alone (kind_of h) c → AloneIn h c x y h
alone_in h c x y each d e =
    ap (made h) (same_contents (kind_of h) c d each x y (append_cancel_left (word_of h) (contents_text (kind_of h) c ++ x) (contents_text (kind_of h) d ++ y) e))

alone : (h : Head) (c : Contents (kind_of h)) → EachPart Alone (kind_of h) c → Alone (made h c)
alone h c each b x y e =
    let other = formed b in
    let whole : 40 ∷ (word_of h ++ (contents_text (kind_of h) c ++ x)) ≡ 40 ∷ (word_of other.form ++ (contents_text (kind_of other.form) other.contents ++ y)) =
    sym (made-whole h c x) ∙ e ∙ ap (λ (t : Tree). spelling t ++ y) other.is ∙ made-whole other.form other.contents y in
    let behind = append_cancel_left (40 ∷ []) (word_of h ++ (contents_text (kind_of h) c ++ x)) (word_of other.form ++ (contents_text (kind_of other.form) other.contents ++ y)) whole in
    let same = word-unique h other.form (contents_text (kind_of h) c ++ x) (contents_text (kind_of other.form) other.contents ++ y) behind in
    subst (AloneIn h c x y) same (alone_in h c x y each) other.contents behind ∙ sym other.is

pub spelling-unique : (a b : Tree) (x y : List ℕ) → spelling a ++ x ≡ spelling b ++ y → a ≡ b
spelling-unique a b x y e = by_forms Alone alone a b x y e

-- ---- the language of expressions

unfoldable pub expression : Language Tree
expression = record {
  shape = λ tree t. t ≡ spelling tree;
  range = λ tree t. NumbersFit tree × (t ≡ spelling tree);
  within = λ tree t h. h.1;
  sample = (Number 0, spelling (Number 0), (lit< tt, refl));
  unique = λ a b s t x y h k e.
      let whole : spelling a ++ x ≡ spelling b ++ y = ap (λ (u : List ℕ). u ++ x) (sym h) ∙ e ∙ ap (λ (u : List ℕ). u ++ y) k in
      let same = spelling-unique a b x y whole in
      (same, h ∙ ap spelling same ∙ sym k);
}

-- an expression begins with a bracket
pub opens : (tree : Tree) → (t : List ℕ) × (spelling tree ≡ 40 ∷ t)
opens tree = let f = formed tree in (word_of f.form ++ contents_text (kind_of f.form) f.contents, ap spelling f.is ∙ made-text f.form f.contents)
