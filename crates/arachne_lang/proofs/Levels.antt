-- Levels: their relation to the counts of brackets, and the nesting of an expression's text.
use Rattle.std.proofs.Common.{◌≡◌, ℕ, zero, suc, ◌+◌, ◌≤◌, ◌<◌, cond, List, [], ◌∷◌, ◌++◌, length, take, drop, Option, Some, None, refl, sym, ap, ◌∙◌, append_assoc, arith, ◌==◌, if◌then◌else◌, Bool, true, false, count_by, slice_index, codes, eqb-true, ne_eqb, eq-eqb}
use Rattle.std.proofs.lemmas.List.{take-append-le, take-append-drop}
use Rattle.std.proofs.lemmas.List.Sums.{sum_by-cons, count_by_more_no, count_by_more_yes}
use Rattle.arachne_lang.specs.{declared.reading.heads.Head.Head, Spelling.{numeral, spelling}, Text.level}
use Rattle.arachne_lang.proofs.{Numerals.{AreDigits, numeral-AreDigits}, ExactNumber.level_behind_digit}
use Rattle.arachne_lang.proofs.Languages.{level_behind, levels_then, levels_behind, levels_behind-append, levels_between}
use Rattle.arachne_lang.proofs.Forms.{Values, Each, joined, deepest, Kind, Numeral, Parts, Both, Contents, contents_text, EachPart, depth, kind_of, made, word_of, by_forms, made-nesting}
use Rattle.arachne_lang.proofs.{HeadWords.word-levels, ExpressionTexts.made-whole}
use Rattle.arachne_program.specs.{Tree.Tree, Nesting.nesting}

-- ---- counts

abbrev opens : List ℕ → ℕ
opens bytes = count_by (λ byte. byte == 40) bytes

abbrev closes : List ℕ → ℕ
closes bytes = count_by (λ byte. byte == 41) bytes

counted_by_tests : (opening closing : Bool) (n j : ℕ) → (opening ≡ true → closing ≡ false)
    → (if opening then (elim n as (λ k. Option ℕ) [ zero ↦ None | suc m ↦ Some m ]) else if closing then Some (suc n) else Some n) ≡ Some j
    → j + cond opening 1 0 ≡ n + cond closing 1 0
counted_by_tests true true n j apart e = let h = apart refl in absurd (cc)
counted_by_tests true false zero j apart e = absurd (cc)
counted_by_tests true false (suc n) j apart e = let same : n ≡ j = cc in omega arith
counted_by_tests false true n j apart e = let same : suc n ≡ j = cc in omega arith
counted_by_tests false false n j apart e = let same : n ≡ j = cc in omega arith

counted : (n byte j : ℕ) → level_behind n byte ≡ Some j → j + cond (byte == 40) 1 0 ≡ n + cond (byte == 41) 1 0
counted n byte j e = counted_by_tests (byte == 40) (byte == 41) n j (λ opening. ne_eqb byte 41 (λ closing. omega (arith, eqb-true byte 40 opening, closing))) e

levels_counted : (n left : ℕ) (bytes : List ℕ) → levels_behind n bytes ≡ Some left → left + opens bytes ≡ n + closes bytes
levels_counted n left [] e = let same : n ≡ left = cc in omega (arith, same)
levels_counted n left (byte ∷ bytes) e =
    let between = levels_between (level_behind n byte) (λ m. levels_behind m bytes) left e in
    let one = counted n byte between.0 between.1 in
    let others = levels_counted between.0 left bytes between.2 in
    let o = sum_by-cons (λ b. cond (b == 40) 1 0) byte bytes in
    let c = sum_by-cons (λ b. cond (b == 41) 1 0) byte bytes in
    omega (arith, one, others, o, c)

-- the levels behind a front
levels_of_front : (n left : ℕ) (a b : List ℕ) → levels_behind n (a ++ b) ≡ Some left → (j : ℕ) × (levels_behind n a ≡ Some j)
levels_of_front n left a b e =
    let between = levels_between (levels_behind n a) (λ m. levels_behind m b) left (sym (levels_behind-append n a b) ∙ e) in
    (between.0, between.1)

pub level_within : (n left : ℕ) (front rest : List ℕ) (k : ℕ) → levels_behind n front ≡ Some left → k ≤ length front → level (take k (front ++ rest)) ≤ n
level_within n left front rest k e le =
    let whole : levels_behind n (take k front ++ drop k front) ≡ Some left = ap (levels_behind n) (take-append-drop k front) ∙ e in
    let one = levels_of_front n left (take k front) (drop k front) whole in
    let counts = levels_counted n one.0 (take k front) one.1 in
    rw (take-append-le k front rest le) (omega (arith, counts))

pub level_left : (n left : ℕ) (front : List ℕ) → levels_behind n front ≡ Some left → left ≡ 0 → level front ≡ n
level_left n left front e none = let counts = levels_counted n left front e in omega (arith, counts)

-- an opening bracket brings the level up by one
pub level_more : (bytes : List ℕ) (at : ℕ) → at < length bytes → slice_index bytes at ≡ 40 → level (take at bytes) ≡ 64 → level (take (at + 1) bytes) ≡ 65
level_more bytes at lt open_at is =
    let yes = count_by_more_yes (λ byte. byte == 40) bytes at 0 lt (eq-eqb (slice_index bytes at) 40 open_at) in
    let no = count_by_more_no (λ byte. byte == 41) bytes at 0 lt (ne_eqb (slice_index bytes at) 41 (λ closing. omega (arith, open_at, closing))) in
    omega (arith, yes, no, is)

-- ---- expressions

levels_digits : (digits : List ℕ) → AreDigits digits → (n : ℕ) (x : List ℕ) → levels_behind n (digits ++ x) ≡ levels_behind n x
levels_digits [] are n x = refl
levels_digits (digit ∷ digits) are n x =
    ap (λ (left : Option ℕ). levels_then left (λ m. levels_behind m (digits ++ x))) (level_behind_digit n digit are.0) ∙ levels_digits digits are.1 n x

-- the word of a form has no bracket
levels_word : (h : Head) (n : ℕ) (x : List ℕ) → levels_behind n (word_of h ++ x) ≡ levels_behind n x
levels_word h n x = levels_behind-append n (word_of h) x ∙ ap (λ (left : Option ℕ). levels_then left (λ m. levels_behind m x)) (word-levels n h)

pub levels_numeral : (k n : ℕ) (x : List ℕ) → levels_behind n (numeral k ++ x) ≡ levels_behind n x
levels_numeral k n x = levels_digits (numeral k) (numeral-AreDigits k) n x

-- The text of a tree whose nesting is at most the levels that are left leaves as many levels behind it.
abbrev Leaves : Tree → Type 0
Leaves tree = (n : ℕ) → nesting tree ≤ n → (x : List ℕ) → levels_behind n (spelling tree ++ x) ≡ levels_behind n x

values_leave : (k : ℕ) (v : Values k) → Each Leaves k v → (n : ℕ) → deepest k v ≤ n → (x : List ℕ) → levels_behind n (joined k v ++ x) ≡ levels_behind (suc n) x
values_leave zero v each n le x = ap (levels_behind n) (append_assoc (spelling v) (codes ")") x) ∙ each n le (41 ∷ x)
values_leave (suc k) v each n le x =
    ap (levels_behind n) (append_assoc (spelling v.0) (32 ∷ joined k v.1) x)
    ∙ each.0 n (omega (arith, le)) (32 ∷ (joined k v.1 ++ x))
    ∙ values_leave k v.1 each.1 n (omega (arith, le)) x

contents_leave : (k : Kind) (c : Contents k) → EachPart Leaves k c → (n : ℕ) → depth k c ≤ n → (x : List ℕ) → levels_behind n (contents_text k c ++ x) ≡ levels_behind (suc n) x
contents_leave Numeral c each n le x = ap (levels_behind n) (append_assoc (numeral c) (codes ")") x) ∙ levels_numeral c n (41 ∷ x)
contents_leave (Parts k) c each n le x = values_leave k c each n le x
contents_leave (Both k) c each n le x =
    ap (levels_behind n) (append_assoc (numeral c.0) (32 ∷ joined k c.1) x) ∙ levels_numeral c.0 n (32 ∷ (joined k c.1 ++ x)) ∙ values_leave k c.1 each n le x

leaves : (h : Head) (c : Contents (kind_of h)) → EachPart Leaves (kind_of h) c → Leaves (made h c)
leaves h c each zero le x = absurd (omega (arith, le, made-nesting h c))
leaves h c each (suc n) le x =
    ap (levels_behind (suc n)) (made-whole h c x)
    ∙ levels_word h n (contents_text (kind_of h) c ++ x)
    ∙ contents_leave (kind_of h) c each n (omega (arith, le, made-nesting h c)) x

pub levels_of_tree : (tree : Tree) (n : ℕ) → nesting tree ≤ n → (x : List ℕ) → levels_behind n (spelling tree ++ x) ≡ levels_behind n x
levels_of_tree tree n le x = by_forms Leaves leaves tree n le x

-- If no bracket of a tree's text is too deep, its nesting is at most the levels that are left.
abbrev Nests : Tree → Type 0
Nests tree = (n j : ℕ) (x : List ℕ) → levels_behind n (spelling tree ++ x) ≡ Some j → (nesting tree ≤ n) × (levels_behind n x ≡ Some j)

values_nest : (k : ℕ) (v : Values k) → Each Nests k v → (n j : ℕ) (x : List ℕ) → levels_behind n (joined k v ++ x) ≡ Some j → (deepest k v ≤ n) × (levels_behind (suc n) x ≡ Some j)
values_nest zero v each n j x e = each n j (41 ∷ x) (sym (ap (levels_behind n) (append_assoc (spelling v) (codes ")") x)) ∙ e)
values_nest (suc k) v each n j x e =
    let one = each.0 n j (32 ∷ (joined k v.1 ++ x)) (sym (ap (levels_behind n) (append_assoc (spelling v.0) (32 ∷ joined k v.1) x)) ∙ e) in
    let others = values_nest k v.1 each.1 n j x one.1 in
    (omega (arith, one.0, others.0), others.1)

contents_nest : (k : Kind) (c : Contents k) → EachPart Nests k c → (n j : ℕ) (x : List ℕ) → levels_behind n (contents_text k c ++ x) ≡ Some j
    → (depth k c ≤ n) × (levels_behind (suc n) x ≡ Some j)
contents_nest Numeral c each n j x e = (omega arith, sym (levels_numeral c n (41 ∷ x)) ∙ sym (ap (levels_behind n) (append_assoc (numeral c) (codes ")") x)) ∙ e)
contents_nest (Parts k) c each n j x e = values_nest k c each n j x e
contents_nest (Both k) c each n j x e =
    values_nest k c.1 each n j x (sym (levels_numeral c.0 n (32 ∷ (joined k c.1 ++ x))) ∙ sym (ap (levels_behind n) (append_assoc (numeral c.0) (32 ∷ joined k c.1) x)) ∙ e)

nests : (h : Head) (c : Contents (kind_of h)) → EachPart Nests (kind_of h) c → Nests (made h c)
nests h c each zero j x e = let none : None ≡ Some j = sym (ap (levels_behind 0) (made-whole h c x)) ∙ e in absurd (cc)
nests h c each (suc n) j x e =
    let behind = contents_nest (kind_of h) c each n j x (sym (levels_word h n (contents_text (kind_of h) c ++ x)) ∙ sym (ap (levels_behind (suc n)) (made-whole h c x)) ∙ e) in
    (omega (arith, behind.0, made-nesting h c), behind.1)

pub nesting_within : (tree : Tree) (n j : ℕ) (x : List ℕ) → levels_behind n (spelling tree ++ x) ≡ Some j → (nesting tree ≤ n) × (levels_behind n x ≡ Some j)
nesting_within tree n j x e = by_forms Nests nests tree n j x e
