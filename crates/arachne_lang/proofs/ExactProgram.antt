-- The text of a program is read exactly.
use Rattle.std.proofs.Common.{◌≡◌, ℕ, zero, suc, ◌<◌, List, [], ◌∷◌, ◌++◌, length, Option, Some, Result, Ok, Err, refl, sym, ap, subst, ◌∙◌, append_assoc, arith, lit<, ◌==◌, Bool, true, false, codes, append-nil}
use Rattle.std.{specs.List.{AllByRecursion, flat_map}, proofs.lemmas.Bool.{eqb-true, eqb-false}}
use Rattle.std.proofs.lemmas.List.{append_cancel_left}
use Rattle.arachne_program.specs.Tree.{Tree, Number, Source}
use Rattle.arachne_lang.proofs.{ArraySteps.{line_more, lines_end, line_shorter}, ExactExpression.exact_expression}
use Rattle.arachne_lang.proofs.ExactItems.{items_text, items_text-more, items_text-unique, InRange, items_behind, exact_items}
use Rattle.arachne_lang.proofs.{ExactNumber.{number_before, exact_number}, ExpressionTexts.expression}
use Rattle.arachne_lang.proofs.Languages.{levels_behind, first, Language, same_residual, Exact, Exact-residual, Exact-among, sequence, exact_sequence, exact_sequence_on, nothing_more, exact_nothing_more, behind_word, exact_word}
use Rattle.arachne_lang.proofs.{Levels.{nesting_within, levels_of_tree, levels_numeral}, Numerals.newline_is_no_digit}
use Rattle.arachne_lang.specs.Reading.{Halt, Reading, ◌>>=◌, word_at, number_at, expression_at, items_at, arrays_at, lines_at, source_at}
use Rattle.arachne_lang.specs.Spelling.{numeral, spelling, line, header, text_of}
use Rattle.arachne_lang.specs.Text.{NumbersFit, IsInRange, IsAccepted, StartsWith}

-- ---- the lines behind the arrays

abbrev pub source : List (List ℕ) → ℕ → ℕ → Tree → Source
source arrays ledgers locks root = record { arrays = arrays; ledgers = ledgers; locks = locks; root = root }

abbrev pub lines_text : ℕ → ℕ → Tree → List ℕ
lines_text ledgers locks root =
    codes "ledgers " ++ ((numeral ledgers ++ 10 ∷ []) ++ (codes "locks " ++ ((numeral locks ++ 10 ∷ []) ++ (spelling root ++ 10 ∷ []))))

abbrev small_number : Language ℕ
small_number = number_before 256 10 (lit< tt) newline_is_no_digit

abbrev Last : List (List ℕ) → ℕ → ℕ → Tree → Language Source
Last arrays ledgers locks root = behind_word (10 ∷ []) (nothing_more (source arrays ledgers locks root))

abbrev LocksLine : List (List ℕ) → ℕ → Language Source
LocksLine arrays ledgers = behind_word (codes "locks ") (sequence small_number (λ locks. sequence expression (Last arrays ledgers locks)))

abbrev Lines : List (List ℕ) → Language Source
Lines arrays = behind_word (codes "ledgers ") (sequence small_number (LocksLine arrays))

exact_lines : (arrays : List (List ℕ)) (bytes : List ℕ) → Exact (Lines arrays) 64 64 bytes (lines_at arrays bytes)
unfolding lines_at
exact_lines arrays bytes =
    exact_word (sequence small_number (LocksLine arrays)) 64 64 64 (codes "ledgers ") bytes
    (λ rest. number_at 256 (10 ∷ []) rest >>= λ ledgers. word_at (codes "locks ") ledgers.1 >>= λ rest. number_at 256 (10 ∷ []) rest >>= λ locks.
    expression_at 64 locks.1 >>= λ root. word_at (10 ∷ []) root.1 >>= λ rest. Ok (source arrays ledgers.0 locks.0 root.0, rest)) refl
    (λ rest. exact_sequence small_number (LocksLine arrays) 64 64 64 rest (number_at 256 (10 ∷ []) rest)
    (λ ledgers. word_at (codes "locks ") ledgers.1 >>= λ rest. number_at 256 (10 ∷ []) rest >>= λ locks.
    expression_at 64 locks.1 >>= λ root. word_at (10 ∷ []) root.1 >>= λ rest. Ok (source arrays ledgers.0 locks.0 root.0, rest))
    (exact_number 256 10 (lit< tt) (lit< tt) newline_is_no_digit 64 64 refl rest)
    (λ ledgers. exact_word (sequence small_number (λ locks. sequence expression (Last arrays ledgers.0 locks))) 64 64 64 (codes "locks ") ledgers.1
    (λ rest. number_at 256 (10 ∷ []) rest >>= λ locks.
    expression_at 64 locks.1 >>= λ root. word_at (10 ∷ []) root.1 >>= λ rest. Ok (source arrays ledgers.0 locks.0 root.0, rest)) refl
    (λ rest. exact_sequence small_number (λ locks. sequence expression (Last arrays ledgers.0 locks)) 64 64 64 rest (number_at 256 (10 ∷ []) rest)
    (λ locks. expression_at 64 locks.1 >>= λ root. word_at (10 ∷ []) root.1 >>= λ rest. Ok (source arrays ledgers.0 locks.0 root.0, rest))
    (exact_number 256 10 (lit< tt) (lit< tt) newline_is_no_digit 64 64 refl rest)
    (λ locks. exact_sequence expression (Last arrays ledgers.0 locks.0) 64 64 64 locks.1 (expression_at 64 locks.1)
    (λ root. word_at (10 ∷ []) root.1 >>= λ rest. Ok (source arrays ledgers.0 locks.0 root.0, rest))
    (exact_expression 64 locks.1)
    (λ root. exact_word (nothing_more (source arrays ledgers.0 locks.0 root.0)) 64 64 64 (10 ∷ []) root.1 (λ rest. Ok (source arrays ledgers.0 locks.0 root.0, rest)) refl
    (λ rest. exact_nothing_more (source arrays ledgers.0 locks.0 root.0) 64 rest))))))

-- the program that a text of these lines spells
record OfLines (arrays : List (List ℕ)) (s : Source) (t : List ℕ) : Type 0 where
  arrays_are : s.arrays ≡ arrays
  text : t ≡ lines_text s.ledgers s.locks s.root

lines_joined : (t a b c d e f g h ledgers locks root : List ℕ) → t ≡ codes "ledgers " ++ a → a ≡ b ++ c → b ≡ ledgers → c ≡ codes "locks " ++ d → d ≡ e ++ f → e ≡ locks → f ≡ g ++ h → g ≡ root
    → h ≡ 10 ∷ [] → t ≡ codes "ledgers " ++ (ledgers ++ (codes "locks " ++ (locks ++ (root ++ 10 ∷ []))))
lines_joined t a b c d e f g h ledgers locks root p q r s u v w x y = cc

newline_alone : (h s : List ℕ) → h ≡ 10 ∷ s → s ≡ [] → h ≡ 10 ∷ []
newline_alone h s e f = e ∙ ap (λ (u : List ℕ). 10 ∷ u) f

lines_shown : (arrays : List (List ℕ)) (s : Source) (t : List ℕ) → (Lines arrays).shape s t → OfLines arrays s t
unfolding sequence behind_word nothing_more number_before expression
lines_shown arrays s t h =
    let i = h.1 in
    let j = i.back_text.1 in
    let k = j.back_text in
    let is : s ≡ source arrays i.value j.value k.value = k.back_text.1.0 in
    let text =
    lines_joined t h.0 i.front i.back i.back_text.0 j.front j.back k.front k.back (numeral i.value ++ 10 ∷ []) (numeral j.value ++ 10 ∷ []) (spelling k.value)
    h.2 i.split i.front_text i.back_text.2 j.split j.front_text k.split k.front_text (newline_alone k.back k.back_text.0 k.back_text.2 k.back_text.1.1) in
    record { arrays_are = ap (λ (p : Source). p.arrays) is; text = text ∙ ap (λ (p : Source). lines_text p.ledgers p.locks p.root) (sym is) }

record OfLinesInRange (arrays : List (List ℕ)) (s : Source) (t : List ℕ) : Type 0 where
  arrays_are : s.arrays ≡ arrays
  ledgers : s.ledgers < 256
  locks : s.locks < 256
  root : NumbersFit s.root
  text : t ≡ lines_text s.ledgers s.locks s.root

lines_in_range : (arrays : List (List ℕ)) (s : Source) (t : List ℕ) → (Lines arrays).range s t → OfLinesInRange arrays s t
unfolding sequence behind_word nothing_more number_before expression
lines_in_range arrays s t h =
    let i = h.1 in
    let j = i.back_text.1 in
    let k = j.back_text in
    let is : s ≡ source arrays i.value j.value k.value = k.back_text.1.0 in
    let text =
    lines_joined t h.0 i.front i.back i.back_text.0 j.front j.back k.front k.back (numeral i.value ++ 10 ∷ []) (numeral j.value ++ 10 ∷ []) (spelling k.value)
    h.2 i.split i.front_text.1 i.back_text.2 j.split j.front_text.1 k.split k.front_text.1 (newline_alone k.back k.back_text.0 k.back_text.2 k.back_text.1.1) in
    record {
      arrays_are = ap (λ (p : Source). p.arrays) is;
      ledgers = subst (λ (p : Source). p.ledgers < 256) (sym is) i.front_text.0;
      locks = subst (λ (p : Source). p.locks < 256) (sym is) j.front_text.0;
      root = subst (λ (p : Source). NumbersFit p.root) (sym is) k.front_text.0;
      text = text ∙ ap (λ (p : Source). lines_text p.ledgers p.locks p.root) (sym is);
    }

source_is : (arrays : List (List ℕ)) (s : Source) → s.arrays ≡ arrays → s ≡ source arrays s.ledgers s.locks s.root
source_is arrays s e = ap (λ (a : List (List ℕ)). source a s.ledgers s.locks s.root) e

lines_of_shown : (arrays : List (List ℕ)) (s : Source) (t : List ℕ) → s.arrays ≡ arrays → t ≡ lines_text s.ledgers s.locks s.root → (Lines arrays).shape s t
unfolding sequence behind_word nothing_more number_before expression
lines_of_shown arrays s t e text = (
  (numeral s.ledgers ++ 10 ∷ []) ++ (codes "locks " ++ ((numeral s.locks ++ 10 ∷ []) ++ (spelling s.root ++ 10 ∷ []))),
  record {
    value = s.ledgers;
    front = numeral s.ledgers ++ 10 ∷ [];
    back = codes "locks " ++ ((numeral s.locks ++ 10 ∷ []) ++ (spelling s.root ++ 10 ∷ []));
    front_text = refl;
    back_text = (
      (numeral s.locks ++ 10 ∷ []) ++ (spelling s.root ++ 10 ∷ []),
      record {
        value = s.locks;
        front = numeral s.locks ++ 10 ∷ [];
        back = spelling s.root ++ 10 ∷ [];
        front_text = refl;
        back_text = record { value = s.root; front = spelling s.root; back = 10 ∷ []; front_text = refl; back_text = ([], (source_is arrays s e, refl), refl); split = refl };
        split = refl;
      },
      refl,
    );
    split = refl;
  },
  text,
)

lines_of_range : (arrays : List (List ℕ)) (s : Source) (t : List ℕ) → s.arrays ≡ arrays → s.ledgers < 256 → s.locks < 256 → NumbersFit s.root
    → t ≡ lines_text s.ledgers s.locks s.root → (Lines arrays).range s t
unfolding sequence behind_word nothing_more number_before expression
lines_of_range arrays s t e ledgers locks root text = (
  (numeral s.ledgers ++ 10 ∷ []) ++ (codes "locks " ++ ((numeral s.locks ++ 10 ∷ []) ++ (spelling s.root ++ 10 ∷ []))),
  record {
    value = s.ledgers;
    front = numeral s.ledgers ++ 10 ∷ [];
    back = codes "locks " ++ ((numeral s.locks ++ 10 ∷ []) ++ (spelling s.root ++ 10 ∷ []));
    front_text = (ledgers, refl);
    back_text = (
      (numeral s.locks ++ 10 ∷ []) ++ (spelling s.root ++ 10 ∷ []),
      record {
        value = s.locks;
        front = numeral s.locks ++ 10 ∷ [];
        back = spelling s.root ++ 10 ∷ [];
        front_text = (locks, refl);
        back_text = record { value = s.root; front = spelling s.root; back = 10 ∷ []; front_text = (root, refl); back_text = ([], (source_is arrays s e, refl), refl); split = refl };
        split = refl;
      },
      refl,
    );
    split = refl;
  },
  text,
)

-- ---- array lines

abbrev pub arrays_text : List (List ℕ) → List ℕ
arrays_text arrays = flat_map (line (codes "array")) arrays

arrays_text-more : (array : List ℕ) (arrays : List (List ℕ)) (x : List ℕ) → arrays_text (array ∷ arrays) ++ x ≡ codes "array" ++ (items_text array ++ (arrays_text arrays ++ x))
arrays_text-more array arrays x =
    append_assoc (line (codes "array") array) (arrays_text arrays) x ∙ append_assoc (codes "array") (items_text array) (arrays_text arrays ++ x)

-- the line behind the array lines begins with another letter
differ : ◌≡◌ {A = Option ℕ} (Some 108) (Some 97) → ⊥
differ e = let same : ◌≡◌ {A = ℕ} 108 97 = cc in absurd (omega (arith, same))

arrays-unique : (some others : List (List ℕ)) (m k n j : ℕ) (a b : Tree) (x y : List ℕ)
    → arrays_text some ++ (lines_text m k a ++ x) ≡ arrays_text others ++ (lines_text n j b ++ y) → (some ≡ others) × (lines_text m k a ++ x ≡ lines_text n j b ++ y)
arrays-unique [] [] m k n j a b x y e = (refl, e)
arrays-unique [] (array ∷ arrays) m k n j a b x y e = absurd (differ (ap first (e ∙ arrays_text-more array arrays (lines_text n j b ++ y))))
arrays-unique (array ∷ arrays) [] m k n j a b x y e = absurd (differ (sym (ap first (sym (arrays_text-more array arrays (lines_text m k a ++ x)) ∙ e))))
arrays-unique (one ∷ some) (other ∷ others) m k n j a b x y e =
    let whole = sym (arrays_text-more one some (lines_text m k a ++ x)) ∙ e ∙ arrays_text-more other others (lines_text n j b ++ y) in
    let items =
    items_text-unique one other (arrays_text some ++ (lines_text m k a ++ x)) (arrays_text others ++ (lines_text n j b ++ y))
    (append_cancel_left (codes "array") (items_text one ++ (arrays_text some ++ (lines_text m k a ++ x))) (items_text other ++ (arrays_text others ++ (lines_text n j b ++ y))) whole) in
    let behind = arrays-unique some others m k n j a b x y items.1 in
    (ap (λ (u : List ℕ). u ∷ some) items.0 ∙ ap (λ (u : List (List ℕ)). other ∷ u) behind.0, behind.1)

abbrev pub ArraysInRange : List (List ℕ) → Type 0
ArraysInRange arrays = AllByRecursion InRange arrays

-- the lines of a program whose arrays begin with those that were read before
abbrev ProgramShape : List (List ℕ) → Source → List ℕ → Type 0
ProgramShape before s t = (more : List (List ℕ)) × (s.arrays ≡ before ++ more) × (t ≡ arrays_text more ++ lines_text s.ledgers s.locks s.root)

pub record ProgramRange (before : List (List ℕ)) (s : Source) (t : List ℕ) : Type 0 where
  pub more : List (List ℕ)
  pub arrays_are : s.arrays ≡ before ++ more
  pub arrays : ArraysInRange more
  pub ledgers : s.ledgers < 256
  pub locks : s.locks < 256
  pub root : NumbersFit s.root
  pub text : t ≡ arrays_text more ++ lines_text s.ledgers s.locks s.root

program-unique : (before : List (List ℕ)) (a b : Source) (s t x y : List ℕ) → ProgramShape before a s → ProgramShape before b t → s ++ x ≡ t ++ y → (a ≡ b) × (s ≡ t)
program-unique before a b s t x y h k e =
    let whole : arrays_text h.0 ++ (lines_text a.ledgers a.locks a.root ++ x) ≡ arrays_text k.0 ++ (lines_text b.ledgers b.locks b.root ++ y) =
    sym (append_assoc (arrays_text h.0) (lines_text a.ledgers a.locks a.root) x) ∙ ap (λ (u : List ℕ). u ++ x) (sym h.2) ∙ e ∙ ap (λ (u : List ℕ). u ++ y) k.2
    ∙ append_assoc (arrays_text k.0) (lines_text b.ledgers b.locks b.root) y in
    let same = arrays-unique h.0 k.0 a.ledgers a.locks b.ledgers b.locks a.root b.root x y whole in
    let arrays : a.arrays ≡ b.arrays = h.1 ∙ ap (λ (u : List (List ℕ)). before ++ u) same.0 ∙ sym k.1 in
    let lines =
    (Lines b.arrays).unique a b (lines_text a.ledgers a.locks a.root) (lines_text b.ledgers b.locks b.root) x y (lines_of_shown b.arrays a (lines_text a.ledgers a.locks a.root) arrays refl)
    (lines_of_shown b.arrays b (lines_text b.ledgers b.locks b.root) refl refl) same.1 in
    (lines.0, h.2 ∙ ap (λ (u : List (List ℕ)). arrays_text u ++ lines_text a.ledgers a.locks a.root) same.0 ∙ ap (λ (u : List ℕ). arrays_text k.0 ++ u) lines.1 ∙ sym k.2)

abbrev least : List (List ℕ) → Source
least arrays = source arrays 0 0 (Number 0)

unfoldable Program : List (List ℕ) → Language Source
unfolding program-unique
Program before = record {
  shape = ProgramShape before;
  range = ProgramRange before;
  within = λ s t h. (h.more, h.arrays_are, h.text);
  sample = (
    least before,
    lines_text 0 0 (Number 0),
    record { more = []; arrays_are = sym (append-nil before); arrays = tt; ledgers = lit< tt; locks = lit< tt; root = lit< tt; text = refl },
  );
  unique = program-unique before;
}

-- ---- reading them

-- no array line
no_array : (before : List (List ℕ)) (bytes : List ℕ) → (first bytes ≡ Some 97 → ⊥) → Exact (Program before) 64 64 bytes (lines_at before bytes)
unfolding Program
no_array before bytes other =
    Exact-among (Lines before) (Program before) 64 64 bytes
    (λ s t h. let shown = lines_shown before s t h in ([], shown.arrays_are ∙ sym (append-nil before), shown.text))
    (λ s t h.
    let shown = lines_in_range before s t h in
    record {
      more = [];
      arrays_are = shown.arrays_are ∙ sym (append-nil before);
      arrays = tt;
      ledgers = shown.ledgers;
      locks = shown.locks;
      root = shown.root;
      text = shown.text;
    })
    (λ s t y h is. let none = no_line h.0 s t y h.2 is in lines_of_shown before s t (h.1 ∙ ap (λ (u : List (List ℕ)). before ++ u) none ∙ append-nil before)
    (h.2 ∙ ap (λ (u : List (List ℕ)). arrays_text u ++ lines_text s.ledgers s.locks s.root) none))
    (λ s t y h is. let none = no_line h.more s t y h.text is in lines_of_range before s t (h.arrays_are ∙ ap (λ (u : List (List ℕ)). before ++ u) none ∙ append-nil before)
    h.ledgers h.locks h.root (h.text ∙ ap (λ (u : List (List ℕ)). arrays_text u ++ lines_text s.ledgers s.locks s.root) none))
    (lines_at before bytes) (exact_lines before bytes)
  where
    no_line : (more : List (List ℕ)) (s : Source) (t y : List ℕ) → t ≡ arrays_text more ++ lines_text s.ledgers s.locks s.root → first (t ++ y) ≡ first bytes → more ≡ []
    no_line [] s t y e is = refl
    no_line (array ∷ more) s t y e is =
        absurd (other (sym is ∙ ap (λ (u : List ℕ). first (u ++ y)) (e ∙ arrays_text-more array more (lines_text s.ledgers s.locks s.root))))

-- one array line and the others
abbrev ArrayWord : Language ℕ
ArrayWord = behind_word (codes "array") (nothing_more 0)

abbrev Array : List (List ℕ) → Language Source
Array before = sequence ArrayWord (λ word. sequence (items_behind []) (λ items. Program (before ++ items ∷ [])))

array_joined : (t f b s g c items others : List ℕ) → t ≡ f ++ b → f ≡ codes "array" ++ s → s ≡ [] → b ≡ g ++ c → g ≡ items → c ≡ others → t ≡ codes "array" ++ (items ++ others)
array_joined t f b s g c items others e h i j k l = cc

array_shape : (before : List (List ℕ)) (s : Source) (t : List ℕ) → (Array before).shape s t → ProgramShape before s t
unfolding sequence behind_word nothing_more items_behind Program
array_shape before s t h =
    let i = h.back_text in
    let others = i.back_text in (
      i.value ∷ others.0,
      others.1 ∙ append_assoc before (i.value ∷ []) others.0,
      array_joined t h.front h.back h.front_text.0 i.front i.back (items_text i.value) (arrays_text others.0 ++ lines_text s.ledgers s.locks s.root) h.split h.front_text.2 h.front_text.1.1 i.split
          (i.front_text.2 ∙ ap items_text (sym i.front_text.1)) others.2
          ∙ sym (arrays_text-more i.value others.0 (lines_text s.ledgers s.locks s.root)),
    )

array_range : (before : List (List ℕ)) (s : Source) (t : List ℕ) → (Array before).range s t → ProgramRange before s t
unfolding sequence behind_word nothing_more items_behind Program
array_range before s t h =
    let i = h.back_text in
    let others = i.back_text in
    record {
      more = i.value ∷ others.more;
      arrays_are = others.arrays_are ∙ append_assoc before (i.value ∷ []) others.more;
      arrays = (subst InRange (sym i.front_text.1) i.front_text.2, others.arrays);
      ledgers = others.ledgers;
      locks = others.locks;
      root = others.root;
      text =
          array_joined t h.front h.back h.front_text.0 i.front i.back (items_text i.value) (arrays_text others.more ++ lines_text s.ledgers s.locks s.root) h.split h.front_text.2 h.front_text.1.1 i.split
          (i.front_text.3 ∙ ap items_text (sym i.front_text.1)) others.text
          ∙ sym (arrays_text-more i.value others.more (lines_text s.ledgers s.locks s.root));
    }

of_array_shape : (before : List (List ℕ)) (s : Source) (t : List ℕ) (array : List ℕ) (more : List (List ℕ)) → s.arrays ≡ before ++ array ∷ more
    → t ≡ arrays_text (array ∷ more) ++ lines_text s.ledgers s.locks s.root → (Array before).shape s t
unfolding sequence behind_word nothing_more items_behind Program
of_array_shape before s t array more is e = record {
  value = 0;
  front = codes "array";
  back = items_text array ++ (arrays_text more ++ lines_text s.ledgers s.locks s.root);
  front_text = ([], (refl, refl), refl);
  back_text = record {
    value = array;
    front = items_text array;
    back = arrays_text more ++ lines_text s.ledgers s.locks s.root;
    front_text = (array, refl, refl);
    back_text = (more, is ∙ sym (append_assoc before (array ∷ []) more), refl);
    split = refl;
  };
  split = e ∙ arrays_text-more array more (lines_text s.ledgers s.locks s.root);
}

of_array_range : (before : List (List ℕ)) (s : Source) (t : List ℕ) (array : List ℕ) (more : List (List ℕ)) → s.arrays ≡ before ++ array ∷ more → ArraysInRange (array ∷ more)
    → s.ledgers < 256 → s.locks < 256 → NumbersFit s.root → t ≡ arrays_text (array ∷ more) ++ lines_text s.ledgers s.locks s.root → (Array before).range s t
unfolding sequence behind_word nothing_more items_behind Program
of_array_range before s t array more is arrays ledgers locks root e = record {
  value = 0;
  front = codes "array";
  back = items_text array ++ (arrays_text more ++ lines_text s.ledgers s.locks s.root);
  front_text = ([], (refl, refl), refl);
  back_text = record {
    value = array;
    front = items_text array;
    back = arrays_text more ++ lines_text s.ledgers s.locks s.root;
    front_text = (array, refl, arrays.0, refl);
    back_text =
        record { more = more; arrays_are = is ∙ sym (append_assoc before (array ∷ []) more); arrays = arrays.1; ledgers = ledgers; locks = locks; root = root; text = refl };
    split = refl;
  };
  split = e ∙ arrays_text-more array more (lines_text s.ledgers s.locks s.root);
}

one_array : (before : List (List ℕ)) (bytes : List ℕ) (r : Reading Source) → Exact (Array before) 64 64 (97 ∷ bytes) r → Exact (Program before) 64 64 (97 ∷ bytes) r
unfolding Program
one_array before bytes r exact =
    Exact-among (Array before) (Program before) 64 64 (97 ∷ bytes) (array_shape before) (array_range before)
    (λ s t y h is. only_shape s t y h.0 h.1 h.2 is)
    (λ s t y h is. only_range s t y h.more h.arrays_are h.arrays h.ledgers h.locks h.root h.text is)
    r exact
  where
    only_shape : (s : Source) (t y : List ℕ) (more : List (List ℕ)) → s.arrays ≡ before ++ more → t ≡ arrays_text more ++ lines_text s.ledgers s.locks s.root → first (t ++ y) ≡ Some 97
        → (Array before).shape s t
    only_shape s t y [] is e at = absurd (differ (sym (ap (λ (u : List ℕ). first (u ++ y)) e) ∙ at))
    only_shape s t y (array ∷ more) is e at = of_array_shape before s t array more is e

    only_range : (s : Source) (t y : List ℕ) (more : List (List ℕ)) → s.arrays ≡ before ++ more → ArraysInRange more → s.ledgers < 256 → s.locks < 256 → NumbersFit s.root
        → t ≡ arrays_text more ++ lines_text s.ledgers s.locks s.root → first (t ++ y) ≡ Some 97 → (Array before).range s t
    only_range s t y [] is arrays ledgers locks root e at = absurd (differ (sym (ap (λ (u : List ℕ). first (u ++ y)) e) ∙ at))
    only_range s t y (array ∷ more) is arrays ledgers locks root e at = of_array_range before s t array more is arrays ledgers locks root e

-- reading the word, with the bytes behind it as the rest
abbrev worded : Result (List ℕ) Halt → Reading ℕ
worded r = r >>= λ rest. Ok (0, rest)

worded-Ok : (r : Result (List ℕ) Halt) (x : ℕ × List ℕ) → worded r ≡ Ok x → r ≡ Ok x.1
worded-Ok (Ok rest) x e = let same : (0, rest) ≡ x = cc in ap (λ (y : ℕ × List ℕ). Ok y.1) same
worded-Ok (Err h) x e = absurd (cc)

abbrev with_lines : Reading (List (List ℕ)) → Reading Source
with_lines r = r >>= λ arrays. lines_at arrays.0 arrays.1

regrouped : (r : Result (List ℕ) Halt) (g : List ℕ → Reading (List ℕ)) (h : List ℕ × List ℕ → Reading (List (List ℕ)))
    → with_lines (r >>= λ rest. g rest >>= h) ≡ (worded r >>= λ word. g word.1 >>= λ items. with_lines (h items))
regrouped (Ok rest) g h = inner (g rest)
  where
    inner : (q : Reading (List ℕ)) → with_lines (q >>= h) ≡ (q >>= λ items. with_lines (h items))
    inner (Ok x) = refl
    inner (Err e) = refl
regrouped (Err e) g h = refl

exact_within : (n : ℕ) (before : List (List ℕ)) (bytes : List ℕ) → length bytes < n → Exact (Program before) 64 64 bytes (with_lines (arrays_at before bytes))
exact_within zero before bytes lt = absurd (omega arith)
exact_within (suc n) before [] lt =
    subst (λ (r : Reading (List (List ℕ))). Exact (Program before) 64 64 [] (with_lines r)) (sym (lines_end before [] (λ le e. absurd (omega (arith, le)))))
    (no_array before [] (λ e. absurd (cc)))
exact_within (suc n) before (byte ∷ bytes) lt =
    at_byte (byte == 97) refl
    (one_array before bytes (worded (word_at (codes "array") (97 ∷ bytes)) >>= λ word. items_at [] word.1 >>= λ items. with_lines (arrays_at (before ++ items.0 ∷ []) items.1))
    (exact_sequence_on ArrayWord (λ word. sequence (items_behind []) (λ items. Program (before ++ items ∷ []))) 64 64 64 (97 ∷ bytes)
    (worded (word_at (codes "array") (97 ∷ bytes))) (λ word. items_at [] word.1 >>= λ items. with_lines (arrays_at (before ++ items.0 ∷ []) items.1))
    (exact_word (nothing_more 0) 64 64 64 (codes "array") (97 ∷ bytes) (λ rest. Ok (0, rest)) refl (λ rest. exact_nothing_more 0 64 rest))
    (λ word e. exact_sequence_on (items_behind []) (λ items. Program (before ++ items ∷ [])) 64 64 64 word.1 (items_at [] word.1)
    (λ items. with_lines (arrays_at (before ++ items.0 ∷ []) items.1)) (exact_items [] 64 word.1)
    (λ items f. exact_within n (before ++ items.0 ∷ []) items.1
    (omega (arith, lt, line_shorter (97 ∷ bytes) word.1 items.0 items.1 (worded-Ok (word_at (codes "array") (97 ∷ bytes)) word e) f))))))
  where
    at_byte : (test : Bool) → (byte == 97) ≡ test
        → Exact (Program before) 64 64 (97 ∷ bytes)
        (worded (word_at (codes "array") (97 ∷ bytes)) >>= λ word. items_at [] word.1 >>= λ items. with_lines (arrays_at (before ++ items.0 ∷ []) items.1))
        → Exact (Program before) 64 64 (byte ∷ bytes) (with_lines (arrays_at before (byte ∷ bytes)))
    at_byte true e exact =
        subst (λ (b : ℕ). Exact (Program before) 64 64 (b ∷ bytes) (with_lines (arrays_at before (b ∷ bytes)))) (sym (eqb-true byte 97 e))
        (subst (λ (r : Reading Source). Exact (Program before) 64 64 (97 ∷ bytes) r)
        (sym (ap with_lines (line_more before bytes) ∙ regrouped (word_at (codes "array") (97 ∷ bytes)) (items_at []) (λ items. arrays_at (before ++ items.0 ∷ []) items.1)))
        exact)
    at_byte false e exact =
        subst (λ (r : Reading (List (List ℕ))). Exact (Program before) 64 64 (byte ∷ bytes) (with_lines r))
        (sym (lines_end before (byte ∷ bytes) (λ le is. eqb-false byte 97 e is)))
        (no_array before (byte ∷ bytes) (λ is. eqb-false byte 97 e (cc)))

exact_program : (bytes : List ℕ) → Exact (Program []) 64 64 bytes (source_at bytes)
unfolding source_at
exact_program bytes = exact_within (suc (length bytes)) [] bytes (omega arith)

-- ---- the texts of programs

small_line : (word : List ℕ) (n : ℕ) → line word (n ∷ []) ≡ word ++ 32 ∷ (numeral n ++ 10 ∷ [])
small_line word n = append_assoc word (32 ∷ (numeral n ++ [])) (10 ∷ []) ∙ ap (λ (u : List ℕ). word ++ 32 ∷ (u ++ 10 ∷ [])) (append-nil (numeral n))

five_parts : (a b c d e f : List ℕ) → a ++ b ++ c ++ d ++ e ++ f ≡ a ++ (b ++ (c ++ (d ++ (e ++ f))))
five_parts a b c d e f = simp append_assoc

pub text_is : (s : Source) → text_of s ≡ header ++ (arrays_text s.arrays ++ lines_text s.ledgers s.locks s.root)
text_is s =
    ap (λ (u : List ℕ). header ++ arrays_text s.arrays ++ u ++ line (codes "locks") (s.locks ∷ []) ++ spelling s.root ++ 10 ∷ []) (small_line (codes "ledgers") s.ledgers)
    ∙ ap (λ (u : List ℕ). header ++ arrays_text s.arrays ++ (codes "ledgers " ++ (numeral s.ledgers ++ 10 ∷ [])) ++ u ++ spelling s.root ++ 10 ∷ []) (small_line (codes "locks") s.locks)
    ∙ five_parts header (arrays_text s.arrays) (codes "ledgers " ++ (numeral s.ledgers ++ 10 ∷ [])) (codes "locks " ++ (numeral s.locks ++ 10 ∷ [])) (spelling s.root) (10 ∷ [])

-- a text of the shape begins with the header
pub header_of : (s : Source) (bytes : List ℕ) → text_of s ≡ bytes → StartsWith header bytes
header_of s bytes e = (arrays_text s.arrays ++ lines_text s.ledgers s.locks s.root, sym e ∙ text_is s)

pub text_of-unique : (a b : Source) (x y : List ℕ) → text_of a ++ x ≡ text_of b ++ y → a ≡ b
text_of-unique a b x y e =
    let whole = sym (apart a x) ∙ e ∙ apart b y in
    let inner =
    append_cancel_left header ((arrays_text a.arrays ++ lines_text a.ledgers a.locks a.root) ++ x) ((arrays_text b.arrays ++ lines_text b.ledgers b.locks b.root) ++ y) whole in
    (program-unique [] a b (arrays_text a.arrays ++ lines_text a.ledgers a.locks a.root) (arrays_text b.arrays ++ lines_text b.ledgers b.locks b.root) x y
    (a.arrays, refl, refl) (b.arrays, refl, refl) inner).0
  where
    apart : (s : Source) (u : List ℕ) → text_of s ++ u ≡ header ++ ((arrays_text s.arrays ++ lines_text s.ledgers s.locks s.root) ++ u)
    apart s u = ap (λ (v : List ℕ). v ++ u) (text_is s) ∙ append_assoc header (arrays_text s.arrays ++ lines_text s.ledgers s.locks s.root) u

plain : Source
plain = source [] 0 0 (Number 0)

plain-range : IsInRange plain
unfolding plain
plain-range = record { arrays = tt; ledgers = lit< tt; locks = lit< tt; root = lit< tt }

unfoldable pub texts : Language Source
unfolding plain plain-range
texts = record {
  shape = λ s t. t ≡ text_of s;
  range = λ s t. IsInRange s × (t ≡ text_of s);
  within = λ s t h. h.1;
  sample = (plain, text_of plain, (plain-range, refl));
  unique = λ a b s t x y h k e.
      let whole : text_of a ++ x ≡ text_of b ++ y = ap (λ (u : List ℕ). u ++ x) (sym h) ∙ e ∙ ap (λ (u : List ℕ). u ++ y) k in
      let same = text_of-unique a b x y whole in
      (same, h ∙ ap text_of same ∙ sym k);
}

pub exact_text : (bytes : List ℕ) → Exact texts 64 64 bytes (word_at header bytes >>= source_at)
unfolding texts behind_word Program
exact_text bytes =
    Exact-residual (behind_word header (Program [])) texts 64 64 64 [] bytes refl
    (same_residual (behind_word header (Program [])).shape (λ s t. t ≡ text_of s)
    (λ s t h. h.2 ∙ ap (λ (u : List ℕ). header ++ u) (h.1.2 ∙ ap (λ (a : List (List ℕ)). arrays_text a ++ lines_text s.ledgers s.locks s.root) (sym h.1.1)) ∙ sym (text_is s))
    (λ s t h. (arrays_text s.arrays ++ lines_text s.ledgers s.locks s.root, (s.arrays, refl, refl), h ∙ text_is s)))
    (same_residual (behind_word header (Program [])).range (λ s t. IsInRange s × (t ≡ text_of s))
    (λ s t h. (
      record { arrays = subst ArraysInRange (sym h.1.arrays_are) h.1.arrays; ledgers = h.1.ledgers; locks = h.1.locks; root = h.1.root },
      h.2 ∙ ap (λ (u : List ℕ). header ++ u) (h.1.text ∙ ap (λ (a : List (List ℕ)). arrays_text a ++ lines_text s.ledgers s.locks s.root) (sym h.1.arrays_are)) ∙ sym (text_is s),
    ))
    (λ s t h. (
      arrays_text s.arrays ++ lines_text s.ledgers s.locks s.root,
      record { more = s.arrays; arrays_are = refl; arrays = h.0.arrays; ledgers = h.0.ledgers; locks = h.0.locks; root = h.0.root; text = refl },
      h.1 ∙ text_is s,
    )))
    (word_at header bytes >>= source_at)
    (exact_word (Program []) 64 64 64 header bytes source_at refl exact_program)

-- ---- levels

levels_items : (items : List ℕ) (n : ℕ) (x : List ℕ) → levels_behind n (items_text items ++ x) ≡ levels_behind n x
levels_items [] n x = refl
levels_items (item ∷ items) n x =
    ap (λ (u : List ℕ). levels_behind n (u ++ x)) (items_text-more item items)
    ∙ ap (levels_behind n) (append_assoc (numeral item) (items_text items) x)
    ∙ levels_numeral item n (items_text items ++ x)
    ∙ levels_items items n x

levels_arrays : (arrays : List (List ℕ)) (n : ℕ) (x : List ℕ) → levels_behind n (arrays_text arrays ++ x) ≡ levels_behind n x
levels_arrays [] n x = refl
levels_arrays (array ∷ arrays) n x =
    ap (levels_behind n) (arrays_text-more array arrays x) ∙ levels_items array n (arrays_text arrays ++ x) ∙ levels_arrays arrays n x

levels_number : (k n : ℕ) (x : List ℕ) → levels_behind n ((numeral k ++ 10 ∷ []) ++ x) ≡ levels_behind n x
levels_number k n x = ap (levels_behind n) (append_assoc (numeral k) (10 ∷ []) x) ∙ levels_numeral k n (10 ∷ x)

levels_of_text : (s : Source) → levels_behind 64 (text_of s) ≡ levels_behind 64 (spelling s.root ++ 10 ∷ [])
levels_of_text s =
    ap (levels_behind 64) (text_is s)
    ∙ levels_arrays s.arrays 64 (lines_text s.ledgers s.locks s.root)
    ∙ levels_number s.ledgers 64 (codes "locks " ++ ((numeral s.locks ++ 10 ∷ []) ++ (spelling s.root ++ 10 ∷ [])))
    ∙ levels_number s.locks 64 (spelling s.root ++ 10 ∷ [])

-- a text in range that leaves all its levels behind it is accepted
pub accepted_within : (s : Source) → IsInRange s → (left : ℕ) → levels_behind 64 (text_of s) ≡ Some left → IsAccepted s
accepted_within s h left e = record { in_range = h; nesting = (nesting_within s.root 64 left (10 ∷ []) (sym (levels_of_text s) ∙ e)).0 }

-- and an accepted text has no bracket that is too deep
pub levels_of_accepted : (s : Source) → IsAccepted s → levels_behind 64 (text_of s) ≡ Some 64
levels_of_accepted s h = levels_of_text s ∙ levels_of_tree s.root 64 h.nesting (10 ∷ [])
