-- Reading the lines of arrays item by item and line by line.
use Rattle.std.proofs.Common.{◌≡◌, ℕ, zero, suc, ◌+◌, ◌-◌, ◌*◌, ◌^◌, ◌<◌, ◌≤◌, List, [], ◌∷◌, ◌++◌, length, get_or, take, drop, Result, Ok, Err, refl, sym, ap, subst, arith, ◌==◌, ◌&&◌, nat_le, nat_lt, if◌then◌else◌, Bool, true, false, codes, ne_eqb}
use Rattle.std.proofs.Math.Seq.{take-length}
use Rattle.arachne_lang.specs.declared.reading.stop.Stop.{Stop}
use Rattle.arachne_lang.specs.declared.reading.stop.Stop.TheVariants as stop
use Rattle.arachne_lang.specs.Reading.{Fails, Halt, Departs, Overflows, Reading, ◌>>=◌, word_at, digits_at, figures_at, items_within, items_at, arrays_within, arrays_at}

-- ---- the bytes that are left

-- at most this many bytes are left behind the value that was read
abbrev pub Leaves : {A : Type 0} → ℕ → Reading A → Type 0
Leaves n (Ok x) = length x.1 ≤ n
Leaves n (Err h) = Unit {0}

leaves_more : {A : Type 0} (m n : ℕ) (r : Reading A) → m ≤ n → Leaves m r → Leaves n r
leaves_more m n (Ok x) le h = omega (arith, le, h)
leaves_more m n (Err h) le k = tt

leaves_then : {A B : Type 0} (n : ℕ) (r : Reading A) (f : A × List ℕ → Reading B) → Leaves n r → ((x : A × List ℕ) → length x.1 ≤ n → Leaves n (f x)) → Leaves n (r >>= f)
leaves_then n (Ok x) f h each = each x h
leaves_then n (Err h) f k each = tt

digits_leave : (limit value : ℕ) (bytes : List ℕ) → Leaves (length bytes) (digits_at limit value bytes)
digits_leave limit value [] = omega arith
digits_leave limit value (byte ∷ bytes) =
    at_byte (nat_le 48 byte && nat_le byte 57) (nat_lt (value * 10 + (byte - 48)) limit) (digits_at limit (value * 10 + (byte - 48)) bytes) (digits_leave limit (value * 10 + (byte - 48)) bytes)
  where
    at_byte : (digit below : Bool) (r : Reading ℕ) → Leaves (length bytes) r
        → Leaves (length (byte ∷ bytes)) (if digit then (if below then r else Err (Overflows (byte ∷ bytes))) else Ok (value, byte ∷ bytes))
    at_byte true true r h = leaves_more (length bytes) (length (byte ∷ bytes)) r (omega arith) h
    at_byte true false r h = tt
    at_byte false below r h = omega arith

figures_leave : (limit : ℕ) (bytes : List ℕ) → Leaves (length bytes) (figures_at limit bytes)
figures_leave limit [] = tt
figures_leave limit (byte ∷ bytes) = at_byte (byte == 48) (nat_le 49 byte && nat_le byte 57)
  where
    at_byte : (naught digit : Bool) → Leaves (length (byte ∷ bytes)) (if naught then Ok (0, bytes) else if digit then digits_at limit (byte - 48) bytes else Err (Departs (byte ∷ bytes)))
    at_byte true digit = omega arith
    at_byte false true = leaves_more (length bytes) (length (byte ∷ bytes)) (digits_at limit (byte - 48) bytes) (omega arith) (digits_leave limit (byte - 48) bytes)
    at_byte false false = tt

same_then : {A B : Type 0} (n : ℕ) (r : Reading A) (f g : A × List ℕ → Reading B) → Leaves n r → ((x : A × List ℕ) → length x.1 ≤ n → f x ≡ g x) → (r >>= f) ≡ (r >>= g)
same_then n (Ok x) f g h each = each x h
same_then n (Err h) f g k each = refl

-- ---- items

-- More turns than bytes are enough.
items_enough : (turns others : ℕ) (items bytes : List ℕ) → length bytes < turns → length bytes < others → items_within turns items bytes ≡ items_within others items bytes
items_enough zero others items bytes lt mt = absurd (omega arith)
items_enough (suc turns) zero items bytes lt mt = absurd (omega arith)
items_enough (suc turns) (suc others) items [] lt mt = refl
items_enough (suc turns) (suc others) items (byte ∷ bytes) lt mt =
    ap (λ (r : Reading (List ℕ)). if byte == 32 then r else if byte == 10 then Ok (items, bytes) else Err (Departs (byte ∷ bytes)))
    (same_then (length bytes) (figures_at (2 ^ 64) bytes) (λ item. items_within turns (items ++ item.0 ∷ []) item.1) (λ item. items_within others (items ++ item.0 ∷ []) item.1)
    (figures_leave (2 ^ 64) bytes) (λ x le. items_enough turns others (items ++ x.0 ∷ []) x.1 (omega (arith, le, lt)) (omega (arith, le, mt))))

items_leave_within : (turns : ℕ) (items bytes : List ℕ) → Leaves (length bytes) (items_within turns items bytes)
items_leave_within zero items bytes = tt
items_leave_within (suc turns) items [] = tt
items_leave_within (suc turns) items (byte ∷ bytes) =
    at_byte (byte == 32) (byte == 10) (figures_at (2 ^ 64) bytes >>= λ item. items_within turns (items ++ item.0 ∷ []) item.1)
    (leaves_then (length bytes) (figures_at (2 ^ 64) bytes) (λ item. items_within turns (items ++ item.0 ∷ []) item.1) (figures_leave (2 ^ 64) bytes)
    (λ x le. leaves_more (length x.1) (length bytes) (items_within turns (items ++ x.0 ∷ []) x.1) le (items_leave_within turns (items ++ x.0 ∷ []) x.1)))
  where
    at_byte : (space newline : Bool) (r : Reading (List ℕ)) → Leaves (length bytes) r
        → Leaves (length (byte ∷ bytes)) (if space then r else if newline then Ok (items, bytes) else Err (Departs (byte ∷ bytes)))
    at_byte true newline r h = leaves_more (length bytes) (length (byte ∷ bytes)) r (omega arith) h
    at_byte false true r h = omega arith
    at_byte false false r h = tt

items_leave : (items bytes : List ℕ) → Leaves (length bytes) (items_at items bytes)
unfolding items_at
items_leave items bytes = items_leave_within (suc (length bytes)) items bytes

-- one item more
pub item_more : (items bytes : List ℕ) → items_at items (32 ∷ bytes) ≡ (figures_at (2 ^ 64) bytes >>= λ item. items_at (items ++ item.0 ∷ []) item.1)
unfolding items_at
item_more items bytes =
    same_then (length bytes) (figures_at (2 ^ 64) bytes) (λ item. items_within (length (32 ∷ bytes)) (items ++ item.0 ∷ []) item.1)
    (λ item. items_within (suc (length item.1)) (items ++ item.0 ∷ []) item.1)
    (figures_leave (2 ^ 64) bytes) (λ x le. items_enough (length (32 ∷ bytes)) (suc (length x.1)) (items ++ x.0 ∷ []) x.1 (omega (arith, le)) (omega arith))

-- and none
pub items_end : (items bytes : List ℕ) → (1 ≤ length bytes → get_or bytes 0 0 ≡ 32 → ⊥) → items_at items bytes ≡ (word_at (10 ∷ []) bytes >>= λ rest. Ok (items, rest))
unfolding items_at
items_end items [] other = refl
items_end items (byte ∷ bytes) other = rw (ne_eqb byte 32 (λ e. other (omega arith) e)) (at_byte (Ok (items, bytes)) refl (byte == 10))
  where
    at_byte : (end : Reading (List ℕ)) → end ≡ Ok (items, bytes) → (test : Bool)
        → (if test then end else Err (Departs (byte ∷ bytes))) ≡ ((if test then Ok bytes else Err (Departs (byte ∷ bytes))) >>= λ rest. Ok (items, rest))
    at_byte end e true = e
    at_byte end e false = refl

pub item_at_space : (items bytes : List ℕ) → 1 ≤ length bytes → get_or bytes 0 0 ≡ 32
    → items_at items bytes ≡ (figures_at (2 ^ 64) (take (length bytes - 1) (drop 1 bytes)) >>= λ item. items_at (items ++ item.0 ∷ []) item.1)
item_at_space items [] le e = absurd (omega arith)
item_at_space items (byte ∷ bytes) le e =
    let n : suc (length bytes) - 1 ≡ length bytes = omega arith in
    rw (e, n, take-length bytes) (item_more items bytes)

-- ---- lines

word_leaves : (word bytes rest : List ℕ) → word_at word bytes ≡ Ok rest → length rest + length word ≤ length bytes
word_leaves [] bytes rest e = let same : bytes ≡ rest = cc in omega (arith, ap length same)
word_leaves (letter ∷ word) [] rest e = absurd (cc)
word_leaves (letter ∷ word) (byte ∷ bytes) rest e = at_byte (byte == letter) e (word_leaves word bytes rest)
  where
    at_byte : (test : Bool) → (if test then word_at word bytes else Err (Departs (byte ∷ bytes))) ≡ Ok rest → (word_at word bytes ≡ Ok rest → length rest + length word ≤ length bytes)
        → length rest + length (letter ∷ word) ≤ length (byte ∷ bytes)
    at_byte true e others = omega (arith, others e)
    at_byte false e others = absurd (cc)

-- reading a line and going on
abbrev line_then : ℕ → List (List ℕ) → Result (List ℕ) Halt → Reading (List (List ℕ))
line_then turns arrays r = r >>= λ rest. items_at [] rest >>= λ items. arrays_within turns (arrays ++ items.0 ∷ []) items.1

same_line_then : (turns others n : ℕ) (arrays : List (List ℕ)) (r : Result (List ℕ) Halt) → ((rest : List ℕ) → r ≡ Ok rest → length rest ≤ n)
    → ((more : List (List ℕ)) (rest : List ℕ) → length rest ≤ n → arrays_within turns more rest ≡ arrays_within others more rest)
    → line_then turns arrays r ≡ line_then others arrays r
same_line_then turns others n arrays (Ok rest) left each =
    same_then (length rest) (items_at [] rest) (λ items. arrays_within turns (arrays ++ items.0 ∷ []) items.1) (λ items. arrays_within others (arrays ++ items.0 ∷ []) items.1)
    (items_leave [] rest) (λ x le. each (arrays ++ x.0 ∷ []) x.1 (omega (arith, le, left rest refl)))
same_line_then turns others n arrays (Err h) left each = refl

-- fewer bytes are left behind the word of a line
line_leaves : (byte : ℕ) (bytes rest : List ℕ) → word_at (codes "array") (byte ∷ bytes) ≡ Ok rest → length rest ≤ length bytes
line_leaves byte bytes rest e = omega (arith, word_leaves (codes "array") (byte ∷ bytes) rest e)

-- More turns than bytes are enough.
arrays_enough : (turns others : ℕ) (arrays : List (List ℕ)) (bytes : List ℕ) → length bytes < turns → length bytes < others → arrays_within turns arrays bytes ≡ arrays_within others arrays bytes
arrays_enough zero others arrays bytes lt mt = absurd (omega arith)
arrays_enough (suc turns) zero arrays bytes lt mt = absurd (omega arith)
arrays_enough (suc turns) (suc others) arrays [] lt mt = refl
arrays_enough (suc turns) (suc others) arrays (byte ∷ bytes) lt mt =
    ap (λ (r : Reading (List (List ℕ))). if byte == 97 then r else Ok (arrays, byte ∷ bytes))
    (same_line_then turns others (length bytes) arrays (word_at (codes "array") (byte ∷ bytes)) (line_leaves byte bytes)
    (λ more rest le. arrays_enough turns others more rest (omega (arith, le, lt)) (omega (arith, le, mt))))

-- one line more
pub line_more : (arrays : List (List ℕ)) (bytes : List ℕ)
    → arrays_at arrays (97 ∷ bytes) ≡ (word_at (codes "array") (97 ∷ bytes) >>= λ rest. items_at [] rest >>= λ items. arrays_at (arrays ++ items.0 ∷ []) items.1)
unfolding arrays_at
line_more arrays bytes = by_word (word_at (codes "array") (97 ∷ bytes)) (line_leaves 97 bytes)
  where
    by_word : (r : Result (List ℕ) Halt) → ((rest : List ℕ) → r ≡ Ok rest → length rest ≤ length bytes)
        → line_then (length (97 ∷ bytes)) arrays r ≡ (r >>= λ rest. items_at [] rest >>= λ items. arrays_within (suc (length items.1)) (arrays ++ items.0 ∷ []) items.1)
    by_word (Ok rest) left =
        same_then (length rest) (items_at [] rest) (λ items. arrays_within (length (97 ∷ bytes)) (arrays ++ items.0 ∷ []) items.1)
        (λ items. arrays_within (suc (length items.1)) (arrays ++ items.0 ∷ []) items.1) (items_leave [] rest)
        (λ x le. arrays_enough (length (97 ∷ bytes)) (suc (length x.1)) (arrays ++ x.0 ∷ []) x.1 (omega (arith, le, left rest refl)) (omega arith))
    by_word (Err h) left = refl

-- and none
pub lines_end : (arrays : List (List ℕ)) (bytes : List ℕ) → (1 ≤ length bytes → get_or bytes 0 0 ≡ 97 → ⊥) → arrays_at arrays bytes ≡ Ok (arrays, bytes)
unfolding arrays_at
lines_end arrays [] other = refl
lines_end arrays (byte ∷ bytes) other = rw (ne_eqb byte 97 (λ e. other (omega arith) e)) refl

pub line_at_letter : (arrays : List (List ℕ)) (bytes : List ℕ) → 1 ≤ length bytes → get_or bytes 0 0 ≡ 97
    → arrays_at arrays bytes ≡ (word_at (codes "array") bytes >>= λ rest. items_at [] rest >>= λ items. arrays_at (arrays ++ items.0 ∷ []) items.1)
line_at_letter arrays [] le e = absurd (omega arith)
line_at_letter arrays (byte ∷ bytes) le e =
    subst (λ (b : ℕ). arrays_at arrays (b ∷ bytes) ≡ (word_at (codes "array") (b ∷ bytes) >>= λ rest. items_at [] rest >>= λ items. arrays_at (arrays ++ items.0 ∷ []) items.1))
    (sym e) (line_more arrays bytes)

-- a line takes bytes
pub line_shorter : (bytes behind items rest : List ℕ) → word_at (codes "array") bytes ≡ Ok behind → items_at [] behind ≡ Ok (items, rest) → length rest < length bytes
line_shorter bytes behind items rest e f =
    let P : Reading (List ℕ) → Type 0 = λ r. Leaves (length behind) r in
    let left : P (Ok (items, rest)) = subst P f (items_leave [] behind) in
    omega (arith, word_leaves (codes "array") bytes behind e, left)

-- ---- the code's exits

-- a stop in the first part stops the whole
pub fails_then : {A B : Type 0} (why : Stop) (r : Result A Halt) (f : A → Result B Halt) → Fails why r → Fails why (r >>= f)
fails_then stop.Memory r f e = tt
fails_then _ r f e = rw e refl
