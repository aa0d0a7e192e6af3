-- The words that spell an order, by the result of each part of the reader.
use Rattle.std.proofs.Common.{◌≡◌, ℕ, ◌^◌, ◌<◌, List, [], ◌∷◌, ◌++◌, Option, Some, None, Result, Ok, Err, refl, sym, ap, subst, ◌∙◌, append_assoc, arith, lit<, append-nil, codes, ◌↔◌, ◌==◌, length, true, false, eqb-true}
use Rattle.arachne_lang.specs.{Spelling.numeral, declared.reading.stop.Stop.Stop, Reading.{Halt, Departs, Overflows, Fails, IsAtByte, Reading, ◌>>=◌, word_at, figures_at, number_at}}
use Rattle.arachne_lang.specs.declared.reading.stop.Stop.TheVariants as stop
use Rattle.arachne_lang.proofs.{Languages.first, Numerals.NoDigit}
use Rattle.arachne_policy.specs.declared.orders.{CoreOrder.CoreOrder, OrderKind.OrderKind}
use Rattle.arachne_policy.specs.declared.orders.OrderKind.TheVariants.{Grant, Release}
use Rattle.arachne_cli.specs.Orders.{FitsWords, kind_word, order_word, grant_or, kind_at, release_at, with_after, with_core, with_kind, order_of}
use Rattle.arachne_cli.proofs.Figures.{word_taken, figures_read, figures_again}

abbrev pub Spells : List ℕ → CoreOrder → Type 0
Spells bytes order = FitsWords order × (order_word order ≡ bytes)

-- the result of the reader of a kind: the kind and the bytes after its colon, exactly if they are there
abbrev pub IsKind : Option (OrderKind × List ℕ) → List ℕ → Type 0
IsKind found bytes = (kind : OrderKind) (rest : List ℕ) → (found ≡ Some (kind, rest)) ↔ (bytes ≡ kind_word kind ++ codes ":" ++ rest)

abbrev behind : CoreOrder → List ℕ
behind order = kind_word order.kind ++ codes ":" ++ numeral order.core

-- a number, and the colon that ends it
abbrev ended : ℕ → Result (List ℕ) Halt → Reading ℕ
ended number taken = taken >>= λ rest. Ok (number, rest)

abbrev finished : Reading ℕ → Reading ℕ
finished read = read >>= λ number. ended number.0 (word_at (codes ":") number.1)

word_is : (order : CoreOrder) → order_word order ≡ numeral order.after ++ 58 ∷ behind order
word_is order = simp append_assoc

abbrev made : ℕ → OrderKind → ℕ → CoreOrder
made after kind core = record { after = after; kind = kind; core = core }

abbrev Same : Reading ℕ → Reading ℕ → Type 0
Same one other = one ≡ other

abbrev Pair : ℕ × List ℕ → ℕ × List ℕ → Type 0
Pair one other = one ≡ other

-- ---- the parts of an order's word

colon_is_no_digit : (rest : List ℕ) (byte : ℕ) → first (58 ∷ rest) ≡ Some byte → NoDigit byte
colon_is_no_digit rest byte e digit = let same : 58 ≡ byte = cc in omega (arith, same, digit.1)

needs_number : (bytes : List ℕ) (order : CoreOrder) → Spells bytes order → number_at (2 ^ 64) (codes ":") bytes ≡ Ok (order.after, behind order)
unfolding number_at
needs_number bytes order spells =
    let read : figures_at (2 ^ 64) (numeral order.after ++ 58 ∷ behind order) ≡ Ok (order.after, 58 ∷ behind order) =
    figures_again (2 ^ 64) order.after (58 ∷ behind order) spells.0.after (colon_is_no_digit (behind order)) in
    ap finished (ap (figures_at (2 ^ 64)) (sym spells.1 ∙ word_is order) ∙ read)

needs_core : (bytes : List ℕ) (order : CoreOrder) → Spells bytes order → figures_at (2 ^ 64) (numeral order.core) ≡ Ok (order.core, [])
needs_core bytes order spells =
    ap (figures_at (2 ^ 64)) (sym (append-nil (numeral order.core))) ∙ figures_again (2 ^ 64) order.core [] spells.0.core (λ byte e. absurd (cc))

-- ---- if a part is missing

-- where the code stops at a byte, reading halts
pub halted : {B : Type 0} (why : Stop) (read : Result B Halt) → IsAtByte why → Fails why read → (halt : Halt) × (read ≡ Err halt)
halted stop.Memory read at e = absurd at
halted (stop.Departs rest) read at e = (Departs rest.now, e)
halted (stop.Overflows rest) read at e = (Overflows rest.now, e)
halted (stop.TooDeep rest) read at e = absurd at

refuses : (bytes : List ℕ) (order : CoreOrder) → (Spells bytes order → ⊥) → (None ≡ Some order) ↔ Spells bytes order
refuses bytes order none = (λ e. absurd (cc), λ spells. absurd (none spells))

pub no_number : (bytes : List ℕ) (halt : Halt) → number_at (2 ^ 64) (codes ":") bytes ≡ Err halt → (order : CoreOrder) → (None ≡ Some order) ↔ Spells bytes order
no_number bytes halt e order = refuses bytes order (λ spells. let ok = needs_number bytes order spells in absurd (cc))

-- the two readings of the part before the kind are one
same_behind : (bytes rest : List ℕ) (after : ℕ) → number_at (2 ^ 64) (codes ":") bytes ≡ Ok (after, rest) → (order : CoreOrder) → Spells bytes order
    → (after ≡ order.after) × (rest ≡ behind order)
same_behind bytes rest after e order spells =
    let ok : Same (Ok (after, rest)) (Ok (order.after, behind order)) = sym e ∙ needs_number bytes order spells in
    let same : (after, rest) ≡ (order.after, behind order) = cc in
    (ap (λ (p : ℕ × List ℕ). p.0) same, ap (λ (p : ℕ × List ℕ). p.1) same)

pub no_kind : (bytes rest : List ℕ) (after : ℕ) → number_at (2 ^ 64) (codes ":") bytes ≡ Ok (after, rest) → IsKind None rest → (order : CoreOrder) → (None ≡ Some order) ↔ Spells bytes order
no_kind bytes rest after e is order = refuses bytes order (λ spells.
    let found = (is order.kind (numeral order.core)).1 ((same_behind bytes rest after e order spells).1) in absurd (cc))

same_core : (bytes rest left : List ℕ) (after : ℕ) (kind : OrderKind) → number_at (2 ^ 64) (codes ":") bytes ≡ Ok (after, rest) → IsKind (Some (kind, left)) rest
    → (order : CoreOrder) → Spells bytes order → (kind ≡ order.kind) × (left ≡ numeral order.core)
same_core bytes rest left after kind e is order spells =
    let found : Some (kind, left) ≡ Some (order.kind, numeral order.core) = (is order.kind (numeral order.core)).1 ((same_behind bytes rest after e order spells).1) in
    let same : (kind, left) ≡ (order.kind, numeral order.core) = cc in
    (ap (λ (p : OrderKind × List ℕ). p.0) same, ap (λ (p : OrderKind × List ℕ). p.1) same)

pub no_core : (bytes rest left : List ℕ) (after : ℕ) (kind : OrderKind) (found : Result (ℕ × List ℕ) Halt) → number_at (2 ^ 64) (codes ":") bytes ≡ Ok (after, rest) → IsKind (Some (kind, left)) rest
    → figures_at (2 ^ 64) left ≡ found → ((core : ℕ) → found ≡ Ok (core, []) → ⊥) → (order : CoreOrder) → (None ≡ Some order) ↔ Spells bytes order
no_core bytes rest left after kind found e is f none order = refuses bytes order (λ spells.
    let same = same_core bytes rest left after kind e is order spells in
    none order.core (sym f ∙ ap (figures_at (2 ^ 64)) same.1 ∙ needs_core bytes order spells))

-- the number of the core ends the word, or something is left behind it
pub some_left : (found core : ℕ) (rest : List ℕ) → false ≡ (length rest == 0) → Same (Ok (found, rest)) (Ok (core, [])) → ⊥
some_left found core [] e same = absurd (cc)
some_left found core (byte ∷ rest) e same =
    let parts : (found, byte ∷ rest) ≡ (core, []) = cc in
    let none : byte ∷ rest ≡ [] = ap (λ (p : ℕ × List ℕ). p.1) parts in
    cc

pub none_left : (core : ℕ) (rest : List ℕ) → true ≡ (length rest == 0) → Same (Ok (core, rest)) (Ok (core, []))
none_left core [] e = refl
none_left core (byte ∷ rest) e = absurd (omega (arith, eqb-true (length (byte ∷ rest)) 0 (sym e)))

-- ---- if each part is there

pub is_order : (bytes rest left : List ℕ) (after core : ℕ) (kind : OrderKind) → number_at (2 ^ 64) (codes ":") bytes ≡ Ok (after, rest) → IsKind (Some (kind, left)) rest
    → figures_at (2 ^ 64) left ≡ Ok (core, []) → (order : CoreOrder) → (Some (record { after = after; kind = kind; core = core }) ≡ Some order) ↔ Spells bytes order
unfolding number_at
is_order bytes rest left after core kind e is f order = (there, back)
  where
    colon : (read : Result (ℕ × List ℕ) Halt) → figures_at (2 ^ 64) bytes ≡ read → finished read ≡ Ok (after, rest)
        → (bytes ≡ numeral after ++ 58 ∷ rest) × (after < 2 ^ 64)
    colon (Err halt) r e = absurd (cc)
    colon (Ok read) r e = at_colon (word_at (codes ":") read.1) refl e
      where
        at_colon : (taken : Result (List ℕ) Halt) → word_at (codes ":") read.1 ≡ taken → ended read.0 taken ≡ Ok (after, rest) → (bytes ≡ numeral after ++ 58 ∷ rest) × (after < 2 ^ 64)
        at_colon (Err halt) w e = absurd (cc)
        at_colon (Ok over) w e =
            let same : (read.0, over) ≡ (after, rest) = cc in
            let number : read.0 ≡ after = ap (λ (p : ℕ × List ℕ). p.0) same in
            let others : over ≡ rest = ap (λ (p : ℕ × List ℕ). p.1) same in
            let front = figures_read (2 ^ 64) read.0 bytes read.1 (lit< tt) r in
            let word : read.1 ≡ 58 ∷ over = word_taken (codes ":") read.1 over w in
            (rw (← number, ← others, ← word) front.0, rw (← number) front.1)

    spelled : Spells bytes (record { after = after; kind = kind; core = core })
    spelled =
        let front = colon (figures_at (2 ^ 64) bytes) refl e in
        let middle : rest ≡ kind_word kind ++ codes ":" ++ left = (is kind left).0 refl in
        let last = figures_read (2 ^ 64) core left [] (lit< tt) f in
        let end : left ≡ numeral core = last.0 ∙ append-nil (numeral core) in
        (record { after = front.1; core = last.1 }, word_is (record { after = after; kind = kind; core = core }) ∙ sym (front.0 ∙ ap (λ (u : List ℕ). numeral after ++ 58 ∷ u) (middle ∙ ap (λ (u : List ℕ). kind_word kind ++ codes ":" ++ u) end)))

    there : Some (record { after = after; kind = kind; core = core }) ≡ Some order → Spells bytes order
    there same = let one : (record { after = after; kind = kind; core = core }) ≡ order = cc in subst (Spells bytes) one spelled

    back : Spells bytes order → Some (record { after = after; kind = kind; core = core }) ≡ Some order
    back spells =
        let one = same_behind bytes rest after e order spells in
        let two = same_core bytes rest left after kind e is order spells in
        let three : Same (Ok (core, [])) (Ok (order.core, [])) = sym f ∙ ap (figures_at (2 ^ 64)) two.1 ∙ needs_core bytes order spells in
        let four : Pair (core, []) (order.core, []) = cc in
        let last : core ≡ order.core = ap (λ (p : ℕ × List ℕ). p.0) four in
        let same : made after kind core ≡ made order.after order.kind order.core = rw (one.0, two.0, last) refl in
        ap (λ (o : CoreOrder). Some o) same

-- ---- the order of a word, as a function

abbrev Found : Type 0
Found = Option (OrderKind × List ℕ)

abbrev Twice : Found → Found → Type 0
Twice one other = one ≡ other

same_kind : (one other : OrderKind) (left rest bytes : List ℕ) → Twice (Some (one, left)) (Some (other, rest)) → bytes ≡ kind_word one ++ codes ":" ++ left
    → bytes ≡ kind_word other ++ codes ":" ++ rest
same_kind one other left rest bytes e stands =
    let pair : (one, left) ≡ (other, rest) = cc in
    let kind : one ≡ other = ap (λ (p : OrderKind × List ℕ). p.0) pair in
    let others : left ≡ rest = ap (λ (p : OrderKind × List ℕ). p.1) pair in
    rw (← kind, ← others) stands

releases : (bytes : List ℕ) (taken : Result (List ℕ) Halt) → word_at (codes "release:") bytes ≡ taken → (kind : OrderKind) (rest : List ℕ)
    → release_at taken ≡ Some (kind, rest) → bytes ≡ kind_word kind ++ codes ":" ++ rest
releases bytes (Ok left) w kind rest e = same_kind Release kind left rest bytes e (word_taken (codes "release:") bytes left w)
releases bytes (Err halt) w kind rest e = absurd (cc)

grants : (bytes : List ℕ) (taken : Result (List ℕ) Halt) → word_at (codes "grant:") bytes ≡ taken → (kind : OrderKind) (rest : List ℕ)
    → grant_or bytes taken ≡ Some (kind, rest) → bytes ≡ kind_word kind ++ codes ":" ++ rest
grants bytes (Ok left) w kind rest e = same_kind Grant kind left rest bytes e (word_taken (codes "grant:") bytes left w)
grants bytes (Err halt) w kind rest e = releases bytes (word_at (codes "release:") bytes) refl kind rest e

stands : (kind : OrderKind) (rest : List ℕ) → kind_at (kind_word kind ++ codes ":" ++ rest) ≡ Some (kind, rest)
stands Grant rest = refl
stands Release rest = refl

kind_is : (bytes : List ℕ) → IsKind (kind_at bytes) bytes
kind_is bytes kind rest = (grants bytes (word_at (codes "grant:") bytes) refl kind rest, λ e. ap kind_at e ∙ stands kind rest)

more_left : (found core byte : ℕ) (rest : List ℕ) → Same (Ok (found, byte ∷ rest)) (Ok (core, [])) → ⊥
more_left found core byte rest e =
    let parts : (found, byte ∷ rest) ≡ (core, []) = cc in
    let none : byte ∷ rest ≡ [] = ap (λ (p : ℕ × List ℕ). p.1) parts in
    cc

-- the function gives an order exactly for the words that spell one
pub order_of_spells : (word : List ℕ) (order : CoreOrder) → (order_of word ≡ Some order) ↔ Spells word order
unfolding order_of
order_of_spells word order = by_number (number_at (2 ^ 64) (codes ":") word) refl
  where
    by_core : (after : ℕ) (kind : OrderKind) (rest left : List ℕ) → number_at (2 ^ 64) (codes ":") word ≡ Ok (after, rest) → IsKind (Some (kind, left)) rest
        → (found : Reading ℕ) → figures_at (2 ^ 64) left ≡ found → (with_core after kind found ≡ Some order) ↔ Spells word order
    by_core after kind rest left e is (Err halt) f = no_core word rest left after kind (Err halt) e is f (λ core same. absurd (cc)) order
    by_core after kind rest left e is (Ok (core, [])) f = is_order word rest left after core kind e is f order
    by_core after kind rest left e is (Ok (core, byte ∷ over)) f =
        no_core word rest left after kind (Ok (core, byte ∷ over)) e is f (λ other same. more_left core other byte over same) order

    by_kind : (after : ℕ) (rest : List ℕ) → number_at (2 ^ 64) (codes ":") word ≡ Ok (after, rest) → (found : Option (OrderKind × List ℕ)) → kind_at rest ≡ found
        → (with_kind after found ≡ Some order) ↔ Spells word order
    by_kind after rest e None k = no_kind word rest after e (subst (λ (o : Option (OrderKind × List ℕ)). IsKind o rest) k (kind_is rest)) order
    by_kind after rest e (Some (kind, left)) k =
        by_core after kind rest left e (subst (λ (o : Option (OrderKind × List ℕ)). IsKind o rest) k (kind_is rest)) (figures_at (2 ^ 64) left) refl

    by_number : (read : Reading ℕ) → number_at (2 ^ 64) (codes ":") word ≡ read → (with_after read ≡ Some order) ↔ Spells word order
    by_number (Err halt) e = no_number word halt e order
    by_number (Ok (after, rest)) e = by_kind after rest e (kind_at rest) refl

-- whatever is the order of a word exactly if the word spells it is the function's result
pub order_is : (word : List ℕ) (found : Option CoreOrder) → ((order : CoreOrder) → (found ≡ Some order) ↔ Spells word order) → order_of word ≡ found
order_is word found is = by_both found (order_of word) refl refl
  where
    by_both : (one other : Option CoreOrder) → found ≡ one → order_of word ≡ other → order_of word ≡ found
    by_both (Some order) other f o = (order_of_spells word order).1 ((is order).0 f) ∙ sym f
    by_both None None f o = o ∙ sym f
    by_both None (Some order) f o = let found_too : found ≡ Some order = (is order).1 ((order_of_spells word order).0 o) in absurd (cc)
