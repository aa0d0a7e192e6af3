-- The items of an array are read exactly.
use Rattle.std.proofs.Common.{◌≡◌, ℕ, zero, suc, ◌^◌, ◌<◌, List, [], ◌∷◌, ◌++◌, length, Option, Some, Ok, Err, refl, sym, ap, subst, ◌∙◌, append_assoc, arith, lit<, ◌==◌, if◌then◌else◌, Bool, true, false, map, append-nil}
use Rattle.std.{specs.List.AllByRecursion, proofs.lemmas.Bool.{eqb-true, eqb-false}}
use Rattle.std.proofs.lemmas.List.{append_cancel_left}
use Rattle.arachne_lang.specs.{Spelling.{numeral, after_spaces}, Reading.{Departs, ◌>>=◌, figures_at, items_at}}
use Rattle.arachne_lang.proofs.Numerals.{NoDigit, space_is_no_digit, newline_is_no_digit}
use Rattle.arachne_lang.proofs.Languages.{Language, first, Departure, Exact, Residual, Exact-residual, byte_residual}
use Rattle.arachne_lang.proofs.ExactNumber.{Ends, Shaped, Ranged, numbered, exact_numbered, numeral-apart}
use Rattle.arachne_lang.proofs.ArraySteps.{item_more, items_end}

-- ---- the text of items, with the newline

abbrev pub items_text : List ℕ → List ℕ
items_text items = after_spaces (map numeral items) ++ 10 ∷ []

-- it begins with a space or is the newline
items_open : (items : List ℕ) → (end : ℕ) × (more : List ℕ) × (items_text items ≡ end ∷ more) × NoDigit end
items_open [] = (10, [], refl, newline_is_no_digit)
items_open (item ∷ items) = (32, (numeral item ++ after_spaces (map numeral items)) ++ 10 ∷ [], refl, space_is_no_digit)

pub items_text-more : (item : ℕ) (items : List ℕ) → items_text (item ∷ items) ≡ 32 ∷ (numeral item ++ items_text items)
items_text-more item items = ap (λ (u : List ℕ). 32 ∷ u) (append_assoc (numeral item) (after_spaces (map numeral items)) (10 ∷ []))

-- a newline is no space
differ : ◌≡◌ {A = Option ℕ} (Some 10) (Some 32) → ⊥
differ e = let same : ◌≡◌ {A = ℕ} 10 32 = cc in absurd (omega (arith, same))

pub items_text-unique : (some others : List ℕ) (x y : List ℕ) → items_text some ++ x ≡ items_text others ++ y → (some ≡ others) × (x ≡ y)
items_text-unique [] [] x y e = (refl, append_cancel_left (10 ∷ []) x y e)
items_text-unique [] (item ∷ items) x y e =
    absurd (differ (ap first e))
items_text-unique (item ∷ items) [] x y e =
    absurd (differ (sym (ap first e)))
items_text-unique (a ∷ some) (b ∷ others) x y e =
    let whole : 32 ∷ (numeral a ++ (items_text some ++ x)) ≡ 32 ∷ (numeral b ++ (items_text others ++ y)) = sym (apart a some x) ∙ e ∙ apart b others y in
    let one = items_open some in
    let two = items_open others in
    let split : numeral a ++ one.0 ∷ (one.1 ++ x) ≡ numeral b ++ two.0 ∷ (two.1 ++ y) =
    ap (λ (u : List ℕ). numeral a ++ (u ++ x)) (sym one.2) ∙ append_cancel_left (32 ∷ []) (numeral a ++ (items_text some ++ x)) (numeral b ++ (items_text others ++ y)) whole
    ∙ ap (λ (u : List ℕ). numeral b ++ (u ++ y)) two.2 in
    let same = numeral-apart a b one.0 two.0 (one.1 ++ x) (two.1 ++ y) one.3 two.3 split in
    let behind = items_text-unique some others x y (ap (λ (u : List ℕ). u ++ x) one.2 ∙ same.1 ∙ ap (λ (u : List ℕ). u ++ y) (sym two.2)) in
    (ap (λ (n : ℕ). n ∷ some) same.0 ∙ ap (λ (u : List ℕ). b ∷ u) behind.0, behind.1)
  where
    apart : (item : ℕ) (items x : List ℕ) → items_text (item ∷ items) ++ x ≡ 32 ∷ (numeral item ++ (items_text items ++ x))
    apart item items x = ap (λ (u : List ℕ). u ++ x) (items_text-more item items) ∙ ap (λ (u : List ℕ). 32 ∷ u) (append_assoc (numeral item) (items_text items) x)

-- ---- the language of items behind others

abbrev pub InRange : List ℕ → Type 0
InRange items = AllByRecursion (λ n. n < 2 ^ 64) items

abbrev pub ItemsShape : List ℕ → List ℕ → List ℕ → Type 0
ItemsShape before items t = (more : List ℕ) × (items ≡ before ++ more) × (t ≡ items_text more)

abbrev pub ItemsRange : List ℕ → List ℕ → List ℕ → Type 0
ItemsRange before items t = (more : List ℕ) × (items ≡ before ++ more) × InRange more × (t ≡ items_text more)

pub items-unique : (before a b s t x y : List ℕ) → ItemsShape before a s → ItemsShape before b t → s ++ x ≡ t ++ y → (a ≡ b) × (s ≡ t)
items-unique before a b s t x y h k e =
    let same = items_text-unique h.0 k.0 x y (ap (λ (u : List ℕ). u ++ x) (sym h.2) ∙ e ∙ ap (λ (u : List ℕ). u ++ y) k.2) in
    (h.1 ∙ ap (λ (u : List ℕ). before ++ u) same.0 ∙ sym k.1, h.2 ∙ ap items_text same.0 ∙ sym k.2)

unfoldable pub items_behind : List ℕ → Language (List ℕ)
items_behind before = record {
  shape = ItemsShape before;
  range = ItemsRange before;
  within = λ a t h. (h.0, h.1, h.3);
  sample = (before, 10 ∷ [], ([], sym (append-nil before), tt, refl));
  unique = items-unique before;
}

items_behind-Ends : (before : List ℕ) → Ends (items_behind before)
unfolding items_behind
items_behind-Ends before a s h = let one = items_open h.0 in (one.0, one.1, h.2 ∙ one.2, one.3)

-- one item more
abbrev Next : List ℕ → ℕ → Language (List ℕ)
Next before item = items_behind (before ++ item ∷ [])

not_nil : (items : List ℕ) → [] ≡ items_text items → ⊥
not_nil items e = let one = items_open items in absurd (none one.0 one.1 (e ∙ one.2))
  where
    none : (byte : ℕ) (rest : List ℕ) → [] ≡ byte ∷ rest → ⊥
    none byte rest e = cc

space_shape : (before : List ℕ) → Residual (32 ∷ []) (Shaped (Next before)) (ItemsShape before)
unfolding items_behind
space_shape before = byte_residual 32 (Shaped (Next before)) (ItemsShape before) (λ a h. not_nil h.0 h.2) to (λ a t h. from a t h.0 h.1 h.2)
  where
    to : (a t : List ℕ) → Shaped (Next before) a t → ItemsShape before a (32 ∷ t)
    to a t h = (
      h.value ∷ h.back_text.0,
      h.back_text.1 ∙ append_assoc before (h.value ∷ []) h.back_text.0,
      ap (λ (u : List ℕ). 32 ∷ u) (h.split ∙ ap (λ (u : List ℕ). numeral h.value ++ u) h.back_text.2) ∙ sym (items_text-more h.value h.back_text.0),
    )

    from : (a t more : List ℕ) → a ≡ before ++ more → 32 ∷ t ≡ items_text more → Shaped (Next before) a t
    from a t [] is e =
        absurd (differ (sym (ap first e)))
    from a t (item ∷ more) is e = record {
      value = item;
      is_one = tt;
      back = items_text more;
      back_text = (more, is ∙ sym (append_assoc before (item ∷ []) more), refl);
      split = append_cancel_left (32 ∷ []) t (numeral item ++ items_text more) (e ∙ items_text-more item more);
    }

space_range : (before : List ℕ) → Residual (32 ∷ []) (Ranged (2 ^ 64) (Next before)) (ItemsRange before)
unfolding items_behind
space_range before = byte_residual 32 (Ranged (2 ^ 64) (Next before)) (ItemsRange before) (λ a h. not_nil h.0 h.3) to (λ a t h. from a t h.0 h.1 h.2 h.3)
  where
    to : (a t : List ℕ) → Ranged (2 ^ 64) (Next before) a t → ItemsRange before a (32 ∷ t)
    to a t h = (
      h.value ∷ h.back_text.0,
      h.back_text.1 ∙ append_assoc before (h.value ∷ []) h.back_text.0,
      (h.is_one, h.back_text.2),
      ap (λ (u : List ℕ). 32 ∷ u) (h.split ∙ ap (λ (u : List ℕ). numeral h.value ++ u) h.back_text.3) ∙ sym (items_text-more h.value h.back_text.0),
    )

    from : (a t more : List ℕ) → a ≡ before ++ more → InRange more → 32 ∷ t ≡ items_text more → Ranged (2 ^ 64) (Next before) a t
    from a t [] is fit e =
        absurd (differ (sym (ap first e)))
    from a t (item ∷ more) is fit e = record {
      value = item;
      is_one = fit.0;
      back = items_text more;
      back_text = (more, is ∙ sym (append_assoc before (item ∷ []) more), fit.1, refl);
      split = append_cancel_left (32 ∷ []) t (numeral item ++ items_text more) (e ∙ items_text-more item more);
    }

-- ---- reading them

no_items : (before : List ℕ) (l : ℕ) (bytes : List ℕ) → (first bytes ≡ Some 32 → ⊥) → (first bytes ≡ Some 10 → ⊥) → Departure (items_behind before) l bytes bytes
unfolding items_behind
no_items before l bytes no_space no_newline = record {
  front = [];
  split = refl;
  left = l;
  levels = refl;
  alive = record { value = before; more = 10 ∷ []; text = ([], sym (append-nil before), tt, refl) };
  dead = λ a x t y agrees h e. none h.0 t y h.2 (sym (ap first e) ∙ agrees);
}
  where
    none : (more t y : List ℕ) → t ≡ items_text more → first (t ++ y) ≡ first bytes → ⊥
    none [] t y is at = no_newline (sym at ∙ ap (λ (u : List ℕ). first (u ++ y)) is)
    none (item ∷ more) t y is at = no_space (sym at ∙ ap (λ (u : List ℕ). first (u ++ y)) is)

-- behind the last item
last_item : (before : List ℕ) (l byte : ℕ) (bytes : List ℕ) → (byte ≡ 32 → ⊥) → (test : Bool) → (byte == 10) ≡ test
    → Exact (items_behind before) l l (byte ∷ bytes) ((if test then Ok bytes else Err (Departs (byte ∷ bytes))) >>= λ rest. Ok (before, rest))
unfolding items_behind
last_item before l byte bytes other true e =
    let same : byte ≡ 10 = eqb-true byte 10 e in
    (10 ∷ [], ([], sym (append-nil before), tt, refl), ap (λ (b : ℕ). b ∷ bytes) same, refl)
last_item before l byte bytes other false e = no_items before l (byte ∷ bytes) (λ is. other (cc)) (λ is. eqb-false byte 10 e (cc))

exact_within : (n : ℕ) (before : List ℕ) (l : ℕ) (bytes : List ℕ) → length bytes < n → Exact (items_behind before) l l bytes (items_at before bytes)
unfolding numbered items_behind items_at
exact_within zero before l bytes lt = absurd (omega arith)
exact_within (suc n) before l [] lt = no_items before l [] (λ e. absurd (cc)) (λ e. absurd (cc))
exact_within (suc n) before l (byte ∷ bytes) lt =
    at_byte (byte == 32) refl
    (Exact-residual (numbered (2 ^ 64) (lit< tt) (Next before) (λ item. items_behind-Ends (before ++ item ∷ []))) (items_behind before) l l l (32 ∷ []) bytes refl
    (space_shape before) (space_range before) (figures_at (2 ^ 64) bytes >>= λ item. items_at (before ++ item.0 ∷ []) item.1)
    (exact_numbered (2 ^ 64) (lit< tt) (lit< tt) (Next before) (λ item. items_behind-Ends (before ++ item ∷ [])) l l (λ item. items_at (before ++ item.0 ∷ []) item.1) bytes
    (λ item rest le. exact_within n (before ++ item ∷ []) l rest (omega (arith, le, lt)))))
  where
    at_byte : (test : Bool) → (byte == 32) ≡ test → Exact (items_behind before) l l (32 ∷ bytes) (figures_at (2 ^ 64) bytes >>= λ item. items_at (before ++ item.0 ∷ []) item.1)
        → Exact (items_behind before) l l (byte ∷ bytes) (items_at before (byte ∷ bytes))
    at_byte true e exact =
        subst (λ (b : ℕ). Exact (items_behind before) l l (b ∷ bytes) (items_at before (b ∷ bytes))) (sym (eqb-true byte 32 e))
        (subst (Exact (items_behind before) l l (32 ∷ bytes)) (sym (item_more before bytes)) exact)
    at_byte false e exact =
        subst (Exact (items_behind before) l l (byte ∷ bytes)) (sym (items_end before (byte ∷ bytes) (λ le is. eqb-false byte 32 e is)))
        (last_item before l byte bytes (eqb-false byte 32 e) (byte == 10) refl)

pub exact_items : (before : List ℕ) (l : ℕ) (bytes : List ℕ) → Exact (items_behind before) l l bytes (items_at before bytes)
exact_items before l bytes = exact_within (suc (length bytes)) before l bytes (omega arith)
