-- Languages of texts, and exact reading of a language.
use Rattle.std.proofs.Common.{◌≡◌, ℕ, zero, suc, List, [], ◌∷◌, ◌++◌, Option, Some, None, Result, Ok, Err, refl, sym, ap, subst, ◌∙◌, append_assoc, ◌==◌, if◌then◌else◌, Bool, true, false, append-nil}
use Rattle.std.proofs.lemmas.{Bool.{eqb-true, eqb-false}, List.append_cancel_left}
use Rattle.arachne_lang.specs.Reading.{Halt, Departs, Overflows, TooDeep, ◌>>=◌, word_at}

-- ---- levels

-- the number of levels that are left behind a byte, of n before it
abbrev pub level_behind : ℕ → ℕ → Option ℕ
level_behind n byte = if byte == 40 then (elim n [ zero ↦ None | suc m ↦ Some m ]) else if byte == 41 then Some (suc n) else Some n

abbrev pub levels_then : Option ℕ → (ℕ → Option ℕ) → Option ℕ
levels_then None f = None
levels_then (Some n) f = f n

-- the number of levels that are left behind the bytes, if no bracket is too deep
abbrev pub levels_behind : ℕ → List ℕ → Option ℕ
levels_behind n [] = Some n
levels_behind n (byte ∷ bytes) = levels_then (level_behind n byte) (λ m. levels_behind m bytes)

levels_then-append : (left : Option ℕ) (a b : List ℕ) → ((m : ℕ) → levels_behind m (a ++ b) ≡ levels_then (levels_behind m a) (λ k. levels_behind k b))
    → levels_then left (λ m. levels_behind m (a ++ b)) ≡ levels_then (levels_then left (λ m. levels_behind m a)) (λ m. levels_behind m b)
levels_then-append None a b each = refl
levels_then-append (Some m) a b each = each m

pub levels_behind-append : (n : ℕ) (a b : List ℕ) → levels_behind n (a ++ b) ≡ levels_then (levels_behind n a) (λ m. levels_behind m b)
levels_behind-append n [] b = refl
levels_behind-append n (byte ∷ a) b = levels_then-append (level_behind n byte) a b (λ m. levels_behind-append m a b)

pub levels_between : (left : Option ℕ) (f : ℕ → Option ℕ) (m : ℕ) → levels_then left f ≡ Some m → (j : ℕ) × (left ≡ Some j) × (f j ≡ Some m)
levels_between None f m e = absurd cc
levels_between (Some j) f m e = (j, refl, e)

-- ---- languages

-- A language: values, and the texts that spell them. The texts of `shape` have numbers of any size; `range` has those
-- whose numbers are in range. No text of the shape begins another.
pub record Language (A : Type 0) : Type 1 where
  pub shape : A → List ℕ → Type 0
  pub range : A → List ℕ → Type 0
  pub within : (a : A) (t : List ℕ) → range a t → shape a t
  pub sample : (a : A) × (t : List ℕ) × range a t
  pub unique : (a b : A) (s t x y : List ℕ) → shape a s → shape b t → s ++ x ≡ t ++ y → (a ≡ b) × (s ≡ t)

-- the bytes begin a text
pub record Alive {A : Type 0} (P : A → List ℕ → Type 0) (front : List ℕ) : Type 0 where
  pub value : A
  pub more : List ℕ
  pub text : P value (front ++ more)

abbrev pub first : List ℕ → Option ℕ
first [] = None
first (byte ∷ bytes) = Some byte

-- No text of P is a prefix of bytes that begin with `front` and go on with the first byte of `rest`, or end there if
-- `rest` is empty.
abbrev pub Dead : {A : Type 0} → (A → List ℕ → Type 0) → List ℕ → List ℕ → Type 0
Dead {A} P front rest = (a : A) (x t y : List ℕ) → first x ≡ first rest → P a t → front ++ x ≡ t ++ y → ⊥

pub record Departure {A : Type 0} (L : Language A) (n : ℕ) (bytes rest : List ℕ) : Type 0 where
  pub front : List ℕ
  pub split : bytes ≡ front ++ rest
  pub left : ℕ
  pub levels : levels_behind n front ≡ Some left
  pub alive : Alive L.range front
  pub dead : Dead L.shape front rest

pub record Overflow {A : Type 0} (L : Language A) (n : ℕ) (bytes rest : List ℕ) : Type 0 where
  pub front : List ℕ
  pub split : bytes ≡ front ++ rest
  pub left : ℕ
  pub levels : levels_behind n front ≡ Some left
  pub alive : Alive L.range front
  pub digit : ℕ
  pub others : List ℕ
  pub head : rest ≡ digit ∷ others
  pub is_no_bracket : digit ≡ 40 → ⊥
  pub shaped : Alive L.shape (front ++ digit ∷ [])
  pub dead : Dead L.range front rest

pub record Deepening {A : Type 0} (L : Language A) (n : ℕ) (bytes rest : List ℕ) : Type 0 where
  pub front : List ℕ
  pub split : bytes ≡ front ++ rest
  pub levels : levels_behind n front ≡ Some 0
  pub others : List ℕ
  pub head : rest ≡ 40 ∷ others
  pub alive : Alive L.range (front ++ 40 ∷ [])

abbrev pub Halts : {A : Type 0} → Language A → ℕ → List ℕ → Halt → Type 0
Halts L n bytes (Departs rest) = Departure L n bytes rest
Halts L n bytes (Overflows rest) = Overflow L n bytes rest
Halts L n bytes (TooDeep rest) = Deepening L n bytes rest

-- Reading a text of the language with n levels left gives this result, with m levels left behind it.
abbrev pub Exact : {A : Type 0} → Language A → ℕ → ℕ → List ℕ → Result (A × List ℕ) Halt → Type 0
Exact L n m bytes (Ok x) = (t : List ℕ) × L.range x.0 t × (bytes ≡ t ++ x.1) × (levels_behind n t ≡ Some m)
Exact L n m bytes (Err h) = Halts L n bytes h

-- ---- a language within another, behind some bytes

pub record Lifts {A B : Type 0} (before : List ℕ) (P : A → List ℕ → Type 0) (Q : B → List ℕ → Type 0) : Type 0 where
  pub fills : (a : A) (t : List ℕ) → P a t → (b : B) × (more : List ℕ) × Q b (before ++ (t ++ more))
  pub only : (b : B) (t z y : List ℕ) → Q b t → before ++ z ≡ t ++ y → (a : A) × (s : List ℕ) × (w : List ℕ) × P a s × (z ≡ s ++ w)

pub Alive-lift : {A B : Type 0} (before : List ℕ) (P : A → List ℕ → Type 0) (Q : B → List ℕ → Type 0) (front : List ℕ)
    → Lifts before P Q → Alive P front → Alive Q (before ++ front)
Alive-lift before P Q front lifts alive =
    let filled = lifts.fills alive.value (front ++ alive.more) alive.text in
    let e : before ++ ((front ++ alive.more) ++ filled.1) ≡ (before ++ front) ++ (alive.more ++ filled.1) = simp append_assoc in
    record { value = filled.0; more = alive.more ++ filled.1; text = subst (λ (t : List ℕ). Q filled.0 t) e filled.2 }

pub Dead-lift : {A B : Type 0} (before : List ℕ) (P : A → List ℕ → Type 0) (Q : B → List ℕ → Type 0) (front rest : List ℕ)
    → Lifts before P Q → Dead P front rest → Dead Q (before ++ front) rest
Dead-lift before P Q front rest lifts dead b x t y agrees q e =
    let inner = lifts.only b t (front ++ x) y q (sym (append_assoc before front x) ∙ e) in
    dead inner.0 x inner.1 inner.2 agrees inner.3 inner.4

levels-lift : (n m left : ℕ) (before front : List ℕ) → levels_behind n before ≡ Some m → levels_behind m front ≡ Some left → levels_behind n (before ++ front) ≡ Some left
levels-lift n m left before front e f = levels_behind-append n before front ∙ rw e f

pub Halts-lift : {A B : Type 0} (L : Language A) (M : Language B) (n m : ℕ) (before bytes : List ℕ) → levels_behind n before ≡ Some m
    → Lifts before L.shape M.shape → Lifts before L.range M.range → (h : Halt) → Halts L m bytes h → Halts M n (before ++ bytes) h
Halts-lift L M n m before bytes levels shape range (Departs rest) h = record {
  front = before ++ h.front;
  split = ap (λ (t : List ℕ). before ++ t) h.split ∙ sym (append_assoc before h.front rest);
  left = h.left;
  levels = levels-lift n m h.left before h.front levels h.levels;
  alive = Alive-lift before L.range M.range h.front range h.alive;
  dead = Dead-lift before L.shape M.shape h.front rest shape h.dead;
}
Halts-lift L M n m before bytes levels shape range (Overflows rest) h = record {
  front = before ++ h.front;
  split = ap (λ (t : List ℕ). before ++ t) h.split ∙ sym (append_assoc before h.front rest);
  left = h.left;
  levels = levels-lift n m h.left before h.front levels h.levels;
  alive = Alive-lift before L.range M.range h.front range h.alive;
  digit = h.digit;
  others = h.others;
  head = h.head;
  is_no_bracket = h.is_no_bracket;
  shaped = rw append_assoc (Alive-lift before L.shape M.shape (h.front ++ h.digit ∷ []) shape h.shaped);
  dead = Dead-lift before L.range M.range h.front rest range h.dead;
}
Halts-lift L M n m before bytes levels shape range (TooDeep rest) h = record {
  front = before ++ h.front;
  split = ap (λ (t : List ℕ). before ++ t) h.split ∙ sym (append_assoc before h.front rest);
  levels = levels-lift n m 0 before h.front levels h.levels;
  others = h.others;
  head = h.head;
  alive = rw append_assoc (Alive-lift before L.range M.range (h.front ++ 40 ∷ []) range h.alive);
}

-- The texts of the second language that begin with these bytes are those bytes and a text of the first behind them.
pub record Residual {A : Type 0} (before : List ℕ) (P Q : A → List ℕ → Type 0) : Type 0 where
  pub to : (a : A) (t : List ℕ) → P a t → Q a (before ++ t)
  pub only : (a : A) (t z y : List ℕ) → Q a t → before ++ z ≡ t ++ y → (s : List ℕ) × P a s × (t ≡ before ++ s)

pub Residual-lifts : {A : Type 0} (before : List ℕ) (P Q : A → List ℕ → Type 0) → Residual before P Q → Lifts before P Q
Residual-lifts before P Q residual = record {
  fills = λ a t p. (a, [], rw append-nil (residual.to a t p));
  only = λ a t z y q e.
      let inner = residual.only a t z y q e in
      (a, inner.0, y, inner.1, append_cancel_left before z (inner.0 ++ y) (e ∙ ap (λ (u : List ℕ). u ++ y) inner.2 ∙ append_assoc before inner.0 y));
}

pub Exact-residual : {A : Type 0} (L M : Language A) (n m k : ℕ) (before bytes : List ℕ) → levels_behind n before ≡ Some m
    → Residual before L.shape M.shape → Residual before L.range M.range → (r : Result (A × List ℕ) Halt) → Exact L m k bytes r → Exact M n k (before ++ bytes) r
Exact-residual L M n m k before bytes levels shape range (Ok x) h =
    (before ++ h.0, range.to x.0 h.0 h.1, ap (λ (t : List ℕ). before ++ t) h.2 ∙ sym (append_assoc before h.0 x.1), levels-lift n m k before h.0 levels h.3)
Exact-residual L M n m k before bytes levels shape range (Err h) halts =
    Halts-lift L M n m before bytes levels (Residual-lifts before L.shape M.shape shape) (Residual-lifts before L.range M.range range) h halts

-- the second has one byte more, if none of its texts is empty
pub byte_residual : {A : Type 0} (byte : ℕ) (P Q : A → List ℕ → Type 0) → ((a : A) → Q a [] → ⊥)
    → ((a : A) (t : List ℕ) → P a t → Q a (byte ∷ t)) → ((a : A) (t : List ℕ) → Q a (byte ∷ t) → P a t) → Residual (byte ∷ []) P Q
byte_residual {A} byte P Q not_empty to from = record { to = to; only = behind }
  where
    behind : (a : A) (t z y : List ℕ) → Q a t → byte ∷ z ≡ t ++ y → (s : List ℕ) × P a s × (t ≡ byte ∷ s)
    behind a [] z y q e = absurd (not_empty a q)
    behind a (b ∷ t) z y q e =
        let same : b ≡ byte = cc in
        let p : Q a (byte ∷ t) = subst (λ (d : ℕ). Q a (d ∷ t)) same q in
        (t, from a t p, ap (λ (d : ℕ). d ∷ t) same)

-- the same texts
pub same_residual : {A : Type 0} (P Q : A → List ℕ → Type 0) → ((a : A) (t : List ℕ) → P a t → Q a t) → ((a : A) (t : List ℕ) → Q a t → P a t) → Residual [] P Q
same_residual P Q to from = record { to = to; only = λ a t z y q e. (t, from a t q, refl) }

-- ---- one after the other

-- a text that is one of the first and behind it one of the second, which may depend on the first's value
pub record Joined {A B : Type 0} (P : A → List ℕ → Type 0) (Q : A → B → List ℕ → Type 0) (b : B) (t : List ℕ) : Type 0 where
  pub value : A
  pub front : List ℕ
  pub back : List ℕ
  pub front_text : P value front
  pub back_text : Q value b back
  pub split : t ≡ front ++ back

-- a text of the first language, and behind it one of the second
unfoldable pub sequence : {A B : Type 0} → Language A → (A → Language B) → Language B
sequence {A} {B} L K = record {
  shape = Joined L.shape (λ a. (K a).shape);
  range = Joined L.range (λ a. (K a).range);
  within = λ b t h. record {
    value = h.value;
    front = h.front;
    back = h.back;
    front_text = L.within h.value h.front h.front_text;
    back_text = (K h.value).within b h.back h.back_text;
    split = h.split;
  };
  sample =
      let one = L.sample in
      let two = (K one.0).sample in
      (two.0, one.1 ++ two.1, record { value = one.0; front = one.1; back = two.1; front_text = one.2; back_text = two.2; split = refl });
  unique = λ b c s t x y h k e.
      let whole : h.front ++ (h.back ++ x) ≡ k.front ++ (k.back ++ y) =
      sym (append_assoc h.front h.back x) ∙ ap (λ (u : List ℕ). u ++ x) (sym h.split) ∙ e ∙ ap (λ (u : List ℕ). u ++ y) k.split ∙ append_assoc k.front k.back y in
      let same = L.unique h.value k.value h.front k.front (h.back ++ x) (k.back ++ y) h.front_text k.front_text whole in
      let back : h.back ++ x ≡ k.back ++ y = append_cancel_left k.front (h.back ++ x) (k.back ++ y) (ap (λ (u : List ℕ). u ++ (h.back ++ x)) (sym same.1) ∙ whole) in
      let text : (K h.value).shape c k.back = subst (λ (a : A). (K a).shape c k.back) (sym same.0) k.back_text in
      let behind = (K h.value).unique b c h.back k.back x y h.back_text text back in
      (behind.0, h.split ∙ ap (λ (u : List ℕ). u ++ h.back) same.1 ∙ ap (λ (u : List ℕ). k.front ++ u) behind.1 ∙ sym k.split);
}

-- the first part of a sequence lies at its front
first_shape : {A B : Type 0} (L : Language A) (K : A → Language B) → Lifts [] L.shape (sequence L K).shape
unfolding sequence
first_shape L K = record {
  fills = λ a t p.
      let two = (K a).sample in
      (two.0, two.1, record { value = a; front = t; back = two.1; front_text = p; back_text = (K a).within two.0 two.1 two.2; split = refl });
  only = λ b t z y q e. (q.value, q.front, q.back ++ y, q.front_text, e ∙ ap (λ (u : List ℕ). u ++ y) q.split ∙ append_assoc q.front q.back y);
}

first_range : {A B : Type 0} (L : Language A) (K : A → Language B) → Lifts [] L.range (sequence L K).range
unfolding sequence
first_range L K = record {
  fills = λ a t p.
      let two = (K a).sample in
      (two.0, two.1, record { value = a; front = t; back = two.1; front_text = p; back_text = two.2; split = refl });
  only = λ b t z y q e. (q.value, q.front, q.back ++ y, q.front_text, e ∙ ap (λ (u : List ℕ). u ++ y) q.split ∙ append_assoc q.front q.back y);
}

-- the second part lies behind the first, which was read
second_shape : {A B : Type 0} (L : Language A) (K : A → Language B) (a : A) (before : List ℕ) → L.range a before → Lifts before (K a).shape (sequence L K).shape
unfolding sequence
second_shape {A} L K a before read = record {
  fills = λ b t p. (b, [], record { value = a; front = before; back = t; front_text = L.within a before read; back_text = p; split = ap (λ (u : List ℕ). before ++ u) (append-nil t) });
  only = λ b t z y q e.
      let whole : before ++ z ≡ q.front ++ (q.back ++ y) = e ∙ ap (λ (u : List ℕ). u ++ y) q.split ∙ append_assoc q.front q.back y in
      let same = L.unique a q.value before q.front z (q.back ++ y) (L.within a before read) q.front_text whole in (
        b,
        q.back,
        y,
        subst (λ (c : A). (K c).shape b q.back) (sym same.0) q.back_text,
        append_cancel_left q.front z (q.back ++ y) (ap (λ (u : List ℕ). u ++ z) (sym same.1) ∙ whole),
      );
}

second_range : {A B : Type 0} (L : Language A) (K : A → Language B) (a : A) (before : List ℕ) → L.range a before → Lifts before (K a).range (sequence L K).range
unfolding sequence
second_range {A} L K a before read = record {
  fills = λ b t p. (b, [], record { value = a; front = before; back = t; front_text = read; back_text = p; split = ap (λ (u : List ℕ). before ++ u) (append-nil t) });
  only = λ b t z y q e.
      let whole : before ++ z ≡ q.front ++ (q.back ++ y) = e ∙ ap (λ (u : List ℕ). u ++ y) q.split ∙ append_assoc q.front q.back y in
      let same = L.unique a q.value before q.front z (q.back ++ y) (L.within a before read) (L.within q.value q.front q.front_text) whole in (
        b,
        q.back,
        y,
        subst (λ (c : A). (K c).range b q.back) (sym same.0) q.back_text,
        append_cancel_left q.front z (q.back ++ y) (ap (λ (u : List ℕ). u ++ z) (sym same.1) ∙ whole),
      );
}

exact_second : {A B : Type 0} (L : Language A) (K : A → Language B) (n m k : ℕ) (a : A) (before bytes : List ℕ) → L.range a before → levels_behind n before ≡ Some m
    → (r : Result (B × List ℕ) Halt) → Exact (K a) m k bytes r → Exact (sequence L K) n k (before ++ bytes) r
unfolding sequence
exact_second L K n m k a before bytes read levels (Ok x) h = (
  before ++ h.0,
  record { value = a; front = before; back = h.0; front_text = read; back_text = h.1; split = refl },
  ap (λ (u : List ℕ). before ++ u) h.2 ∙ sym (append_assoc before h.0 x.1),
  levels-lift n m k before h.0 levels h.3,
)
exact_second L K n m k a before bytes read levels (Err h) halts =
    Halts-lift (K a) (sequence L K) n m before bytes levels (second_shape L K a before read) (second_range L K a before read) h halts

-- the second is read exactly behind the first
pub exact_sequence_on : {A B : Type 0} (L : Language A) (K : A → Language B) (n m k : ℕ) (bytes : List ℕ) (r : Result (A × List ℕ) Halt) (f : A × List ℕ → Result (B × List ℕ) Halt)
    → Exact L n m bytes r → ((x : A × List ℕ) → r ≡ Ok x → Exact (K x.0) m k x.1 (f x)) → Exact (sequence L K) n k bytes (r >>= f)
exact_sequence_on L K n m k bytes (Ok x) f h behind =
    rw h.2 (exact_second L K n m k x.0 h.0 x.1 h.1 h.3 (f x) (behind x refl))
exact_sequence_on L K n m k bytes (Err e) f halts behind =
    Halts-lift L (sequence L K) n n [] bytes refl (first_shape L K) (first_range L K) e halts

pub exact_sequence : {A B : Type 0} (L : Language A) (K : A → Language B) (n m k : ℕ) (bytes : List ℕ) (r : Result (A × List ℕ) Halt) (f : A × List ℕ → Result (B × List ℕ) Halt)
    → Exact L n m bytes r → ((x : A × List ℕ) → Exact (K x.0) m k x.1 (f x)) → Exact (sequence L K) n k bytes (r >>= f)
exact_sequence L K n m k bytes r f h behind = exact_sequence_on L K n m k bytes r f h (λ x e. behind x)

-- nothing more: the value is known
unfoldable pub nothing_more : {A : Type 0} → A → Language A
nothing_more {A} a = record {
  shape = λ b t. (b ≡ a) × (t ≡ []);
  range = λ b t. (b ≡ a) × (t ≡ []);
  within = λ b t h. h;
  sample = (a, [], (refl, refl));
  unique = λ b c s t x y h k e. (h.0 ∙ sym k.0, h.1 ∙ sym k.1);
}

pub exact_nothing_more : {A : Type 0} (a : A) (n : ℕ) (bytes : List ℕ) → Exact (nothing_more a) n n bytes (Ok (a, bytes))
unfolding nothing_more
exact_nothing_more a n bytes = ([], (refl, refl), refl, refl)

-- ---- words

-- a word, and behind it a text of the language
unfoldable pub behind_word : {A : Type 0} → List ℕ → Language A → Language A
behind_word {A} word L = record {
  shape = λ a t. (s : List ℕ) × L.shape a s × (t ≡ word ++ s);
  range = λ a t. (s : List ℕ) × L.range a s × (t ≡ word ++ s);
  within = λ a t h. (h.0, L.within a h.0 h.1, h.2);
  sample = let one = L.sample in (one.0, word ++ one.1, (one.1, one.2, refl));
  unique = λ a b s t x y h k e.
      let whole : word ++ (h.0 ++ x) ≡ word ++ (k.0 ++ y) =
      sym (append_assoc word h.0 x) ∙ ap (λ (u : List ℕ). u ++ x) (sym h.2) ∙ e ∙ ap (λ (u : List ℕ). u ++ y) k.2 ∙ append_assoc word k.0 y in
      let same = L.unique a b h.0 k.0 x y h.1 k.1 (append_cancel_left word (h.0 ++ x) (k.0 ++ y) whole) in
      (same.0, h.2 ∙ ap (λ (u : List ℕ). word ++ u) same.1 ∙ sym k.2);
}

no_word : {A : Type 0} (L : Language A) (n letter : ℕ) (word bytes : List ℕ) → ((b : ℕ) (rest : List ℕ) → bytes ≡ b ∷ rest → b ≡ letter → ⊥)
    → Departure (behind_word (letter ∷ word) L) n bytes bytes
unfolding behind_word
no_word L n letter word bytes other = record {
  front = [];
  split = refl;
  left = n;
  levels = refl;
  alive = let one = L.sample in record { value = one.0; more = letter ∷ (word ++ one.1); text = (one.1, one.2, refl) };
  dead = λ a x t y agrees h e. at_first bytes other x t y agrees h.0 h.2 e;
}
  where
    at_first : (bytes : List ℕ) (other : (b : ℕ) (rest : List ℕ) → bytes ≡ b ∷ rest → b ≡ letter → ⊥) (x t y : List ℕ) → first x ≡ first bytes → (s : List ℕ) → t ≡ letter ∷ (word ++ s) → x ≡ t ++ y → ⊥
    at_first [] other x t y agrees s split e =
        let is : first x ≡ Some letter = ap first e ∙ ap (λ (u : List ℕ). first (u ++ y)) split in
        absurd (cc)
    at_first (b ∷ rest) other x t y agrees s split e =
        let is : first x ≡ Some letter = ap first e ∙ ap (λ (u : List ℕ). first (u ++ y)) split in
        other b rest refl (cc)

behind_no_word : {A : Type 0} (P : A → List ℕ → Type 0) → Residual [] P (λ a t. (s : List ℕ) × P a s × (t ≡ [] ++ s))
behind_no_word {A} P = record {
  to = λ a t p. (t, p, refl);
  only = λ a t z y q e. (t, subst (λ (s : List ℕ). P a s) (sym q.2) q.1, refl);
}

behind_letter : {A : Type 0} (P : A → List ℕ → Type 0) (letter : ℕ) (word : List ℕ)
    → Residual (letter ∷ []) (λ a t. (s : List ℕ) × P a s × (t ≡ word ++ s)) (λ a t. (s : List ℕ) × P a s × (t ≡ letter ∷ (word ++ s)))
behind_letter P letter word =
    byte_residual letter (λ a t. (s : List ℕ) × P a s × (t ≡ word ++ s)) (λ a t. (s : List ℕ) × P a s × (t ≡ letter ∷ (word ++ s)))
    (λ a h. not_empty h.0 h.2)
    (λ a t h. (h.0, h.1, ap (λ (u : List ℕ). letter ∷ u) h.2))
    (λ a t h. (h.0, h.1, without t h.0 h.2))
  where
    not_empty : (s : List ℕ) → [] ≡ letter ∷ (word ++ s) → ⊥
    not_empty s e = cc

    without : (t s : List ℕ) → letter ∷ t ≡ letter ∷ (word ++ s) → t ≡ word ++ s
    without t s e = cc

-- the first letter is compared
exact_letter : {A : Type 0} (L : Language A) (n m k letter byte : ℕ) (word bytes : List ℕ) (f : List ℕ → Result (A × List ℕ) Halt) → levels_behind n (letter ∷ word) ≡ Some m
    → ((j : ℕ) → levels_behind j word ≡ Some m → Exact (behind_word word L) j k bytes (word_at word bytes >>= f))
    → (test : Bool) → (byte == letter) ≡ test → Exact (behind_word (letter ∷ word) L) n k (byte ∷ bytes) ((if test then word_at word bytes else Err (Departs (byte ∷ bytes))) >>= f)
unfolding behind_word
exact_letter L n m k letter byte word bytes f levels others true e =
    let between = levels_between (level_behind n letter) (λ j. levels_behind j word) m levels in
    let one : levels_behind n (letter ∷ []) ≡ Some between.0 = ap (λ (left : Option ℕ). levels_then left (λ j. Some j)) between.1 in
    subst (λ (b : ℕ). Exact (behind_word (letter ∷ word) L) n k (b ∷ bytes) (word_at word bytes >>= f)) (sym (eqb-true byte letter e))
    (Exact-residual (behind_word word L) (behind_word (letter ∷ word) L) n between.0 k (letter ∷ []) bytes one
    (behind_letter L.shape letter word) (behind_letter L.range letter word) (word_at word bytes >>= f) (others between.0 between.2))
exact_letter L n m k letter byte word bytes f levels others false e =
    no_word L n letter word (byte ∷ bytes) (λ b rest is same. eqb-false byte letter e (cc))

pub exact_word : {A : Type 0} (L : Language A) (n m k : ℕ) (word bytes : List ℕ) (f : List ℕ → Result (A × List ℕ) Halt) → levels_behind n word ≡ Some m
    → ((rest : List ℕ) → Exact L m k rest (f rest)) → Exact (behind_word word L) n k bytes (word_at word bytes >>= f)
unfolding behind_word
exact_word L n m k [] bytes f levels behind =
    Exact-residual L (behind_word [] L) n m k [] bytes levels (behind_no_word L.shape) (behind_no_word L.range) (f bytes) (behind bytes)
exact_word L n m k (letter ∷ word) [] f levels behind = no_word L n letter word [] (λ b rest e same. absurd (cc))
exact_word L n m k (letter ∷ word) (byte ∷ bytes) f levels behind =
    exact_letter L n m k letter byte word bytes f levels (λ j e. exact_word L j m k word bytes f e behind) (byte == letter) refl

-- ---- behind the front of a text

-- the texts that may follow these bytes in a text of the language
unfoldable pub after : {A : Type 0} (before : List ℕ) (L : Language A) → (a : A) (t : List ℕ) → L.range a (before ++ t) → Language A
after before L sample text is = record {
  shape = λ a t. L.shape a (before ++ t);
  range = λ a t. L.range a (before ++ t);
  within = λ a t h. L.within a (before ++ t) h;
  sample = (sample, text, is);
  unique = λ a b s t x y h k e.
      let whole : (before ++ s) ++ x ≡ (before ++ t) ++ y = append_assoc before s x ∙ ap (λ (u : List ℕ). before ++ u) e ∙ sym (append_assoc before t y) in
      let same = L.unique a b (before ++ s) (before ++ t) x y h k whole in
      (same.0, append_cancel_left before s t same.1);
}

-- ---- among other texts

first_agrees : (front x rest : List ℕ) → first x ≡ first rest → first (front ++ x) ≡ first (front ++ rest)
first_agrees [] x rest e = e
first_agrees (byte ∷ front) x rest e = refl

-- texts that go on from a front as the bytes do also begin as the bytes do
begins_alike : (front rest bytes x t y : List ℕ) → bytes ≡ front ++ rest → first x ≡ first rest → front ++ x ≡ t ++ y → first (t ++ y) ≡ first bytes
begins_alike front rest bytes x t y split agrees e = sym (ap first e) ∙ first_agrees front x rest agrees ∙ sym (ap first split)

-- If the second language has the texts of the first, and all others of its texts begin with another byte than these,
-- both are read alike.
pub Exact-among : {A : Type 0} (L M : Language A) (n k : ℕ) (bytes : List ℕ)
    → ((a : A) (t : List ℕ) → L.shape a t → M.shape a t) → ((a : A) (t : List ℕ) → L.range a t → M.range a t)
    → ((a : A) (t y : List ℕ) → M.shape a t → first (t ++ y) ≡ first bytes → L.shape a t)
    → ((a : A) (t y : List ℕ) → M.range a t → first (t ++ y) ≡ first bytes → L.range a t)
    → (r : Result (A × List ℕ) Halt) → Exact L n k bytes r → Exact M n k bytes r
Exact-among L M n k bytes shape range only_shape only_range (Ok x) h = (h.0, range x.0 h.0 h.1, h.2, h.3)
Exact-among L M n k bytes shape range only_shape only_range (Err (Departs rest)) h = record {
  front = h.front;
  split = h.split;
  left = h.left;
  levels = h.levels;
  alive = record { value = h.alive.value; more = h.alive.more; text = range h.alive.value (h.front ++ h.alive.more) h.alive.text };
  dead = λ a x t y agrees q e. h.dead a x t y agrees (only_shape a t y q (begins_alike h.front rest bytes x t y h.split agrees e)) e;
}
Exact-among L M n k bytes shape range only_shape only_range (Err (Overflows rest)) h = record {
  front = h.front;
  split = h.split;
  left = h.left;
  levels = h.levels;
  alive = record { value = h.alive.value; more = h.alive.more; text = range h.alive.value (h.front ++ h.alive.more) h.alive.text };
  digit = h.digit;
  others = h.others;
  head = h.head;
  is_no_bracket = h.is_no_bracket;
  shaped = record { value = h.shaped.value; more = h.shaped.more; text = shape h.shaped.value ((h.front ++ h.digit ∷ []) ++ h.shaped.more) h.shaped.text };
  dead = λ a x t y agrees q e. h.dead a x t y agrees (only_range a t y q (begins_alike h.front rest bytes x t y h.split agrees e)) e;
}
Exact-among L M n k bytes shape range only_shape only_range (Err (TooDeep rest)) h = record {
  front = h.front;
  split = h.split;
  levels = h.levels;
  others = h.others;
  head = h.head;
  alive = record { value = h.alive.value; more = h.alive.more; text = range h.alive.value ((h.front ++ 40 ∷ []) ++ h.alive.more) h.alive.text };
}
