-- The fault at which reading stops is the first fault of the text.
use Rattle.std.proofs.Common.{◌≡◌, ℕ, zero, suc, ◌+◌, ◌-◌, ◌<◌, ◌≤◌, List, [], ◌∷◌, ◌++◌, length, take, drop, Some, None, Result, Ok, Err, refl, sym, ap, subst, ◌∙◌, append_assoc, arith, inl, inr, length-append}
use Rattle.std.specs.Prelude.{◌⊎◌, ◌==◌, if◌then◌else◌, Bool, true, false, slice_index, MatchResult, IsErrAnd}
use Rattle.std.proofs.Math.Seq.{take-append_seam, take-append-add, get_or-append_seam}
use Rattle.std.proofs.lemmas.Bool.{eq-eqb, eqb-true, cases_lt, cases_order}
use Rattle.std.proofs.lemmas.List.{append-nil, append_cancel_left, take-append-drop, take-append-le}
use Rattle.arachne_lang.specs.declared.text_fault.TextFault.{TextFault}
use Rattle.arachne_lang.specs.declared.text_fault.TextFault.TheVariants as fault
use Rattle.arachne_program.specs.declared.program.Program.{Program}
use Rattle.arachne_lang.specs.declared.reading.stop.Stop.{Stop}
use Rattle.arachne_lang.specs.declared.reading.stop.Stop.TheVariants as stop
use Rattle.arachne_program.specs.Tree.{Source}
use Rattle.arachne_program.specs.Program.{source_of}
use Rattle.arachne_lang.specs.Spelling.{header, text_of}
use Rattle.arachne_lang.specs.Text.{IsInRange, IsAccepted, Begins, BeginsInRange, StartsWith, level, HasFault, byte_of, IsFirstFault}
use Rattle.arachne_lang.specs.Reading.{Fails, IsAtByte, fault_within, Halt, Departs, Overflows, TooDeep, ◌>>=◌, word_at, source_at, ended, program_at}
use Rattle.arachne_lang.proofs.Languages.{levels_behind, Alive, first, Exact}
use Rattle.arachne_lang.proofs.Levels.{level_within, level_left, level_more}
use Rattle.arachne_lang.proofs.ExactProgram.{texts, exact_text, text_of-unique, accepted_within, levels_of_accepted, header_of}

-- ---- fronts of texts

-- a front of a text of the shape, or of one in range
begins : (front : List ℕ) → Alive (λ s t. t ≡ text_of s) front → Begins front
begins front alive = (alive.value, alive.more, sym alive.text)

begins_in_range : (front : List ℕ) → Alive (λ s t. IsInRange s × (t ≡ text_of s)) front → BeginsInRange front
begins_in_range front alive = (alive.value, alive.more, alive.text.0, sym alive.text.1)

begins_shape : (front : List ℕ) → BeginsInRange front → Begins front
begins_shape front h = (h.0, h.1, h.3)

begins_append : (a b : List ℕ) → BeginsInRange (a ++ b) → BeginsInRange a
begins_append a b h = (h.0, b ++ h.1, h.2, h.3 ∙ append_assoc a b h.1)

-- a shorter front of bytes whose front begins a text
begins_shorter : (front rest : List ℕ) (k : ℕ) → k ≤ length front → BeginsInRange front → BeginsInRange (take k (front ++ rest))
begins_shorter front rest k le h =
    let same : take k front ++ drop k front ≡ front = take-append-drop k front in
    rw (take-append-le k front rest le) (begins_append (take k front) (drop k front) (subst BeginsInRange (sym same) h))

front_of : (front rest : List ℕ) → take (length front) (front ++ rest) ≡ front
front_of front rest = take-append_seam front rest

front_and_byte : (front others : List ℕ) (byte : ℕ) → take (length front + 1) (front ++ byte ∷ others) ≡ front ++ byte ∷ []
front_and_byte front others byte = take-append-add front (byte ∷ others) 1

-- ---- departures

-- the next byte of a longer front
first_of_take : (rest more : List ℕ) (k : ℕ) → 0 < k → k ≤ length rest → first (take k rest ++ more) ≡ first rest
first_of_take rest more zero pos le = absurd (omega arith)
first_of_take [] more (suc k) pos le = absurd (omega arith)
first_of_take (byte ∷ rest) more (suc k) pos le = refl

-- No text of the shape goes on from here with the next byte of the input.
pub record Ends (front rest : List ℕ) : Type 0 where
  pub left : ℕ
  pub levels : levels_behind 64 front ≡ Some left
  pub alive : BeginsInRange front
  pub no_text : (s : Source) (x : List ℕ) → first x ≡ first rest → text_of s ≡ front ++ x → ⊥

longest : (front rest : List ℕ) → Ends front rest → (longer : ℕ) → longer ≤ length (front ++ rest) → Begins (take longer (front ++ rest)) → longer ≤ length front
longest front rest ends longer le begun =
    elim (cases_lt (length front) longer) [
      | inr short ↦ short
      | inl long ↦
          let is : length front + (longer - length front) ≡ longer = omega arith in
          let cut : take longer (front ++ rest) ≡ front ++ take (longer - length front) rest =
          ap (λ (n : ℕ). take n (front ++ rest)) (sym is) ∙ take-append-add front rest (longer - length front) in
          let text : text_of begun.0 ≡ front ++ (take (longer - length front) rest ++ begun.1) =
          begun.2 ∙ ap (λ (u : List ℕ). u ++ begun.1) cut ∙ append_assoc front (take (longer - length front) rest) begun.1 in
          absurd (ends.no_text begun.0 (take (longer - length front) rest ++ begun.1)
          (first_of_take rest begun.1 (longer - length front) (omega arith) (omega (arith, le, length-append front rest))) text)
    ]

-- ---- the other faults are excluded

-- no bracket in a front is too deep
no_deep_bracket : (front rest : List ℕ) (left at : ℕ) → levels_behind 64 front ≡ Some left → at < length front → at < length (front ++ rest)
    → slice_index (front ++ rest) at ≡ 40 → level (take at (front ++ rest)) ≡ 64 → ⊥
no_deep_bracket front rest left at levels lt within is deep =
    omega (arith, level_more (front ++ rest) at within is deep, level_within 64 left front rest (at + 1) levels (omega arith))

-- ---- the faults

abbrev At : List ℕ → TextFault → Type 0
At bytes f = (other : TextFault) → HasFault bytes other → (byte_of f < byte_of other) ⊎ (other ≡ f)

pub syntax_fault : (front rest : List ℕ) → StartsWith header (front ++ rest) → Ends front rest → IsFirstFault (front ++ rest) (fault.Syntax (length front))
syntax_fault front rest starts ends = record {
  has = (
    starts,
    (λ text. ends.no_text text.0 rest refl text.1),
    omega (arith, length-append front rest),
    rw (front_of front rest) (begins_shape front ends.alive),
    longest front rest ends,
  );
  first = others;
}
  where
    others : At (front ++ rest) (fault.Syntax (length front))
    others fault.Memory h = absurd h
    others (fault.Header b) h = absurd (h.1 starts)
    others (fault.Syntax b) h =
        let one = longest front rest ends b h.2 h.3 in
        let two = h.4 (length front) (omega (arith, length-append front rest)) (rw (front_of front rest) (begins_shape front ends.alive)) in
        let same : b ≡ length front = omega (arith, one, two) in
        inr (ap (λ (n : ℕ). fault.Syntax n) same)
    others (fault.Number b) h =
        let within : b + 1 ≤ length front = longest front rest ends (b + 1) (omega (arith, h.1)) h.2 in
        absurd (h.4 (begins_shorter front rest (b + 1) within ends.alive))
    others (fault.Nesting b) h =
        let within : b + 1 ≤ length front = longest front rest ends (b + 1) (omega (arith, h.1)) h.2 in
        absurd (no_deep_bracket front rest ends.left b ends.levels (omega (arith, within)) h.1 h.3 h.4)

at_byte : (front others : List ℕ) (byte : ℕ) → slice_index (front ++ byte ∷ others) (length front) ≡ byte
at_byte front others byte = get_or-append_seam front byte others 0

within_bytes : (front others : List ℕ) (byte : ℕ) → length front < length (front ++ byte ∷ others)
within_bytes front others byte = omega (arith, length-append front (byte ∷ others))

pub record Overflowing (front : List ℕ) (digit : ℕ) : Type 0 where
  pub left : ℕ
  pub levels : levels_behind 64 front ≡ Some left
  pub alive : BeginsInRange front
  pub shaped : Begins (front ++ digit ∷ [])
  pub no_range : BeginsInRange (front ++ digit ∷ []) → ⊥
  pub is_no_bracket : digit ≡ 40 → ⊥

pub number_fault : (front others : List ℕ) (digit : ℕ) → StartsWith header (front ++ digit ∷ others) → Overflowing front digit → IsFirstFault (front ++ digit ∷ others) (fault.Number (length front))
number_fault front others digit starts ends = record {
  has = (
    starts,
    within_bytes front others digit,
    shaped,
    rw (front_of front (digit ∷ others)) ends.alive,
    (λ h. ends.no_range (subst BeginsInRange (front_and_byte front others digit) h)),
  );
  first = rest;
}
  where
    shaped : Begins (take (length front + 1) (front ++ digit ∷ others))
    shaped = rw (front_and_byte front others digit) ends.shaped

    rest : At (front ++ digit ∷ others) (fault.Number (length front))
    rest fault.Memory h = absurd h
    rest (fault.Header b) h = absurd (h.1 starts)
    rest (fault.Syntax b) h = inl (omega (arith, h.4 (length front + 1) (omega (arith, within_bytes front others digit)) shaped))
    rest (fault.Number b) h =
        elim (cases_order b (length front)) [
          | inl same ↦ inr (ap (λ (n : ℕ). fault.Number n) same)
          | inr differ ↦ elim differ [
            | inl before ↦ absurd (h.4 (begins_shorter front (digit ∷ others) (b + 1) (omega (arith, before)) ends.alive))
            | inr behind ↦ inl behind
          ]
        ]
    rest (fault.Nesting b) h =
        elim (cases_order b (length front)) [
          | inl same ↦ absurd (ends.is_no_bracket (sym (at_byte front others digit) ∙ ap (λ (n : ℕ). slice_index (front ++ digit ∷ others) n) (sym same) ∙ h.3))
          | inr differ ↦ elim differ [
            | inl before ↦ absurd (no_deep_bracket front (digit ∷ others) ends.left b ends.levels before h.1 h.3 h.4)
            | inr behind ↦ inl behind
          ]
        ]

pub nesting_fault : (front others : List ℕ) → StartsWith header (front ++ 40 ∷ others) → levels_behind 64 front ≡ Some 0 → BeginsInRange (front ++ 40 ∷ [])
    → IsFirstFault (front ++ 40 ∷ others) (fault.Nesting (length front))
nesting_fault front others starts levels alive = record {
  has = (
    starts,
    within_bytes front others 40,
    shaped,
    at_byte front others 40,
    rw (front_of front (40 ∷ others)) (level_left 64 0 front levels refl),
    (λ shorter le. level_within 64 0 front (40 ∷ others) shorter levels le),
  );
  first = rest;
}
  where
    shaped : Begins (take (length front + 1) (front ++ 40 ∷ others))
    shaped = rw (front_and_byte front others 40) (begins_shape (front ++ 40 ∷ []) alive)

    -- every front up to the bracket begins a text in range
    in_range : (b : ℕ) → b ≤ length front → BeginsInRange (take (b + 1) (front ++ 40 ∷ others))
    in_range b le =
        subst (λ (u : List ℕ). BeginsInRange (take (b + 1) u)) (append_assoc front (40 ∷ []) others)
        (begins_shorter (front ++ 40 ∷ []) others (b + 1) (omega (arith, le, length-append front (40 ∷ []))) alive)

    rest : At (front ++ 40 ∷ others) (fault.Nesting (length front))
    rest fault.Memory h = absurd h
    rest (fault.Header b) h = absurd (h.1 starts)
    rest (fault.Syntax b) h = inl (omega (arith, h.4 (length front + 1) (omega (arith, within_bytes front others 40)) shaped))
    rest (fault.Number b) h =
        elim (cases_lt (length front) b) [
          | inl behind ↦ inl behind
          | inr before ↦ absurd (h.4 (in_range b before))
        ]
    rest (fault.Nesting b) h =
        elim (cases_order b (length front)) [
          | inl same ↦ inr (ap (λ (n : ℕ). fault.Nesting n) same)
          | inr differ ↦ elim differ [
            | inl before ↦ absurd (no_deep_bracket front (40 ∷ others) 0 b levels before h.1 h.3 h.4)
            | inr behind ↦ inl behind
          ]
        ]

pub header_fault : (bytes : List ℕ) → (StartsWith header bytes → ⊥) → IsFirstFault bytes (fault.Header 0)
header_fault bytes no_header = record { has = (refl, no_header); first = rest }
  where
    rest : At bytes (fault.Header 0)
    rest fault.Memory h = absurd h
    rest (fault.Header b) h = inr (ap (λ (n : ℕ). fault.Header n) h.0)
    rest (fault.Syntax b) h = absurd (no_header h.0)
    rest (fault.Number b) h = absurd (no_header h.0)
    rest (fault.Nesting b) h = absurd (no_header h.0)

-- ---- the result of reading

-- the fault at which reading stops within a text
abbrev pub fault_at : List ℕ → Halt → TextFault
fault_at bytes (Departs rest) = fault.Syntax (length bytes - length rest)
fault_at bytes (Overflows rest) = fault.Number (length bytes - length rest)
fault_at bytes (TooDeep rest) = fault.Nesting (length bytes - length rest)

abbrev pub Judged : List ℕ → Result Source Halt → Type 0
Judged bytes (Ok s) = IsAccepted s × (text_of s ≡ bytes)
Judged bytes (Err h) = IsFirstFault bytes (fault_at bytes h)

moved : (bytes front rest : List ℕ) (made : ℕ → TextFault) → bytes ≡ front ++ rest → IsFirstFault (front ++ rest) (made (length front)) → IsFirstFault bytes (made (length bytes - length rest))
moved bytes front rest made e h =
    let at : length front ≡ length bytes - length rest = omega (arith, ap length e, length-append front rest) in
    subst (λ (n : ℕ). IsFirstFault bytes (made n)) at (subst (λ (u : List ℕ). IsFirstFault u (made (length front))) (sym e) h)

trailing_is_none : (t x : List ℕ) (byte : ℕ) → first x ≡ Some byte → t ++ x ≡ t → ⊥
trailing_is_none t x byte head e =
    let none : x ≡ [] = append_cancel_left t x [] (e ∙ sym (append-nil t)) in
    let h : None ≡ Some byte = ap first (sym none) ∙ head in
    absurd (cc)

judge_end : (bytes : List ℕ) → StartsWith header bytes → (s : Source) (t rest : List ℕ) → IsInRange s → t ≡ text_of s → bytes ≡ t ++ rest → levels_behind 64 t ≡ Some 64 → Judged bytes (ended s rest)
judge_end bytes starts s t [] range is e levels =
    (accepted_within s range 64 (ap (levels_behind 64) (sym is) ∙ levels), sym is ∙ sym (append-nil t) ∙ sym e)
judge_end bytes starts s t (byte ∷ rest) range is e levels =
    moved bytes t (byte ∷ rest) (λ n. fault.Syntax n) e
    (syntax_fault t (byte ∷ rest) (subst (λ (u : List ℕ). StartsWith header u) e starts) record {
      left = 64;
      levels = levels;
      alive = (s, [], range, sym is ∙ sym (append-nil t));
      no_text = λ other x agrees text.
          let same : other ≡ s = text_of-unique other s [] x (append-nil (text_of other) ∙ text ∙ ap (λ (u : List ℕ). u ++ x) is) in
          trailing_is_none t x byte agrees (sym text ∙ ap text_of same ∙ sym is);
    })

judge : (bytes : List ℕ) → StartsWith header bytes → (r : Result (Source × List ℕ) Halt) → Exact texts 64 64 bytes r → Judged bytes (r >>= λ read. ended read.0 read.1)
unfolding texts
judge bytes starts (Ok x) h = judge_end bytes starts x.0 h.0 x.1 h.1.0 h.1.1 h.2 h.3
judge bytes starts (Err (Departs rest)) h =
    moved bytes h.front rest (λ n. fault.Syntax n) h.split
    (syntax_fault h.front rest (subst (λ (u : List ℕ). StartsWith header u) h.split starts) record {
      left = h.left;
      levels = h.levels;
      alive = begins_in_range h.front h.alive;
      no_text = λ s x agrees text. h.dead s x (h.front ++ x) [] agrees (sym text) (sym (append-nil (h.front ++ x)));
    })
judge bytes starts (Err (Overflows rest)) h =
    let e : bytes ≡ h.front ++ h.digit ∷ h.others = h.split ∙ ap (λ (u : List ℕ). h.front ++ u) h.head in
    let one = moved bytes h.front (h.digit ∷ h.others) (λ n. fault.Number n) e
    (number_fault h.front h.others h.digit (subst (λ (u : List ℕ). StartsWith header u) e starts) record {
      left = h.left;
      levels = h.levels;
      alive = begins_in_range h.front h.alive;
      shaped = begins (h.front ++ h.digit ∷ []) h.shaped;
      no_range = λ b.
          let text : text_of b.0 ≡ h.front ++ h.digit ∷ b.1 = b.3 ∙ append_assoc h.front (h.digit ∷ []) b.1 in
          h.dead b.0 (h.digit ∷ b.1) (h.front ++ h.digit ∷ b.1) [] (ap first (sym h.head)) (b.2, sym text) (sym (append-nil (h.front ++ h.digit ∷ b.1)));
      is_no_bracket = h.is_no_bracket;
    }) in
    subst (λ (u : List ℕ). IsFirstFault bytes (fault.Number (length bytes - length u))) (sym h.head) one
judge bytes starts (Err (TooDeep rest)) h =
    let e : bytes ≡ h.front ++ 40 ∷ h.others = h.split ∙ ap (λ (u : List ℕ). h.front ++ u) h.head in
    let one = moved bytes h.front (40 ∷ h.others) (λ n. fault.Nesting n) e
    (nesting_fault h.front h.others (subst (λ (u : List ℕ). StartsWith header u) e starts) h.levels (begins_in_range (h.front ++ 40 ∷ []) h.alive)) in
    subst (λ (u : List ℕ). IsFirstFault bytes (fault.Nesting (length bytes - length u))) (sym h.head) one

-- ---- the header

letter_taken : (byte letter : ℕ) (word bytes rest : List ℕ) → (word_at word bytes ≡ Ok rest → bytes ≡ word ++ rest) → (test : Bool) → (byte == letter) ≡ test
    → (if test then word_at word bytes else Err (Departs (byte ∷ bytes))) ≡ Ok rest → byte ∷ bytes ≡ letter ∷ (word ++ rest)
letter_taken byte letter word bytes rest others true is e = let one : byte ≡ letter = eqb-true byte letter is in let behind = others e in (cc)
letter_taken byte letter word bytes rest others false is e = absurd (cc)

pub word_taken : (word bytes rest : List ℕ) → word_at word bytes ≡ Ok rest → bytes ≡ word ++ rest
word_taken [] bytes rest e = cc
word_taken (letter ∷ word) [] rest e = absurd (cc)
word_taken (letter ∷ word) (byte ∷ bytes) rest e = letter_taken byte letter word bytes rest (word_taken word bytes rest) (byte == letter) refl e

word_again : (word rest : List ℕ) → word_at word (word ++ rest) ≡ Ok rest
word_again [] rest = refl
word_again (letter ∷ word) rest = rw (eq-eqb letter letter refl) (word_again word rest)

-- behind the header
pub judged : (bytes rest : List ℕ) → word_at header bytes ≡ Ok rest → Judged bytes (program_at rest)
unfolding program_at
judged bytes rest e =
    let exact : Exact texts 64 64 bytes (source_at rest) = subst (λ (r : Result (List ℕ) Halt). Exact texts 64 64 bytes (r >>= source_at)) e (exact_text bytes) in
    judge bytes (rest, word_taken header bytes rest e) (source_at rest) exact

-- without it
pub judged_header : (bytes : List ℕ) (h : Halt) → word_at header bytes ≡ Err h → IsFirstFault bytes (fault.Header 0)
judged_header bytes h e = header_fault bytes (λ starts. none starts.0 (sym (ap (word_at header) starts.1 ∙ word_again header starts.0) ∙ e))
  where
    none : (rest : List ℕ) → Ok rest ≡ Err h → ⊥
    none rest e = cc

-- each text is accepted or has a first fault
pub judged_each : (bytes : List ℕ) → ((program : Source) × IsAccepted program × (text_of program ≡ bytes)) ⊎ ((first : TextFault) × IsFirstFault bytes first)
judged_each bytes = by (word_at header bytes) refl
  where
    within : (r : Result Source Halt) → Judged bytes r → ((program : Source) × IsAccepted program × (text_of program ≡ bytes)) ⊎ ((first : TextFault) × IsFirstFault bytes first)
    within (Ok s) j = inl (s, j.0, j.1)
    within (Err h) j = inr (fault_at bytes h, j)

    by : (w : Result (List ℕ) Halt) → word_at header bytes ≡ w →
        ((program : Source) × IsAccepted program × (text_of program ≡ bytes)) ⊎ ((first : TextFault) × IsFirstFault bytes first)
    by (Ok rest) e = within (program_at rest) (judged bytes rest e)
    by (Err h) e = inr (fault.Header 0, judged_header bytes h e)

-- ---- the results that a reader may give

abbrev pub Said : List ℕ → Result Program TextFault → Type 0
Said bytes (Ok p) = IsAccepted (source_of p) × (text_of (source_of p) ≡ bytes)
Said bytes (Err f) = (f ≡ fault.Memory) ⊎ IsFirstFault bytes f

-- the text of an accepted program has no fault
pub accepted_has_no_fault : (bytes : List ℕ) (s : Source) → IsAccepted s → text_of s ≡ bytes → (f : TextFault) → HasFault bytes f → ⊥
accepted_has_no_fault bytes s accepted text fault.Memory h = h
accepted_has_no_fault bytes s accepted text (fault.Header b) h = h.1 (header_of s bytes text)
accepted_has_no_fault bytes s accepted text (fault.Syntax b) h = h.1 (s, text)
accepted_has_no_fault bytes s accepted text (fault.Number b) h =
    h.4 (s, drop (b + 1) bytes, accepted.in_range, text ∙ sym (take-append-drop (b + 1) bytes))
accepted_has_no_fault bytes s accepted text (fault.Nesting b) h =
    let levels : levels_behind 64 bytes ≡ Some 64 = ap (levels_behind 64) (sym text) ∙ levels_of_accepted s accepted in
    let P : List ℕ → Type 0 = λ u. b < length u → slice_index u b ≡ 40 → level (take b u) ≡ 64 → ⊥ in
    let none : P (bytes ++ []) = λ within is deep. no_deep_bracket bytes [] 64 b levels h.1 within is deep in
    subst P (append-nil bytes) none h.1 h.3 h.4

pub said_every_text : (bytes : List ℕ) (r : Result Program TextFault) → Said bytes r → (source : Source) → IsAccepted source → text_of source ≡ bytes
    → MatchResult r (λ p. source_of p ≡ source) (λ f. f ≡ fault.Memory)
said_every_text bytes (Ok p) said source accepted text =
    text_of-unique (source_of p) source [] [] (ap (λ (u : List ℕ). u ++ []) (said.1 ∙ sym text))
said_every_text bytes (Err f) said source accepted text =
    elim said [
      | inl memory ↦ memory
      | inr first ↦ absurd (accepted_has_no_fault bytes source accepted text f first.has)
    ]

-- the steps by which the code gets its result
pub said_header : (bytes : List ℕ) (why : Stop) → IsAtByte why → Fails why (word_at header bytes) → Said bytes (Err (fault.Header 0))
said_header bytes stop.Memory at e = absurd at
said_header bytes (stop.Departs rest) at e = inr (judged_header bytes (Departs rest.now) e)
said_header bytes (stop.Overflows rest) at e = inr (judged_header bytes (Overflows rest.now) e)
said_header bytes (stop.TooDeep rest) at e = absurd at

pub said_program : (bytes rest : List ℕ) (p : Program) → word_at header bytes ≡ Ok rest → program_at rest ≡ Ok (source_of p) → Said bytes (Ok p)
said_program bytes rest p at e = subst (λ (r : Result Source Halt). Judged bytes r) e (judged bytes rest at)

said_halt : (bytes rest : List ℕ) (h : Halt) → word_at header bytes ≡ Ok rest → program_at rest ≡ Err h → IsFirstFault bytes (fault_at bytes h)
said_halt bytes rest h at e = subst (λ (r : Result Source Halt). Judged bytes r) e (judged bytes rest at)

said_stop : (bytes rest : List ℕ) (why : Stop) → word_at header bytes ≡ Ok rest → Fails why (program_at rest) → Said bytes (Err (fault_within bytes why))
said_stop bytes rest stop.Memory at e = inl refl
said_stop bytes rest (stop.Departs left) at e = inr (said_halt bytes rest (Departs left.now) at e)
said_stop bytes rest (stop.Overflows left) at e = inr (said_halt bytes rest (Overflows left.now) at e)
said_stop bytes rest (stop.TooDeep left) at e = inr (said_halt bytes rest (TooDeep left.now) at e)

pub said_fault : (bytes rest : List ℕ) (why : Stop) (f : TextFault) → word_at header bytes ≡ Ok rest → Fails why (program_at rest) → f ≡ fault_within bytes why → Said bytes (Err f)
said_fault bytes rest why f at e is = subst (λ (g : TextFault). Said bytes (Err g)) (sym is) (said_stop bytes rest why at e)

-- a text has one first fault
one_first_fault : (bytes : List ℕ) (f g : TextFault) → IsFirstFault bytes f → IsFirstFault bytes g → f ≡ g
one_first_fault bytes f g one other =
    elim (one.first g other.has) [
      | inl before ↦ elim (other.first f one.has) [
        | inl behind ↦ absurd (omega (arith, before, behind))
        | inr same ↦ same
      ]
      | inr same ↦ sym same
    ]

pub said_every_fault : (bytes : List ℕ) (r : Result Program TextFault) → Said bytes r → (first : TextFault) → IsFirstFault bytes first
    → IsErrAnd r (λ f. (f ≡ fault.Memory) ⊎ (f ≡ first))
said_every_fault bytes (Ok p) said f first = absurd (accepted_has_no_fault bytes (source_of p) said.0 said.1 f first.has)
said_every_fault bytes (Err g) said f first =
    elim said [
      | inl memory ↦ inl memory
      | inr one ↦ inr (one_first_fault bytes g f one first)
    ]
