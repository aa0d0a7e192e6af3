-- The reading of samples stops at the first fault of the text.
use Rattle.std.proofs.Common.{◌≡◌, ℕ, zero, suc, ◌+◌, ◌-◌, ◌<◌, ◌≤◌, List, [], ◌∷◌, ◌++◌, length, take, drop, None, Result, Ok, Err, refl, sym, ap, subst, ◌∙◌, append_assoc, arith, inl, inr, length-append, ◌⊎◌, ◌==◌, true, false, append-nil}
use Rattle.std.proofs.{Math.Seq.{take-append_seam, take-append-add}, lemmas.Bool.{cases_lt, cases_order, eqb-true}}
use Rattle.std.proofs.lemmas.List.{take-append-drop, take-append-le}
use Rattle.arachne_lang.specs.declared.{text_fault.TextFault.TextFault, reading.stop.Stop.Stop}
use Rattle.arachne_lang.specs.{Reading.{Halt, Fails, IsAtByte, fault_within}, Text.byte_of}
use Rattle.arachne_lang.proofs.Languages.{Alive, Departure, Overflow, Exact, first}
use Rattle.arachne_lang.specs.declared.text_fault.TextFault.TheVariants as fault
use Rattle.arachne_lang.specs.declared.reading.stop.Stop.TheVariants as stop
use Rattle.arachne_policy.specs.declared.samples.Sample.{Sample}
use Rattle.arachne_cli.specs.Reading.{sample_at}
use Rattle.arachne_cli.specs.Samples.{FitsWords, sample_line, samples_text, AreInRange, Begins, BeginsInRange, HasFault, IsFirstFault}
use Rattle.arachne_cli.proofs.SampleLines.{line, exact_line, line_shape, line_range, shape_line, range_line, line_unique, line_not_empty}

-- ---- lines behind lines

pub text-append : (a b : List Sample) → samples_text (a ++ b) ≡ samples_text a ++ samples_text b
text-append [] b = refl
text-append (s ∷ a) b = ap (λ (u : List ℕ). sample_line s ++ u) (text-append a b) ∙ sym (append_assoc (sample_line s) (samples_text a) (samples_text b))

pub range-append : (a b : List Sample) → AreInRange a → AreInRange b → AreInRange (a ++ b)
range-append [] b h k = k
range-append (s ∷ a) b h k = (h.0, range-append a b h.1 k)

range-behind : (a b : List Sample) → AreInRange (a ++ b) → AreInRange b
range-behind [] b h = h
range-behind (s ∷ a) b h = range-behind a b h.1

-- one more line is read
pub text-push : (before : List Sample) (s : Sample) (rest : List ℕ) → samples_text before ++ (sample_line s ++ rest) ≡ samples_text (before ++ s ∷ []) ++ rest
text-push before s rest =
    sym (append_assoc (samples_text before) (sample_line s) rest)
    ∙ ap (λ (u : List ℕ). u ++ rest) (ap (λ (u : List ℕ). samples_text before ++ u) (sym (append-nil (sample_line s))) ∙ sym (text-append before (s ∷ [])))

-- a text that begins with the lines of some samples is the text of these and others
behind_lines : (before samples : List Sample) (z : List ℕ) → samples_text samples ≡ samples_text before ++ z
    → (others : List Sample) × (samples ≡ before ++ others) × (samples_text others ≡ z)
behind_lines [] samples z e = (samples, refl, e)
behind_lines (b ∷ before) [] z e = absurd (line_not_empty b (samples_text before ++ z) (sym (e ∙ append_assoc (sample_line b) (samples_text before) z)))
behind_lines (b ∷ before) (s ∷ samples) z e =
    let one = line_unique s b (samples_text samples) (samples_text before ++ z) (e ∙ append_assoc (sample_line b) (samples_text before) z) in
    let others = behind_lines before samples z one.1 in
    let same : s ∷ samples ≡ b ∷ (before ++ others.0) = cc (one.0, others.1) in
    (others.0, same, others.2)

no_text_is_empty : (samples : List Sample) → samples_text samples ≡ [] → samples ≡ []
no_text_is_empty [] e = refl
no_text_is_empty (s ∷ samples) e = absurd (line_not_empty s (samples_text samples) e)

pub text-unique : (a b : List Sample) → samples_text a ≡ samples_text b → a ≡ b
text-unique a b e =
    let behind = behind_lines b a [] (e ∙ sym (append-nil (samples_text b))) in
    behind.1 ∙ ap (λ (u : List Sample). b ++ u) (no_text_is_empty behind.0 behind.2) ∙ append-nil b

-- ---- the front of a line behind lines

alive_lines : (before : List Sample) (front : List ℕ) → AreInRange before → Alive line.range front → BeginsInRange (samples_text before ++ front)
alive_lines before front read alive =
    let s = alive.value in
    let text : front ++ alive.more ≡ sample_line s = line_shape s (front ++ alive.more) (line.within s (front ++ alive.more) alive.text) in (
      before ++ s ∷ [],
      alive.more,
      range-append before (s ∷ []) read (line_range s (front ++ alive.more) alive.text, tt),
      text-append before (s ∷ []) ∙ ap (λ (u : List ℕ). samples_text before ++ u) (append-nil (sample_line s) ∙ sym text) ∙ sym (append_assoc (samples_text before) front alive.more),
    )

shaped_lines : (before : List Sample) (front : List ℕ) → Alive line.shape front → Begins (samples_text before ++ front)
shaped_lines before front alive =
    let s = alive.value in
    let text : front ++ alive.more ≡ sample_line s = line_shape s (front ++ alive.more) alive.text in (
      before ++ s ∷ [],
      alive.more,
      text-append before (s ∷ []) ∙ ap (λ (u : List ℕ). samples_text before ++ u) (append-nil (sample_line s) ∙ sym text) ∙ sym (append_assoc (samples_text before) front alive.more),
    )

empty_parts : (a x : List ℕ) → [] ≡ a ++ x → (a ≡ []) × (x ≡ [])
empty_parts [] x e = (refl, sym e)
empty_parts (byte ∷ a) x e = absurd (cc)

none_first : (rest : List ℕ) → None ≡ first rest → rest ≡ []
none_first [] e = refl
none_first (byte ∷ rest) e = absurd (cc)

-- if something is left, there are lines after those that were read
no_lines_behind : (front rest x : List ℕ) → (front ++ rest ≡ [] → ⊥) → first x ≡ first rest → [] ≡ front ++ x → ⊥
no_lines_behind front rest x some agrees e =
    let parts = empty_parts front x e in
    let none : None ≡ first rest = ap first (sym parts.1) ∙ agrees in
    some (rw (parts.0, none_first rest none) refl)

no_shape : (before samples : List Sample) (front rest x : List ℕ) → (front ++ rest ≡ [] → ⊥)
    → ((s : Sample) (y : List ℕ) → sample_line s ++ y ≡ front ++ x → ⊥) → first x ≡ first rest → samples_text samples ≡ (samples_text before ++ front) ++ x → ⊥
no_shape before samples front rest x some dead agrees e =
    let behind = behind_lines before samples (front ++ x) (e ∙ append_assoc (samples_text before) front x) in
    none behind.0 behind.2
  where
    none : (others : List Sample) → samples_text others ≡ front ++ x → ⊥
    none [] text = no_lines_behind front rest x some agrees text
    none (s ∷ others) text = dead s (samples_text others) text

no_range : (before samples : List Sample) (front rest x : List ℕ) → (front ++ rest ≡ [] → ⊥)
    → ((s : Sample) (y : List ℕ) → FitsWords s → sample_line s ++ y ≡ front ++ x → ⊥) → first x ≡ first rest → AreInRange samples
    → samples_text samples ≡ (samples_text before ++ front) ++ x → ⊥
no_range before samples front rest x some dead agrees fits e =
    let behind = behind_lines before samples (front ++ x) (e ∙ append_assoc (samples_text before) front x) in
    none behind.0 (range-behind before behind.0 (subst AreInRange behind.1 fits)) behind.2
  where
    none : (others : List Sample) → AreInRange others → samples_text others ≡ front ++ x → ⊥
    none [] fits text = no_lines_behind front rest x some agrees text
    none (s ∷ others) fits text = dead s (samples_text others) fits.0 text

-- ---- fronts of texts

begins_shape : (front : List ℕ) → BeginsInRange front → Begins front
begins_shape front h = (h.0, h.1, h.3)

begins_append : (a b : List ℕ) → BeginsInRange (a ++ b) → BeginsInRange a
begins_append a b h = (h.0, b ++ h.1, h.2, h.3 ∙ append_assoc a b h.1)

-- a shorter front of bytes whose front begins a text in range
begins_shorter : (front rest : List ℕ) (k : ℕ) → k ≤ length front → BeginsInRange front → BeginsInRange (take k (front ++ rest))
begins_shorter front rest k le h =
    let same : take k front ++ drop k front ≡ front = take-append-drop k front in
    rw (take-append-le k front rest le) (begins_append (take k front) (drop k front) (subst BeginsInRange (sym same) h))

front_of : (front rest : List ℕ) → take (length front) (front ++ rest) ≡ front
front_of front rest = take-append_seam front rest

front_and_byte : (front others : List ℕ) (byte : ℕ) → take (length front + 1) (front ++ byte ∷ others) ≡ front ++ byte ∷ []
front_and_byte front others byte = take-append-add front (byte ∷ others) 1

-- the next byte of a longer front
first_of_take : (rest more : List ℕ) (k : ℕ) → 0 < k → k ≤ length rest → first (take k rest ++ more) ≡ first rest
first_of_take rest more zero pos le = absurd (omega arith)
first_of_take [] more (suc k) pos le = absurd (omega arith)
first_of_take (byte ∷ rest) more (suc k) pos le = refl

-- ---- departures

-- no text of the shape goes on from here as the input does
record Ends (front rest : List ℕ) : Type 0 where
  alive : BeginsInRange front
  no_text : (samples : List Sample) (x : List ℕ) → first x ≡ first rest → samples_text samples ≡ front ++ x → ⊥

longest : (front rest : List ℕ) → Ends front rest → (longer : ℕ) → longer ≤ length (front ++ rest) → Begins (take longer (front ++ rest)) → longer ≤ length front
longest front rest ends longer le begun =
    elim (cases_lt (length front) longer) [
      | inr short ↦ short
      | inl long ↦
          let more = longer - length front in
          let is : length front + (longer - length front) ≡ longer = omega arith in
          let cut : take longer (front ++ rest) ≡ front ++ take (longer - length front) rest =
          ap (λ (n : ℕ). take n (front ++ rest)) (sym is) ∙ take-append-add front rest (longer - length front) in
          let text : samples_text begun.0 ≡ front ++ (take (longer - length front) rest ++ begun.1) =
          begun.2 ∙ ap (λ (u : List ℕ). u ++ begun.1) cut ∙ append_assoc front (take (longer - length front) rest) begun.1 in
          absurd (ends.no_text begun.0 (take (longer - length front) rest ++ begun.1)
          (first_of_take rest begun.1 (longer - length front) (omega arith) (omega (arith, le, length-append front rest))) text)
    ]

abbrev Firsts : List ℕ → TextFault → Type 0
Firsts bytes f = (other : TextFault) → HasFault bytes other → (byte_of f < byte_of other) ⊎ (other ≡ f)

syntax_fault : (front rest : List ℕ) → Ends front rest → IsFirstFault (front ++ rest) (fault.Syntax (length front))
syntax_fault front rest ends = record {
  has = (
    (λ text. ends.no_text text.0 rest refl text.1),
    omega (arith, length-append front rest),
    begun,
    longest front rest ends,
  );
  first = others;
}
  where
    begun : Begins (take (length front) (front ++ rest))
    begun = rw (front_of front rest) (begins_shape front ends.alive)

    others : Firsts (front ++ rest) (fault.Syntax (length front))
    others (fault.Syntax b) h =
        let one = longest front rest ends b h.1 h.2 in
        let two = h.3 (length front) (omega (arith, length-append front rest)) begun in
        let same : b ≡ length front = omega (arith, one, two) in
        inr (ap (λ (n : ℕ). fault.Syntax n) same)
    others (fault.Number b) h =
        let within : b + 1 ≤ length front = longest front rest ends (b + 1) (omega (arith, h.0)) h.1 in
        absurd (h.3 (begins_shorter front rest (b + 1) within ends.alive))
    others _ h = absurd h

-- ---- numbers that are too large

record Grows (front : List ℕ) (digit : ℕ) : Type 0 where
  alive : BeginsInRange front
  shaped : Begins (front ++ digit ∷ [])
  no_range : BeginsInRange (front ++ digit ∷ []) → ⊥

number_fault : (front others : List ℕ) (digit : ℕ) → Grows front digit → IsFirstFault (front ++ digit ∷ others) (fault.Number (length front))
number_fault front others digit grows = record {
  has = (
    within,
    shaped,
    rw (front_of front (digit ∷ others)) grows.alive,
    (λ h. grows.no_range (subst BeginsInRange (front_and_byte front others digit) h)),
  );
  first = rest;
}
  where
    within : length front < length (front ++ digit ∷ others)
    within = omega (arith, length-append front (digit ∷ others))

    shaped : Begins (take (length front + 1) (front ++ digit ∷ others))
    shaped = rw (front_and_byte front others digit) grows.shaped

    rest : Firsts (front ++ digit ∷ others) (fault.Number (length front))
    rest (fault.Syntax b) h = inl (omega (arith, h.3 (length front + 1) (omega (arith, within)) shaped))
    rest (fault.Number b) h =
        elim (cases_order b (length front)) [
          | inl same ↦ inr (ap (λ (n : ℕ). fault.Number n) same)
          | inr differ ↦ elim differ [
            | inl before ↦ absurd (h.3 (begins_shorter front (digit ∷ others) (b + 1) (omega (arith, before)) grows.alive))
            | inr behind ↦ inl behind
          ]
        ]
    rest _ h = absurd h

-- ---- a line that stops

moved : (bytes front rest : List ℕ) (made : ℕ → TextFault) → bytes ≡ front ++ rest → IsFirstFault (front ++ rest) (made (length front)) → IsFirstFault bytes (made (length bytes - length rest))
moved bytes front rest made e h =
    let at : length front ≡ length bytes - length rest = omega (arith, ap length e, length-append front rest) in
    subst (λ (n : ℕ). IsFirstFault bytes (made n)) at (subst (λ (u : List ℕ). IsFirstFault u (made (length front))) (sym e) h)

split_behind : (text before bytes front rest : List ℕ) → text ≡ before ++ bytes → bytes ≡ front ++ rest → text ≡ (before ++ front) ++ rest
split_behind text before bytes front rest e f = e ∙ ap (λ (u : List ℕ). before ++ u) f ∙ sym (append_assoc before front rest)

departed : (before : List Sample) (text bytes rest : List ℕ) → AreInRange before → text ≡ samples_text before ++ bytes → (bytes ≡ [] → ⊥)
    → Departure line 64 bytes rest → IsFirstFault text (fault.Syntax (length text - length rest))
departed before text bytes rest read e some h =
    let front = samples_text before ++ h.front in
    moved text front rest (λ n. fault.Syntax n) (split_behind text (samples_text before) bytes h.front rest e h.split)
    (syntax_fault front rest (record {
      alive = alive_lines before h.front read h.alive;
      no_text = λ samples x agrees is.
          no_shape before samples h.front rest x (λ none. some (h.split ∙ none)) (λ s y other. h.dead s x (sample_line s) y agrees (shape_line s) (sym other)) agrees is;
    }))

grown : (before : List Sample) (text bytes rest : List ℕ) → AreInRange before → text ≡ samples_text before ++ bytes → (bytes ≡ [] → ⊥)
    → Overflow line 64 bytes rest → IsFirstFault text (fault.Number (length text - length rest))
grown before text bytes rest read e some h =
    let front = samples_text before ++ h.front in
    let split : bytes ≡ h.front ++ h.digit ∷ h.others = h.split ∙ ap (λ (u : List ℕ). h.front ++ u) h.head in
    subst (λ (u : List ℕ). IsFirstFault text (fault.Number (length text - length u))) (sym h.head)
    (moved text front (h.digit ∷ h.others) (λ n. fault.Number n) (split_behind text (samples_text before) bytes h.front (h.digit ∷ h.others) e split)
    (number_fault front h.others h.digit (record {
      alive = alive_lines before h.front read h.alive;
      shaped = subst Begins (sym (append_assoc (samples_text before) h.front (h.digit ∷ []))) (shaped_lines before (h.front ++ h.digit ∷ []) h.shaped);
      no_range = λ begun.
          let x = h.digit ∷ begun.1 in
          let agrees : first (h.digit ∷ begun.1) ≡ first rest = ap first (sym h.head) in
          let is : samples_text begun.0 ≡ (samples_text before ++ h.front) ++ (h.digit ∷ begun.1) = begun.3 ∙ append_assoc (samples_text before ++ h.front) (h.digit ∷ []) begun.1 in
          no_range before begun.0 h.front rest (h.digit ∷ begun.1) (λ none. some (h.split ∙ none))
          (λ s y fits other. h.dead s (h.digit ∷ begun.1) (sample_line s) y agrees (range_line s fits) (sym other)) agrees begun.2 is;
    })))

-- if the reading of a line stops, after lines that were read, the text has its first fault there
pub stopped : (before : List Sample) (text bytes : List ℕ) (why : Stop) → AreInRange before → text ≡ samples_text before ++ bytes → (bytes ≡ [] → ⊥)
    → IsAtByte why → Fails why (sample_at bytes) → IsFirstFault text (fault_within text why)
stopped before text bytes stop.Memory read e some at_byte at = absurd at_byte
stopped before text bytes (stop.TooDeep rest) read e some at_byte at = absurd at_byte
stopped before text bytes (stop.Departs rest) read e some at_byte at =
    departed before text bytes rest.now read e some (subst (λ (r : Result (Sample × List ℕ) Halt). Exact line 64 64 bytes r) at (exact_line bytes))
stopped before text bytes (stop.Overflows rest) read e some at_byte at =
    grown before text bytes rest.now read e some (subst (λ (r : Result (Sample × List ℕ) Halt). Exact line 64 64 bytes r) at (exact_line bytes))

-- ---- a line that is read

-- it is behind lines that were read, and they grow by it
pub record Read (before : List Sample) (text : List ℕ) (s : Sample) (bytes rest : List ℕ) : Type 0 where
  pub split : text ≡ samples_text (before ++ s ∷ []) ++ rest
  pub in_range : AreInRange (before ++ s ∷ [])
  pub shorter : length rest < length bytes

some_bytes : (t : List ℕ) → (t ≡ [] → ⊥) → 0 < length t
some_bytes [] some = absurd (some refl)
some_bytes (byte ∷ t) some = omega arith

pub line_read : (before : List Sample) (text bytes rest : List ℕ) (s : Sample) → AreInRange before → text ≡ samples_text before ++ bytes
    → sample_at bytes ≡ Ok (s, rest) → Read before text s bytes rest
line_read before text bytes rest s read e at =
    let exact : Exact line 64 64 bytes (Ok (s, rest)) = subst (λ (r : Result (Sample × List ℕ) Halt). Exact line 64 64 bytes r) at (exact_line bytes) in
    let t : exact.0 ≡ sample_line s = line_shape s exact.0 (line.within s exact.0 exact.1) in
    let line_split : bytes ≡ sample_line s ++ rest = exact.2 ∙ ap (λ (u : List ℕ). u ++ rest) t in
    let some = some_bytes (sample_line s) (λ none. line_not_empty s [] (append-nil (sample_line s) ∙ none)) in
    record {
      split = e ∙ ap (λ (u : List ℕ). samples_text before ++ u) line_split ∙ text-push before s rest;
      in_range = range-append before (s ∷ []) read (line_range s exact.0 exact.1, tt);
      shorter = omega (arith, ap length line_split, length-append (sample_line s) rest, some);
    }

-- ---- the results of a reader

-- the text of samples in range has no fault
no_fault : (bytes : List ℕ) (samples : List Sample) → AreInRange samples → samples_text samples ≡ bytes → (f : TextFault) → HasFault bytes f → ⊥
no_fault bytes samples fits text (fault.Syntax b) h = h.0 (samples, text)
no_fault bytes samples fits text (fault.Number b) h = h.3 (samples, drop (b + 1) bytes, fits, text ∙ sym (take-append-drop (b + 1) bytes))
no_fault bytes samples fits text _ h = h

pub read_has_no_fault : (bytes : List ℕ) (samples : List Sample) → AreInRange samples → samples_text samples ≡ bytes → (f : TextFault) → IsFirstFault bytes f → ⊥
read_has_no_fault bytes samples fits text f one = no_fault bytes samples fits text f one.has

-- two first faults are one
pub one_first_fault : (bytes : List ℕ) (f g : TextFault) → IsFirstFault bytes f → IsFirstFault bytes g → f ≡ g
one_first_fault bytes f g one other =
    elim (one.first g other.has) [
      | inl before ↦ elim (other.first f one.has) [
        | inl behind ↦ absurd (omega (arith, before, behind))
        | inr same ↦ same
      ]
      | inr same ↦ sym same
    ]

-- something is left exactly if the rest is not empty
pub some_left : (rest : List ℕ) → false ≡ (length rest == 0) → rest ≡ [] → ⊥
some_left [] e none = absurd (cc)
some_left (byte ∷ rest) e none = absurd (cc)

pub none_left : (rest : List ℕ) → true ≡ (length rest == 0) → rest ≡ []
none_left [] e = refl
none_left (byte ∷ rest) e = absurd (omega (arith, eqb-true (length (byte ∷ rest)) 0 (sym e)))
