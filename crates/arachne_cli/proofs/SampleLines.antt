-- A line of a text of samples is read exactly.
use Rattle.std.proofs.Common.{◌≡◌, ℕ, ◌^◌, List, [], ◌∷◌, ◌++◌, Ok, refl, sym, ap, subst, ◌∙◌, append_assoc, arith, lit<, codes, append-nil}
use Rattle.std.proofs.lemmas.List.{append_cancel_left}
use Rattle.arachne_lang.specs.{Spelling.{numeral, after_spaces}, Reading.{Reading, ◌>>=◌, number_at}}
use Rattle.arachne_lang.proofs.{Numerals.{NoDigit, numeral-not_empty}, ExactNumber.{number_before, exact_number}}
use Rattle.arachne_lang.proofs.Languages.{Language, Exact, sequence, exact_sequence, nothing_more, exact_nothing_more}
use Rattle.arachne_policy.specs.declared.samples.Sample.{Sample}
use Rattle.arachne_cli.specs.{Samples.{FitsWords, sample_line}, Reading.sample_at}

-- ---- the language of lines

pub space_is_no_digit : NoDigit 32
space_is_no_digit digit = omega (arith, digit.0)

pub newline_is_no_digit : NoDigit 10
newline_is_no_digit digit = omega (arith, digit.0)

abbrev spaced : Language ℕ
spaced = number_before (2 ^ 64) 32 (lit< tt) space_is_no_digit

abbrev last : Language ℕ
last = number_before (2 ^ 64) 10 (lit< tt) newline_is_no_digit

abbrev made : ℕ → ℕ → ℕ → ℕ → ℕ → Sample
made cores runnable scans busy elapsed = record { cores = cores; runnable = runnable; scans = scans; busy = busy; elapsed = elapsed }

-- a line behind its first numbers
abbrev behind_busy : ℕ → ℕ → ℕ → ℕ → Language Sample
behind_busy cores runnable scans busy = sequence last (λ elapsed. nothing_more (made cores runnable scans busy elapsed))

abbrev behind_scans : ℕ → ℕ → ℕ → Language Sample
behind_scans cores runnable scans = sequence spaced (behind_busy cores runnable scans)

abbrev behind_runnable : ℕ → ℕ → Language Sample
behind_runnable cores runnable = sequence spaced (behind_scans cores runnable)

abbrev behind_cores : ℕ → Language Sample
behind_cores cores = sequence spaced (behind_runnable cores)

abbrev pub line : Language Sample
line = sequence spaced behind_cores

-- ---- reading it

abbrev spaced_at : List ℕ → Reading ℕ
spaced_at bytes = number_at (2 ^ 64) (codes " ") bytes

abbrev last_at : List ℕ → Reading ℕ
last_at bytes = number_at (2 ^ 64) (10 ∷ []) bytes

exact_spaced : (bytes : List ℕ) → Exact spaced 64 64 bytes (spaced_at bytes)
exact_spaced bytes = exact_number (2 ^ 64) 32 (lit< tt) (lit< tt) space_is_no_digit 64 64 refl bytes

exact_last : (bytes : List ℕ) → Exact last 64 64 bytes (last_at bytes)
exact_last bytes = exact_number (2 ^ 64) 10 (lit< tt) (lit< tt) newline_is_no_digit 64 64 refl bytes

abbrev busy_read : ℕ → ℕ → ℕ → ℕ × List ℕ → Reading Sample
busy_read cores runnable scans busy = last_at busy.1 >>= λ elapsed. Ok (made cores runnable scans busy.0 elapsed.0, elapsed.1)

abbrev scans_read : ℕ → ℕ → ℕ × List ℕ → Reading Sample
scans_read cores runnable scans = spaced_at scans.1 >>= busy_read cores runnable scans.0

abbrev runnable_read : ℕ → ℕ × List ℕ → Reading Sample
runnable_read cores runnable = spaced_at runnable.1 >>= scans_read cores runnable.0

abbrev cores_read : ℕ × List ℕ → Reading Sample
cores_read cores = spaced_at cores.1 >>= runnable_read cores.0

pub exact_line : (bytes : List ℕ) → Exact line 64 64 bytes (sample_at bytes)
unfolding sample_at
exact_line bytes =
    exact_sequence spaced behind_cores 64 64 64 bytes (spaced_at bytes) cores_read (exact_spaced bytes)
    (λ cores. exact_sequence spaced (behind_runnable cores.0) 64 64 64 cores.1 (spaced_at cores.1) (runnable_read cores.0) (exact_spaced cores.1)
    (λ runnable. exact_sequence spaced (behind_scans cores.0 runnable.0) 64 64 64 runnable.1 (spaced_at runnable.1) (scans_read cores.0 runnable.0) (exact_spaced runnable.1)
    (λ scans. exact_sequence spaced (behind_busy cores.0 runnable.0 scans.0) 64 64 64 scans.1 (spaced_at scans.1) (busy_read cores.0 runnable.0 scans.0) (exact_spaced scans.1)
    (λ busy. exact_sequence last (λ elapsed. nothing_more (made cores.0 runnable.0 scans.0 busy.0 elapsed)) 64 64 64 busy.1 (last_at busy.1)
    (λ elapsed. Ok (made cores.0 runnable.0 scans.0 busy.0 elapsed.0, elapsed.1)) (exact_last busy.1)
    (λ elapsed. exact_nothing_more (made cores.0 runnable.0 scans.0 busy.0 elapsed.0) 64 elapsed.1)))))

-- ---- its texts are the lines

-- the numbers of a line, each with the byte that ends it
abbrev parts_of : Sample → List ℕ
parts_of s =
    (numeral s.cores ++ 32 ∷ []) ++ ((numeral s.runnable ++ 32 ∷ []) ++ ((numeral s.scans ++ 32 ∷ []) ++ ((numeral s.busy ++ 32 ∷ []) ++ ((numeral s.elapsed ++ 10 ∷ []) ++ []))))

-- one more number of a line, behind its space
behind_space : (a x y z : List ℕ) → x ++ z ≡ y → ((32 ∷ a) ++ x) ++ z ≡ 32 ∷ (a ++ y)
behind_space a x y z e = ap (λ (u : List ℕ). 32 ∷ u) (append_assoc a x z ∙ ap (λ (u : List ℕ). a ++ u) e)

-- one more number of a line, before the byte that ends it
before_end : (end : ℕ) (a x y : List ℕ) → x ≡ y → (a ++ end ∷ []) ++ x ≡ a ++ (end ∷ y)
before_end end a x y e = append_assoc a (end ∷ []) x ∙ ap (λ (u : List ℕ). a ++ (end ∷ u)) e

parts_join : (cores runnable scans busy elapsed one two three four : List ℕ) → one ≡ elapsed ++ (10 ∷ []) → two ≡ busy ++ (32 ∷ one) → three ≡ scans ++ (32 ∷ two) → four ≡ runnable ++ (32 ∷ three)
    → (cores ++ after_spaces (runnable ∷ scans ∷ busy ∷ elapsed ∷ [])) ++ 10 ∷ []
    ≡ (cores ++ 32 ∷ []) ++ ((runnable ++ 32 ∷ []) ++ ((scans ++ 32 ∷ []) ++ ((busy ++ 32 ∷ []) ++ ((elapsed ++ 10 ∷ []) ++ []))))
parts_join cores runnable scans busy elapsed one two three four e f g h =
    let one_left : (after_spaces (elapsed ∷ [])) ++ 10 ∷ [] ≡ 32 ∷ one = behind_space elapsed [] (10 ∷ []) (10 ∷ []) refl ∙ ap (λ (u : List ℕ). 32 ∷ u) (sym e) in
    let two_left : (after_spaces (busy ∷ elapsed ∷ [])) ++ 10 ∷ [] ≡ 32 ∷ two =
    behind_space busy (after_spaces (elapsed ∷ [])) (32 ∷ one) (10 ∷ []) one_left ∙ ap (λ (u : List ℕ). 32 ∷ u) (sym f) in
    let three_left : (after_spaces (scans ∷ busy ∷ elapsed ∷ [])) ++ 10 ∷ [] ≡ 32 ∷ three =
    behind_space scans (after_spaces (busy ∷ elapsed ∷ [])) (32 ∷ two) (10 ∷ []) two_left ∙ ap (λ (u : List ℕ). 32 ∷ u) (sym g) in
    let four_left : (after_spaces (runnable ∷ scans ∷ busy ∷ elapsed ∷ [])) ++ 10 ∷ [] ≡ 32 ∷ four =
    behind_space runnable (after_spaces (scans ∷ busy ∷ elapsed ∷ [])) (32 ∷ three) (10 ∷ []) three_left ∙ ap (λ (u : List ℕ). 32 ∷ u) (sym h) in
    let one_right : (elapsed ++ 10 ∷ []) ++ [] ≡ one = append-nil (elapsed ++ 10 ∷ []) ∙ sym e in
    let two_right : (busy ++ 32 ∷ []) ++ ((elapsed ++ 10 ∷ []) ++ []) ≡ two = before_end 32 busy ((elapsed ++ 10 ∷ []) ++ []) one one_right ∙ sym f in
    let three_right : (scans ++ 32 ∷ []) ++ ((busy ++ 32 ∷ []) ++ ((elapsed ++ 10 ∷ []) ++ [])) ≡ three =
    before_end 32 scans ((busy ++ 32 ∷ []) ++ ((elapsed ++ 10 ∷ []) ++ [])) two two_right ∙ sym g in
    let four_right : (runnable ++ 32 ∷ []) ++ ((scans ++ 32 ∷ []) ++ ((busy ++ 32 ∷ []) ++ ((elapsed ++ 10 ∷ []) ++ []))) ≡ four =
    before_end 32 runnable ((scans ++ 32 ∷ []) ++ ((busy ++ 32 ∷ []) ++ ((elapsed ++ 10 ∷ []) ++ []))) three three_right ∙ sym h in
    append_assoc cores (after_spaces (runnable ∷ scans ∷ busy ∷ elapsed ∷ [])) (10 ∷ []) ∙ ap (λ (u : List ℕ). cores ++ u) four_left
    ∙ sym (before_end 32 cores ((runnable ++ 32 ∷ []) ++ ((scans ++ 32 ∷ []) ++ ((busy ++ 32 ∷ []) ++ ((elapsed ++ 10 ∷ []) ++ [])))) four four_right)

line_is : (s : Sample) → sample_line s ≡ parts_of s
line_is s =
    parts_join (numeral s.cores) (numeral s.runnable) (numeral s.scans) (numeral s.busy) (numeral s.elapsed)
    (numeral s.elapsed ++ (10 ∷ [])) (numeral s.busy ++ (32 ∷ (numeral s.elapsed ++ (10 ∷ []))))
    (numeral s.scans ++ (32 ∷ (numeral s.busy ++ (32 ∷ (numeral s.elapsed ++ (10 ∷ []))))))
    (numeral s.runnable ++ (32 ∷ (numeral s.scans ++ (32 ∷ (numeral s.busy ++ (32 ∷ (numeral s.elapsed ++ (10 ∷ []))))))))
    refl refl refl refl

joined : (t a b c d e f g h i j k l m n o : List ℕ) → t ≡ a ++ f → f ≡ b ++ g → g ≡ c ++ h → h ≡ d ++ i → i ≡ e ++ j → j ≡ []
    → a ≡ k → b ≡ l → c ≡ m → d ≡ n → e ≡ o → t ≡ k ++ (l ++ (m ++ (n ++ (o ++ []))))
joined t a b c d e f g h i j k l m n o p q r s u v w x y z z' = cc

pub line_shape : (s : Sample) (t : List ℕ) → line.shape s t → t ≡ sample_line s
unfolding sequence nothing_more number_before
line_shape s t one =
    let two = one.back_text in let three = two.back_text in let four = three.back_text in let five = four.back_text in
    let is : s ≡ made one.value two.value three.value four.value five.value = five.back_text.0 in
    let text : t ≡ parts_of (made one.value two.value three.value four.value five.value) =
    joined t one.front two.front three.front four.front five.front one.back two.back three.back four.back five.back
    (numeral one.value ++ 32 ∷ []) (numeral two.value ++ 32 ∷ []) (numeral three.value ++ 32 ∷ []) (numeral four.value ++ 32 ∷ []) (numeral five.value ++ 10 ∷ [])
    one.split two.split three.split four.split five.split five.back_text.1
    one.front_text two.front_text three.front_text four.front_text five.front_text in
    text ∙ ap parts_of (sym is) ∙ sym (line_is s)

pub line_range : (s : Sample) (t : List ℕ) → line.range s t → FitsWords s
unfolding sequence nothing_more number_before
line_range s t one =
    let two = one.back_text in let three = two.back_text in let four = three.back_text in let five = four.back_text in
    let is : s ≡ made one.value two.value three.value four.value five.value = five.back_text.0 in
    subst FitsWords (sym is) (record { cores = one.front_text.0; runnable = two.front_text.0; scans = three.front_text.0; busy = four.front_text.0; elapsed = five.front_text.0 })

pub shape_line : (s : Sample) → line.shape s (sample_line s)
unfolding sequence nothing_more number_before
shape_line s = subst (line.shape s) (sym (line_is s)) (record {
  value = s.cores;
  front = numeral s.cores ++ 32 ∷ [];
  back = (numeral s.runnable ++ 32 ∷ []) ++ ((numeral s.scans ++ 32 ∷ []) ++ ((numeral s.busy ++ 32 ∷ []) ++ ((numeral s.elapsed ++ 10 ∷ []) ++ [])));
  front_text = refl;
  split = refl;
  back_text = record {
    value = s.runnable;
    front = numeral s.runnable ++ 32 ∷ [];
    back = (numeral s.scans ++ 32 ∷ []) ++ ((numeral s.busy ++ 32 ∷ []) ++ ((numeral s.elapsed ++ 10 ∷ []) ++ []));
    front_text = refl;
    split = refl;
    back_text = record {
      value = s.scans;
      front = numeral s.scans ++ 32 ∷ [];
      back = (numeral s.busy ++ 32 ∷ []) ++ ((numeral s.elapsed ++ 10 ∷ []) ++ []);
      front_text = refl;
      split = refl;
      back_text = record {
        value = s.busy;
        front = numeral s.busy ++ 32 ∷ [];
        back = (numeral s.elapsed ++ 10 ∷ []) ++ [];
        front_text = refl;
        split = refl;
        back_text = record { value = s.elapsed; front = numeral s.elapsed ++ 10 ∷ []; back = []; front_text = refl; split = refl; back_text = (refl, refl) };
      };
    };
  };
})

pub range_line : (s : Sample) → FitsWords s → line.range s (sample_line s)
unfolding sequence nothing_more number_before
range_line s fits = subst (line.range s) (sym (line_is s)) (record {
  value = s.cores;
  front = numeral s.cores ++ 32 ∷ [];
  back = (numeral s.runnable ++ 32 ∷ []) ++ ((numeral s.scans ++ 32 ∷ []) ++ ((numeral s.busy ++ 32 ∷ []) ++ ((numeral s.elapsed ++ 10 ∷ []) ++ [])));
  front_text = (fits.cores, refl);
  split = refl;
  back_text = record {
    value = s.runnable;
    front = numeral s.runnable ++ 32 ∷ [];
    back = (numeral s.scans ++ 32 ∷ []) ++ ((numeral s.busy ++ 32 ∷ []) ++ ((numeral s.elapsed ++ 10 ∷ []) ++ []));
    front_text = (fits.runnable, refl);
    split = refl;
    back_text = record {
      value = s.scans;
      front = numeral s.scans ++ 32 ∷ [];
      back = (numeral s.busy ++ 32 ∷ []) ++ ((numeral s.elapsed ++ 10 ∷ []) ++ []);
      front_text = (fits.scans, refl);
      split = refl;
      back_text = record {
        value = s.busy;
        front = numeral s.busy ++ 32 ∷ [];
        back = (numeral s.elapsed ++ 10 ∷ []) ++ [];
        front_text = (fits.busy, refl);
        split = refl;
        back_text = record { value = s.elapsed; front = numeral s.elapsed ++ 10 ∷ []; back = []; front_text = (fits.elapsed, refl); split = refl; back_text = (refl, refl) };
      };
    };
  };
})

-- no line begins another
pub line_unique : (a b : Sample) (x y : List ℕ) → sample_line a ++ x ≡ sample_line b ++ y → (a ≡ b) × (x ≡ y)
line_unique a b x y e =
    let same = line.unique a b (sample_line a) (sample_line b) x y (shape_line a) (shape_line b) e in
    (same.0, append_cancel_left (sample_line b) x y (ap (λ (u : List ℕ). u ++ x) (sym same.1) ∙ e))

not_nil : (word x y z : List ℕ) → (word ≡ [] → ⊥) → ((word ++ x) ++ y) ++ z ≡ [] → ⊥
not_nil [] x y z some e = some refl
not_nil (byte ∷ word) x y z some e = cc

pub line_not_empty : (s : Sample) (x : List ℕ) → sample_line s ++ x ≡ [] → ⊥
line_not_empty s x e =
    not_nil (numeral s.cores) (after_spaces (numeral s.runnable ∷ numeral s.scans ∷ numeral s.busy ∷ numeral s.elapsed ∷ [])) (10 ∷ []) x (numeral-not_empty s.cores) e
