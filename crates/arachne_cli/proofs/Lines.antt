-- The growth of lines with the things that they list.
use Rattle.std.proofs.Common.{◌≡◌, ℕ, ◌+◌, ◌<◌, List, [], ◌∷◌, ◌++◌, length, take, get_or, refl, ap, sym, ◌∙◌, append_assoc, arith, map, codes, decimal}
use Rattle.std.proofs.lemmas.List.{append-nil, take_more, length-take-le, map-append}
use Rattle.arachne_lang.specs.Spelling.{after_spaces}
use Rattle.arachne_cli.specs.Output.{line_of, ledger_lines}

pub after_spaces_append : (xs ys : List (List ℕ)) → after_spaces (xs ++ ys) ≡ after_spaces xs ++ after_spaces ys
after_spaces_append [] ys = refl
after_spaces_append (x ∷ xs) ys = ap (λ rest. 32 ∷ x ++ rest) (after_spaces_append xs ys) ∙ sym (append_assoc (32 ∷ x) (after_spaces xs) (after_spaces ys))

-- one more number is written after those so far
pub numbers_step : (old text new numbers : List ℕ) (i : ℕ) → i < length numbers
    → text ≡ old ++ after_spaces (map decimal (take i numbers))
    → new ≡ text ++ (32 ∷ decimal (get_or numbers i 0))
    → new ≡ old ++ after_spaces (map decimal (take (i + 1) numbers))
numbers_step old text new numbers i below so_far written =
    let x = get_or numbers i 0 in
    let front = take i numbers in
    let last : after_spaces (decimal x ∷ []) ≡ 32 ∷ decimal x = append-nil (32 ∷ decimal x) in
    let step : after_spaces (map decimal (take (i + 1) numbers)) ≡ after_spaces (map decimal front) ++ (32 ∷ decimal x) =
    ap (λ xs. after_spaces (map decimal xs)) (take_more numbers i 0 below)
    ∙ ap after_spaces (map-append decimal front (x ∷ []))
    ∙ after_spaces_append (map decimal front) (decimal x ∷ [])
    ∙ ap (λ end. after_spaces (map decimal front) ++ end) last in
    written ∙ ap (λ t. t ++ (32 ∷ decimal x)) so_far ∙ append_assoc old (after_spaces (map decimal front)) (32 ∷ decimal x)
    ∙ ap (λ all. old ++ all) (sym step)

pub ledger_lines_append : (k : ℕ) (xs ys : List ℕ) → ledger_lines k (xs ++ ys) ≡ ledger_lines k xs ++ ledger_lines (k + length xs) ys
ledger_lines_append k [] ys = let e : k + 0 ≡ k = omega arith in ap (λ n. ledger_lines n ys) (sym e)
ledger_lines_append k (x ∷ xs) ys =
    let e : (k + 1) + length xs ≡ k + length (x ∷ xs) = omega arith in
    ap (λ rest. line_of (codes "ledger") (k ∷ x ∷ []) ++ rest) (ledger_lines_append (k + 1) xs ys ∙ ap (λ n. ledger_lines (k + 1) xs ++ ledger_lines n ys) e)
    ∙ sym (append_assoc (line_of (codes "ledger") (k ∷ x ∷ [])) (ledger_lines (k + 1) xs) (ledger_lines (k + length (x ∷ xs)) ys))

-- two words and the end of a line, however they are put together
two_words : (first second : List ℕ) → first ++ (32 ∷ second ++ 10 ∷ []) ≡ (first ++ (32 ∷ second ++ [])) ++ 10 ∷ []
two_words first second = ap (λ word. first ++ (32 ∷ word ++ 10 ∷ [])) (sym (append-nil second)) ∙ sym (append_assoc first (32 ∷ second ++ []) (10 ∷ []))

-- the code's text for a ledger is the ledger's line
pub ledger_line : (k x : ℕ) → codes "ledger " ++ (decimal k ++ (32 ∷ decimal x ++ 10 ∷ [])) ≡ line_of (codes "ledger") (k ∷ x ∷ [])
ledger_line k x = ap (λ words. codes "ledger " ++ words) (two_words (decimal k) (decimal x))

-- one more line is written after those so far
pub ledger_lines_step : (old text new totals : List ℕ) (i : ℕ) → i < length totals
    → text ≡ old ++ ledger_lines 0 (take i totals)
    → new ≡ text ++ (codes "ledger " ++ (decimal i ++ (32 ∷ decimal (get_or totals i 0) ++ 10 ∷ [])))
    → new ≡ old ++ ledger_lines 0 (take (i + 1) totals)
ledger_lines_step old text new totals i below so_far written =
    let x = get_or totals i 0 in
    let front = take i totals in
    let count : length front ≡ i = length-take-le i totals (omega arith) in
    let last = line_of (codes "ledger") (i ∷ x ∷ []) in
    let step : ledger_lines 0 (take (i + 1) totals) ≡ ledger_lines 0 front ++ last =
    ap (ledger_lines 0) (take_more totals i 0 below)
    ∙ ledger_lines_append 0 front (x ∷ [])
    ∙ ap (λ n. ledger_lines 0 front ++ ledger_lines n (x ∷ [])) (let e : 0 + length front ≡ i = omega arith in e)
    ∙ ap (λ end. ledger_lines 0 front ++ end) (append-nil last) in
    written ∙ ap (λ end. text ++ end) (ledger_line i x) ∙ ap (λ t. t ++ last) so_far ∙ append_assoc old (ledger_lines 0 front) last
    ∙ ap (λ all. old ++ all) (sym step)
