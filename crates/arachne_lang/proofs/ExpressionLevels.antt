-- Reading an expression with no level left, and with one more.
use Rattle.std.proofs.Common.{◌≡◌, ℕ, zero, suc, ◌-◌, ◌≤◌, List, [], ◌∷◌, Err, length, get_or, take, drop, refl, arith}
use Rattle.std.proofs.Math.Seq.{take-length}
use Rattle.arachne_program.specs.Tree.{Tree}
use Rattle.arachne_lang.specs.Reading.{TooDeep, Reading, opened, form_at, expression_at}

-- the reading of the text behind the opening bracket
abbrev pub inner_at : ℕ → List ℕ → Reading Tree
inner_at zero = λ bytes. Err (TooDeep (40 ∷ bytes))
inner_at (suc levels) = form_at (expression_at levels)

pub expression_at-opened : (levels : ℕ) (bytes : List ℕ) → expression_at levels bytes ≡ opened (inner_at levels) bytes
unfolding expression_at
expression_at-opened zero bytes = refl
expression_at-opened (suc levels) bytes = refl

pub no_level_left : (levels : ℕ) (bytes : List ℕ) → levels ≡ 0 → expression_at levels bytes ≡ opened (λ b. Err (TooDeep (40 ∷ b))) bytes
unfolding expression_at
no_level_left levels bytes e = rw e refl

pub one_level_more : (levels : ℕ) (bytes : List ℕ) → (levels ≡ 0 → ⊥) → expression_at levels bytes ≡ opened (form_at (expression_at (levels - 1))) bytes
unfolding expression_at
one_level_more zero bytes ne = absurd (ne refl)
one_level_more (suc levels) bytes ne = let e : suc levels - 1 ≡ levels = omega arith in rw e refl

pub opened_bracket : (inner : List ℕ → Reading Tree) (bytes : List ℕ) → 1 ≤ length bytes → get_or bytes 0 0 ≡ 40 → opened inner bytes ≡ inner (take (length bytes - 1) (drop 1 bytes))
opened_bracket inner [] le e = absurd (omega arith)
opened_bracket inner (byte ∷ bytes) le e =
    let n : suc (length bytes) - 1 ≡ length bytes = omega arith in
    rw (e, n, take-length bytes) refl
