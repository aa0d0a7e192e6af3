-- The list of the threads that are left, as it grows context by context.
use Rattle.std.proofs.Common.{◌≡◌, ◌≢◌, ℕ, zero, suc, ◌+◌, ◌<◌, ◌≤◌, ◌∙◌, ap, sym, subst, refl, arith, Some, None, Option, List, [], ◌∷◌, ◌++◌, length, drop, set, get_or, get_or-set_other, Bool, true, false, inl, inr, slice_index}
use Rattle.std.proofs.lemmas.{List.drop_all, Bool.cases_eq}
use mathlib.Core.Option as opt
use lib.ListN.{get_elem?}
use Rattle.atomic_table.{specs.Table.{Final, Seen}, proofs.Lists.drop_at}
use Rattle.arachne_core.specs.{declared.{layout.TheConstants.CORE_BITS, thread_id.ThreadId.ThreadId}, Marked.marked_of}
use Rattle.arachne_contexts.specs.Answers.{IsByContext}
use Rattle.arachne_weights.specs.{Tokens.held, Weight.whole}
use Rattle.arachne_rule.specs.{declared.view.{Known.Known, Shape.Shape}, Ending.{left_from, IsSettled}, Table.Holds}
use Rattle.arachne_rule.proofs.Ending.{all-settled}

pub set-false : (fs : List Bool) (i : ℕ) → get_or (set fs i false) i false ≡ false
set-false [] i = refl
set-false (f ∷ fs) zero = refl
set-false (f ∷ fs) (suc i) = set-false fs i

pub set-else : (fs : List Bool) (i k : ℕ) → k ≢ i → get_or (set fs i false) k false ≡ get_or fs k false
set-else fs i k n = get_or-set_other fs i k false false n

pub none-taken : (fs gs : List Bool) (x : ℕ) → gs ≡ set fs x false → ((k : ℕ) → k < x → get_or fs k false ≡ false) → (k : ℕ) → k < x + 1 → get_or gs k false ≡ false
none-taken fs gs x is below k h = ap (λ (l : List Bool). get_or l k false) is ∙ elim (cases_eq k x) [
  | inl e ↦ ap (λ (j : ℕ). get_or (set fs x false) j false) e ∙ set-false fs x
  | inr n ↦ set-else fs x k n ∙ below k (omega (arith, h, n))
]

pub still-filled : (fs gs : List Bool) (x n : ℕ) → gs ≡ set fs x false → ((k : ℕ) → x ≤ k → k < n → get_or fs k false ≡ true) → (k : ℕ) → x + 1 ≤ k → k < n → get_or gs k false ≡ true
still-filled fs gs x n is above k lo hi = ap (λ (l : List Bool). get_or l k false) is ∙ set-else fs x k (λ e. omega (arith, lo, e)) ∙ above k (omega (arith, lo)) hi

pub word-there : (ws : List ℕ) (i w : ℕ) → get_elem? ws i ≡ opt.some w → get_or ws i 0 ≡ w
word-there [] i w e = absurd (opt.some-ne-none w (sym e))
word-there (v ∷ ws) zero w e = opt.some-injective v w e
word-there (v ∷ ws) (suc i) w e = word-there ws i w e

module _ {T : Type 0} where
  -- the state at the end is that of a table whose one seat knows k
  abbrev pub EndsWith : (T → ℕ) → Shape → Known → List ℕ → List (Option T) → Type 0
  EndsWith tag_of shape k words slots = (id : ℕ) × Final (Seen (Holds tag_of CORE_BITS shape) id (held whole k)) words slots

  -- the list so far, and the threads that are left from context x on
  abbrev pub SoFar : List (ThreadId × T) → ℕ → List ℕ → List (Option T) → Type 0
  SoFar left x words slots = left ++ left_from CORE_BITS x words (drop x slots) ≡ left_from CORE_BITS 0 words slots

  pub so-far-none : (left : List (ThreadId × T)) (x : ℕ) (words : List ℕ) (slots : List (Option T)) → get_elem? slots x ≡ opt.some None → SoFar left x words slots → SoFar left (suc x) words slots
  so-far-none left x words slots at so = ap (λ (r : List (Option T)). left ++ left_from CORE_BITS x words r) (sym (drop_at slots x None at)) ∙ so

  append-one : (xs : List (ThreadId × T)) (y : ThreadId × T) (ys : List (ThreadId × T)) → (xs ++ y ∷ []) ++ ys ≡ xs ++ y ∷ ys
  append-one [] y ys = refl
  append-one (x ∷ xs) y ys = ap (λ (r : List (ThreadId × T)). x ∷ r) (append-one xs y ys)

  pub so-far-some : (left : List (ThreadId × T)) (x : ℕ) (words : List ℕ) (slots : List (Option T)) (value : T) → get_elem? slots x ≡ opt.some (Some value) → SoFar left x words slots
      → SoFar (left ++ (record { context = x; generation = (marked_of CORE_BITS (slice_index words x)).generation }, value) ∷ []) (suc x) words slots
  so-far-some left x words slots value at so =
      append-one left (record { context = x; generation = (marked_of CORE_BITS (slice_index words x)).generation }, value) (left_from CORE_BITS (suc x) words (drop (suc x) slots))
      ∙ ap (λ (r : List (Option T)). left ++ left_from CORE_BITS x words r) (sym (drop_at slots x (Some value) at)) ∙ so

  append-none : (xs : List (ThreadId × T)) → xs ++ [] ≡ xs
  append-none [] = refl
  append-none (x ∷ xs) = ap (λ (r : List (ThreadId × T)). x ∷ r) (append-none xs)

  -- ---- the threads that are left are listed in the order of the contexts

  abbrev From : ℕ → List (ThreadId × T) → Type 0
  From x [] = Unit {0}
  From x (t ∷ ts) = x ≤ t.0.context

  further : (x y : ℕ) → x ≤ y → (ts : List (ThreadId × T)) → From y ts → From x ts
  further x y h [] f = tt
  further x y h (t ∷ ts) f = omega (arith, h, f)

  more-by-context : (t : ThreadId × T) (ts : List (ThreadId × T)) → From (suc t.0.context) ts → IsByContext ts → IsByContext (t ∷ ts)
  more-by-context t [] f b = tt
  more-by-context t (u ∷ ts) f b = (omega (arith, f), b)

  left-by-context : (bits x : ℕ) (words : List ℕ) (slots : List (Option T)) → From x (left_from bits x words slots) × IsByContext (left_from bits x words slots)
  left-by-context bits x words [] = (tt, tt)
  left-by-context bits x words (None ∷ slots) =
      let r = left-by-context bits (suc x) words slots in
      (further x (suc x) (omega arith) (left_from bits (suc x) words slots) r.0, r.1)
  left-by-context bits x words (Some value ∷ slots) =
      let r = left-by-context bits (suc x) words slots in
      (omega arith, more-by-context (record { context = x; generation = (marked_of bits (slice_index words x)).generation }, value) (left_from bits (suc x) words slots) r.0 r.1)

  -- the list, after each context was looked at
  pub all-left : (left : List (ThreadId × T)) (x : ℕ) (words : List ℕ) (slots : List (Option T)) → length slots ≤ x → SoFar left x words slots → left ≡ left_from CORE_BITS 0 words slots
  all-left left x words slots past so = sym (append-none left) ∙ ap (λ (r : List (Option T)). left ++ left_from CORE_BITS x words r) (sym (drop_all x slots past)) ∙ so

  pub all-by-context : (left : List (ThreadId × T)) (x : ℕ) (words : List ℕ) (slots : List (Option T)) → length slots ≤ x → SoFar left x words slots → IsByContext left
  all-by-context left x words slots past so = subst IsByContext (sym (all-left left x words slots past so)) (left-by-context CORE_BITS 0 words slots).1

  pub all-listed : (tag_of : T → ℕ) (shape : Shape) (k : Known) (none_out : k.carried ≡ []) (left : List (ThreadId × T)) (x : ℕ) (words : List ℕ) (slots : List (Option T))
      → EndsWith tag_of shape k words slots → length slots ≤ x → SoFar left x words slots → IsSettled tag_of k left
  all-listed tag_of shape k none_out left x words slots ends past so =
      let s = ends.1 in
      subst (IsSettled tag_of k) (ap (λ (ws : List ℕ). left_from CORE_BITS 0 ws slots) s.2 ∙ sym (all-left left x words slots past so))
      (all-settled tag_of CORE_BITS shape s.0 s.1.0 ends.0 k s.1.1 none_out slots s.3 s.4)
