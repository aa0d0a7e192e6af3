-- A tree as the head of its form, its number if it has one, and its parts.
use Rattle.std.proofs.Common.{◌≡◌, ℕ, zero, suc, ◌+◌, ◌^◌, ◌<◌, List, [], ◌∷◌, ◌++◌, refl, sym, ap, ◌∙◌, append_assoc, codes, max, append-nil}
use Rattle.arachne_lang.specs.Spelling.{numeral, spelling, operation_word, class_word, reduction_word, after_spaces}
use Rattle.arachne_lang.specs.{Text.NumbersFit, declared.reading.heads.Head.Head}
use Rattle.arachne_lang.specs.declared.reading.heads.Head.TheVariants as head
use Rattle.arachne_program.specs.Tree.{Tree, Number, Variable, Length, Item, Binary, Choose, Bind, Tally, Hold, Fork, Fold, Sweep}
use Rattle.arachne_program.specs.Nesting.{nesting}

-- ---- k + 1 trees

abbrev pub Values : ℕ → Type 0
Values zero = Tree
Values (suc k) = Tree × Values k

abbrev pub Each : (P : Tree → Type 0) (k : ℕ) → Values k → Type 0
Each P zero v = P v
Each P (suc k) v = P v.0 × Each P k v.1

-- their texts, with a space between two and a bracket behind the last
abbrev pub joined : (k : ℕ) → Values k → List ℕ
joined zero v = spelling v ++ codes ")"
joined (suc k) v = spelling v.0 ++ (codes " " ++ joined k v.1)

abbrev pub deepest : (k : ℕ) → Values k → ℕ
deepest zero v = nesting v
deepest (suc k) v = max (nesting v.0) (deepest k v.1)

-- ---- the contents of a form behind its word: a number, k + 1 parts, or both

pub data Kind : Type 0 where
  Numeral : Kind
  Parts : ℕ → Kind
  Both : ℕ → Kind

abbrev pub Contents : Kind → Type 0
Contents Numeral = ℕ
Contents (Parts k) = Values k
Contents (Both k) = ℕ × Values k

abbrev pub contents_text : (k : Kind) → Contents k → List ℕ
contents_text Numeral n = numeral n ++ codes ")"
contents_text (Parts k) v = joined k v
contents_text (Both k) c = numeral c.0 ++ (codes " " ++ joined k c.1)

abbrev pub EachPart : (P : Tree → Type 0) (k : Kind) → Contents k → Type 0
EachPart P Numeral n = Unit {0}
EachPart P (Parts k) v = Each P k v
EachPart P (Both k) c = Each P k c.1

abbrev pub Fit : (k : Kind) → Contents k → Type 0
Fit Numeral n = n < 2 ^ 64
Fit (Parts k) v = Each NumbersFit k v
Fit (Both k) c = (c.0 < 2 ^ 64) × Each NumbersFit k c.1

abbrev pub depth : (k : Kind) → Contents k → ℕ
depth Numeral n = 0
depth (Parts k) v = deepest k v
depth (Both k) c = deepest k c.1

-- ---- the forms

abbrev pub kind_of : Head → Kind
kind_of head.Num = Numeral
kind_of head.Var = Numeral
kind_of head.Len = Numeral
kind_of head.Item = Both 0
kind_of (head.Binary operation) = Parts 1
kind_of head.If = Parts 2
kind_of head.Let = Parts 1
kind_of head.Tally = Both 1
kind_of head.Hold = Both 0
kind_of (head.Fork class) = Parts 2
kind_of head.Fold = Parts 3
kind_of (head.Sweep reduction) = Both 2

abbrev pub made : (h : Head) → Contents (kind_of h) → Tree
made head.Num n = Number n
made head.Var n = Variable n
made head.Len n = Length n
made head.Item c = Item c.0 c.1
made (head.Binary operation) v = Binary operation v.0 v.1
made head.If v = Choose v.0 v.1.0 v.1.1
made head.Let v = Bind v.0 v.1
made head.Tally c = Tally c.0 c.1.0 c.1.1
made head.Hold c = Hold c.0 c.1
made (head.Fork class) v = Fork class v.0 v.1.0 v.1.1
made head.Fold v = Fold v.0 v.1.0 v.1.1.0 v.1.1.1
made (head.Sweep reduction) c = Sweep reduction c.0 c.1.0 c.1.1.0 c.1.1.1

-- the word, with the space behind it
abbrev pub word_of : Head → List ℕ
word_of head.Num = codes "num "
word_of head.Var = codes "var "
word_of head.Len = codes "len "
word_of head.Item = codes "item "
word_of (head.Binary operation) = operation_word operation ++ 32 ∷ []
word_of head.If = codes "if "
word_of head.Let = codes "let "
word_of head.Tally = codes "tally "
word_of head.Hold = codes "hold "
word_of (head.Fork class) = codes "fork " ++ (class_word class ++ 32 ∷ [])
word_of head.Fold = codes "fold "
word_of (head.Sweep reduction) = codes "sweep " ++ (reduction_word reduction ++ 32 ∷ [])

-- ---- each tree is of one form

pub record Formed (tree : Tree) : Type 0 where
  pub form : Head
  pub contents : Contents (kind_of form)
  pub is : tree ≡ made form contents

pub formed : (tree : Tree) → Formed tree
formed (Number n) = record { form = head.Num; contents = n; is = refl }
formed (Variable n) = record { form = head.Var; contents = n; is = refl }
formed (Length n) = record { form = head.Len; contents = n; is = refl }
formed (Item a index) = record { form = head.Item; contents = (a, index); is = refl }
formed (Binary operation a b) = record { form = head.Binary operation; contents = (a, b); is = refl }
formed (Choose condition first second) = record { form = head.If; contents = (condition, (first, second)); is = refl }
formed (Bind bound body) = record { form = head.Let; contents = (bound, body); is = refl }
formed (Tally ledger amount body) = record { form = head.Tally; contents = (ledger, (amount, body)); is = refl }
formed (Hold lock body) = record { form = head.Hold; contents = (lock, body); is = refl }
formed (Fork class child during after) = record { form = head.Fork class; contents = (child, (during, after)); is = refl }
formed (Fold from to first body) = record { form = head.Fold; contents = (from, (to, (first, body))); is = refl }
formed (Sweep reduction grain from to body) = record { form = head.Sweep reduction; contents = (grain, (from, (to, body))); is = refl }

-- a property of all trees, if each form has it whose parts have it
pub by_forms : (P : Tree → Type 0) → ((h : Head) (c : Contents (kind_of h)) → EachPart P (kind_of h) c → P (made h c)) → (tree : Tree) → P tree
by_forms P step (Number n) = step head.Num n tt
by_forms P step (Variable n) = step head.Var n tt
by_forms P step (Length n) = step head.Len n tt
by_forms P step (Item a index) = step head.Item (a, index) (by_forms P step index)
by_forms P step (Binary operation a b) = step (head.Binary operation) (a, b) (by_forms P step a, by_forms P step b)
by_forms P step (Choose condition first second) = step head.If (condition, (first, second)) (by_forms P step condition, (by_forms P step first, by_forms P step second))
by_forms P step (Bind bound body) = step head.Let (bound, body) (by_forms P step bound, by_forms P step body)
by_forms P step (Tally ledger amount body) = step head.Tally (ledger, (amount, body)) (by_forms P step amount, by_forms P step body)
by_forms P step (Hold lock body) = step head.Hold (lock, body) (by_forms P step body)
by_forms P step (Fork class child during after) =
    step (head.Fork class) (child, (during, after)) (by_forms P step child, (by_forms P step during, by_forms P step after))
by_forms P step (Fold from to first body) =
    step head.Fold (from, (to, (first, body))) (by_forms P step from, (by_forms P step to, (by_forms P step first, by_forms P step body)))
by_forms P step (Sweep reduction grain from to body) =
    step (head.Sweep reduction) (grain, (from, (to, body))) (by_forms P step from, (by_forms P step to, by_forms P step body))

-- ---- numbers in range, and nesting

pub made-fits : (h : Head) (c : Contents (kind_of h)) → Fit (kind_of h) c → NumbersFit (made h c)
made-fits head.Num c fit = fit
made-fits head.Var c fit = fit
made-fits head.Len c fit = fit
made-fits head.If c fit = (fit.0, fit.1.0, fit.1.1)
made-fits head.Tally c fit = (fit.0, fit.1.0, fit.1.1)
made-fits (head.Fork class) c fit = (fit.0, fit.1.0, fit.1.1)
made-fits head.Fold c fit = (fit.0, fit.1.0, fit.1.1.0, fit.1.1.1)
made-fits (head.Sweep reduction) c fit = (fit.0, fit.1.0, fit.1.1.0, fit.1.1.1)
made-fits _ c fit = (fit.0, fit.1)

pub fits-made : (h : Head) (c : Contents (kind_of h)) → NumbersFit (made h c) → Fit (kind_of h) c
fits-made head.Num c fit = fit
fits-made head.Var c fit = fit
fits-made head.Len c fit = fit
fits-made head.If c fit = (fit.0, (fit.1, fit.2))
fits-made head.Tally c fit = (fit.0, (fit.1, fit.2))
fits-made (head.Fork class) c fit = (fit.0, (fit.1, fit.2))
fits-made head.Fold c fit = (fit.0, (fit.1, (fit.2, fit.3)))
fits-made (head.Sweep reduction) c fit = (fit.0, (fit.1, (fit.2, fit.3)))
fits-made _ c fit = (fit.0, fit.1)

pub made-nesting : (h : Head) (c : Contents (kind_of h)) → nesting (made h c) ≡ depth (kind_of h) c + 1
made-nesting head.Num c = refl
made-nesting _ c = refl

-- ---- texts

-- words after spaces, and a bracket
abbrev closed : List ℕ → List (List ℕ) → List ℕ
closed word [] = word ++ codes ")"
closed word (next ∷ words) = word ++ (codes " " ++ closed next words)

closed-text : (word : List ℕ) (words : List (List ℕ)) → (word ++ after_spaces words) ++ 41 ∷ [] ≡ closed word words
closed-text word [] = ap (λ (u : List ℕ). u ++ 41 ∷ []) (append-nil word)
closed-text word (next ∷ words) =
    append_assoc word (32 ∷ (next ++ after_spaces words)) (41 ∷ []) ∙ ap (λ (u : List ℕ). word ++ 32 ∷ u) (closed-text next words)

behind_space : (word rest : List ℕ) → word ++ 32 ∷ rest ≡ (word ++ 32 ∷ []) ++ rest
behind_space word rest = sym (append_assoc word (32 ∷ []) rest)

-- behind a word, the rest of a form
pub made-text : (h : Head) (c : Contents (kind_of h)) → spelling (made h c) ≡ 40 ∷ (word_of h ++ contents_text (kind_of h) c)
made-text head.Num n = ap (λ (u : List ℕ). codes "(num " ++ u) (closed-text (numeral n) [])
made-text head.Var n = ap (λ (u : List ℕ). codes "(var " ++ u) (closed-text (numeral n) [])
made-text head.Len n = ap (λ (u : List ℕ). codes "(len " ++ u) (closed-text (numeral n) [])
made-text head.Item c = ap (λ (u : List ℕ). codes "(item " ++ u) (closed-text (numeral c.0) (spelling c.1 ∷ []))
made-text (head.Binary operation) v =
    ap (λ (u : List ℕ). 40 ∷ u) (append_assoc (operation_word operation) (after_spaces (spelling v.0 ∷ spelling v.1 ∷ [])) (41 ∷ [])
    ∙ ap (λ (u : List ℕ). operation_word operation ++ 32 ∷ u) (closed-text (spelling v.0) (spelling v.1 ∷ []))
    ∙ behind_space (operation_word operation) (contents_text (Parts 1) v))
made-text head.If v = ap (λ (u : List ℕ). codes "(if " ++ u) (closed-text (spelling v.0) (spelling v.1.0 ∷ spelling v.1.1 ∷ []))
made-text head.Let v = ap (λ (u : List ℕ). codes "(let " ++ u) (closed-text (spelling v.0) (spelling v.1 ∷ []))
made-text head.Tally c = ap (λ (u : List ℕ). codes "(tally " ++ u) (closed-text (numeral c.0) (spelling c.1.0 ∷ spelling c.1.1 ∷ []))
made-text head.Hold c = ap (λ (u : List ℕ). codes "(hold " ++ u) (closed-text (numeral c.0) (spelling c.1 ∷ []))
made-text (head.Fork class) v =
    ap (λ (u : List ℕ). codes "(fork " ++ u) (closed-text (class_word class) (spelling v.0 ∷ spelling v.1.0 ∷ spelling v.1.1 ∷ [])
    ∙ behind_space (class_word class) (contents_text (Parts 2) v))
made-text head.Fold v = ap (λ (u : List ℕ). codes "(fold " ++ u) (closed-text (spelling v.0) (spelling v.1.0 ∷ spelling v.1.1.0 ∷ spelling v.1.1.1 ∷ []))
made-text (head.Sweep reduction) c =
    ap (λ (u : List ℕ). codes "(sweep " ++ u) (closed-text (reduction_word reduction) (numeral c.0 ∷ spelling c.1.0 ∷ spelling c.1.1.0 ∷ spelling c.1.1.1 ∷ [])
    ∙ behind_space (reduction_word reduction) (contents_text (Both 2) c))
