-- The laws of effects on an account.
use Rattle.std.proofs.Common.{◌≡◌, ℕ, ◌+◌, List, [], ◌∷◌, ◌++◌, length, refl, ap, sym, ◌∙◌, arith, append_assoc, length-append, append-nil}
use Rattle.std.proofs.Math.Path.{fun_ext}
use Rattle.arachne_program.specs.{declared.meaning.Line.Line, Effects.{Child, Effects, nothing, ◌⨾◌, forked, line_of}}
use Rattle.arachne_machine.specs.Account.{Account, after, with_fork, with_join}

pub same_account : (s s' h h' : ℕ → ℕ) (c c' : List Child) (l l' : List Line) → s ≡ s' → h ≡ h' → c ≡ c' → l ≡ l' →
    ◌≡◌ {A = Account} (record { sums = s; holds = h; children = c; lines = l }) (record { sums = s'; holds = h'; children = c'; lines = l' })
same_account s s' h h' c c' l l' p q r t =
    let f : (ℕ → ℕ) → Account = λ x. record { sums = x; holds = h; children = c; lines = l } in
    let g : (ℕ → ℕ) → Account = λ x. record { sums = s'; holds = x; children = c; lines = l } in
    let k : List Child → Account = λ x. record { sums = s'; holds = h'; children = x; lines = l } in
    let m : List Line → Account = λ x. record { sums = s'; holds = h'; children = c'; lines = x } in
    ap f p ∙ ap g q ∙ ap k r ∙ ap m t

pub after-nothing : (name : List ℕ) (a : Account) → after name nothing a ≡ a
unfolding after
after-nothing name a =
    same_account (λ l. a.sums l + 0) a.sums (λ l. a.holds l + 0) a.holds (a.children ++ []) a.children (a.lines ++ []) a.lines
    (fun_ext (λ l. omega arith)) (fun_ext (λ l. omega arith)) (append-nil a.children) (append-nil a.lines)

pub after-sequence : (name : List ℕ) (x y : Effects) (a : Account) → after name (x ⨾ y) a ≡ after name y (after name x a)
unfolding after
after-sequence name x y a =
    same_account (λ l. a.sums l + (x.sums l + y.sums l)) (λ l. a.sums l + x.sums l + y.sums l)
    (λ l. a.holds l + (x.holds l + y.holds l)) (λ l. a.holds l + x.holds l + y.holds l)
    (a.children ++ (x.children ++ y.children)) ((a.children ++ x.children) ++ y.children)
    (a.lines ++ (x.lines name (length a.children) ++ y.lines name (length a.children + length x.children)))
    ((a.lines ++ x.lines name (length a.children)) ++ y.lines name (length (a.children ++ x.children)))
    (fun_ext (λ l. omega arith)) (fun_ext (λ l. omega arith))
    (sym (append_assoc a.children x.children y.children))
    (sym (append_assoc a.lines (x.lines name (length a.children)) (y.lines name (length a.children + length x.children)))
    ∙ ap (λ n. (a.lines ++ x.lines name (length a.children)) ++ y.lines name n) (sym (length-append a.children x.children)))

-- a fork, the effects that the thread has while the child runs, and the join
pub after-forked : (locks : ℕ) (name : List ℕ) (task : Child) (child during : Effects) (a : Account) →
    after name (forked locks task child during) a ≡ with_join locks name (length a.children) child (after name during (with_fork task a))
unfolding after with_fork with_join
after-forked locks name task child during a =
    let n = length a.children in
    let line = line_of locks (name ++ n ∷ []) child in
    let below = child.lines (name ++ n ∷ []) 0 in
    let meanwhile = during.lines name (n + 1) in
    same_account (λ l. a.sums l + (child.sums l + during.sums l)) (λ l. a.sums l + during.sums l + child.sums l)
    (λ l. a.holds l + during.holds l) (λ l. a.holds l + during.holds l)
    (a.children ++ task ∷ during.children) ((a.children ++ task ∷ []) ++ during.children)
    (a.lines ++ (meanwhile ++ line ∷ [] ++ below))
    ((a.lines ++ during.lines name (length (a.children ++ task ∷ []))) ++ line ∷ below)
    (fun_ext (λ l. omega arith)) refl
    (sym (append_assoc a.children (task ∷ []) during.children))
    (ap (λ xs. a.lines ++ xs) (append_assoc meanwhile (line ∷ []) below)
    ∙ sym (append_assoc a.lines meanwhile (line ∷ below))
    ∙ ap (λ m. (a.lines ++ during.lines name m) ++ line ∷ below) (sym (length-append a.children (task ∷ []))))

pub after-children : (name : List ℕ) (x : Effects) (a : Account) → (after name x a).children ≡ a.children ++ x.children
unfolding after
after-children name x a = refl
