-- The tests of `Same` are true exactly if both are the same.
use Rattle.std.proofs.{Common.{◌≡◌, ℕ, Bool, true, false, List, refl, subst, ap}, lemmas.Slice.Eq.slice_eq-Decides}
use Rattle.std.specs.{Prelude.{◌&&◌, ◌==◌, nat_eq}, Bool.Decides, Cmp.unsigned_Decides}
use lib.Pointwise.{pointwise}
use Rattle.arachne_program.specs.declared.program.Class.{Class, TheVariants.{Normal, Exclusive}}
use Rattle.arachne_program.specs.declared.program.Operation.{Operation}
use Rattle.arachne_program.specs.declared.program.Operation.TheVariants.{Add, Sub, Mul, Min, Max, Xor, Lt, Eq}
use Rattle.arachne_program.specs.declared.program.Reduction.{Reduction}
use Rattle.arachne_program.specs.declared.program.Reduction.TheVariants.{Sum, Product, Parity, Least, Greatest}
use Rattle.arachne_program.specs.Tree.{Tree, Number, Variable, Length, Item, Binary, Choose, Bind, Tally, Hold, Fork, Fold, Sweep, Source}
use Rattle.arachne_program.specs.Same.{same_class, same_operation, same_reduction, same_tree, same_source}

both : (a b : Bool) → (a && b) ≡ true → (a ≡ true) × (b ≡ true)
both true b is = (refl, is)
both false b is = cc

same_number : (m n : ℕ) → (m == n) ≡ true → m ≡ n
same_number m n is = (unsigned_Decides m n).0 is

refl-number : (n : ℕ) → (n == n) ≡ true
refl-number n = (unsigned_Decides n n).1 refl

same_class-is : (a b : Class) → same_class a b ≡ true → a ≡ b
same_class-is Normal Normal is = refl
same_class-is Exclusive Exclusive is = refl
same_class-is Normal Exclusive is = cc
same_class-is Exclusive Normal is = cc

same_class-refl : (a : Class) → same_class a a ≡ true
same_class-refl Normal = refl
same_class-refl Exclusive = refl

same_operation-is : (a b : Operation) → same_operation a b ≡ true → a ≡ b
same_operation-is Add Add is = refl
same_operation-is Sub Sub is = refl
same_operation-is Mul Mul is = refl
same_operation-is Min Min is = refl
same_operation-is Max Max is = refl
same_operation-is Xor Xor is = refl
same_operation-is Lt Lt is = refl
same_operation-is Eq Eq is = refl
same_operation-is a b is = cc

same_operation-refl : (a : Operation) → same_operation a a ≡ true
same_operation-refl Add = refl
same_operation-refl Sub = refl
same_operation-refl Mul = refl
same_operation-refl Min = refl
same_operation-refl Max = refl
same_operation-refl Xor = refl
same_operation-refl Lt = refl
same_operation-refl Eq = refl

same_reduction-is : (a b : Reduction) → same_reduction a b ≡ true → a ≡ b
same_reduction-is Sum Sum is = refl
same_reduction-is Product Product is = refl
same_reduction-is Parity Parity is = refl
same_reduction-is Least Least is = refl
same_reduction-is Greatest Greatest is = refl
same_reduction-is a b is = cc

same_reduction-refl : (a : Reduction) → same_reduction a a ≡ true
same_reduction-refl Sum = refl
same_reduction-refl Product = refl
same_reduction-refl Parity = refl
same_reduction-refl Least = refl
same_reduction-refl Greatest = refl

same_tree-is : (s t : Tree) → same_tree s t ≡ true → s ≡ t
same_tree-is (Number m) (Number n) is = ap Number (same_number m n is)
same_tree-is (Variable j) (Variable k) is = ap Variable (same_number j k is)
same_tree-is (Length a) (Length b) is = ap Length (same_number a b is)
same_tree-is (Item a index) (Item b index') is =
    let p = both (a == b) (same_tree index index') is in
    let e : a ≡ b = same_number a b p.0 in
    let f : index ≡ index' = same_tree-is index index' p.1 in
    cc
same_tree-is (Binary operation a b) (Binary operation' a' b') is =
    let p = both (same_operation operation operation' && same_tree a a') (same_tree b b') is in
    let q = both (same_operation operation operation') (same_tree a a') p.0 in
    let e : operation ≡ operation' = same_operation-is operation operation' q.0 in
    let f : a ≡ a' = same_tree-is a a' q.1 in
    let g : b ≡ b' = same_tree-is b b' p.1 in
    cc
same_tree-is (Choose condition first second) (Choose condition' first' second') is =
    let p = both (same_tree condition condition' && same_tree first first') (same_tree second second') is in
    let q = both (same_tree condition condition') (same_tree first first') p.0 in
    let e : condition ≡ condition' = same_tree-is condition condition' q.0 in
    let f : first ≡ first' = same_tree-is first first' q.1 in
    let g : second ≡ second' = same_tree-is second second' p.1 in
    cc
same_tree-is (Bind bound body) (Bind bound' body') is =
    let p = both (same_tree bound bound') (same_tree body body') is in
    let e : bound ≡ bound' = same_tree-is bound bound' p.0 in
    let f : body ≡ body' = same_tree-is body body' p.1 in
    cc
same_tree-is (Tally ledger amount body) (Tally ledger' amount' body') is =
    let p = both (ledger == ledger' && same_tree amount amount') (same_tree body body') is in
    let q = both (ledger == ledger') (same_tree amount amount') p.0 in
    let e : ledger ≡ ledger' = same_number ledger ledger' q.0 in
    let f : amount ≡ amount' = same_tree-is amount amount' q.1 in
    let g : body ≡ body' = same_tree-is body body' p.1 in
    cc
same_tree-is (Hold lock body) (Hold lock' body') is =
    let p = both (lock == lock') (same_tree body body') is in
    let e : lock ≡ lock' = same_number lock lock' p.0 in
    let f : body ≡ body' = same_tree-is body body' p.1 in
    cc
same_tree-is (Fork class child during after) (Fork class' child' during' after') is =
    let p = both (same_class class class' && same_tree child child' && same_tree during during') (same_tree after after') is in
    let q = both (same_class class class' && same_tree child child') (same_tree during during') p.0 in
    let r = both (same_class class class') (same_tree child child') q.0 in
    let e : class ≡ class' = same_class-is class class' r.0 in
    let f : child ≡ child' = same_tree-is child child' r.1 in
    let g : during ≡ during' = same_tree-is during during' q.1 in
    let h : after ≡ after' = same_tree-is after after' p.1 in
    cc
same_tree-is (Fold from to first body) (Fold from' to' first' body') is =
    let p = both (same_tree from from' && same_tree to to' && same_tree first first') (same_tree body body') is in
    let q = both (same_tree from from' && same_tree to to') (same_tree first first') p.0 in
    let r = both (same_tree from from') (same_tree to to') q.0 in
    let e : from ≡ from' = same_tree-is from from' r.0 in
    let f : to ≡ to' = same_tree-is to to' r.1 in
    let g : first ≡ first' = same_tree-is first first' q.1 in
    let h : body ≡ body' = same_tree-is body body' p.1 in
    cc
same_tree-is (Sweep reduction grain from to body) (Sweep reduction' grain' from' to' body') is =
    let p = both (same_reduction reduction reduction' && grain == grain' && same_tree from from' && same_tree to to') (same_tree body body') is in
    let q = both (same_reduction reduction reduction' && grain == grain' && same_tree from from') (same_tree to to') p.0 in
    let r = both (same_reduction reduction reduction' && grain == grain') (same_tree from from') q.0 in
    let s = both (same_reduction reduction reduction') (grain == grain') r.0 in
    let e : reduction ≡ reduction' = same_reduction-is reduction reduction' s.0 in
    let f : grain ≡ grain' = same_number grain grain' s.1 in
    let g : from ≡ from' = same_tree-is from from' r.1 in
    let h : to ≡ to' = same_tree-is to to' q.1 in
    let i : body ≡ body' = same_tree-is body body' p.1 in
    cc
same_tree-is s t is = cc

same_tree-refl : (t : Tree) → same_tree t t ≡ true
same_tree-refl (Number n) = refl-number n
same_tree-refl (Variable k) = refl-number k
same_tree-refl (Length a) = refl-number a
same_tree-refl (Item a index) = rw (refl-number a, same_tree-refl index) refl
same_tree-refl (Binary operation a b) = rw (same_operation-refl operation, same_tree-refl a, same_tree-refl b) refl
same_tree-refl (Choose condition first second) = rw (same_tree-refl condition, same_tree-refl first, same_tree-refl second) refl
same_tree-refl (Bind bound body) = rw (same_tree-refl bound, same_tree-refl body) refl
same_tree-refl (Tally ledger amount body) = rw (refl-number ledger, same_tree-refl amount, same_tree-refl body) refl
same_tree-refl (Hold lock body) = rw (refl-number lock, same_tree-refl body) refl
same_tree-refl (Fork class child during after) = rw (same_class-refl class, same_tree-refl child, same_tree-refl during, same_tree-refl after) refl
same_tree-refl (Fold from to first body) = rw (same_tree-refl from, same_tree-refl to, same_tree-refl first, same_tree-refl body) refl
same_tree-refl (Sweep reduction grain from to body) =
    rw (same_reduction-refl reduction, refl-number grain, same_tree-refl from, same_tree-refl to, same_tree-refl body) refl

pub same_tree-Decides : (s t : Tree) → Decides (same_tree s t) (s ≡ t)
same_tree-Decides s t = (same_tree-is s t, λ e. subst (λ (x : Tree). same_tree s x ≡ true) e (same_tree-refl s))

pub same_arrays-Decides : (a b : List (List ℕ)) → Decides (pointwise (pointwise nat_eq) a b) (a ≡ b)
same_arrays-Decides a b =
    slice_eq-Decides (λ (x y : List ℕ). slice_eq-Decides unsigned_Decides x y (pointwise nat_eq x y) refl) a b (pointwise (pointwise nat_eq) a b) refl

pub same_source-Decides : (a b : Source) → Decides (same_source a b) (a ≡ b)
same_source-Decides a b = (
  λ is.
      let p = both (pointwise (pointwise nat_eq) a.arrays b.arrays && a.ledgers == b.ledgers && a.locks == b.locks) (same_tree a.root b.root) is in
      let q = both (pointwise (pointwise nat_eq) a.arrays b.arrays && a.ledgers == b.ledgers) (a.locks == b.locks) p.0 in
      let r = both (pointwise (pointwise nat_eq) a.arrays b.arrays) (a.ledgers == b.ledgers) q.0 in
      let e : a.arrays ≡ b.arrays = (same_arrays-Decides a.arrays b.arrays).0 r.0 in
      let f : a.ledgers ≡ b.ledgers = same_number a.ledgers b.ledgers r.1 in
      let g : a.locks ≡ b.locks = same_number a.locks b.locks q.1 in
      let h : a.root ≡ b.root = same_tree-is a.root b.root p.1 in
      λ i. record { arrays = e i; ledgers = f i; locks = g i; root = h i },
  λ same. subst (λ (x : Source). same_source a x ≡ true) same
      (rw ((same_arrays-Decides a.arrays a.arrays).1 refl, refl-number a.ledgers, refl-number a.locks, same_tree-refl a.root) refl),
)
