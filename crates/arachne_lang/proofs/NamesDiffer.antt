-- No name stands twice in a meaning: the threads that are forked below a thread have names that go on from its own, by
-- a number of one of its forks.
use Rattle.std.proofs.Common.{◌≡◌, ◌≢◌, ℕ, zero, suc, ◌+◌, ◌-◌, ◌/◌, ◌<◌, ◌≤◌, List, [], ◌∷◌, ◌++◌, length, refl, ap, sym, ◌∙◌, subst, arith, append_assoc, length-append, Bool, true, false, ◌⊎◌, inl, inr, map, max, nat_le, ◌==◌, if◌then◌else◌, slice_index_or}
use Rattle.std.{specs.List.{AllByRecursion, AllPairs}, proofs.lemmas.List.{append_cancel_left, map-append}}
use Rattle.arachne_program.specs.Effects.{Child, Evaluate, Effects, effects_of, ◌⨾◌, tallied, held, forked, half, turns_effects, halves, line_of}
use Rattle.arachne_program.specs.Meaning.{meaning_of}
use Rattle.arachne_program.specs.Tree.{Tree, Item, Binary, Choose, Bind, Tally, Hold, Fork, Fold, Sweep, Source}
use Rattle.arachne_program.specs.{Value.{Environment, turns, value_of, with_newest}, declared.meaning.Line.Line}

abbrev Name : Type 0
Name = List ℕ

abbrev names : List Line → List Name
names lines = map (λ line. line.name) lines

-- each is different from all later ones
abbrev Apart : List Name → Type 0
Apart [] = Unit {0}
Apart (x ∷ xs) = AllByRecursion (λ y. x ≢ y) xs × Apart xs

-- the name goes on from another by a fork of a number in a range
record GoesOn (name : Name) (from to : ℕ) (longer : Name) : Type 0 where
  fork : ℕ
  rest : Name
  at_least : from ≤ fork
  below : fork < to
  is : longer ≡ name ++ fork ∷ rest

record AreNamed (name : Name) (from to : ℕ) (xs : List Name) : Type 0 where
  go_on : AllByRecursion (GoesOn name from to) xs
  apart : Apart xs

All-weaker : (P Q : Name → Type 0) (xs : List Name) → ((x : Name) → P x → Q x) → AllByRecursion P xs → AllByRecursion Q xs
All-weaker P Q [] implies all = tt
All-weaker P Q (x ∷ xs) implies all = (implies x all.0, All-weaker P Q xs implies all.1)

All-both : (P : Name → Type 0) (xs ys : List Name) → AllByRecursion P xs → AllByRecursion P ys → AllByRecursion P (xs ++ ys)
All-both P [] ys first second = second
All-both P (x ∷ xs) ys first second = (first.0, All-both P xs ys first.1 second)

Apart-both : (P Q : Name → Type 0) (xs ys : List Name) → ((x y : Name) → P x → Q y → x ≢ y) → AllByRecursion P xs → AllByRecursion Q ys → Apart xs → Apart ys
    → Apart (xs ++ ys)
Apart-both P Q [] ys differ first second apart apart' = apart'
Apart-both P Q (x ∷ xs) ys differ first second apart apart' = (
  All-both (λ y. x ≢ y) xs ys apart.0 (All-weaker Q (λ y. x ≢ y) ys (λ y q. differ x y first.0 q) second),
  Apart-both P Q xs ys differ first.1 second apart.1 apart',
)

All-at : (P : Name → Type 0) (xs : List Name) (i : ℕ) (d : Name) → i < length xs → AllByRecursion P xs → P (slice_index_or xs i d)
All-at P [] i d in_range all = absurd (omega arith)
All-at P (x ∷ xs) zero d in_range all = all.0
All-at P (x ∷ xs) (suc i) d in_range all = All-at P xs i d (omega arith) all.1

AllPairs-from_Apart : (xs : List Name) → Apart xs → AllPairs (λ a b. a ≢ b) xs
AllPairs-from_Apart [] apart i j d below in_range = absurd (omega arith)
AllPairs-from_Apart (x ∷ xs) apart zero zero d below in_range = absurd (omega arith)
AllPairs-from_Apart (x ∷ xs) apart zero (suc j) d below in_range = All-at (λ y. x ≢ y) xs j d (omega arith) apart.0
AllPairs-from_Apart (x ∷ xs) apart (suc i) zero d below in_range = absurd (omega arith)
AllPairs-from_Apart (x ∷ xs) apart (suc i) (suc j) d below in_range = AllPairs-from_Apart xs apart.1 i j d (omega arith) (omega arith)

GoesOn-wider : (name : Name) (from to from' to' : ℕ) → from' ≤ from → to ≤ to' → (x : Name) → GoesOn name from to x → GoesOn name from' to' x
GoesOn-wider name from to from' to' lower higher x goes = record {
  fork = goes.fork;
  rest = goes.rest;
  at_least = omega arith;
  below = omega arith;
  is = goes.is;
}

-- forks of different numbers lead to different names
GoesOn-differ : (name : Name) (a b c d : ℕ) → (b ≤ c) ⊎ (d ≤ a) → (x y : Name) → GoesOn name a b x → GoesOn name c d y → x ≢ y
GoesOn-differ name a b c d ranges x y first second same =
    let tails : first.fork ∷ first.rest ≡ second.fork ∷ second.rest =
    append_cancel_left name (first.fork ∷ first.rest) (second.fork ∷ second.rest) (sym first.is ∙ same ∙ second.is) in
    let forks : first.fork ≡ second.fork = cc in
    elim ranges [ inl below ↦ absurd (omega arith) | inr above ↦ absurd (omega arith) ]

AreNamed-both : (name : Name) (a b c d from to : ℕ) (xs ys : List Name) → (b ≤ c) ⊎ (d ≤ a) → from ≤ a → b ≤ to → from ≤ c → d ≤ to
    → AreNamed name a b xs → AreNamed name c d ys → AreNamed name from to (xs ++ ys)
AreNamed-both name a b c d from to xs ys ranges low_a high_b low_c high_d first second = record {
  go_on = All-both (GoesOn name from to) xs ys
      (All-weaker (GoesOn name a b) (GoesOn name from to) xs (GoesOn-wider name a b from to low_a high_b) first.go_on)
      (All-weaker (GoesOn name c d) (GoesOn name from to) ys (GoesOn-wider name c d from to low_c high_d) second.go_on);
  apart = Apart-both (GoesOn name a b) (GoesOn name c d) xs ys (GoesOn-differ name a b c d ranges) first.go_on second.go_on first.apart second.apart;
}

longer-differs : (name : Name) (k : ℕ) (rest : Name) → name ≢ name ++ k ∷ rest
longer-differs name k rest same = absurd (omega (arith, length-append name (k ∷ rest), ap length same))

-- a thread and those below it, seen from the thread that forked it
AreNamed-child : (name : Name) (n to : ℕ) (zs : List Name) → AreNamed (name ++ n ∷ []) 0 to zs → AreNamed name n (n + 1) ((name ++ n ∷ []) ∷ zs)
AreNamed-child name n to zs below = record {
  go_on = (
    record { fork = n; rest = []; at_least = omega arith; below = omega arith; is = refl },
    All-weaker (GoesOn (name ++ n ∷ []) 0 to) (GoesOn name n (n + 1)) zs
        (λ z goes. record { fork = n; rest = goes.fork ∷ goes.rest; at_least = omega arith; below = omega arith; is = goes.is ∙ append_assoc name (n ∷ []) (goes.fork ∷ goes.rest) })
        below.go_on,
  );
  apart = (
    All-weaker (GoesOn (name ++ n ∷ []) 0 to) (λ z. name ++ n ∷ [] ≢ z) zs
        (λ z goes same. longer-differs (name ++ n ∷ []) goes.fork goes.rest (same ∙ goes.is))
        below.go_on,
    below.apart,
  );
}

-- The lines of some effects have names of their forks.
record HasNames (effects : Effects) : Type 0 where
  named : (name : Name) (next : ℕ) → AreNamed name next (next + length effects.children) (names (effects.lines name next))

HasNames-no_lines : (sums holds : ℕ → ℕ) → HasNames (record { sums = sums; holds = holds; children = []; lines = λ name next. [] })
HasNames-no_lines sums holds = record { named = λ name next. record { go_on = tt; apart = tt } }

HasNames-then : (a b : Effects) → HasNames a → HasNames b → HasNames (a ⨾ b)
HasNames-then a b first second = record {
  named = λ name next.
      let m = next + length a.children in
      let sum : length (a.children ++ b.children) ≡ length a.children + length b.children = length-append a.children b.children in
      let both : AreNamed name next (next + length (a.children ++ b.children)) (names (a.lines name next) ++ names (b.lines name m)) =
      AreNamed-both name next m m (m + length b.children) next (next + length (a.children ++ b.children)) (names (a.lines name next)) (names (b.lines name m))
      (inl (omega arith)) (omega arith) (omega arith) (omega arith) (omega arith)
      (first.named name next) (second.named name m) in
      subst (AreNamed name next (next + length (a.children ++ b.children))) (sym (map-append (λ (line : Line). line.name) (a.lines name next) (b.lines name m))) both;
}

HasNames-forked : (locks : ℕ) (task : Child) (child during : Effects) → HasNames child → HasNames during → HasNames (forked locks task child during)
HasNames-forked locks task child during of_child of_during = record {
  named = λ name next.
      let own = name ++ next ∷ [] in
      let xs = during.lines name (next + 1) in
      let zs = child.lines own 0 in
      let to = next + length (task ∷ during.children) in
      let both : AreNamed name next to (names xs ++ own ∷ names zs) =
      AreNamed-both name (next + 1) (next + 1 + length during.children) next (next + 1) next to (names xs) (own ∷ names zs)
      (inr (omega arith)) (omega arith) (omega arith) (omega arith) (omega arith)
      (of_during.named name (next + 1)) (AreNamed-child name next (0 + length child.children) (names zs) (of_child.named own 0)) in
      let split : names (xs ++ line_of locks own child ∷ [] ++ zs) ≡ names xs ++ own ∷ names zs =
      simp (map-append, append_assoc) in
      subst (AreNamed name next to) (sym split) both;
}

HasNames-turns : (turn : ℕ → Effects) → ((j : ℕ) → HasNames (turn j)) → (n : ℕ) → HasNames (turns_effects turn n)
HasNames-turns turn each zero = HasNames-no_lines (λ ledger. 0) (λ lock. 0)
HasNames-turns turn each (suc n) = HasNames-then (turns_effects turn n) (turn n) (HasNames-turns turn each n) (each n)

HasNames-if : (test : Bool) (a b : Effects) → HasNames a → HasNames b → HasNames (if test then a else b)
HasNames-if true a b first second = first
HasNames-if false a b first second = second

HasNames-halves : (locks : ℕ) (task : ℕ → ℕ → Child) (turn : ℕ → Effects) (grain : ℕ) → ((j : ℕ) → HasNames (turn j)) → (fuel first n : ℕ)
    → HasNames (halves locks task turn grain fuel first n)
HasNames-halves locks task turn grain each zero first n = HasNames-turns (λ j. turn (first + j)) (λ j. each (first + j)) n
HasNames-halves locks task turn grain each (suc fuel) first n =
    HasNames-if (nat_le n (max 1 grain)) (turns_effects (λ j. turn (first + j)) n)
    (forked locks (task first (n / 2)) (halves locks task turn grain fuel first (n / 2)) (halves locks task turn grain fuel (first + n / 2) (n - n / 2)))
    (HasNames-turns (λ j. turn (first + j)) (λ j. each (first + j)) n)
    (HasNames-forked locks (task first (n / 2)) (halves locks task turn grain fuel first (n / 2)) (halves locks task turn grain fuel (first + n / 2) (n - n / 2))
    (HasNames-halves locks task turn grain each fuel first (n / 2)) (HasNames-halves locks task turn grain each fuel (first + n / 2) (n - n / 2)))

HasNames-effects_of : (arrays : List (List ℕ)) (locks : ℕ) (tree : Tree) (env : Environment) → HasNames (effects_of arrays locks tree env)
HasNames-effects_of arrays locks (Item a index) env = HasNames-effects_of arrays locks index env
HasNames-effects_of arrays locks (Binary operation a b) env =
    HasNames-then (effects_of arrays locks a env) (effects_of arrays locks b env) (HasNames-effects_of arrays locks a env) (HasNames-effects_of arrays locks b env)
HasNames-effects_of arrays locks (Choose condition first second) env =
    let test = value_of arrays condition env == 0 in
    let chosen = if test then effects_of arrays locks second env else effects_of arrays locks first env in
    HasNames-then (effects_of arrays locks condition env) chosen (HasNames-effects_of arrays locks condition env)
    (HasNames-if test (effects_of arrays locks second env) (effects_of arrays locks first env) (HasNames-effects_of arrays locks second env) (HasNames-effects_of arrays locks first env))
HasNames-effects_of arrays locks (Bind bound body) env =
    let env' = with_newest env (value_of arrays bound env) in
    HasNames-then (effects_of arrays locks bound env) (effects_of arrays locks body env') (HasNames-effects_of arrays locks bound env) (HasNames-effects_of arrays locks body env')
HasNames-effects_of arrays locks (Tally ledger amount body) env =
    let tally = tallied ledger (value_of arrays amount env) in
    HasNames-then (effects_of arrays locks amount env ⨾ tally) (effects_of arrays locks body env)
    (HasNames-then (effects_of arrays locks amount env) tally (HasNames-effects_of arrays locks amount env) (HasNames-no_lines tally.sums tally.holds))
    (HasNames-effects_of arrays locks body env)
HasNames-effects_of arrays locks (Hold lock body) env =
    HasNames-then (held lock) (effects_of arrays locks body env) (HasNames-no_lines (held lock).sums (held lock).holds) (HasNames-effects_of arrays locks body env)
HasNames-effects_of arrays locks (Fork class child during after) env =
    let env' = with_newest (with_newest env (value_of arrays child env)) (value_of arrays during env) in
    let of_child = effects_of arrays locks child env in
    let of_during = effects_of arrays locks during env in
    HasNames-then (forked locks (record { class = class; task = Evaluate child env }) of_child of_during) (effects_of arrays locks after env')
    (HasNames-forked locks (record { class = class; task = Evaluate child env }) of_child of_during (HasNames-effects_of arrays locks child env) (HasNames-effects_of arrays locks during env))
    (HasNames-effects_of arrays locks after env')
HasNames-effects_of arrays locks (Fold from to first body) env =
    let low = value_of arrays from env in
    let turn = λ (j : ℕ). effects_of arrays locks body (with_newest (with_newest env (low + j))
    (turns (λ i so_far. value_of arrays body (with_newest (with_newest env (low + i)) so_far)) j (value_of arrays first env))) in
    HasNames-then (effects_of arrays locks from env ⨾ effects_of arrays locks to env ⨾ effects_of arrays locks first env) (turns_effects turn (value_of arrays to env - low))
    (HasNames-then (effects_of arrays locks from env ⨾ effects_of arrays locks to env) (effects_of arrays locks first env)
    (HasNames-then (effects_of arrays locks from env) (effects_of arrays locks to env) (HasNames-effects_of arrays locks from env) (HasNames-effects_of arrays locks to env))
    (HasNames-effects_of arrays locks first env))
    (HasNames-turns turn (λ j. HasNames-effects_of arrays locks body (with_newest (with_newest env (low + j))
    (turns (λ i so_far. value_of arrays body (with_newest (with_newest env (low + i)) so_far)) j (value_of arrays first env)))) (value_of arrays to env - low))
HasNames-effects_of arrays locks (Sweep reduction grain from to body) env =
    let low = value_of arrays from env in
    let n = value_of arrays to env - low in
    let turn = λ (i : ℕ). effects_of arrays locks body (with_newest env i) in
    HasNames-then (effects_of arrays locks from env ⨾ effects_of arrays locks to env) (halves locks (half reduction grain body env) turn grain n low n)
    (HasNames-then (effects_of arrays locks from env) (effects_of arrays locks to env) (HasNames-effects_of arrays locks from env) (HasNames-effects_of arrays locks to env))
    (HasNames-halves locks (half reduction grain body env) turn grain (λ i. HasNames-effects_of arrays locks body (with_newest env i)) n low n)
HasNames-effects_of arrays locks _ env = HasNames-no_lines (λ ledger. 0) (λ lock. 0)

pub names_differ : (program : Source) → AllPairs (λ a b. a ≢ b) (map (λ line. line.name) (meaning_of program).threads)
names_differ program =
    let effects = effects_of program.arrays program.locks program.root [] in
    let below = (HasNames-effects_of program.arrays program.locks program.root []).named [] 0 in
    AllPairs-from_Apart (names ((meaning_of program).threads)) (
      All-weaker (GoesOn [] 0 (0 + length effects.children)) (λ y. [] ≢ y) (names (effects.lines [] 0))
          (λ y goes same. let both : [] ≡ goes.fork ∷ goes.rest = same ∙ goes.is in cc)
          below.go_on,
      below.apart,
    )
