-- The counts of the cores so far.
use Rattle.std.proofs.Common.{◌≡◌, ℕ, zero, suc, ◌+◌, ◌<◌, ◌≤◌, ◌⊎◌, Bool, true, false, if◌then◌else◌, cond, max, min, Option, Some, None, is_some, List, [], ◌∷◌, length, get_or, set, take, sum, refl, ap, sym, ◌∙◌, inl, inr, arith}
use Rattle.std.proofs.lemmas.Bool.{cases_lt, cases_eq, cases_Bool}
use Rattle.std.proofs.lemmas.List.{get_or-set_same, get_or-set_other, length-set, take-set, take_all}
use Rattle.std.proofs.lemmas.List.Sums.{sum_by-set, sum_by_more, sum_by-cons, get_or-le-sum_by}
use Rattle.arachne_grants.specs.declared.claims.Client.{Client}
use Rattle.arachne_grants.specs.Grants.{target_at, IsHigher}
use Rattle.arachne_grants.specs.Owners.{owner_at, is_of, held_by, owned, TakesOnly, GivesOnly, KeepsTargets, IsWithin, IsSettled, IsGiven, IsGivenByPriority, IsShort}

-- 1 for a core that is that client's
abbrev pub one_of : ℕ → Option ℕ → ℕ
one_of client owner = if is_of client owner then 1 else 0

-- the first n cores are their owners' up to the targets, and counted
pub record AreTaken (old new : List (Option ℕ)) (targets held : List ℕ) (n : ℕ) : Type 0 where
  pub sized : length held ≡ 256
  pub same : length new ≡ length old
  pub counted : (client : ℕ) → client < 256 → get_or held client 0 ≡ held_by (take n new) client
  pub least : (client : ℕ) → client < 256 → get_or held client 0 ≡ min (held_by (take n old) client) (target_at targets client)
  pub only : TakesOnly old new
  pub rest : (core : ℕ) → n ≤ core → owner_at new core ≡ owner_at old core

-- the first n cores are counted
pub record AreCounted (owners : List (Option ℕ)) (held : List ℕ) (n : ℕ) : Type 0 where
  pub sized : length held ≡ 256
  pub counted : (client : ℕ) → client < 256 → get_or held client 0 ≡ held_by (take n owners) client
  pub all : sum held ≡ owned (take n owners)
  pub few : sum held ≤ n

-- all cores are counted, and none of the first n is free while a client has less than its target
pub record AreGivenSoFar (clients : List Client) (old new : List (Option ℕ)) (targets held : List ℕ) (n : ℕ) : Type 0 where
  pub sized : length held ≡ 256
  pub same : length new ≡ length old
  pub counted : (client : ℕ) → client < 256 → get_or held client 0 ≡ held_by new client
  pub all : sum held ≡ owned new
  pub only : GivesOnly old new
  pub within : IsWithin old targets → IsWithin new targets
  pub given : (client core : ℕ) → client < 256 → get_or held client 0 < target_at targets client → core < n
      → is_some (owner_at new core) ≡ true
  pub priority : (client other : ℕ) → other < 256 → IsShort clients targets held client → IsHigher clients client other
      → get_or held other 0 ≡ held_by old other

held_by-more : (owners : List (Option ℕ)) (n client : ℕ) → n < length owners
    → held_by (take (n + 1) owners) client ≡ held_by (take n owners) client + one_of client (owner_at owners n)
held_by-more owners n client h = sum_by_more (λ (o : Option ℕ). cond (is_of client o) 1 0) owners n None h

held_by-set : (owners : List (Option ℕ)) (n client : ℕ) (owner : Option ℕ) → n < length owners
    → held_by (set owners n owner) client + one_of client (owner_at owners n) ≡ held_by owners client + one_of client owner
held_by-set owners n client owner h = sum_by-set (λ (o : Option ℕ). cond (is_of client o) 1 0) owners n owner None h

owned-more : (owners : List (Option ℕ)) (n : ℕ) → n < length owners
    → owned (take (n + 1) owners) ≡ owned (take n owners) + (if is_some (owner_at owners n) then 1 else 0)
owned-more owners n h = sum_by_more (λ (o : Option ℕ). cond (is_some o) 1 0) owners n None h

owned-set : (owners : List (Option ℕ)) (n : ℕ) (owner : Option ℕ) → n < length owners
    → owned (set owners n owner) + (if is_some (owner_at owners n) then 1 else 0) ≡ owned owners + (if is_some owner then 1 else 0)
owned-set owners n owner h = sum_by-set (λ (o : Option ℕ). cond (is_some o) 1 0) owners n owner None h

held_by-set_more : (owners : List (Option ℕ)) (n client : ℕ) (owner : Option ℕ) → n < length owners
    → held_by (take (n + 1) (set owners n owner)) client ≡ held_by (take n owners) client + one_of client owner
held_by-set_more owners n client owner h =
    held_by-more (set owners n owner) n client (let e = length-set owners n owner in omega arith)
    ∙ ap (λ (xs : List (Option ℕ)). held_by xs client + one_of client (owner_at (set owners n owner) n)) (take-set owners n owner)
    ∙ ap (λ (o : Option ℕ). held_by (take n owners) client + one_of client o) (get_or-set_same owners n owner None h)

-- one core more, of the client or not, that the client keeps or not
min-more : (h t k k' : ℕ) (before after : Bool) → k ≡ min h t → k' ≡ k + (if after then 1 else 0)
    → (after ≡ true → before ≡ true) → (before ≡ true → (after ≡ true) ⊎ (t ≤ k)) → (after ≡ true → k' ≤ t)
    → k' ≡ min (h + (if before then 1 else 0)) t
min-more h t k k' true true is more was keeps within = (let w = within refl in omega arith)
min-more h t k k' false true is more was keeps within = absurd (let w = was refl in cc)
min-more h t k k' false false is more was keeps within = omega arith
min-more h t k k' true false is more was keeps within =
    elim (keeps refl) [
      | inl after ↦ absurd (cc)
      | inr enough ↦ omega arith
    ]

is_of-none : (client : ℕ) (owner : Option ℕ) → owner ≡ None → is_of client owner ≡ false
is_of-none client owner none = rw none refl

-- whose a core is after a change
owner_at-same : (owners : List (Option ℕ)) (n core : ℕ) (owner : Option ℕ) → n < length owners → core ≡ n → owner_at (set owners n owner) core ≡ owner
owner_at-same owners n core owner h same = rw same (get_or-set_same owners n owner None h)

owner_at-other : (owners : List (Option ℕ)) (n core : ℕ) (owner : Option ℕ) → (core ≡ n → ⊥) → owner_at (set owners n owner) core ≡ owner_at owners core
owner_at-other owners n core owner other = get_or-set_other owners n core owner None other

pub AreTaken-none : (owners : List (Option ℕ)) (targets held : List ℕ) → length held ≡ 256
    → ((client : ℕ) → client < 256 → get_or held client 0 ≡ 0) → AreTaken owners owners targets held 0
AreTaken-none owners targets held sized none = record {
  sized = sized;
  same = refl;
  counted = λ client h. none client h;
  least = λ client h. (let e = none client h in omega arith);
  only = λ core. inl refl;
  rest = λ core h. refl;
}

pub AreTaken-more : (old new : List (Option ℕ)) (targets held held' : List ℕ) (n : ℕ) (result : Option ℕ)
    → AreTaken old new targets held n → n < length new → length held' ≡ 256
    → (result ≡ owner_at new n) ⊎ (result ≡ None)
    → ((client : ℕ) → client < 256 → get_or held' client 0 ≡ get_or held client 0 + one_of client result)
    → ((client : ℕ) → client < 256 → is_of client result ≡ true → get_or held' client 0 ≤ target_at targets client)
    → ((client : ℕ) → client < 256 → is_of client (owner_at new n) ≡ true → result ≡ None → target_at targets client ≤ get_or held client 0)
    → AreTaken old (set new n result) targets held' (n + 1)
AreTaken-more old new targets held held' n result was h sized only counts within enough = record {
  sized = sized;
  same = length-set new n result ∙ was.same;
  counted = λ client few. (let e = held_by-set_more new n client result h in let c = counts client few in let w = was.counted client few in omega arith);
  least = λ client few.
      let e = held_by-more old n client (let s = was.same in omega arith) in
      let here : owner_at new n ≡ owner_at old n = was.rest n (omega arith) in
      let is : is_of client (owner_at new n) ≡ is_of client (owner_at old n) = ap (is_of client) here in
      let m = min-more (held_by (take n old) client) (target_at targets client) (get_or held client 0) (get_or held' client 0) (is_of client (owner_at old n)) (is_of client result)
      (was.least client few) (counts client few)
      (λ mine. elim only [
        | inl kept ↦ sym is ∙ sym (ap (is_of client) kept) ∙ mine
        | inr none ↦ absurd (let no = is_of-none client result none in cc)
      ])
      (λ mine. elim only [
        | inl kept ↦ inl (ap (is_of client) kept ∙ is ∙ mine)
        | inr none ↦ inr (enough client few (is ∙ mine) none)
      ])
      (within client few) in
      omega arith;
  only = λ core. elim (cases_eq core n) [
    | inl same ↦ elim only [
      | inl kept ↦ inl (owner_at-same new n core result h same ∙ kept ∙ was.rest n (omega arith) ∙ ap (owner_at old) (sym same))
      | inr none ↦ inr (owner_at-same new n core result h same ∙ none)
    ]
    | inr other ↦ elim (was.only core) [
      | inl kept ↦ inl (owner_at-other new n core result other ∙ kept)
      | inr none ↦ inr (owner_at-other new n core result other ∙ none)
    ]
  ];
  rest = λ core after. owner_at-other new n core result (λ same. omega arith) ∙ was.rest core (omega arith);
}

pub AreTaken-all : (old new : List (Option ℕ)) (targets held : List ℕ) (n : ℕ) → AreTaken old new targets held n → length new ≤ n
    → KeepsTargets old new targets
AreTaken-all old new targets held n was all client few =
    let of_new = ap (λ (xs : List (Option ℕ)). held_by xs client) (take_all n new all) in
    let of_old = ap (λ (xs : List (Option ℕ)). held_by xs client) (take_all n old (let s = was.same in omega arith)) in
    let c = was.counted client few in
    let l = was.least client few in
    omega arith

pub AreCounted-none : (owners : List (Option ℕ)) (held : List ℕ) → length held ≡ 256 → sum held ≡ 0 → AreCounted owners held 0
AreCounted-none owners held sized none = record {
  sized = sized;
  counted = λ client few. (let le : get_or held client 0 ≤ sum held = get_or-le-sum_by (λ n. n) held client 0 (omega arith) in omega arith);
  all = none;
  few = omega arith;
}

at_most_one : (b : Bool) → (if b then 1 else 0) ≤ 1
at_most_one true = omega arith
at_most_one false = omega arith

pub AreCounted-more : (owners : List (Option ℕ)) (held held' : List ℕ) (n : ℕ) → AreCounted owners held n → n < length owners
    → length held' ≡ 256
    → ((client : ℕ) → client < 256 → get_or held' client 0 ≡ get_or held client 0 + one_of client (owner_at owners n))
    → sum held' ≡ sum held + (if is_some (owner_at owners n) then 1 else 0)
    → AreCounted owners held' (n + 1)
AreCounted-more owners held held' n was h sized counts all = record {
  sized = sized;
  counted = λ client few. (let e = held_by-more owners n client h in let c = counts client few in let w = was.counted client few in omega arith);
  all = (let e = owned-more owners n h in let w = was.all in omega arith);
  few = (let w = was.few in let one = at_most_one (is_some (owner_at owners n)) in omega arith);
}

pub AreGiven-none : (clients : List Client) (owners : List (Option ℕ)) (targets held : List ℕ) → length held ≡ 256
    → ((client : ℕ) → client < 256 → get_or held client 0 ≡ held_by owners client) → sum held ≡ owned owners
    → AreGivenSoFar clients owners owners targets held 0
AreGiven-none clients owners targets held sized counted all = record {
  sized = sized;
  same = refl;
  counted = counted;
  all = all;
  only = λ core. inl refl;
  within = λ is. is;
  given = λ client core few short below. absurd (omega arith);
  priority = λ client other few short higher. counted other few;
}

some-unless : (owner : Option ℕ) → (owner ≡ None → ⊥) → is_some owner ≡ true
some-unless None not_none = absurd (not_none refl)
some-unless (Some client) not_none = refl

-- who is short by the later counts was so by the earlier ones
less-before : (targets held held' : List ℕ) (client : ℕ) → length held' ≡ 256
    → ((client : ℕ) → client < 256 → get_or held client 0 ≤ get_or held' client 0)
    → get_or held' client 0 < target_at targets client → client < 256 → get_or held client 0 < target_at targets client
less-before targets held held' client sized rises short few = (let r = rises client few in omega arith)

pub AreGiven-more : (clients : List Client) (old new : List (Option ℕ)) (targets held held' : List ℕ) (n : ℕ) (result : Option ℕ)
    → AreGivenSoFar clients old new targets held n → ((client : ℕ) → client < length clients → client < 256) → n < length new → length held' ≡ 256
    → (result ≡ owner_at new n) ⊎ (owner_at new n ≡ None)
    → ((client : ℕ) → client < 256 → get_or held' client 0 + one_of client (owner_at new n) ≡ get_or held client 0 + one_of client result)
    → sum held' + (if is_some (owner_at new n) then 1 else 0) ≡ sum held + (if is_some result then 1 else 0)
    → ((client : ℕ) → client < 256 → get_or held' client 0 ≤ max (get_or held client 0) (target_at targets client))
    → ((client : ℕ) → client < 256 → get_or held client 0 ≤ get_or held' client 0)
    → ((client : ℕ) → client < 256 → result ≡ None → target_at targets client ≤ get_or held' client 0)
    → ((client other : ℕ) → owner_at new n ≡ None → IsShort clients targets held client → is_of other result ≡ true → IsHigher clients client other → ⊥)
    → AreGivenSoFar clients old (set new n result) targets held' (n + 1)
AreGiven-more clients old new targets held held' n result was small h sized only counts all within rises enough highest =
    let counted : (client : ℕ) → client < 256 → get_or held' client 0 ≡ held_by (set new n result) client =
    λ client few. (let e = held_by-set new n client result h in let c = counts client few in let w = was.counted client few in omega arith) in
    record {
      sized = sized;
      same = length-set new n result ∙ was.same;
      counted = counted;
      all = (let e = owned-set new n result h in let w = was.all in omega arith);
      only = λ core. elim (cases_eq core n) [
        | inl same ↦ elim (was.only core) [
          | inr free ↦ inr free
          | inl kept ↦ elim only [
            | inl stays ↦ inl (owner_at-same new n core result h same ∙ stays ∙ ap (owner_at new) (sym same) ∙ kept)
            | inr free ↦ inr (sym kept ∙ ap (owner_at new) same ∙ free)
          ]
        ]
        | inr other ↦ elim (was.only core) [
          | inl kept ↦ inl (owner_at-other new n core result other ∙ kept)
          | inr free ↦ inr free
        ]
      ];
      within = λ is client few. (let w = was.within is client few in let c = counted client few in let d = was.counted client few in let m = within client few in omega arith);
      given = λ client core few short below. elim (cases_eq core n) [
        | inl same ↦ ap is_some (owner_at-same new n core result h same) ∙ some-unless result (λ none. (let e = enough client few none in omega arith))
        | inr other ↦ ap is_some (owner_at-other new n core result other) ∙ was.given client core few (let r = rises client few in omega arith) (omega arith)
      ];
      priority = λ client other few short higher.
          let was_short : IsShort clients targets held client = (short.0, less-before targets held held' client sized rises short.1 (small client short.0)) in
          let before = was.priority client other few was_short higher in
          let c = counts other few in
          elim only [
            | inl stays ↦ (let e : one_of other result ≡ one_of other (owner_at new n) = ap (one_of other) stays in omega arith)
            | inr free ↦
                let none : one_of other (owner_at new n) ≡ 0 = ap (one_of other) free in
                elim (cases_Bool (is_of other result)) [
                  | inl mine ↦ absurd (highest client other free was_short mine higher)
                  | inr not_mine ↦ (let e : one_of other result ≡ 0 = ap (λ (b : Bool). if b then 1 else 0) not_mine in omega arith)
                ]
          ];
    }

pub AreGiven-all : (clients : List Client) (old new : List (Option ℕ)) (targets held : List ℕ) (n : ℕ) → AreGivenSoFar clients old new targets held n → length new ≤ n
    → IsGiven new targets
AreGiven-all clients old new targets held n was all client core few short below =
    was.given client core few (let c = was.counted client few in omega arith) (omega arith)

owned-cons : (owner : Option ℕ) (owners : List (Option ℕ)) → owned (owner ∷ owners) ≡ (if is_some owner then 1 else 0) + owned owners
owned-cons owner owners = sum_by-cons (λ (o : Option ℕ). cond (is_some o) 1 0) owner owners

owned-all : (owners : List (Option ℕ)) → ((core : ℕ) → core < length owners → is_some (owner_at owners core) ≡ true) → owned owners ≡ length owners
owned-all [] each = refl
owned-all (owner ∷ owners) each =
    let rest : owned owners ≡ length owners = owned-all owners (λ k h. each (suc k) (omega arith)) in
    let here : is_some owner ≡ true = each zero (omega arith) in
    let e : owned (owner ∷ owners) ≡ 1 + owned owners = owned-cons owner owners ∙ ap (λ (b : Bool). (if b then 1 else 0) + owned owners) here in
    omega arith

sum-le : (xs ys : List ℕ) → ((k : ℕ) → k < length xs → get_or xs k 0 ≤ get_or ys k 0) → sum xs ≤ sum ys
sum-le [] ys each = omega arith
sum-le (x ∷ xs) [] each =
    let rest : sum xs ≤ sum [] = sum-le xs [] (λ k h. each (suc k) (omega arith)) in
    let here : x ≤ 0 = each zero (omega arith) in
    let e = sum_by-cons (λ n. n) x xs in
    omega arith
sum-le (x ∷ xs) (y ∷ ys) each =
    let rest : sum xs ≤ sum ys = sum-le xs ys (λ k h. each (suc k) (omega arith)) in
    let here : x ≤ y = each zero (omega arith) in
    let e = sum_by-cons (λ n. n) x xs in
    let f = sum_by-cons (λ n. n) y ys in
    omega arith

pub sum-less : (xs ys : List ℕ) (k : ℕ) → ((j : ℕ) → j < length xs → get_or xs j 0 ≤ get_or ys j 0) → k < length xs
    → get_or xs k 0 < get_or ys k 0 → sum xs < sum ys
sum-less [] ys k each within less = absurd (omega arith)
sum-less (x ∷ xs) [] k each within less = absurd (omega arith)
sum-less (x ∷ xs) (y ∷ ys) zero each within less =
    let rest : sum xs ≤ sum ys = sum-le xs ys (λ k h. each (suc k) (omega arith)) in
    let here : x < y = less in
    let e = sum_by-cons (λ n. n) x xs in
    let f = sum_by-cons (λ n. n) y ys in
    omega arith
sum-less (x ∷ xs) (y ∷ ys) (suc k) each within less =
    let rest : sum xs < sum ys = sum-less xs ys k (λ j h. each (suc j) (omega arith)) (omega arith) less in
    let here : x ≤ y = each zero (omega arith) in
    let e = sum_by-cons (λ n. n) x xs in
    let f = sum_by-cons (λ n. n) y ys in
    omega arith

pub AreGiven-settled : (clients : List Client) (old new : List (Option ℕ)) (targets held : List ℕ) (n : ℕ) → AreGivenSoFar clients old new targets held n → length new ≤ n
    → IsWithin old targets → sum targets ≤ length old → IsSettled new targets
AreGiven-settled clients old new targets held n was all within fit client few =
    let counted = was.counted client few in
    let at_most = was.within within client few in
    elim (cases_lt (held_by new client) (target_at targets client)) [
      | inl short ↦
          let none_free : owned new ≡ length new = owned-all new (λ core h. AreGiven-all clients old new targets held n was all client core few short h) in
          let more : sum held < sum targets = sum-less held targets client
          (λ j h. (let is_few : j < 256 = (let s = was.sized in omega arith) in let c = was.counted j is_few in let w = was.within within j is_few in omega arith))
          (let s = was.sized in omega arith) (omega arith) in
          absurd (let a = was.all in let s = was.same in omega arith)
      | inr enough ↦ omega arith
    ]

pub AreCounted-all : (owners : List (Option ℕ)) (held : List ℕ) (n : ℕ) → AreCounted owners held n → length owners ≤ n
    → ((client : ℕ) → client < 256 → get_or held client 0 ≡ held_by owners client) × (sum held ≡ owned owners)
AreCounted-all owners held n was all = (
  λ client few. was.counted client few ∙ ap (λ (xs : List (Option ℕ)). held_by xs client) (take_all n owners all),
  was.all ∙ ap owned (take_all n owners all),
)

pub AreGiven-priority : (clients : List Client) (old new : List (Option ℕ)) (targets held : List ℕ) (n : ℕ) → AreGivenSoFar clients old new targets held n
    → length clients ≤ 256 → IsGivenByPriority clients old new targets
AreGiven-priority clients old new targets held n was small client other within few short higher =
    let c = was.counted client (omega arith) in
    let d = was.counted other few in
    let p = was.priority client other few (within, omega arith) higher in
    omega arith
