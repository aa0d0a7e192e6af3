-- Claims are in a strict order.
use Rattle.std.proofs.Common.{◌≡◌, ℕ, ◌+◌, ◌<◌, ◌≤◌, ◌⊎◌, Bool, true, false, if◌then◌else◌, refl, arith, inl, inr, sym, ◌∙◌}
use Rattle.std.proofs.lemmas.Grind.{common_steps}
use Rattle.std.proofs.lemmas.Bool.{cases_Bool, cases_order, cases_lt, false≢true}
use Rattle.arachne_grants.specs.declared.claims.Client.{Client}
use Rattle.arachne_grants.specs.declared.claims.Claim.{Claim}
use Rattle.arachne_grants.specs.Claims.{claim_of, reserve_of, goes_before, goes_before_alike}

-- a test by whether two have their reserves, and another where both or neither have
abbrev by_level : Bool → Bool → Bool → Bool
by_level x y alike = if x then (if y then alike else false) else (if y then true else alike)

level-first : (x y alike : Bool) → x ≡ false → y ≡ true → by_level x y alike ≡ true
level-first x y alike below beyond = rw (below, beyond) refl

level-same : (x y alike : Bool) → x ≡ y → alike ≡ true → by_level x y alike ≡ true
level-same true true alike same is = is
level-same true false alike same is = absurd (cc)
level-same false true alike same is = absurd (cc)
level-same false false alike same is = is

level-last : (x y alike : Bool) → x ≡ true → y ≡ false → by_level x y alike ≡ false
level-last x y alike beyond below = rw (beyond, below) refl

level-same_not : (x y alike : Bool) → x ≡ y → alike ≡ false → by_level x y alike ≡ false
level-same_not true true alike same is = is
level-same_not true false alike same is = absurd (cc)
level-same_not false true alike same is = absurd (cc)
level-same_not false false alike same is = is

level-cases : (x y alike : Bool) → by_level x y alike ≡ true → ((x ≡ false) × (y ≡ true)) ⊎ ((x ≡ y) × (alike ≡ true))
level-cases true true alike is = inr (refl, is)
level-cases true false alike is = absurd (cc)
level-cases false true alike is = inl (refl, refl)
level-cases false false alike is = inr (refl, is)

pub alike-higher : (a b : Claim) → a.priority < b.priority → goes_before_alike a b ≡ true
alike-higher a b higher = grind (arith, common_steps, higher)

pub alike-fewer : (a b : Claim) → a.priority ≡ b.priority → a.gets < b.gets → goes_before_alike a b ≡ true
alike-fewer a b same fewer = grind (arith, common_steps, same, fewer)

pub alike-holds : (a b : Claim) → a.priority ≡ b.priority → a.gets ≡ b.gets → a.moves ≡ false → b.moves ≡ true → goes_before_alike a b ≡ true
alike-holds a b same equal holds moves = grind (arith, common_steps, same, equal, holds, moves)

pub alike-not_lower : (a b : Claim) → b.priority < a.priority → goes_before_alike a b ≡ false
alike-not_lower a b lower = grind (arith, common_steps, lower)

pub alike-not_more : (a b : Claim) → a.priority ≡ b.priority → b.gets < a.gets → goes_before_alike a b ≡ false
alike-not_more a b same more = grind (arith, common_steps, same, more)

pub alike-not_moves : (a b : Claim) → a.priority ≡ b.priority → a.gets ≡ b.gets → b.moves ≡ false → goes_before_alike a b ≡ false
alike-not_moves a b same equal stays = grind (arith, common_steps, same, equal, stays)

pub alike-not_holds : (a b : Claim) → a.priority ≡ b.priority → a.gets ≡ b.gets → a.moves ≡ true → goes_before_alike a b ≡ false
alike-not_holds a b same equal moves = grind (arith, common_steps, same, equal, moves)

alike-moves : (a b : Claim) → a.priority ≡ b.priority → a.gets ≡ b.gets → goes_before_alike a b ≡ true → (a.moves ≡ false) × (b.moves ≡ true)
alike-moves a b same equal is = (grind (arith, common_steps, same, equal, is), grind (arith, common_steps, same, equal, is))

abbrev pub IsAlikeBefore : Claim → Claim → Type 0
IsAlikeBefore a b =
    (a.priority < b.priority) ⊎ (((a.priority ≡ b.priority) × (a.gets < b.gets)) ⊎ ((a.priority ≡ b.priority) × (a.gets ≡ b.gets) × (a.moves ≡ false) × (b.moves ≡ true)))

alike-cases : (a b : Claim) → goes_before_alike a b ≡ true → IsAlikeBefore a b
alike-cases a b is =
    elim (cases_order a.priority b.priority) [
      | inl same ↦ elim (cases_order a.gets b.gets) [
        | inl equal ↦ (let both = alike-moves a b same equal is in inr (inr (same, equal, both.0, both.1)))
        | inr other ↦ elim other [
          | inl fewer ↦ inr (inl (same, fewer))
          | inr more ↦ (let none = alike-not_more a b same more in absurd (cc))
        ]
      ]
      | inr other ↦ elim other [
        | inl higher ↦ inl higher
        | inr lower ↦ (let none = alike-not_lower a b lower in absurd (cc))
      ]
    ]

alike-trans_cases : (a b c : Claim) → IsAlikeBefore a b → IsAlikeBefore b c → goes_before_alike a c ≡ true
alike-trans_cases a b c (inl x) (inl y) = alike-higher a c (omega arith)
alike-trans_cases a b c (inl x) (inr (inl y)) = alike-higher a c (let e = y.0 in omega arith)
alike-trans_cases a b c (inl x) (inr (inr y)) = alike-higher a c (let e = y.0 in omega arith)
alike-trans_cases a b c (inr (inl x)) (inl y) = alike-higher a c (let e = x.0 in omega arith)
alike-trans_cases a b c (inr (inl x)) (inr (inl y)) = alike-fewer a c (x.0 ∙ y.0) (let d = x.1 in let e = y.1 in omega arith)
alike-trans_cases a b c (inr (inl x)) (inr (inr y)) = alike-fewer a c (x.0 ∙ y.0) (let d = x.1 in let e = y.1 in omega arith)
alike-trans_cases a b c (inr (inr x)) (inl y) = alike-higher a c (let e = x.0 in omega arith)
alike-trans_cases a b c (inr (inr x)) (inr (inl y)) = alike-fewer a c (x.0 ∙ y.0) (let d = x.1 in let e = y.1 in omega arith)
alike-trans_cases a b c (inr (inr x)) (inr (inr y)) = alike-holds a c (x.0 ∙ y.0) (x.1 ∙ y.1) x.2 y.3

pub before-level : (a b : Claim) → a.beyond ≡ false → b.beyond ≡ true → goes_before a b ≡ true
before-level a b below beyond = level-first a.beyond b.beyond (goes_before_alike a b) below beyond

pub before-alike : (a b : Claim) → a.beyond ≡ b.beyond → goes_before_alike a b ≡ true → goes_before a b ≡ true
before-alike a b same is = level-same a.beyond b.beyond (goes_before_alike a b) same is

pub not_before-level : (a b : Claim) → a.beyond ≡ true → b.beyond ≡ false → goes_before a b ≡ false
not_before-level a b beyond below = level-last a.beyond b.beyond (goes_before_alike a b) beyond below

pub not_before-alike : (a b : Claim) → a.beyond ≡ b.beyond → goes_before_alike a b ≡ false → goes_before a b ≡ false
not_before-alike a b same is = level-same_not a.beyond b.beyond (goes_before_alike a b) same is

before-cases : (a b : Claim) → goes_before a b ≡ true
    → ((a.beyond ≡ false) × (b.beyond ≡ true)) ⊎ ((a.beyond ≡ b.beyond) × (goes_before_alike a b ≡ true))
before-cases a b is = level-cases a.beyond b.beyond (goes_before_alike a b) is

pub goes_before-trans : (a b c : Claim) → goes_before a b ≡ true → goes_before b c ≡ true → goes_before a c ≡ true
goes_before-trans a b c first second =
    elim (before-cases a b first) [
      | inl x ↦ elim (before-cases b c second) [
        | inl y ↦ before-level a c x.0 y.1
        | inr y ↦ before-level a c x.0 (sym y.0 ∙ x.1)
      ]
      | inr x ↦ elim (before-cases b c second) [
        | inl y ↦ before-level a c (x.0 ∙ y.0) y.1
        | inr y ↦ before-alike a c (x.0 ∙ y.0) (alike-trans_cases a b c (alike-cases a b x.1) (alike-cases b c y.1))
      ]
    ]

level-cotrans : (x y z first second third : Bool) → (first ≡ true → second ≡ false → third ≡ true)
    → by_level x z first ≡ true → by_level y z second ≡ false → by_level x y third ≡ true
level-cotrans true true true first second third alike is is_not = alike is is_not
level-cotrans true true false first second third alike is is_not = absurd (cc)
level-cotrans true false true first second third alike is is_not = absurd (cc)
level-cotrans true false false first second third alike is is_not = absurd (cc)
level-cotrans false true true first second third alike is is_not = refl
level-cotrans false true false first second third alike is is_not = refl
level-cotrans false false true first second third alike is is_not = absurd (cc)
level-cotrans false false false first second third alike is is_not = alike is is_not

not_both : (t : Bool) → t ≡ true → t ≡ false → ⊥
not_both t is is_not = false≢true (sym is_not ∙ is)

alike-cotrans_cases : (a b c : Claim) → IsAlikeBefore a c → goes_before_alike b c ≡ false → a.priority ≡ b.priority
    → (a.gets ≡ b.gets) ⊎ (b.gets < a.gets) → goes_before_alike a b ≡ true
alike-cotrans_cases a b c (inl x) is_not same gets = absurd (not_both _ (alike-higher b c (omega arith)) is_not)
alike-cotrans_cases a b c (inr (inl x)) is_not same (inl gets) = absurd (not_both _ (alike-fewer b c (sym same ∙ x.0) (let e = x.1 in omega arith)) is_not)
alike-cotrans_cases a b c (inr (inl x)) is_not same (inr gets) = absurd (not_both _ (alike-fewer b c (sym same ∙ x.0) (let e = x.1 in omega arith)) is_not)
alike-cotrans_cases a b c (inr (inr x)) is_not same (inr gets) = absurd (not_both _ (alike-fewer b c (sym same ∙ x.0) (let e = x.1 in omega arith)) is_not)
alike-cotrans_cases a b c (inr (inr x)) is_not same (inl gets) =
    elim (cases_Bool b.moves) [
      | inl moves ↦ alike-holds a b same gets x.2 moves
      | inr holds ↦ absurd (not_both _ (alike-holds b c (sym same ∙ x.0) (sym gets ∙ x.1) holds x.3) is_not)
    ]

-- no lower, as it is before c
alike-priority : (a c : Claim) → IsAlikeBefore a c → a.priority ≤ c.priority
alike-priority a c (inl x) = omega arith
alike-priority a c (inr (inl x)) = (let e = x.0 in omega arith)
alike-priority a c (inr (inr x)) = (let e = x.0 in omega arith)

alike-cotrans : (a b c : Claim) → goes_before_alike a c ≡ true → goes_before_alike b c ≡ false → goes_before_alike a b ≡ true
alike-cotrans a b c is is_not =
    let before : IsAlikeBefore a c = alike-cases a c is in
    elim (cases_order a.priority b.priority) [
      | inl same ↦ elim (cases_order a.gets b.gets) [
        | inl equal ↦ alike-cotrans_cases a b c before is_not same (inl equal)
        | inr other ↦ elim other [
          | inl fewer ↦ alike-fewer a b same fewer
          | inr more ↦ alike-cotrans_cases a b c before is_not same (inr more)
        ]
      ]
      | inr other ↦ elim other [
        | inl higher ↦ alike-higher a b higher
        | inr lower ↦ (let le : a.priority ≤ c.priority = alike-priority a c before in absurd (not_both _ (alike-higher b c (omega arith)) is_not))
      ]
    ]

-- a claim that goes before another goes before each that doesn't
pub goes_before-cotrans : (a b c : Claim) → goes_before a c ≡ true → goes_before b c ≡ false → goes_before a b ≡ true
goes_before-cotrans a b c is is_not =
    level-cotrans a.beyond b.beyond c.beyond (goes_before_alike a c) (goes_before_alike b c) (goes_before_alike a b)
    (alike-cotrans a b c) is is_not

pub goes_before-same : (a : Claim) → goes_before a a ≡ false
goes_before-same a = grind (arith, common_steps)

-- the reserve of a client that gets `gets` cores
pub level-below : (client : Client) (gets : ℕ) → gets < reserve_of client → (claim_of client gets).beyond ≡ false
level-below client gets h = grind (arith, common_steps, h)

pub level-beyond : (client : Client) (gets : ℕ) → reserve_of client ≤ gets → (claim_of client gets).beyond ≡ true
level-beyond client gets h = grind (arith, common_steps, h)

-- a client that has less than its reserve goes before one that has not
pub goes_before-reserve : (client other : Client) (gets before : ℕ) → gets < reserve_of client → reserve_of other ≤ before
    → goes_before (claim_of client gets) (claim_of other before) ≡ true
goes_before-reserve client other gets before below beyond =
    before-level (claim_of client gets) (claim_of other before) (level-below client gets below) (level-beyond other before beyond)

-- a claim that would be before another if both or neither had their reserves is before it if the other has its own
before-beyond : (client other : Client) (gets before : ℕ) → reserve_of other ≤ before
    → goes_before_alike (claim_of client gets) (claim_of other before) ≡ true → goes_before (claim_of client gets) (claim_of other before) ≡ true
before-beyond client other gets before beyond is =
    elim (cases_lt gets (reserve_of client)) [
      | inl below ↦ goes_before-reserve client other gets before below beyond
      | inr has ↦ before-alike (claim_of client gets) (claim_of other before) (level-beyond client gets has ∙ sym (level-beyond other before beyond)) is
    ]

-- and so it is if the first is below its own
before-below : (client other : Client) (gets before : ℕ) → gets < reserve_of client
    → goes_before_alike (claim_of client gets) (claim_of other before) ≡ true → goes_before (claim_of client gets) (claim_of other before) ≡ true
before-below client other gets before below is =
    elim (cases_lt before (reserve_of other)) [
      | inl both ↦ before-alike (claim_of client gets) (claim_of other before) (level-below client gets below ∙ sym (level-below other before both)) is
      | inr has ↦ goes_before-reserve client other gets before below has
    ]

-- a client that has less than its reserve and a higher priority goes before each of a lower one
pub goes_before-short : (client other : Client) (gets before : ℕ) → gets < reserve_of client → client.priority < other.priority
    → goes_before (claim_of client gets) (claim_of other before) ≡ true
goes_before-short client other gets before below higher =
    before-below client other gets before below (alike-higher (claim_of client gets) (claim_of other before) higher)

-- the higher priority goes before a client that has its reserve
pub goes_before-higher : (client other : Client) (gets before : ℕ) → reserve_of other ≤ before → client.priority < other.priority
    → goes_before (claim_of client gets) (claim_of other before) ≡ true
goes_before-higher client other gets before beyond higher =
    before-beyond client other gets before beyond (alike-higher (claim_of client gets) (claim_of other before) higher)

-- of one priority, a client that gets fewer goes before one that has its reserve
pub goes_before-fewer : (client other : Client) (gets before : ℕ) → reserve_of other ≤ before → client.priority ≡ other.priority
    → gets < before → goes_before (claim_of client gets) (claim_of other before) ≡ true
goes_before-fewer client other gets before beyond same fewer =
    before-beyond client other gets before beyond (alike-fewer (claim_of client gets) (claim_of other before) same fewer)

-- and a client that has less than its reserve goes before each that gets more
pub goes_before-fewer_below : (client other : Client) (gets before : ℕ) → gets < reserve_of client → client.priority ≡ other.priority
    → gets < before → goes_before (claim_of client gets) (claim_of other before) ≡ true
goes_before-fewer_below client other gets before below same fewer =
    before-below client other gets before below (alike-fewer (claim_of client gets) (claim_of other before) same fewer)

-- `moves` is true if the next core would be one that the client does not hold
pub moves-held : (client : Client) (gets : ℕ) → gets < client.held → (claim_of client gets).moves ≡ false
moves-held client gets h = grind (arith, common_steps, h)

pub moves-new : (client : Client) (gets : ℕ) → client.held ≤ gets → (claim_of client gets).moves ≡ true
moves-new client gets h = grind (arith, common_steps, h)

alike-holds_it : (client other : Client) (gets before : ℕ) → client.priority ≡ other.priority → gets ≡ before
    → gets < client.held → other.held ≤ before → goes_before_alike (claim_of client gets) (claim_of other before) ≡ true
alike-holds_it client other gets before same equal holds new =
    alike-holds (claim_of client gets) (claim_of other before) same equal (moves-held client gets holds) (moves-new other before new)

-- of one priority and as many cores, who holds the next one goes before who does not
pub goes_before-holds : (client other : Client) (gets before : ℕ) → reserve_of other ≤ before → client.priority ≡ other.priority
    → gets ≡ before → gets < client.held → other.held ≤ before → goes_before (claim_of client gets) (claim_of other before) ≡ true
goes_before-holds client other gets before beyond same equal holds new =
    before-beyond client other gets before beyond (alike-holds_it client other gets before same equal holds new)

pub goes_before-holds_below : (client other : Client) (gets before : ℕ) → gets < reserve_of client → client.priority ≡ other.priority
    → gets ≡ before → gets < client.held → other.held ≤ before → goes_before (claim_of client gets) (claim_of other before) ≡ true
goes_before-holds_below client other gets before below same equal holds new =
    before-below client other gets before below (alike-holds_it client other gets before same equal holds new)

-- with one core more a client's claim is a later one
pub goes_before-more : (client : Client) (gets : ℕ) → goes_before (claim_of client gets) (claim_of client (gets + 1)) ≡ true
goes_before-more client gets =
    elim (cases_lt gets (reserve_of client)) [
      | inl below ↦ goes_before-fewer_below client client gets (gets + 1) below refl (omega arith)
      | inr beyond ↦ goes_before-fewer client client gets (gets + 1) (omega arith) refl (omega arith)
    ]

-- if an earlier claim doesn't go before this one, no later one does
pub goes_before-later : (earlier later claim : Claim) → goes_before earlier later ≡ true → goes_before earlier claim ≡ false
    → goes_before later claim ≡ false
goes_before-later earlier later claim before none =
    elim (cases_Bool (goes_before later claim)) [
      | inl is ↦ (let both = goes_before-trans earlier later claim before is in absurd (false≢true (sym none ∙ both)))
      | inr is ↦ is
    ]

-- if this claim doesn't go before a later one, it goes before no earlier one
pub goes_before-earlier : (claim earlier later : Claim) → goes_before earlier later ≡ true → goes_before claim later ≡ false
    → goes_before claim earlier ≡ false
goes_before-earlier claim earlier later before none =
    elim (cases_Bool (goes_before claim earlier)) [
      | inl is ↦ (let both = goes_before-trans claim earlier later is before in absurd (false≢true (sym none ∙ both)))
      | inr is ↦ is
    ]
