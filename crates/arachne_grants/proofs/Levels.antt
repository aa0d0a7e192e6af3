-- All claims before one, given in one step.
use Rattle.std.proofs.Common.{◌≡◌, ℕ, zero, suc, ◌+◌, ◌<◌, ◌≤◌, ◌⊎◌, true, false, max, min, List, [], ◌∷◌, length, take, sum, sum_by, refl, ap, arith, inl, inr, sym, ◌∙◌}
use Rattle.std.proofs.lemmas.Grind.{common_steps}
use Rattle.std.proofs.lemmas.Bool.{cases_Bool, cases_order, cases_lt}
use Rattle.std.proofs.lemmas.List.{take_all}
use Rattle.std.proofs.lemmas.List.Sums.{sum_by-cons}
use Rattle.arachne_grants.specs.declared.claims.Client.{Client}
use Rattle.arachne_grants.specs.declared.claims.Claim.{Claim}
use Rattle.arachne_grants.specs.Claims.{before_alike, claim_of, gets_before, goes_before, goes_before_alike, level_before, reserve_of}
use Rattle.arachne_grants.specs.Grants.{client_at, target_at, claim_at, AsksForMore, AreFilled}
use Rattle.arachne_grants.proofs.ClaimOrder.{alike-higher, alike-fewer, alike-holds, alike-not_holds, alike-not_lower, alike-not_more, alike-not_moves, before-alike, before-level, goes_before-cotrans, goes_before-earlier, level-below, level-beyond, moves-held, moves-new, not_before-alike, not_before-level}
use Rattle.arachne_grants.proofs.Order.{AreSoFar}

-- the level before a claim, by whether the client holds the core there
level-holds : (claim : Claim) (client : Client) → claim.moves ≡ true → claim.gets < client.held → level_before claim client ≡ claim.gets + 1
level-holds claim client moves holds = grind (arith, common_steps, moves, holds)

level-stays : (claim : Claim) (client : Client) → claim.moves ≡ false → level_before claim client ≡ claim.gets
level-stays claim client stays = grind (arith, common_steps, stays)

level-new : (claim : Claim) (client : Client) → client.held ≤ claim.gets → level_before claim client ≡ claim.gets
level-new claim client new = grind (arith, common_steps, new)

abbrev IsLevel : Claim → Client → Type 0
IsLevel claim client =
    ((claim.moves ≡ true) × (claim.gets < client.held) × (level_before claim client ≡ claim.gets + 1))
    ⊎ (((claim.moves ≡ false) ⊎ (client.held ≤ claim.gets)) × (level_before claim client ≡ claim.gets))

level-cases : (claim : Claim) (client : Client) → IsLevel claim client
level-cases claim client =
    elim (cases_Bool claim.moves) [
      | inl moves ↦ elim (cases_lt claim.gets client.held) [
        | inl holds ↦ inl (moves, holds, level-holds claim client moves holds)
        | inr new ↦ inr (inr new, level-new claim client new)
      ]
      | inr stays ↦ inr (inl stays, level-stays claim client stays)
    ]

alike-same : (claim : Claim) (client : Client) (most : ℕ) → client.priority ≡ claim.priority
    → before_alike claim client most ≡ min most (level_before claim client)
alike-same claim client most same = grind (arith, common_steps, same)

alike-all : (claim : Claim) (client : Client) (most : ℕ) → client.priority < claim.priority → before_alike claim client most ≡ most
alike-all claim client most higher = grind (arith, common_steps, higher)

alike-none : (claim : Claim) (client : Client) (most : ℕ) → claim.priority < client.priority → before_alike claim client most ≡ 0
alike-none claim client most lower = grind (arith, common_steps, lower)

alike-most : (claim : Claim) (client : Client) (most : ℕ) → before_alike claim client most ≤ most
alike-most claim client most =
    elim (cases_order client.priority claim.priority) [
      | inl same ↦ (let e = alike-same claim client most same in omega arith)
      | inr other ↦ elim other [
        | inl higher ↦ (let e = alike-all claim client most higher in omega arith)
        | inr lower ↦ (let e = alike-none claim client most lower in omega arith)
      ]
    ]

-- a claim at the level goes before the other only if the client holds the core there
at-level : (claim : Claim) (client : Client) (gets : ℕ) → client.priority ≡ claim.priority → gets ≡ claim.gets
    → gets < level_before claim client → goes_before_alike (claim_of client gets) claim ≡ true
at-level claim client gets same equal below =
    elim (level-cases claim client) [
      | inl holds ↦ alike-holds (claim_of client gets) claim same equal (moves-held client gets (let h = holds.1 in omega arith)) holds.0
      | inr stays ↦ absurd (let e = stays.1 in omega arith)
    ]

level-high : (claim : Claim) (client : Client) (gets : ℕ) → claim.gets < gets → gets < level_before claim client → ⊥
level-high claim client gets more under =
    elim (level-cases claim client) [
      | inl holds ↦ (let e = holds.2 in omega arith)
      | inr stays ↦ (let e = stays.1 in omega arith)
    ]

level-low : (claim : Claim) (client : Client) → claim.gets ≤ level_before claim client
level-low claim client =
    elim (level-cases claim client) [
      | inl holds ↦ (let e = holds.2 in omega arith)
      | inr stays ↦ (let e = stays.1 in omega arith)
    ]

alike-before : (claim : Claim) (client : Client) (most gets : ℕ) → gets < before_alike claim client most
    → goes_before_alike (claim_of client gets) claim ≡ true
alike-before claim client most gets below =
    elim (cases_order client.priority claim.priority) [
      | inl same ↦
          let e = alike-same claim client most same in
          let under : gets < level_before claim client = omega arith in
          elim (cases_order gets claim.gets) [
            | inl equal ↦ at-level claim client gets same equal under
            | inr other ↦ elim other [
              | inl fewer ↦ alike-fewer (claim_of client gets) claim same fewer
              | inr more ↦ absurd (level-high claim client gets more under)
            ]
          ]
      | inr other ↦ elim other [
        | inl higher ↦ alike-higher (claim_of client gets) claim higher
        | inr lower ↦ absurd (let e = alike-none claim client most lower in omega arith)
      ]
    ]

at-level_not : (claim : Claim) (client : Client) (gets : ℕ) → client.priority ≡ claim.priority → gets ≡ claim.gets
    → level_before claim client ≤ gets → goes_before_alike (claim_of client gets) claim ≡ false
at-level_not claim client gets same equal under =
    elim (level-cases claim client) [
      | inl holds ↦ absurd (let e = holds.2 in omega arith)
      | inr stays ↦ elim stays.0 [
        | inl fixed ↦ alike-not_moves (claim_of client gets) claim same equal fixed
        | inr new ↦ alike-not_holds (claim_of client gets) claim same equal (moves-new client gets (omega arith))
      ]
    ]

alike-later : (claim : Claim) (client : Client) (most gets : ℕ) → before_alike claim client most ≤ gets → gets < most
    → goes_before_alike (claim_of client gets) claim ≡ false
alike-later claim client most gets past few =
    elim (cases_order client.priority claim.priority) [
      | inl same ↦
          let e = alike-same claim client most same in
          let under : level_before claim client ≤ gets = omega arith in
          let low = level-low claim client in
          elim (cases_order gets claim.gets) [
            | inl equal ↦ at-level_not claim client gets same equal under
            | inr other ↦ elim other [
              | inl fewer ↦ absurd (omega arith)
              | inr more ↦ alike-not_more (claim_of client gets) claim same more
            ]
          ]
      | inr other ↦ elim other [
        | inl higher ↦ absurd (let e = alike-all claim client most higher in omega arith)
        | inr lower ↦ alike-not_lower (claim_of client gets) claim lower
      ]
    ]

gets-beyond : (claim : Claim) (client : Client) → claim.beyond ≡ true
    → gets_before claim client ≡ max (reserve_of client) (before_alike claim client client.asks)
gets-beyond claim client beyond = rw beyond refl

gets-below : (claim : Claim) (client : Client) → claim.beyond ≡ false
    → gets_before claim client ≡ before_alike claim client (reserve_of client)
gets-below claim client below = rw below refl

-- a client's claims of fewer cores go before the claim
before-gets : (claim : Claim) (client : Client) (gets : ℕ) → gets < gets_before claim client → goes_before (claim_of client gets) claim ≡ true
before-gets claim client gets under =
    elim (cases_Bool claim.beyond) [
      | inl beyond ↦
          let e = gets-beyond claim client beyond in
          elim (cases_lt gets (reserve_of client)) [
            | inl below ↦ before-level (claim_of client gets) claim (level-below client gets below) beyond
            | inr has ↦
                before-alike (claim_of client gets) claim (level-beyond client gets has ∙ sym beyond)
                (alike-before claim client client.asks gets (omega arith))
          ]
      | inr none ↦
          let e = gets-below claim client none in
          let most = alike-most claim client (reserve_of client) in
          before-alike (claim_of client gets) claim (level-below client gets (omega arith) ∙ sym none)
          (alike-before claim client (reserve_of client) gets (omega arith))
    ]

-- and no other claim that it has does
later-gets : (claim : Claim) (client : Client) (gets : ℕ) → gets_before claim client ≤ gets → gets < client.asks
    → goes_before (claim_of client gets) claim ≡ false
later-gets claim client gets past asks =
    elim (cases_Bool claim.beyond) [
      | inl beyond ↦
          let e = gets-beyond claim client beyond in
          let has : reserve_of client ≤ gets = omega arith in
          not_before-alike (claim_of client gets) claim (level-beyond client gets has ∙ sym beyond)
          (alike-later claim client client.asks gets (omega arith) asks)
      | inr none ↦
          let e = gets-below claim client none in
          elim (cases_lt gets (reserve_of client)) [
            | inl below ↦
                not_before-alike (claim_of client gets) claim (level-below client gets below ∙ sym none)
                (alike-later claim client (reserve_of client) gets (omega arith) below)
            | inr has ↦ not_before-level (claim_of client gets) claim (level-beyond client gets has) none
          ]
    ]

gets-asks : (claim : Claim) (client : Client) → gets_before claim client ≤ client.asks
gets-asks claim client =
    elim (cases_Bool claim.beyond) [
      | inl beyond ↦ (let e = gets-beyond claim client beyond in let most = alike-most claim client client.asks in omega arith)
      | inr none ↦ (let e = gets-below claim client none in let most = alike-most claim client (reserve_of client) in omega arith)
    ]

-- numbers that are given in one step are in the order of claims
pub AreSoFar-filled : (clients : List Client) (given : ℕ) (targets : List ℕ) → length targets ≡ length clients → sum targets ≡ given
    → AreFilled clients targets → AreSoFar clients given targets
AreSoFar-filled clients given targets sized total filled =
    let claim : Claim = filled.0 in
    let gets : (place : ℕ) → place < length clients → target_at targets place ≡ gets_before claim (client_at clients place) = filled.1 in
    let later : (place : ℕ) → AsksForMore clients targets place → goes_before (claim_at clients targets place) claim ≡ false =
    λ place more. later-gets claim (client_at clients place) (target_at targets place) (let e = gets place more.0 in omega arith) more.1 in
    let before : (other few : ℕ) → other < length clients → target_at targets other ≡ few + 1 → goes_before (claim_of (client_at clients other) few) claim ≡ true =
    λ other few within is. before-gets claim (client_at clients other) few (let e = gets other within in omega arith) in
    record {
      sized = sized;
      total = total;
      each = λ place within. (let e = gets place within in let most = gets-asks claim (client_at clients place) in omega arith);
      order = λ place other few more within is.
          goes_before-earlier (claim_at clients targets place) (claim_of (client_at clients other) few) claim (before other few within is) (later place more);
      turn = λ place other few more after within is.
          goes_before-cotrans (claim_of (client_at clients other) few) (claim_at clients targets place) claim (before other few within is) (later place more);
    }

pub sum-filled : (claim : Claim) (clients : List Client) (targets : List ℕ) → length targets ≡ length clients
    → ((place : ℕ) → place < length clients → target_at targets place ≡ gets_before claim (client_at clients place))
    → sum targets ≡ sum_by (gets_before claim) clients
sum-filled claim [] [] sized each = refl
sum-filled claim [] (t ∷ targets) sized each = absurd (omega arith)
sum-filled claim (client ∷ clients) [] sized each = absurd (omega arith)
sum-filled claim (client ∷ clients) (t ∷ targets) sized each =
    let rest = sum-filled claim clients targets (omega arith) (λ place h. each (suc place) (omega arith)) in
    let here : t ≡ gets_before claim client = each zero (omega arith) in
    let of_targets = sum_by-cons (λ n. n) t targets in
    let of_clients = sum_by-cons (gets_before claim) client clients in
    omega arith

-- before the first claim goes none
abbrev pub first_claim : Claim
first_claim = record { beyond = false; priority = 0; gets = 0; moves = false }

gets-first : (client : Client) → gets_before first_claim client ≡ 0
gets-first client =
    elim (cases_order client.priority 0) [
      | inl same ↦ (let e = alike-same first_claim client (reserve_of client) same in let d = level-stays first_claim client refl in omega arith)
      | inr other ↦ elim other [
        | inl higher ↦ absurd (omega arith)
        | inr lower ↦ alike-none first_claim client (reserve_of client) lower
      ]
    ]

pub sum-first : (clients : List Client) → sum_by (gets_before first_claim) clients ≡ 0
sum-first [] = refl
sum-first (client ∷ clients) =
    let rest = sum-first clients in
    let here = gets-first client in
    let all = sum_by-cons (gets_before first_claim) client clients in
    omega arith

-- the client at a place that there is not
abbrev pub no_client : Client
no_client = record { priority = 0; reserved = 0; asks = 0; held = 0 }

pub sum-taken : (claim : Claim) (clients : List Client) (n : ℕ) → length clients ≤ n → sum_by (gets_before claim) (take n clients) ≡ sum_by (gets_before claim) clients
sum-taken claim clients n all = ap (sum_by (gets_before claim)) (take_all n clients all)
