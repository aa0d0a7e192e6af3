-- No other numbers with the same properties let more cores stay with their clients.
use Rattle.std.proofs.Common.{◌≡◌, ℕ, zero, suc, ◌+◌, ◌-◌, ◌<◌, ◌≤◌, ◌⊎◌, min, List, [], ◌∷◌, length, sum, arith, inl, inr, sym, below_more}
use Rattle.std.proofs.lemmas.Bool.{cases_lt, cases_order}
use Rattle.std.proofs.lemmas.List.Sums.{sum_by-cons}
use Rattle.arachne_grants.specs.declared.claims.Client.{Client}
use Rattle.arachne_grants.specs.Claims.{reserve_of}
use Rattle.arachne_grants.specs.Grants.{client_at, target_at, AsksForMore, IsInOrder, IsUsed, AreGrants, IsLeast, kept}
use Rattle.arachne_grants.proofs.ClaimOrder.{goes_before-reserve, goes_before-short, goes_before-higher, goes_before-fewer, goes_before-fewer_below, goes_before-holds, goes_before-holds_below}
use Rattle.arachne_grants.proofs.Promises.{contradicts}

-- if nobody keeps more, no more are kept
kept-le : (clients : List Client) (targets other : List ℕ) → length targets ≡ length clients → length other ≡ length clients
    → ((k : ℕ) → k < length clients → min (target_at other k) (client_at clients k).held ≤ min (target_at targets k) (client_at clients k).held)
    → kept clients other ≤ kept clients targets
kept-le [] targets other sized same each = omega arith
kept-le (client ∷ clients) [] other sized same each = absurd (omega arith)
kept-le (client ∷ clients) (t ∷ targets) [] sized same each = absurd (omega arith)
kept-le (client ∷ clients) (t ∷ targets) (u ∷ other) sized same each =
    let rest = kept-le clients targets other (omega arith) (omega arith) (λ k h. each (suc k) (omega arith)) in
    let here : min u client.held ≤ min t client.held = each zero (omega arith) in
    omega arith

-- if nobody keeps more than it gets more, all together keep no more than they get more
kept-le-sum : (clients : List Client) (targets other : List ℕ) → length targets ≡ length clients → length other ≡ length clients
    → ((k : ℕ) → k < length clients → min (target_at other k) (client_at clients k).held + target_at targets k ≤ min (target_at targets k) (client_at clients k).held + target_at other k)
    → kept clients other + sum targets ≤ kept clients targets + sum other
kept-le-sum [] [] [] sized same each = omega arith
kept-le-sum [] (t ∷ targets) other sized same each = absurd (omega arith)
kept-le-sum [] [] (u ∷ other) sized same each = absurd (omega arith)
kept-le-sum (client ∷ clients) [] other sized same each = absurd (omega arith)
kept-le-sum (client ∷ clients) (t ∷ targets) [] sized same each = absurd (omega arith)
kept-le-sum (client ∷ clients) (t ∷ targets) (u ∷ other) sized same each =
    let rest = kept-le-sum clients targets other (omega arith) (omega arith) (λ k h. each (suc k) (omega arith)) in
    let here : min u client.held + t ≤ min t client.held + u = each zero (omega arith) in
    let of_targets = sum_by-cons (λ n. n) t targets in
    let of_other = sum_by-cons (λ n. n) u other in
    omega arith

-- the client there keeps more by the other numbers
abbrev pub Gains : List Client → List ℕ → List ℕ → ℕ → Type 0
Gains clients targets other k = (target_at targets k < target_at other k) × (target_at targets k < (client_at clients k).held)

gains-either : (clients : List Client) (targets other : List ℕ) (k : ℕ)
    → Gains clients targets other k ⊎ (min (target_at other k) (client_at clients k).held ≤ min (target_at targets k) (client_at clients k).held)
gains-either clients targets other k =
    elim (cases_lt (target_at targets k) (target_at other k)) [
      | inl more ↦ elim (cases_lt (target_at targets k) (client_at clients k).held) [
        | inl holds ↦ inl (more, holds)
        | inr none ↦ inr (omega arith)
      ]
      | inr less ↦ inr (omega arith)
    ]

-- either one of the first n keeps more, or none of them does
someone-gains : (clients : List Client) (targets other : List ℕ) (n : ℕ)
    → ((k : ℕ) × ((k < n) × Gains clients targets other k))
    ⊎ ((k : ℕ) → k < n → min (target_at other k) (client_at clients k).held ≤ min (target_at targets k) (client_at clients k).held)
someone-gains clients targets other zero = inr (λ k h. absurd (omega arith))
someone-gains clients targets other (suc n) =
    elim (someone-gains clients targets other n) [
      | inl found ↦ inl (found.0, ((let h = found.1.0 in omega arith), found.1.1))
      | inr none ↦ elim (gains-either clients targets other n) [
        | inl gains ↦ inl (n, (omega arith, gains))
        | inr kept ↦ inr (λ k h. below_more (λ (k : ℕ). min (target_at other k) (client_at clients k).held ≤ min (target_at targets k) (client_at clients k).held) n none kept k (omega arith))
      ]
    ]

-- whoever gets fewer by the other numbers, while b keeps one more by them, has held what it loses: else b would have
-- had the first claim to it
loses-held : (clients : List Client) (cores : ℕ) (targets other : List ℕ) (a b : ℕ) → IsInOrder clients targets
    → ((k : ℕ) → k < length clients → target_at targets k ≤ (client_at clients k).asks)
    → AreGrants clients cores other → a < length clients → b < length clients
    → target_at other a < target_at targets a → Gains clients targets other b
    → target_at targets a ≤ (client_at clients a).held
loses-held clients cores targets other a b order each grants within_a within_b loses gains =
    let ca = client_at clients a in
    let cb = client_at clients b in
    let n : ℕ = target_at targets a - 1 in
    let m : ℕ = target_at targets b in
    let more_b : AsksForMore clients targets b = (within_b, (let h = grants.bounded.each b within_b in let g = gains.0 in omega arith)) in
    let more_a : AsksForMore clients other a = (within_a, (let h = each a within_a in omega arith)) in
    let wrong = contradicts clients targets b a order more_b within_a (omega arith) in
    let gains_more : target_at targets b < target_at other b = gains.0 in
    elim (cases_lt (client_at clients a).held (target_at targets a)) [
      | inr enough ↦ enough
      | inl few ↦ absurd (elim (cases_lt (target_at targets b) (reserve_of cb)) [
        | inl below ↦ elim (cases_lt n (reserve_of ca)) [
          | inr beyond ↦ wrong (goes_before-reserve cb ca m n below beyond)
          | inl below_a ↦
              let short : target_at other a < reserve_of ca = omega arith in
              elim (cases_order cb.priority ca.priority) [
                | inl same ↦ elim (cases_lt m n) [
                  | inl fewer ↦ wrong (goes_before-fewer_below cb ca m n below same fewer)
                  | inr no_fewer ↦
                      let fair : target_at other b ≤ target_at other a + 1 = grants.fair.below a b (within_a, short) within_b (sym same) in
                      wrong (goes_before-holds_below cb ca m n below same (omega arith) gains.1 (omega arith))
                ]
                | inr differ ↦ elim differ [
                  | inl higher ↦ wrong (goes_before-short cb ca m n below higher)
                  | inr lower ↦ (let none : target_at other b ≡ 0 = grants.reserved.short a b (within_a, short) within_b lower in omega arith)
                ]
              ]
        ]
        | inr has ↦
            let beyond_b : reserve_of cb < target_at other b = omega arith in
            elim (cases_lt (target_at other a) (reserve_of ca)) [
              | inl short ↦ grants.reserved.first a b (within_a, short) (within_b, beyond_b)
              | inr has_a ↦
                  let beyond : reserve_of ca ≤ n = omega arith in
                  elim (cases_order cb.priority ca.priority) [
                    | inl same ↦ elim (cases_lt m n) [
                      | inl fewer ↦ wrong (goes_before-fewer cb ca m n beyond same fewer)
                      | inr no_fewer ↦
                          let fair : target_at other b ≤ target_at other a + 1 = grants.fair.beyond a b more_a (within_b, beyond_b) (sym same) in
                          wrong (goes_before-holds cb ca m n beyond same (omega arith) gains.1 (omega arith))
                    ]
                    | inr differ ↦ elim differ [
                      | inl higher ↦ wrong (goes_before-higher cb ca m n beyond higher)
                      | inr lower ↦ grants.priority a b more_a lower (within_b, beyond_b)
                    ]
                  ]
            ]
      ])
    ]

pub IsLeast-in_order : (clients : List Client) (cores : ℕ) (targets : List ℕ) → length targets ≡ length clients
    → ((k : ℕ) → k < length clients → target_at targets k ≤ (client_at clients k).asks)
    → IsUsed clients cores targets → IsInOrder clients targets → IsLeast clients cores targets
IsLeast-in_order clients cores targets sized each used order other grants =
    elim (someone-gains clients targets other (length clients)) [
      | inr none ↦ kept-le clients targets other sized grants.sized none
      | inl found ↦
          let b : ℕ = found.0 in
          let within_b : b < length clients = found.1.0 in
          let gains : Gains clients targets other b = found.1.1 in
          let all : sum targets ≡ cores = used b (within_b, (let h = grants.bounded.each b within_b in let g = gains.0 in omega arith)) in
          let together : sum other ≤ cores = grants.bounded.together in
          let each_k : (k : ℕ) → k < length clients → min (target_at other k) (client_at clients k).held + target_at targets k ≤ min (target_at targets k) (client_at clients k).held + target_at other k =
          λ k h. elim (cases_lt (target_at other k) (target_at targets k)) [
            | inl loses ↦ (let held = loses-held clients cores targets other k b order each grants h within_b loses gains in omega arith)
            | inr more ↦ omega arith
          ] in
          let le = kept-le-sum clients targets other sized grants.sized each_k in
          omega arith
    ]
