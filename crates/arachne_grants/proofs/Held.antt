-- The cores that clients hold are counted.
use Rattle.std.proofs.Common.{◌≡◌, ℕ, ◌+◌, ◌<◌, Option, List, length, set, refl, ap, ◌∙◌, arith, below_more}
use Rattle.std.proofs.lemmas.List.{get_or-set_same, get_or-set_other}
use Rattle.arachne_grants.specs.declared.claims.Client.{Client}
use Rattle.arachne_grants.specs.Grants.{client_at}
use Rattle.arachne_grants.specs.Owners.{held_by, AreHeld}

pub AreHeld-none : (clients : List Client) (owners : List (Option ℕ)) → AreHeld clients clients owners 0
AreHeld-none clients owners = record {
  held = λ client h. absurd (omega arith);
  rest = λ client h. refl;
}

pub AreHeld-more : (old new : List Client) (owners : List (Option ℕ)) (n held : ℕ) → AreHeld old new owners n → n < length new
    → held ≡ held_by owners n → AreHeld old (set new n (record (client_at new n) { held = held })) owners (n + 1)
AreHeld-more old new owners n held was h counts =
    let client : Client = record (client_at new n) { held = held } in
    record {
      held = below_more (λ (k : ℕ). client_at (set new n client) k ≡ record (client_at old k) { held = held_by owners k }) n
          (λ k below. get_or-set_other new n k client _ (λ same. omega arith) ∙ was.held k below)
          (get_or-set_same new n client _ h
          ∙ ap (λ (c : Client). let r : Client = record c { held = held } in r) (was.rest n (omega arith))
          ∙ ap (λ (m : ℕ). let r : Client = record (client_at old n) { held = m } in r) counts);
      rest = λ k after. get_or-set_other new n k client _ (λ same. omega arith) ∙ was.rest k (omega arith);
    }
