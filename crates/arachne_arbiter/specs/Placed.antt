-- The result of looking for a place: a claim, none, or a refusal of memory.
use Rattle.std.specs.Prelude.{◌≡◌, ℕ, ◌<◌, List, ◌∷◌, Option, Some, None, Result, Ok, Err, IfOk, IfSome}
use Rattle.arachne_core.specs.declared.place.Place.{Place}
use Rattle.arachne_contexts.specs.Out.{Out, Claim}

module _ {C H : Type 0} where
  -- with the new claim, if there is one
  abbrev pub with_place : {E : Type 0} → Result (Option C) E → List (Out C H) → List (Out C H)
  with_place (Ok (Some claim)) outs = Claim claim ∷ outs
  with_place (Ok None) outs = outs
  with_place (Err error) outs = outs

-- the new claim, if there is one, is out with the seat, beside what was out before
abbrev pub GetsPlace : {Seat C H E : Type 0} → (Seat → List (Out C H) → Type 0) → Seat → Seat → Result (Option C) E → Type 0
GetsPlace {Seat} {C} {H} has old new answer = (outs : List (Out C H)) → has old outs → has new (with_place answer outs)

module _ {C E : Type 0} (place_of : C → Place) where
  -- the claim, if there is one, is on this core
  abbrev pub IsOnCore : ℕ → Result (Option C) E → Type 0
  IsOnCore core answer = IfOk answer (λ place. IfSome place (λ claim. (place_of claim).core ≡ core))

  -- the claim, if there is one, is on one of `cores` cores
  abbrev pub IsOnSomeCore : ℕ → Result (Option C) E → Type 0
  IsOnSomeCore cores answer = IfOk answer (λ place. IfSome place (λ claim. (place_of claim).core < cores))

  -- the claim, if there is one, is this core's index 0
  abbrev pub IsAtStartOf : ℕ → Result (Option C) E → Type 0
  IsAtStartOf core answer = IfOk answer (λ place. IfSome place (λ claim. place_of claim ≡ record { core = core; index = 0 }))

  -- the claim, if there is one, is index 0 of one of `cores` cores
  abbrev pub IsAtStartOfSome : ℕ → Result (Option C) E → Type 0
  IsAtStartOfSome cores answer =
      IfOk answer (λ place. IfSome place (λ claim. ((place_of claim).core < cores) × ((place_of claim).index ≡ 0)))
