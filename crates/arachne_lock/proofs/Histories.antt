-- Histories that grow by one event.
use Rattle.std.proofs.Common.{◌≡◌, ℕ, zero, suc, List, [], ◌∷◌, ◌++◌, ◌⊎◌, inl, inr, length, refl, ap, subst, arith, Some, slice_get}
use Rattle.std.proofs.lemmas.Option.{same_Some, none-some, slice_get_within}
use Rattle.arachne_lock.specs.declared.event.QueueEvent.{QueueEvent, TheVariants.Grant}
use Rattle.arachne_lock.specs.Law.{Holding, opening, Allows, after}
use Rattle.arachne_lock.specs.History.{replay_from, replay, IsLawfulFrom, IsLawful, IsQuiet, HoldsSince}

replay_from-push : (h : Holding) (events : List QueueEvent) (event : QueueEvent) → replay_from h (events ++ event ∷ []) ≡ after (replay_from h events) event
replay_from-push h [] event = refl
replay_from-push h (e ∷ events) event = replay_from-push (after h e) events event

pub replay-push : (events : List QueueEvent) (event : QueueEvent) → replay (events ++ event ∷ []) ≡ after (replay events) event
replay-push events event = replay_from-push opening events event

IsLawfulFrom-push : (h : Holding) (events : List QueueEvent) (event : QueueEvent) → IsLawfulFrom h events → Allows (replay_from h events) event
    → IsLawfulFrom h (events ++ event ∷ [])
IsLawfulFrom-push h [] event lawful allowed = (allowed, tt)
IsLawfulFrom-push h (e ∷ events) event lawful allowed = (lawful.0, IsLawfulFrom-push (after h e) events event lawful.1 allowed)

pub IsLawful-push : (events : List QueueEvent) (event : QueueEvent) → IsLawful events → Allows (replay events) event → IsLawful (events ++ event ∷ [])
IsLawful-push events event lawful allowed = IsLawfulFrom-push opening events event lawful allowed

-- the places of a list that grows by one element
pub slice_get-push_old : {X : Type 0} (xs : List X) (y x : X) (k : ℕ) → slice_get xs k ≡ Some x → slice_get (xs ++ y ∷ []) k ≡ Some x
slice_get-push_old [] y x k there = absurd (none-some _ there)
slice_get-push_old (z ∷ xs) y x zero there = there
slice_get-push_old (z ∷ xs) y x (suc k) there = slice_get-push_old xs y x k there

pub slice_get-push_new : {X : Type 0} (xs : List X) (y : X) → slice_get (xs ++ y ∷ []) (length xs) ≡ Some y
slice_get-push_new [] y = refl
slice_get-push_new (z ∷ xs) y = slice_get-push_new xs y

pub slice_get-push_cases : {X : Type 0} (xs : List X) (y x : X) (k : ℕ) → slice_get (xs ++ y ∷ []) k ≡ Some x
    → (slice_get xs k ≡ Some x) ⊎ ((k ≡ length xs) × (y ≡ x))
slice_get-push_cases [] y x zero there = inr (refl, same_Some _ _ there)
slice_get-push_cases [] y x (suc k) there = absurd (none-some _ there)
slice_get-push_cases (z ∷ xs) y x zero there = inl there
slice_get-push_cases (z ∷ xs) y x (suc k) there =
    elim (slice_get-push_cases xs y x k there) [ inl old ↦ inl old | inr new ↦ inr (ap suc new.0, new.1) ]

-- an ask or a leave keeps the holder
pub HoldsSince-quiet : (events : List QueueEvent) (event : QueueEvent) (who at : ℕ) → IsQuiet event → HoldsSince events who at → HoldsSince (events ++ event ∷ []) who at
HoldsSince-quiet events quiet who at is holds = record {
  granted = slice_get-push_old events quiet (Grant who) at holds.granted;
  since = λ k event later there.
      elim (slice_get-push_cases events quiet event k there) [
        | inl old ↦ holds.since k event later old
        | inr new ↦ subst IsQuiet new.1 is
      ];
}

-- a grant makes a new one
pub HoldsSince-grant : (events : List QueueEvent) (who : ℕ) → HoldsSince (events ++ Grant who ∷ []) who (length events)
HoldsSince-grant events who = record {
  granted = slice_get-push_new events (Grant who);
  since = λ k event later there.
      elim (slice_get-push_cases events (Grant who) event k there) [
        | inl old ↦ absurd (omega (arith, slice_get_within events k event old))
        | inr new ↦ absurd (omega arith)
      ];
}
