-- For each step on a cell, a relation between the seat before it, the word that was found, and the seat after it.
use Rattle.std.specs.Prelude.{◌≡◌, ◌≢◌, ◌≤◌, ℕ, [], ◌∷◌, Option, Some, None}
use Rattle.atomic_table.specs.Table.{Me}
use Rattle.arachne_join.specs.declared.view.Role.{Role, TheVariants.{Sender, Fetched, Saw, Never}}
use Rattle.arachne_join.specs.{declared.view.View.View, States.state_of, Views.view}

-- the role of the seat that fetched, after another seat with this role was joined into it: they can't both have fetched
abbrev pub joined_role : Role → Role
joined_role Fetched = Never
joined_role role = Fetched

module _ {T K : Type 0} where
  -- the seat has this role, and holds no slot
  abbrev pub Becomes : Role → Me (Option T) (View K) → Type 0
  Becomes p m = (m.0.role ≡ p) × (m.1 ≡ [])

  -- the seat is the sending end, with the slot, which is empty
  abbrev pub Sends : Me (Option T) (View K) → Type 0
  Sends m = (m.0.role ≡ Sender) × (m.1 ≡ (0, None) ∷ [])

  -- the seat holds the slot, with a value
  abbrev pub HoldsValue : Me (Option T) (View K) → Type 0
  HoldsValue m = (value : T) × (m.1 ≡ (0, Some value) ∷ [])

  -- the seat saw one of the four states, and did nothing else
  abbrev pub Looks : Me (Option T) (View K) → ℕ → Me (Option T) (View K) → Type 0
  Looks m found w = (found ≤ 3) × (w ≡ (view m.0.key (Saw (state_of found)), []))

  -- If the word was as expected, the seat has role p and the slot, with a value of which P is true for the seat's key.
  -- Otherwise it only looked.
  abbrev pub Takes : (K → T → Type 0) → ℕ → Role → Me (Option T) (View K) → ℕ → Me (Option T) (View K) → Type 0
  Takes P expected p m found w =
      (found ≡ expected → (value : T) × (w ≡ (view m.0.key p, (0, Some value) ∷ [])) × ((key : K) → m.0.key ≡ Some key → P key value))
      × (found ≢ expected → Looks m found w)
