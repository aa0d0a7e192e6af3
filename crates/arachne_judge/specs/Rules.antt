-- The rules in the order of their numbers, and the first break of a rule in a log.
use Rattle.std.specs.Prelude.{ℕ, Bool, true, false, List, [], ◌∷◌, Option, None, Some}
use Rattle.arachne_judge.specs.declared.rules.Broken.{Broken}
use Rattle.arachne_judge.specs.declared.rules.Rule.{Rule}
use Rattle.arachne_judge.specs.declared.rules.Rule.TheVariants.{OwnCore, InHand, Numbers, Quantum, Due, CoreZero, Parks, Unparks, Alone, Upwards, Places, Waits, Stays, Pulls}

-- all rules
abbrev pub rules : List Rule
rules = OwnCore ∷ InHand ∷ Numbers ∷ Quantum ∷ Due ∷ CoreZero ∷ Parks ∷ Unparks ∷ Alone ∷ Upwards ∷ Places ∷ Waits ∷ Stays ∷ Pulls ∷ []

abbrev pub number_of : Rule → ℕ
number_of OwnCore = 0
number_of InHand = 1
number_of Numbers = 2
number_of Quantum = 3
number_of Due = 4
number_of CoreZero = 5
number_of Parks = 6
number_of Unparks = 7
number_of Alone = 8
number_of Upwards = 9
number_of Places = 10
number_of Waits = 11
number_of Stays = 12
number_of Pulls = 13

-- the first break, given the first one so far and a later one
abbrev pub first_broken : Option Broken → Broken → Option Broken
first_broken None broken = Some broken
first_broken (Some first) broken = Some first

-- the first break, given the first one so far, and one at this entry if a rule is broken there
abbrev pub broken_if : Bool → Option Broken → Broken → Option Broken
broken_if true before broken = first_broken before broken
broken_if false before broken = before
