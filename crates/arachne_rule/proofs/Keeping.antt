-- A step that may come next, and after which the World of its event is shown, keeps the rule with its history.
use Rattle.std.proofs.Common.{◌≡◌, ℕ, List, length, refl, subst, Option}
use mathlib.Core.Option.{some}
use lib.ListN.{get_elem?}
use Rattle.atomic_table.specs.Table.{Act, homes_after}
use Rattle.arachne_core.specs.World.{after}
use Rattle.arachne_weights.specs.Tokens.{held}
use Rattle.arachne_rule.specs.{declared.view.{Known.Known, Shape.Shape}, Rule.{Phase, Shows}}
use Rattle.arachne_rule.specs.{Layout.{contexts_in, board_of}, History.{Entry, Makes, IsNext}}
use Rattle.arachne_rule.{specs.Table.{Table, Holds, HoldsAfter, after_step}, proofs.Stepping.makes-step}

module _ {T : Type 0} (tag_in : T → ℕ) (bits : ℕ) (shape : Shape) (s : Table T) (rule : Holds tag_in bits shape s) (weight : ℕ) (k known : Known)
    (e : Entry) (slots : List (ℕ × Option T)) (act : Act (Option T)) (d : ℕ → Phase) where
  -- the step, which found this number
  abbrev found-as : ℕ → Entry
  found-as before = record e { step = record e.step { before = before } }

  abbrev Kept : ℕ → Type 0
  Kept before = Makes bits rule.world (found-as before)
      → Shows tag_in bits (after rule.world e.event) d (board_of (contexts_in shape) (after_step s (found-as before) weight known slots act))
      → HoldsAfter tag_in bits shape rule (found-as before) (after_step s (found-as before) weight known slots act)

  pub step-kept : get_elem? s.views e.seat ≡ some (held weight k) → known.records ≡ k.records → IsNext bits rule.world s.words e
      → length (homes_after s.homes slots act) ≡ length s.homes
      → Shows tag_in bits (after rule.world e.event) d (board_of (contexts_in shape) (after_step s e weight known slots act))
      → HoldsAfter tag_in bits shape rule e (after_step s e weight known slots act)
  unfolding makes-step
  step-kept mine kept next homes shows =
      subst Kept next.found (λ makes shown. record {
        rule = makes-step tag_in bits shape s rule e.seat weight k mine e.step.kind e.step.word e.step.after slots act e.event d known kept next.allowed makes homes shown;
        history = refl;
        world = refl;
      }) next.makes shows
