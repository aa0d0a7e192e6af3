-- The model of a seat within a call after a step, by what the step says of the seat.
use Rattle.std.proofs.Common.{◌≡◌, ℕ, List, refl, sym, ap, ◌∙◌, subst, Option}
use Rattle.atomic_table.specs.Seated.{TableId}
use Rattle.arachne_weights.specs.Tokens.{held}
use Rattle.arachne_rule.specs.{declared.view.Known.Known, Table.Mine, Plays.IsLive}
use Rattle.arachne_words.specs.Seats.{CallView}

module _ {T : Type 0} where
  abbrev pub view_of : TableId → Mine T → CallView T
  view_of t me = record { table = t; weight = me.0.weight; known = me.0.known; slots = me.1 }

  abbrev pub changed : (Known → Known) → (List (ℕ × Option T) → List (ℕ × Option T)) → CallView T → CallView T
  changed knows carries v = record { table = v.table; weight = v.weight; known = knows v.known; slots = carries v.slots }

  pub live-told : (me : Mine T) (w : ℕ) (k : Known) (l : List (ℕ × Option T)) → me ≡ (held w k, l) → IsLive me
  live-told me w k l e = subst IsLive (sym e) refl

  pub view-told : (t t' : TableId) (before after : Mine T) (v : CallView T) (knows : Known → Known) (carries : List (ℕ × Option T) → List (ℕ × Option T))
      → view_of t before ≡ v → t' ≡ t → after ≡ (held before.0.weight (knows before.0.known), carries before.1)
      → view_of t' after ≡ changed knows carries v
  view-told t t' before after v knows carries is same told =
      (λ i. record { table = same i; weight = (told i).0.weight; known = (told i).0.known; slots = (told i).1 }) ∙ ap (changed knows carries) is
