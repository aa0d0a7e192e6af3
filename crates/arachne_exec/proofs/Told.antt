-- What a step tells, as a contract sees the seat.
use Rattle.std.proofs.Common.{◌≡◌, ℕ, List, sym, refl, ap, ◌∙◌, subst}
use Rattle.std.specs.Int.{bit_at}
use mathlib.Core.Logic.{dite}
use native.Mathlib.Decide.{ℕ_discrete}
use Rattle.atomic_table.specs.Seated.{TableId}
use Rattle.arachne_weights.specs.Tokens.{held}
use Rattle.arachne_exec.specs.{declared.view.Notes.Notes, Steps.{Mine, IsLive}, Seats.CallView}
use Rattle.arachne_exec.proofs.Bits.{not_one}

pub live-told : (me : Mine) (w : ℕ) (k : Notes) (slots : List (ℕ × ℕ)) → me ≡ (held w k, slots) → IsLive me
live-told me w k slots e = subst IsLive (sym e) refl

abbrev pub view_of : TableId → Mine → CallView
view_of table me = record { table = table; weight = me.0.weight; known = me.0.known; slots = me.1 }

pub told-view : (home then : TableId) (me after : Mine) (view : CallView) → view_of home me ≡ view → then ≡ home → (F : Notes → Notes) (G : List (ℕ × ℕ) → List (ℕ × ℕ))
    → after ≡ (held me.0.weight (F me.0.known), G me.1) → view_of then after ≡ record view { known = F view.known; slots = G view.slots }
told-view home then me after view seen same F G told =
    (λ i. view_of (same i) (told i)) ∙ ap (λ (v : CallView). record v { known = F v.known; slots = G v.slots }) seen

-- a step that changes the seat only where a bit is clear
pub live-either : (found i : ℕ) (before after : Mine) (k : Notes) → IsLive before → (bit_at found i ≡ 1 → after ≡ before) × (bit_at found i ≡ 0 → after ≡ (held before.0.weight k, before.1)) → IsLive after
live-either found i before after k live told = dite (ℕ_discrete (bit_at found i) 1)
    (λ there. subst IsLive (sym (told.0 there)) live)
    (λ other. live-told after before.0.weight k before.1 (told.1 (not_one found i other)))
