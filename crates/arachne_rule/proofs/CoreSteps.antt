-- The conditions of the table for the steps that close or open a core.
use Rattle.std.proofs.Common.{◌≡◌, ℕ, ◌-◌, ◌*◌, ◌<◌, ◌^◌, List, refl, sym, ap, ◌∙◌, subst, arith, inr, Option, bit_and, bit_or}
use mathlib.Core.Option.{none}
use Rattle.atomic_table.specs.Table.{keeps, step, Allows}
use Rattle.arachne_core.specs.declared.event.Event.TheVariants as event
use Rattle.arachne_core.specs.World.{World, after, with_at}
use Rattle.arachne_weights.specs.Tokens.{held}
use Rattle.arachne_rule.proofs.{Closing.{close_core, open_core}, Noted.noted_board, Stepping.{core-made, for-seat}}
use Rattle.arachne_rule.specs.{Layout.{contexts_in, occ_index, board_of}, Plays.{IsLive, Closes, Opens}, Views.noted}
use Rattle.arachne_rule.specs.{Rule.{Board, Shows}, Table.{Mine, Holds}, declared.view.{Known.Known, Shape.Shape}}
use Rattle.arachne_rule.specs.declared.view.Kind.TheVariants as kind

module _ {T : Type 0} (tag_in : T → ℕ) (bits : ℕ) (shape : Shape) where
  abbrev n : ℕ
  n = contexts_in shape

  closes : (id weight : ℕ) (k : Known) (l : List (ℕ × Option T)) (c flag : ℕ) → c < shape.cores → flag ≡ 2 ^ 62
      → Allows (Holds tag_in bits shape) n id (held weight k, l) (occ_index n c) (λ m. bit_or m flag) (Closes (step n (occ_index n c) flag 0 none) (held weight k, l))
  closes id weight k l c flag c_in flag_is s hs long mine small =
      let w : World = hs.world in
      let b : Board T = board_of n s in
      let r = close_core tag_in bits w hs.phase b hs.shows c (omega (arith, c_in, hs.fits.cores)) in
      let new : ℕ = bit_or (b.occ c) flag in
      let becomes : bit_or (b.occ c) (2 ^ 62) ≡ new = ap (bit_or (b.occ c)) (sym flag_is) in (
        held weight (noted kind.Close (occ_index n c) (b.occ c) new k),
        keeps,
        tt,
        core-made tag_in bits shape s hs id weight k mine kind.Close c new l (event.CloseCore c) hs.phase k c_in refl r.0
            (inr (c, (λ j. occ_index (sym hs.fits.cores j * sym hs.fits.slots j) c), sym becomes, refl))
            (noted_board tag_in bits (after w (event.CloseCore c)) hs.phase (record b { occ = with_at b.occ c new })
            (subst (λ (q : ℕ). Shows tag_in bits (after w (event.CloseCore c)) hs.phase (record b { occ = with_at b.occ c q })) becomes r.1) id weight k mine k refl refl refl),
        ((hs.shows.cores c (omega (arith, c_in, hs.fits.cores))).packed, refl),
      )

  pub close-allowed : (slots id : ℕ) (me : Mine T) (c i flag : ℕ) → slots ≡ contexts_in shape → IsLive me → i ≡ occ_index slots c → c < shape.cores → flag ≡ 2 ^ 62
      → Allows (Holds tag_in bits shape) slots id me i (λ m. bit_or m flag) (Closes (step slots i flag 0 none) me)
  close-allowed slots id me c i flag laid live there c_in flag_is =
      for-seat (λ m j e. Allows (Holds tag_in bits shape) m id e j (λ q. bit_or q flag) (Closes (step m j flag 0 none) e)) slots i n (occ_index n c) me laid (there ∙ ap (λ (m : ℕ). occ_index m c) laid) live
      (closes id me.0.weight me.0.known me.1 c flag c_in flag_is)

  opens-core : (id weight : ℕ) (k : Known) (l : List (ℕ × Option T)) (c flags : ℕ) → c < shape.cores → flags ≡ 2 ^ 64 - 1 - 2 ^ 62
      → Allows (Holds tag_in bits shape) n id (held weight k, l) (occ_index n c) (λ m. bit_and m flags) (Opens (step n (occ_index n c) flags 0 none) (held weight k, l))
  opens-core id weight k l c flags c_in flags_is s hs long mine small =
      let w : World = hs.world in
      let b : Board T = board_of n s in
      let r = open_core tag_in bits w hs.phase b hs.shows c (omega (arith, c_in, hs.fits.cores)) in
      let new : ℕ = bit_and (b.occ c) flags in
      let becomes : bit_and (b.occ c) (2 ^ 64 - 1 - 2 ^ 62) ≡ new = ap (bit_and (b.occ c)) (sym flags_is) in (
        held weight (noted kind.Open (occ_index n c) (b.occ c) new k),
        keeps,
        tt,
        core-made tag_in bits shape s hs id weight k mine kind.Open c new l (event.OpenCore c) hs.phase k c_in refl r.0
            (inr (c, (λ j. occ_index (sym hs.fits.cores j * sym hs.fits.slots j) c), sym becomes, refl))
            (noted_board tag_in bits (after w (event.OpenCore c)) hs.phase (record b { occ = with_at b.occ c new })
            (subst (λ (q : ℕ). Shows tag_in bits (after w (event.OpenCore c)) hs.phase (record b { occ = with_at b.occ c q })) becomes r.1) id weight k mine k refl refl refl),
        ((hs.shows.cores c (omega (arith, c_in, hs.fits.cores))).packed, refl),
      )

  pub open-allowed : (slots id : ℕ) (me : Mine T) (c i flags : ℕ) → slots ≡ contexts_in shape → IsLive me → i ≡ occ_index slots c → c < shape.cores → flags ≡ 2 ^ 64 - 1 - 2 ^ 62
      → Allows (Holds tag_in bits shape) slots id me i (λ m. bit_and m flags) (Opens (step slots i flags 0 none) me)
  open-allowed slots id me c i flags laid live there c_in flags_is =
      for-seat (λ m j e. Allows (Holds tag_in bits shape) m id e j (λ q. bit_and q flags) (Opens (step m j flags 0 none) e)) slots i n (occ_index n c) me laid (there ∙ ap (λ (m : ℕ). occ_index m c) laid) live
      (opens-core id me.0.weight me.0.known me.1 c flags c_in flags_is)
