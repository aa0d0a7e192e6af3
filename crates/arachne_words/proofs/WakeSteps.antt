-- The meaning of a thread's mark word: if it shows the thread of an id blocked or held, it doesn't show that the thread
-- is gone; and the mark word of a held thread that isn't HELD shows the thread woken.
use Rattle.std.proofs.Common.{◌≡◌, ◌≢◌, ℕ, ◌<◌, true, ◌∙◌, ap, sym, arith, inl, inr}
use Rattle.arachne_core.specs.declared.{layout.TheConstants.CORE_BITS, thread_id.ThreadId.ThreadId, mark.Mark.Mark}
use Rattle.arachne_core.specs.Marked.{Marked, mark_word, marked_of, mark_code, IsMarkWord}
use Rattle.arachne_core.specs.declared.mark.Mark.TheVariants as mark
use Rattle.arachne_rule.specs.{declared.view.Carried.Carried, Changes.marked_as}
use Rattle.arachne_rule.specs.Plays.{IsGone, IsHeldMark, SaysCarried}

pub not-gone : (id i : ThreadId) (seen : Marked) → marked_of CORE_BITS (mark_word CORE_BITS seen) ≡ seen → seen.generation ≡ id.generation → i ≡ id → (0 < mark_code seen.mark) × (mark_code seen.mark < 5)
    → IsGone CORE_BITS i (mark_word CORE_BITS seen) → ⊥
not-gone id i seen read generation same live gone = elim gone [
  | inl n ↦ n (ap (λ (m : Marked). m.generation) read ∙ generation ∙ sym (ap (λ (t : ThreadId). t.generation) same))
  | inr o ↦ elim o [
    | inl free ↦ let a = ap mark_code (sym (ap (λ (m : Marked). m.mark) read) ∙ free) in omega (arith, a, live.0)
    | inr spent ↦ let a = ap mark_code (sym (ap (λ (m : Marked). m.mark) read) ∙ spent) in omega (arith, a, live.1)
  ]
]

pub found-woken : (c : Carried) (held : Marked) (found : ℕ) → IsMarkWord CORE_BITS found → SaysCarried CORE_BITS c found → c.held ≡ true → c.shown ≡ c.place → held ≡ marked_as mark.Held c
    → found ≢ mark_word CORE_BITS held → found ≡ mark_word CORE_BITS (record held { mark = mark.Woken })
found-woken c held found packed says is_held shown is other = by-mark (marked_of CORE_BITS found).mark (says.1 is_held).0 (says.1 is_held).1
  where
    by-mark : (m : Mark) → IsHeldMark m → marked_of CORE_BITS found ≡ record (marked_as m c) { place = c.shown } → found ≡ mark_word CORE_BITS (record held { mark = mark.Woken })
    by-mark mark.Held h e = absurd (other (sym packed.0 ∙ ap (mark_word CORE_BITS) (e ∙ (λ i. record (marked_as mark.Held c) { place = shown i }) ∙ sym is)))
    by-mark mark.Woken h e = sym packed.0 ∙ ap (mark_word CORE_BITS) (e ∙ (λ i. record (marked_as mark.Woken c) { place = shown i }) ∙ ap (λ (m : Marked). record m { mark = mark.Woken }) (sym is))
    by-mark mark.Free h e = absurd h
    by-mark mark.Ready h e = absurd h
    by-mark mark.Blocked h e = absurd h
    by-mark mark.Spent h e = absurd h
