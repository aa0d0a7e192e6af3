-- The meaning of a mark word that was seen, in the World.
use Rattle.std.proofs.Common.{◌≡◌, ℕ, true, false, refl, sym, ap, ◌∙◌, arith}
use Rattle.arachne_core.{proofs.{Changes.with_at-same, MarkWords.marked_of-mark_word}, specs.declared.place.Place.Place}
use Rattle.arachne_core.specs.{ContextTable.{mark_of, is_live_state, marked}, Marked.{mark_word, marked_of}}
use Rattle.arachne_core.specs.World.{World, IsContext, IsAtRest, IsReady, IsHeldBy, CanBeWoken, with_at, taken}
use Rattle.arachne_core.specs.declared.state.State.{State, TheVariants.{Free, Claimed, Ready, Blocked, Held}}
use Rattle.arachne_core.specs.declared.mark.Mark.TheVariants as mark
use Rattle.arachne_rule.specs.{Rule.{Coherent, Board, Phase, Shows}, History.IsMarkOf, Plays.IsRestMark}

pub ready-mark : (s : State) → mark_of s ≡ mark.Ready → (t : ℕ) × (s ≡ Ready t)
ready-mark (Ready t) e = (t, refl)
ready-mark (Held h true t) e = absurd cc
ready-mark _ e = absurd cc

pub rest-mark : (s : State) → IsRestMark (mark_of s) → IsAtRest s
rest-mark (Ready t) e = tt
rest-mark (Blocked t) e = tt
rest-mark (Held h true t) e = absurd e
rest-mark _ e = absurd e

pub rest-live : (s : State) → IsAtRest s → is_live_state s ≡ true
rest-live (Ready t) e = refl
rest-live (Blocked t) e = refl
rest-live s e = absurd e

-- a context that isn't claimed is at the place that its mark word shows
pub rest-coherent : (s : State) (p : Place) (a : Phase) → IsAtRest s → Coherent s p a → (a.away ≡ false) × (a.shown ≡ p)
rest-coherent (Ready t) p a r c = c
rest-coherent (Blocked t) p a r c = c
rest-coherent s p a r c = absurd r

pub coherent-rest : (s : State) (p : Place) (a : Phase) → IsAtRest s → (a.away ≡ false) × (a.shown ≡ p) → Coherent s p a
coherent-rest (Ready t) p a r c = c
coherent-rest (Blocked t) p a r c = c
coherent-rest s p a r c = absurd r

-- a context that its place names, or that isn't claimed, stands at the place that its mark word shows
pub named-shown : (s : State) (p : Place) (a : Phase) → Coherent s p a → a.named ≡ true → a.shown ≡ p
named-shown Free p a c n = c.2
named-shown (Claimed h) p a c n = c n
named-shown (Held h w t) p a c n = c
named-shown _ p a c n = c.1

pub held-shown : (s : State) (p : Place) (a : Phase) (h : ℕ) → Coherent s p a → IsHeldBy h s → a.shown ≡ p
held-shown (Held k w t) p a h c e = c
held-shown s p a h c e = absurd e

pub waiting-shown : (s : State) (p : Place) (a : Phase) → CanBeWoken s → Coherent s p a → a.shown ≡ p
waiting-shown (Blocked t) p a u c = c.1
waiting-shown (Held h false t) p a u c = c
waiting-shown s p a u c = absurd u

pub taken-held : (h : ℕ) (s : State) → IsReady s → IsHeldBy h (taken h s)
taken-held h (Ready t) r = refl
taken-held h s r = absurd r

module _ {T : Type 0} (tag_in : T → ℕ) (bits : ℕ) (w : World) (d : ℕ → Phase) (b : Board T) (s : Shows tag_in bits w d b) where
  pub seen : (x : ℕ) → IsContext w x → marked_of bits (b.mark x) ≡ record (marked w x) { place = (d x).shown }
  seen x x_in = let p_in = (s.contexts x x_in).within in ap (marked_of bits) (s.contexts x x_in).mark
      ∙ marked_of-mark_word bits (record (marked w x) { place = (d x).shown }) (omega (arith, p_in.1, s.fits.1)) (omega (arith, p_in.0, s.fits.0))

  -- a mark word that was written is that of its context, if it shows the place at which the context stands
  pub is-mark-of : (mark : ℕ → ℕ) (x new : ℕ) → b.mark x ≡ with_at mark x new x → IsContext w x → (d x).shown ≡ w.at x → IsMarkOf bits w x new
  is-mark-of mark x new is x_in at = sym (is ∙ with_at-same mark x new) ∙ (s.contexts x x_in).mark ∙ ap (λ (p : Place). mark_word bits (record (marked w x) { place = p })) at
