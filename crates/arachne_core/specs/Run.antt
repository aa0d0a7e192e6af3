-- Runs of the World, and what is true in each.
use Rattle.std.specs.Prelude.{◌≡◌, ◌≢◌, ℕ, ◌<◌, ◌≤◌, Bool, false, List, [], ◌∷◌, IsTrue}
use Rattle.arachne_core.specs.declared.{place.Place.Place, event.Event.Event, state.State.TheVariants.{Free, Held}}
use Rattle.arachne_core.specs.declared.event.Event.TheVariants as event
use Rattle.arachne_core.specs.Place.{first_place}
use Rattle.arachne_core.specs.World.{World, Thread, IsContext, IsPlace, Allowed, after, IsEmptyCore}

-- the World at first: each context at the place of its number, free and of one generation, each core open, no thread
-- posted
pub record IsOpening (w : World) (first : ℕ) : Type 0 where
  pub within : first ≤ w.last
  pub at : (x : ℕ) → IsContext w x → w.at x ≡ first_place w.slots x
  pub generation : (x : ℕ) → IsContext w x → w.generation x ≡ first
  pub state : (x : ℕ) → IsContext w x → w.state x ≡ Free
  pub occupied : (p : Place) → IsPlace w p → w.occupied p ≡ false
  pub closed : (c : ℕ) → c < w.cores → w.closed c ≡ false
  pub alone : (c : ℕ) → c < w.cores → w.alone c ≡ false
  pub given : (t : Thread) → w.given t ≡ 0
  pub ended : (t : Thread) → w.ended t ≡ 0

-- each event of the list is allowed in the World in which it happens
abbrev pub IsRun : World → List Event → Type 0
IsRun w [] = Unit {0}
IsRun w (e ∷ es) = Allowed w e × IsRun (after w e) es

-- the World after the events of the list
abbrev pub after_all : World → List Event → World
after_all w [] = w
after_all w (e ∷ es) = after_all (after w e) es

-- the thread was posted and has not ended
abbrev pub IsLive : World → Thread → Type 0
IsLive w t = w.ended t < w.given t

-- the carrier holds the thread
abbrev pub Holds : World → ℕ → Thread → Type 0
Holds w h t = IsLive w t × ((woken : Bool) × (w.state t.0.context ≡ Held h woken t.1))

-- two live threads that share a context or a place are the same thread, and a held thread has one carrier
pub record SharesNothing (w : World) : Type 0 where
  pub contexts : (s t : Thread) → IsLive w s → IsLive w t → s.0.context ≡ t.0.context → s ≡ t
  pub places : (s t : Thread) → IsLive w s → IsLive w t → w.at s.0.context ≡ w.at t.0.context → s ≡ t
  pub holds : (h k : ℕ) (s t : Thread) → Holds w h s → Holds w k t → s.0.context ≡ t.0.context → (s ≡ t) × (h ≡ k)

-- h puts back or ends the thread that it holds in x
abbrev pub LetsGo : ℕ → ℕ → Event → Type 0
LetsGo h x (event.Rest k y r) = (k ≡ h) × (y ≡ x)
LetsGo h x (event.Retire k y) = (k ≡ h) × (y ≡ x)
LetsGo h x e = ⊥

-- no event of the list is one by which h lets go of its thread in x
abbrev pub NeverLetsGo : ℕ → ℕ → List Event → Type 0
NeverLetsGo h x [] = Unit {0}
NeverLetsGo h x (e ∷ es) = (LetsGo h x e → ⊥) × NeverLetsGo h x es

-- the core is closed and has no occupied place
abbrev pub IsDrained : World → ℕ → Type 0
IsDrained w c = (c < w.cores) × IsTrue (w.closed c) × IsEmptyCore w c

-- no event of the list opens the core
abbrev pub NeverOpens : ℕ → List Event → Type 0
NeverOpens c [] = Unit {0}
NeverOpens c (e ∷ es) = (e ≢ event.OpenCore c) × NeverOpens c es
