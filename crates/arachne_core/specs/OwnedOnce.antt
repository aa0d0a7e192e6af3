-- The invariant that each event keeps: every context, place and thread has one owner.
use Rattle.std.specs.Prelude.{◌≡◌, ◌≢◌, ℕ, ◌+◌, ◌*◌, ◌<◌, ◌≤◌, ◌⊎◌, ◌↔◌, Bool, false, ◌&&◌, if◌then◌else◌, ◌==◌, nat_lt, IsTrue}
use Rattle.arachne_core.specs.{World.{World, Thread, IsContext, IsPlace}, declared.place.Place.Place}
use Rattle.arachne_core.specs.declared.state.State.{State, TheVariants.{Free, Claimed, Ready, Blocked, Held}}

-- the state is that of a live thread with this tag
abbrev pub has_thread : State → ℕ → Bool
has_thread (Ready t) tag = t == tag
has_thread (Blocked t) tag = t == tag
has_thread (Held h woken t) tag = t == tag
has_thread s tag = false

-- the thread is at rest or held in its context
abbrev pub is_live : World → Thread → Bool
is_live w t = nat_lt t.0.context (w.cores * w.slots) && (w.generation t.0.context == t.0.generation) && has_thread (w.state t.0.context) t.1

-- the id of a context's generation was given to a thread, if the context is in this state
abbrev pub HasGivenId : State → Type 0
HasGivenId Free = ⊥
HasGivenId (Claimed h) = ⊥
HasGivenId s = Unit {0}

-- exactly one place of the core is occupied
abbrev pub HasOneOccupied : World → ℕ → Type 0
HasOneOccupied w c = (i : ℕ) × (i < w.slots) × IsTrue (w.occupied (record { core = c; index = i }))
    × ((j : ℕ) → j < w.slots → IsTrue (w.occupied (record { core = c; index = j })) → j ≡ i)

pub record OwnedOnce (w : World) : Type 0 where
  -- each context has a place, no two have the same one, and each place has a context
  pub placed : (x : ℕ) → IsContext w x → IsPlace w (w.at x)
  pub apart : (x y : ℕ) → IsContext w x → IsContext w y → w.at x ≡ w.at y → x ≡ y
  pub filled : (p : Place) → IsPlace w p → (x : ℕ) × IsContext w x × (w.at x ≡ p)
  -- a place is occupied exactly if its context isn't free
  pub occupied : (x : ℕ) → IsContext w x → IsTrue (w.occupied (w.at x)) ↔ (w.state x ≢ Free)
  -- no generation is past the last
  pub bounded : (x : ℕ) → IsContext w x → w.generation x ≤ w.last
  -- no id is given twice
  pub once : (t : Thread) → w.given t ≤ 1
  pub one_tag : (s t : Thread) → s.0 ≡ t.0 → 0 < w.given s → 0 < w.given t → s ≡ t
  -- a given id has a generation below that of its context, or the same generation if the context is live or spent
  pub generations : (t : Thread) → 0 < w.given t → IsContext w t.0.context
      × ((t.0.generation < w.generation t.0.context) ⊎ ((t.0.generation ≡ w.generation t.0.context) × HasGivenId (w.state t.0.context)))
  -- the threads that were posted and have not ended are the live ones
  pub live : (t : Thread) → w.given t ≡ (if is_live w t then w.ended t + 1 else w.ended t)
  -- an exclusive core has one occupied place
  pub alone : (c : ℕ) → c < w.cores → IsTrue (w.alone c) → HasOneOccupied w c
