-- The threads that are left when a table is closed.
use Rattle.std.specs.Prelude.{◌≡◌, ℕ, zero, suc, ◌+◌, ◌≤◌, List, [], ◌∷◌, ◌++◌, map, Option, None, Some}
use Rattle.arachne_core.specs.{declared.thread_id.ThreadId.ThreadId, ContextTable.times}
use Rattle.arachne_core.specs.World.{World, Thread, IsContext, id_of}
use Rattle.arachne_locked.specs.{AtHome.value_at, Calls.IsHeld}

-- no thread is held
abbrev pub HoldsNone : World → Type 0
HoldsNone w = (x : ℕ) → IsContext w x → IsHeld (w.state x) → ⊥

module _ {T : Type 0} where
  -- the thread in x with its value, if one is at home there
  abbrev pub one_at : World → ℕ → Option T → List (ThreadId × T)
  one_at w x None = []
  one_at w x (Some value) = (id_of w x, value) ∷ []

  -- the threads in the contexts below n whose values are at home, in the order of the contexts
  abbrev pub at_rest_below : World → List (Option T) → ℕ → List (ThreadId × T)
  at_rest_below w values zero = []
  at_rest_below w values (suc n) = at_rest_below w values n ++ one_at w n (value_at values n)

-- each thread that was posted has ended or is handed back, and none is handed back twice
pub record IsAccounted {T : Type 0} (tag : T → ℕ) (w : World) (rest : List (ThreadId × T)) : Type 0 where
  pub once : (t : Thread) → w.given t ≤ 1
  pub all : HoldsNone w → (t : Thread) → w.given t ≡ w.ended t + times (map (λ r. (r.0, tag r.1)) rest) t
