-- The memory for posts and retires that a table has reserved for claimed contexts and live threads.
use Rattle.std.specs.Prelude.{ℕ, zero, suc, ◌+◌, ◌*◌, ◌≤◌, Bool, true, false}
use Rattle.arachne_core.specs.{Occupancy.bit, declared.state.State.State, ContextTable.{ContextTable, world_of}}
use Rattle.arachne_core.specs.World.{World}
use Rattle.arachne_core.specs.declared.state.State.TheVariants as state

-- the number of numbers below n that pass the test
abbrev pub count_below : ℕ → (ℕ → Bool) → ℕ
count_below zero test = 0
count_below (suc n) test = bit (test n) + count_below n test

-- a thread may be posted in the context
abbrev pub may_post : State → Bool
may_post (state.Claimed h) = true
may_post s = false

-- a thread may end in the context: it may be posted there, or is there
abbrev pub may_end : State → Bool
may_end (state.Claimed h) = true
may_end (state.Ready tag) = true
may_end (state.Blocked tag) = true
may_end (state.Held h woken tag) = true
may_end s = false

-- the number of contexts whose states pass the test
abbrev pub contexts_in : (State → Bool) → World → ℕ
contexts_in test w = count_below (w.cores * w.slots) (λ x. test (w.state x))

-- no post and no end of a thread needs memory
pub record HasRoom (k : ContextTable) : Type 0 where
  pub posts : contexts_in may_post (world_of k) ≤ k.posts
  pub retires : contexts_in may_end (world_of k) ≤ k.retires
