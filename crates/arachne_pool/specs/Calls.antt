-- What holds after a call with a worker.
use Rattle.std.specs.Prelude.{◌≡◌, ◌⊎◌, Option, Result, Ok, Err, IsSome}
use Rattle.arachne_pool.specs.declared.worker.PoolFault.{PoolFault}
use Rattle.arachne_pool.specs.declared.worker.PoolFault.TheVariants.{Token}

-- true if a call has failed because the table has rejected a slot or a job
abbrev pub IsDisowned : {Found : Type 0} → Result Found PoolFault → Type 0
IsDisowned (Ok found) = ⊥
IsDisowned (Err fault) = fault ≡ Token

-- true if the worker still has its seat, or the call has failed with `Token` (so it has the seat after a success, and
-- after any other fault)
abbrev pub HasSeatAfter : {Seat Found : Type 0} → Option Seat → Result Found PoolFault → Type 0
HasSeatAfter seat result = (IsSome seat) ⊎ IsDisowned result
