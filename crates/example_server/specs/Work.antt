-- What the work of a request gives, and when it may begin.
use Rattle.std.specs.Prelude.{ℕ, zero, suc, ◌+◌, ◌-◌, ◌*◌, ◌%◌, ◌^◌, min}
use Rattle.example_server.specs.declared.job.Request.{Request}
use Rattle.example_server.specs.declared.requests.Class.{Class}
use Rattle.example_server.specs.declared.requests.Class.TheVariants.{Normal, Exclusive, Slow}
use Rattle.example_server.specs.declared.timer.TheConstants.{SLOW}

-- a number of 64 bits: sums and products wrap
abbrev pub wrap : ℕ → ℕ
wrap number = number % 2 ^ 64

-- one round: of two numbers no two give the same
abbrev pub round_of : ℕ → ℕ
round_of value = wrap (wrap (value * wrap (wrap (value + value) + 1)) + 1442695040888963407)

-- what this many rounds make of a number
abbrev pub mixed : ℕ → ℕ → ℕ
mixed zero number = number
mixed (suc rounds) number = round_of (mixed rounds number)

-- the first time at which the work of a request may begin that was taken then
abbrev pub earliest_of : Class → ℕ → ℕ
earliest_of Normal taken = 0
earliest_of Exclusive taken = 0
earliest_of Slow taken = min (taken + SLOW) (2 ^ 64 - 1)

-- the first time at which the work of a request may begin: that of a slow one is after the slow part
abbrev pub earliest : Request → ℕ
earliest request = earliest_of request.due.class request.taken
