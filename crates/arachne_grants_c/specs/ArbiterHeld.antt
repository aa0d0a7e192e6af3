-- The arbiter that a handle holds.
use Rattle.std.specs.declared.option.Option.{Option}
use Rattle.arachne_grants.specs.declared.state.CoreArbiter.{CoreArbiter}
use Rattle.arachne_grants_c.specs.declared.arbiter_handle.ArachneArbiter.{ArachneArbiter}

-- the arbiter that a handle holds, if it holds one
abbrev pub held : ArachneArbiter → Option CoreArbiter
held arbiter = arbiter.value
