-- The type of the value behind a handle. Private to the crate.
use denote.RattleType.{RattleType}
use Rattle.arachne_grants.specs.contracts.state.CoreArbiter as arbiter

abbrev pub row : RattleType
row = arbiter.the_row
