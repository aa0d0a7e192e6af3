-- The type of the value behind a handle. Private to the crate.
use denote.RattleType.{RattleType}
use Rattle.std.specs.contracts.option.Option as option
use Rattle.arachne_exec_c.specs.contracts.adding.Adding as adding

abbrev pub row : RattleType
row = option.the_row adding.the_row
