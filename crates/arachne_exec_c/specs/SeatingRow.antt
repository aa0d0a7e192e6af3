-- The type of the value behind a handle. Private to the crate.
use denote.RattleType.{RattleType}
use Rattle.std.specs.contracts.option.Option as option
use Rattle.arachne_exec_c.specs.contracts.seated.Seated as seated

abbrev pub row : RattleType
row = option.the_row seated.the_row
