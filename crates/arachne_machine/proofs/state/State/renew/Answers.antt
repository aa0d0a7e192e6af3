use Rattle.std.proofs.Common.{rules, refl}
use Rattle.arachne_machine.proofs.state.State.renew.Goals as goal

pub returns : goal.returns
returns c = record {
  program_is = refl;
  own_is = refl;
  lines = c.clear-4.ensures;
  sums_are = refl;
  parents = search rules;
  level = c.outermost-self.ensures;
  environment_is = search rules;
  frames = search rules;
  control_is = refl;
}
