use Rattle.std.proofs.Common.{inl, refl}
use Rattle.arachne_grants_c.proofs.turns.give.Goals as goal

pub returns-in-None : goal.returns-in-None
returns-in-None c = record {
  gives = inl (c.action_alone.ensures, c.in-None.ensures.gives, c.in-None.ensures.all refl);
  kept = c.in-None.ensures.kept;
  stands = c.in-None.ensures.stands;
}
