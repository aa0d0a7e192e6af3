-- A call on what a handle holds.
use Rattle.std.proofs.Common.{◌≡◌, subst, sym}
use Rattle.std.specs.declared.option.Option.{Option}
use Rattle.std.specs.declared.option.Option.TheVariants.{Some}
use Rattle.arachne_grants.specs.declared.state.CoreArbiter.{CoreArbiter}
use Rattle.arachne_grants_c.specs.ArbiterTold.{IsTold}

-- it was made on the arbiter that the handle held, which it holds again
pub is_told : {A : Type 0} (Does : CoreArbiter → CoreArbiter → A → Type 0) (refusal told : A) (old new : Option CoreArbiter) (before after : CoreArbiter)
    → old ≡ Some before → new ≡ Some after → Does before after told → IsTold Does refusal old new told
is_told {A} Does refusal told old new before after was now does =
    subst (λ (o : Option CoreArbiter). IsTold Does refusal o new told) (sym was) (after, now, does)
