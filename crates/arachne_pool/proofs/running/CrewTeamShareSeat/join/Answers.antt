use Rattle.std.proofs.Common.{◌≡◌, sym, subst, IfSome, Option, None, Some}
use Rattle.std.specs.Prelude.{Result, Ok, Err, IfOk}
use Rattle.std.specs.Result.{result_ok}
use Rattle.arachne_pool.proofs.running.CrewTeamShareSeat.join.Goals as goal

-- what a result has, if it is one, its value has too
if_ok : {T E : Type 0} (P : T → Type 0) (r : Result T E) → IfOk r P → IfSome (result_ok r) P
if_ok P (Ok x) p = p
if_ok P (Err e) p = p

of_ok : {T E : Type 0} (P : T → Type 0) (r : Result T E) {x : T} → Some x ≡ result_ok r → IfOk r P → P x
of_ok P r {x} is p = subst (λ o. IfSome o P) (sym is) (if_ok P r p)

-- the worker of both is one of the pool, and the first share's job and handle stay
pub returns : goal.returns
returns g c = (of_ok _ c.join_workers.result c.in_ok-worker.ensures.value c.join_workers.ensures.both, c.requires.own.1, c.requires.own.2, c.requires.own.3)
