use Rattle.std.proofs.{Common.{◌≡◌, All, subst}, lemmas.List.Elements.All-tail}
use Rattle.arachne_team.proofs.start.join_all.Goals as goal

pub loop-other-preserved : goal.loop-other-preserved
loop-other-preserved g c =
    let was = c.loop-other.invariant in
    let step = c.in-Some.ensures.steps in
    (tt, All-tail (λ h. h.promise.team.value ≡ c.args.team.now) _ _ (subst (All (λ h. h.promise.team.value ≡ c.args.team.now)) step.0 was.1))

pub loop-other-preserved-in-Some-Some : goal.loop-other-preserved-in-Some-Some
loop-other-preserved-in-Some-Some g c =
    let was = c.loop-other.invariant in
    let step = c.in-Some.ensures.steps in
    (c.join-in-Some-Some.ensures, All-tail (λ h. h.promise.team.value ≡ c.args.team.now) _ _ (subst (All (λ h. h.promise.team.value ≡ c.args.team.now)) step.0 was.1))
