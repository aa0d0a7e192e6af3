use Rattle.std.proofs.{Common.◌≡◌, lemmas.List.Elements.All-push}
use Rattle.arachne_team.proofs.start.fn.work_together.scope.Goals as goal

pub loop-number-preserved : goal.loop-number-preserved
loop-number-preserved g c =
    let was = c.loop-number.invariant.1 in
    let kept : c.in-Ok.other.promise.team.value ≡ c.captures.team.now = search (c.in-Ok.ensures.ok, c.of.ensures) in
    let all = All-push (λ h. h.promise.team.value ≡ c.captures.team.now) _ c.in-Ok.other was kept in
    let b = c.push_reserved.ensures.items in
    let d = c.try_reserve.ensures.items in
    (c.part_off-own.ensures.own, rw (b, d) all)
