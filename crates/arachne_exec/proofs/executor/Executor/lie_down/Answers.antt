use Rattle.std.proofs.Common.{◌≡◌, ℕ, ◌+◌, ◌*◌, refl, ap, ◌∙◌, arith}
use Rattle.arachne_exec.specs.{Layout.summary_at, Changes.{noted, rising}}
use Rattle.arachne_exec.proofs.executor.Executor.lie_down.Goals as goal

pub sees_none-requires-clause-calm : goal.sees_none-requires-clause-calm
sees_none-requires-clause-calm c = ap (λ v. v.known.unshown) c.loop-next.invariant.seen.1 ∙ c.requires.calm

pub returns-clause-parks : goal.returns-clause-parks
returns-clause-parks c =
    let lain = c.loop-next.invariant.seen in
    let known = ap (λ v. v.known) lain.1 in λ parks. (
      lain.0,
      c.loop-next.next,
      known,
      λ w j is inside.
          let worker = ap (λ k. k.worker) known in
          let same : w ≡ c.args.worker = omega (arith, is, worker, c.requires.worker.0) in
          let seen = ap (λ k. k.seen) known in
          let all = c.shards_of-next-end.ensures.all j (omega (arith, inside, same, ap (λ e. e.shards) c.self.view_is)) in omega (arith, all, seen, c.loop-next-test.false),
    )

pub returns-then-not-sees_none-clause-stays : goal.returns-then-not-sees_none-clause-stays
returns-then-not-sees_none-clause-stays c =
    let next : ℕ = c.loop-next.next in let shard : ℕ = c.args.worker + 64 * next in
    let lain = c.loop-next.invariant.seen in
    let shown = c.if-not-sees_none.ensures.full refl in
    let risen = c.clear_idle.ensures.seat in
    let inside = c.shards_of-next-end.ensures.none next c.loop-next-test.true in λ stays. (
      lain.0,
      shard,
      shown.0,
      risen.0,
      omega (arith, inside, ap (λ e. e.shards) c.self.view_is),
      omega (arith, c.requires.worker.1),
      shown.1,
      ap (λ v. v.known) risen.1 ∙ ap (λ v. rising c.args.worker risen.0 v.known) shown.2
          ∙ ap (λ v. rising c.args.worker risen.0 (noted (summary_at shard) shown.0 v.known)) lain.1,
    )
