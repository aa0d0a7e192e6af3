use Rattle.std.proofs.Common.{◌≡◌, ℕ, ◌+◌, ◌*◌, ◌/◌, ◌∷◌, ◌∙◌, refl, ap, sym, arith}
use Rattle.arachne_exec.specs.{Layout.{free_at, worker_of}, Changes.{claiming, noted, rousing, spawning}}
use Rattle.arachne_exec.proofs.Chains.{missed, spawned}
use Rattle.arachne_exec.proofs.executor.Executor.spawn.Goals as goal

pub returns-then-not-claim_bit-clause-answer : goal.returns-then-not-claim_bit-clause-answer
returns-then-not-claim_bit-clause-answer c =
    let then = c.if-not-claim_bit.ensures.missed refl in
    let saw = ap (λ v. v.known) c.look-free.ensures.seat ∙ (λ i. noted (c.free_word.ensures i) c.look-free.result (ap (λ v. v.known) c.seat.view_is i)) in
    missed free_at c.args.block c.lowest_index.result c.look-free.result then.0 _ _ _ c.lowest_index.ensures.low c.lowest_index.ensures.there saw then.1 (ap (λ v. v.known) then.2)

-- the mark was looked at last
pub publish_new-unpark-requires-clause-named : goal.publish_new-unpark-requires-clause-named
publish_new-unpark-requires-clause-named c = (
  c.look-mark.result,
  _,
  ap (λ v. v.known.looks) c.lay.ensures.seat ∙ ap (λ v. v.known.looks) c.look-mark.ensures.seat ∙ (λ i. (c.mark_word.ensures i, c.look-mark.result) ∷ c.claim_bit.new.seat.known.looks),
)

pub returns-clause-answer : goal.returns-clause-answer
returns-clause-answer c =
    let block : ℕ = c.args.block in let job : ℕ = c.args.job in let place : ℕ = 64 * block + c.lowest_index.result in let mark : ℕ = c.look-mark.result in let unpark = c.publish_new-unpark.result in
    let got = c.if-not-claim_bit.ensures.took refl in let row : place / 64 ≡ block = omega (arith, c.lowest_index.ensures.low) in
    let saw = ap (λ v. v.known) c.look-free.ensures.seat ∙ (λ i. noted (c.free_word.ensures i) c.look-free.result (ap (λ v. v.known) c.seat.view_is i)) in
    let claimed = ap (λ v. v.known) got.2 ∙ (λ i. claiming place (noted (free_at (row i)) got.0 (saw i))) in
    let calm : c.args.seat.now.known.unspawned ≡ 0 = sym (ap (λ v. v.known.unspawned) c.seat.view_is) ∙ c.seat.invariant.1.spawned in record {
      there = row;
      free = c.look-free.result;
      found = got.0;
      claimed = got.1;
      mark = mark;
      named = c.name_at.ensures;
      known = ap (λ v. v.known) c.publish_new-unpark.ensures
          ∙ ap (λ v. rousing unpark (worker_of (place / 4096)) (spawning job v.known)) c.lay.ensures.seat
          ∙ ap (λ v. rousing unpark (worker_of (place / 4096)) (spawning job v.known)) c.look-mark.ensures.seat
          ∙ (λ i. rousing unpark (worker_of (place / 4096)) (spawning job (noted (c.mark_word.ensures i) mark (claimed i))))
          ∙ ap (rousing unpark (worker_of (place / 4096))) (spawned place job _ calm);
    }
