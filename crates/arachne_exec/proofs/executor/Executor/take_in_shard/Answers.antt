use Rattle.std.proofs.Common.{◌≡◌, ◌⊎◌, inl, inr, ⊎_elim, ℕ, ◌+◌, ◌*◌, ◌/◌, ◌%◌, ◌<◌, ◌∙◌, List, [], ◌∷◌, ◌++◌, ap, sym, subst, arith, rules}
use Rattle.std.specs.Int.{bit_at}
use Rattle.std.proofs.lemmas.Nat.Bits.{bit_at-zero}
use mathlib.Core.Logic.{dite}
use native.Mathlib.Decide.{ℕ_discrete}
use Rattle.arachne_exec.specs.declared.{view.Notes.Notes, turns.Unsearched.Unsearched}
use Rattle.arachne_exec.specs.{Layout.{summary_at, worker_of}, Changes.{noted, rousing}}
use Rattle.arachne_exec.specs.Calls.{HasLooked, IsAmong, HasNoJob}
use Rattle.arachne_exec.proofs.{Bits.clear_other, Rousing.{among-more, none-more, looked-missed, looked-told}}
use Rattle.arachne_exec.proofs.Turning.{less-without}
use Rattle.arachne_exec.proofs.executor.Executor.take_in_shard.Goals as goal

pub loop-index-init : goal.loop-index-init
loop-index-init c =
    let shard : ℕ = c.args.shard in let shown : ℕ = c.look-shown.result in
    record {
      seat = search rules;
      looked = (
        (
          0,
          (c.summary_word.result, shown) ∷ [],
          (inl (shard, c.summary_word.ensures), tt),
          ap (λ v. v.known) c.look-shown.ensures.seat ∙ ap (λ v. noted c.summary_word.result shown v.known) c.seat.view_is,
        ),
        inl (λ i. (c.summary_word.ensures i, shown)),
        λ index low set. inl (ap (λ (blocks : ℕ). bit_at blocks index) c.unsearched-left.ensures.blocks ∙ set),
      );
      hand = search rules;
    }

-- the worker of the shard is the only one that was roused
pub loop-index-preserved : goal.loop-index-preserved
loop-index-preserved c =
    let shard : ℕ = c.args.shard in let this : ℕ = c.in-Some.index in let block : ℕ = 64 * shard + this in let k : Notes = c.args.seat.now.known in
    let first = c.in-Some.ensures.some in let was = c.loop-index.invariant.looked in
    let at : block / 64 ≡ shard = omega (arith, first.low) in
    let missed = looked-missed (worker_of shard) k c.loop-index.seat.known was.0 block c.take_from.new.seat.known c.in_default-take_from.ensures.none in
    let on = looked-told (worker_of shard) k c.take_from.new.seat.known missed.0 c.tidy.result in
    let longer : on.0.1 ≡ missed.2 ++ was.0.1 = on.1 ∙ missed.3 in
    let same = ap (λ v. v.known) c.seat-in-Some-2.view_is in
    let told = ap (λ v. v.known) c.tidy.ensures ∙ (λ i. rousing c.tidy.result (worker_of (at i)) (same i)) in
    let left = ap (λ (left : Unsearched). left.blocks) c.pass.ensures in
    let gone : block % 64 ≡ this = omega (arith, first.low) in
    record {
      seat = search rules;
      looked = subst (λ (z : Notes). (found : HasLooked (worker_of shard) k z) × IsAmong (summary_at shard) c.look-shown.result found.1
          × ((index : ℕ) → index < 64 → bit_at c.look-shown.result index ≡ 1 → (bit_at c.pass.new.self.blocks index ≡ 1) ⊎ HasNoJob (64 * shard + index) found.1)) (sym told) (
            on.0,
            subst (λ (looks : List (ℕ × ℕ)). IsAmong (summary_at shard) c.look-shown.result looks) (sym longer) (among-more (summary_at shard) c.look-shown.result missed.2 was.0.1 was.1),
            λ index low set. ⊎_elim
                (λ still. dite (ℕ_discrete index this)
                (λ e. inr (subst (λ (looks : List (ℕ × ℕ)). HasNoJob (64 * shard + index) looks) (sym on.1) (subst (λ (j : ℕ). HasNoJob (64 * shard + j) missed.0.1) (sym e) missed.1)))
                (λ ne. inl (ap (λ (blocks : ℕ). bit_at blocks index) left ∙ clear_other c.loop-index.left.blocks (block % 64) (omega arith) index low (λ e. ne (e ∙ gone)) ∙ still)))
                (λ none. inr (subst (λ (looks : List (ℕ × ℕ)). HasNoJob (64 * shard + index) looks) (sym longer) (none-more (64 * shard + index) missed.2 was.0.1 none)))
                (was.2 index low set),
          );
      hand = search rules;
    }

pub loop-index-smaller : goal.loop-index-smaller
loop-index-smaller c =
    let first = c.in-Some.ensures.some in let block : ℕ = 64 * c.args.shard + c.in-Some.index in
    let gone : block % 64 ≡ c.in-Some.index = omega (arith, first.low) in
    subst (λ (n : ℕ). n < c.loop-index.left.blocks) (sym (ap (λ (left : Unsearched). left.blocks) c.pass.ensures))
    (less-without c.loop-index.left.blocks c.in-Some.index block gone first.there)

-- no block is left
pub returns-clause-none : goal.returns-clause-none
returns-clause-none c =
    let was = c.loop-index.invariant.looked in (
      was.0,
      (
        c.look-shown.result,
        was.1,
        λ index low set. ⊎_elim
            (λ still. let none = ap (λ (blocks : ℕ). bit_at blocks index) c.in_default.ensures.none ∙ bit_at-zero index in absurd (omega (arith, still, none)))
            (λ none. none)
            (was.2 index low set),
      ),
    )
