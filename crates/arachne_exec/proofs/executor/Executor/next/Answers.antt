use Rattle.std.proofs.Common.{◌≡◌, ◌≤◌, ◌∙◌, ◌⊎◌, ⊎_elim, inl, inr, ℕ, ◌+◌, ◌*◌, ◌/◌, ◌<◌, refl, ap, sym, subst, arith, rules}
use Rattle.std.proofs.lemmas.Bool.{cases_lt}
use Rattle.arachne_exec.specs.{declared.view.Notes.Notes, Layout.worker_of, Calls.{HasLooked, IsSearched}}
use Rattle.arachne_exec.proofs.executor.Executor.next.Goals.{After-of-round}
use Rattle.arachne_exec.proofs.Rousing.{looked-none, looked-on, searched-more, searched-left, took-on}
use Rattle.arachne_exec.proofs.executor.Executor.next.Goals as goal

-- the shards that were counted are the executor's
shards : (c : goal.After-of-round) → c.self.inside.shards ≡ c.args.self.now.shards
shards c = ap (λ e. e.shards) c.self.view_is

-- the first of them is one of them
first-within : (count first at : ℕ) → (at < count → first ≡ at) → (count ≤ at → first ≡ 0) → first ≤ count
first-within count first at turn round = ⊎_elim (λ less. omega (arith, less, turn less)) (λ le. omega (arith, round le)) (cases_lt at count)

-- a shard of that index had its turn, of so many that had theirs
abbrev IsPast : (count first index j : ℕ) → Type 0
IsPast count first index j = ((first ≤ j) × (j < first + index)) ⊎ (j + count < first + index)

-- it has its turn now, or had it
this-or-past : (worker count first index shard j : ℕ) → (first + index < count → shard ≡ worker + 64 * (first + index)) → (count ≤ first + index → shard + 64 * count ≡ worker + 64 * (first + index)) → j < count
    → IsPast count first (index + 1) j → (shard ≡ worker + 64 * j) ⊎ IsPast count first index j
this-or-past worker count first index shard j ahead round low = ⊎_elim
    (λ here. ⊎_elim
    (λ less. inr (inl (here.0, less)))
    (λ le. let e : first + index ≡ j = omega (arith, here.1, le) in inl (omega (arith, ahead (omega (arith, e, low)), e)))
    (cases_lt j (first + index)))
    (λ there. ⊎_elim
    (λ less. inr (inr less))
    (λ le. let e : first + index ≡ j + count = omega (arith, there, le) in inl (omega (arith, round (omega (arith, e)), e)))
    (cases_lt (j + count) (first + index)))

all-past : (count first j : ℕ) → j < count → IsPast count first count j
all-past count first j low = ⊎_elim (λ less. inr (omega (arith, less))) (λ le. inl (le, omega (arith, low))) (cases_lt j first)

pub loop-shard-init : goal.loop-shard-init
loop-shard-init c =
    let same = shards (goal.at.loop-shard-init c).After-of-round in
    let first : c.of-round.result.first ≤ c.of-round.result.count = omega (arith, first-within _ _ _ c.of-round.ensures.turn c.of-round.ensures.first, c.of-round.ensures.all.0) in
    record {
      seat = refl;
      looked = (looked-none c.args.worker c.args.seat.now.known, λ j low past. absurd (⊎_elim (λ here. omega (arith, here.0, here.1, c.of-round.ensures.all.1)) (λ round. omega (arith, round, low, first, c.of-round.ensures.all.1)) past));
      hand = (refl, refl);
      worker = c.of-round.ensures.worker;
      first = first;
      all = λ j below. subst (λ (n : ℕ). j < n) (sym c.of-round.ensures.all.0)
          (c.shards_of.ensures.all j (subst (λ (n : ℕ). c.args.worker + 64 * j < n) (sym same) below));
      inside = λ j below. subst (λ (n : ℕ). c.args.worker + 64 * j < n) same
          (c.shards_of.ensures.none j (subst (λ (n : ℕ). j < n) c.of-round.ensures.all.0 below));
    }

pub take_in_shard-requires-clause-shard : goal.take_in_shard-requires-clause-shard
take_in_shard-requires-clause-shard c =
    let it = c.in-Some.ensures.inside in
    let worker = c.loop-shard.invariant.worker in
    let inside = c.loop-shard.invariant.inside it.1 it.2 in
    omega (arith, it.3, worker, inside)

pub loop-shard-preserved : goal.loop-shard-preserved
loop-shard-preserved c =
    let same = c.in-Some.ensures.same in let inv = c.loop-shard.invariant in let worker : ℕ = c.args.worker in let shard : ℕ = c.in-Some.shard in let round = c.loop-shard.round in let then = c.next.new.self in
    let k : Notes = c.args.seat.now.known in let l : Notes = c.loop-shard.seat.known in let m : Notes = c.take_in_shard.new.seat.known in
    let is : worker_of shard ≡ worker = omega (arith, c.in-Some.ensures.inside.3, inv.worker, c.requires.worker.1) in
    let more = subst (λ (w : ℕ). (more : HasLooked w l m) × IsSearched shard more.1) is c.in_default-take_in_shard.ensures.none in
    let on = looked-on worker k l inv.looked.0 m more.0 in
    record {
      seat = search rules;
      looked = (
        on.0,
        λ j low past. subst (IsSearched (worker + 64 * j)) (sym on.1) (⊎_elim
            (λ this. searched-left (worker + 64 * j) more.0.1 inv.looked.0.1 (subst (λ (s : ℕ). IsSearched s more.0.1) this more.1))
            (λ before. searched-more (worker + 64 * j) inv.looked.0.1 more.0.1 (inv.looked.1 j (omega (arith, low, same.1)) before))
            (this-or-past worker round.count round.first round.index shard j
            (λ lower. omega (arith, c.in-Some.ensures.ahead lower, inv.worker)) (λ upper. omega (arith, c.in-Some.ensures.round upper, inv.worker)) (omega (arith, low, same.1))
            (subst (λ (z : ℕ × ℕ × ℕ). IsPast z.0 z.1 z.2 j) (λ i. (same.1 i, same.2 i, c.in-Some.ensures.one i)) past))),
      );
      hand = search rules;
      worker = same.0 ∙ inv.worker;
      first = omega (arith, inv.first, same.1, same.2);
      all = λ j below. subst (λ (n : ℕ). j < n) (sym same.1) (inv.all j below);
      inside = λ j below. inv.inside j (subst (λ (n : ℕ). j < n) same.1 below);
    }

pub returns-in-Some-take_in_shard-clause-answer : goal.returns-in-Some-take_in_shard-clause-answer
returns-in-Some-take_in_shard-clause-answer c =
    let k : Notes = c.args.seat.now.known in let after : Notes = c.take_in_shard.new.seat.known in
    let is : worker_of c.in-Some.shard ≡ c.args.worker = omega (arith, c.in-Some.ensures.inside.3, c.loop-shard.invariant.worker, c.requires.worker.1) in
    took-on c.args.worker k c.loop-shard.seat.known c.loop-shard.invariant.looked.0 c.args.self.now.shards c.in-Some.shard after c.in-Some-take_in_shard.job is c.in-Some-take_in_shard.ensures.took

pub returns-then-may_park-clause-answer : goal.returns-then-may_park-clause-answer
returns-then-may_park-clause-answer c = (c.loop-shard.seat.known, c.loop-shard.invariant.looked.0, c.may_park.ensures.parks c.if-may_park.true)

-- each shard had its turn
pub returns-else-may_park-clause-answer : goal.returns-else-may_park-clause-answer
returns-else-may_park-clause-answer c =
    let inv = c.loop-shard.invariant in let worker : ℕ = c.args.worker in let round = c.loop-shard.round in (
      c.loop-shard.seat.known,
      inv.looked.0,
      λ shard inside is.
          let j : ℕ = shard / 64 in let this : worker + 64 * j ≡ shard = omega (arith, is) in
          let low = inv.all j (omega (arith, this, inside)) in
          subst (λ (s : ℕ). IsSearched s inv.looked.0.1) this
          (inv.looked.1 j low (subst (λ (n : ℕ). IsPast round.count round.first n j) (sym c.in_default.ensures.none.1) (all-past round.count round.first j low))),
      c.may_park.ensures.stays c.if-may_park.false,
    )
