-- A move to a claimed place. The idea: the two looks find the claim's context, free at the target and still the seat's
-- (`found`); then each outcome of the exchange is one equation of the seat (`undone`, `away`, `all-moved`). One step
-- more or less changes the equation of its outcome, and `ToAnswer`.
use Rattle.std.proofs.Common.{◌≡◌, ℕ, ◌-◌, ◌<◌, ◌∙◌, ap, sym, subst, refl, arith}
use Rattle.arachne_core.specs.{declared.{layout.TheConstants.CORE_BITS, place.Place.Place}, Marked.{Marked, mark_word}}
use Rattle.arachne_rule.specs.{declared.view.{Carried.Carried, Known.Known}, Layout.{occ_index, name_index}}
use Rattle.arachne_rule.specs.{Plays.Carries, Views.{noted, with_context, without_context}}
use Rattle.arachne_rule.{specs.Changes.{index_sum, left_context}, proofs.Carrying.with-at}
use Rattle.arachne_rule.specs.declared.view.Kind.TheVariants as kind
use Rattle.arachne_words.specs.{Seats.{CallView, claimed_by}, Steps.IsClaimed, Calls.{looked, learned, released}}
use Rattle.arachne_words.{specs.Moves.{ToAnswer, free_at, shared_claim, moved_off}, proofs.Out.without-with}
use Rattle.arachne_words.proofs.table.WordContexts.move_to.Goals.{After-see_mark-free, After-release, After-with_place, After-move_off}
use Rattle.arachne_contexts.specs.declared.answers.Moved.TheVariants as moved
use Rattle.arachne_words.proofs.table.WordContexts.move_to.Given as given
use Rattle.arachne_words.proofs.table.WordContexts.move_to.Goals as goal

-- context y, which stands at the place, as it was claimed there
abbrev claimed_at : Place → ℕ → ℕ → Carried
claimed_at p y generation = claimed_by (shared_claim p) y generation

-- the place word was seen, and the mark word of the context that it names
abbrev seen_both : ℕ → Place → ℕ → Marked → Known → Known
seen_both n p y free k = looked y (mark_word CORE_BITS free) (learned (name_index n p) y k)

early : (g : given.Over) (c : goal.After-see_mark-free g)
    → c.see_mark-free.new.seat ≡ record c.args.seat.now { known = seen_both c.args.self.now.table.slots c.args.target c.see_name-replaced.result c.see_mark-free.result c.args.seat.now.known }
early g c =
    c.see_mark-free.ensures.seat ∙ ap (λ (v : CallView g.row.T.Denot). record v { known = looked c.see_name-replaced.result (mark_word CORE_BITS c.see_mark-free.result) v.known }) c.see_name-replaced.ensures.seat

-- the looks found the context of a claim: it is free, and the seat still has it
record Found (g : given.Over) (c : goal.After-see_mark-free g) (y generation : ℕ) : Type 0 where
  same : c.see_name-replaced.result ≡ y
  claimed : IsClaimed c.args.self.now c.see_mark-free.new.seat.known (claimed_at c.args.target c.see_name-replaced.result generation)
  free : c.see_mark-free.result ≡ free_at c.args.target generation

found : (g : given.Over) (c : goal.After-see_mark-free g) (y generation : ℕ) → y < c.args.self.now.table.slots → Carries c.args.seat.now.known (claimed_at c.args.target y generation) → Found g c y generation
found g c y generation inside given =
    let e = c.see_name-replaced.ensures.carried (claimed_at c.args.target y generation) inside given refl refl in
    let a : Carried = claimed_at c.args.target c.see_name-replaced.result generation in
    let has = subst (λ (n : ℕ). Carries c.args.seat.now.known (claimed_at c.args.target n generation)) (sym e) given in
    let named = subst (λ (v : CallView g.row.T.Denot). Carries v.known a) (sym c.see_name-replaced.ensures.seat) has in
    let looked_at = subst (λ (v : CallView g.row.T.Denot). Carries v.known a) (sym (early g c)) has in
    record {
      same = e;
      claimed = record { inside = c.see_name-replaced.ensures.context; carried = looked_at; claimed = refl };
      free = sym c.see_mark-free.ensures.read ∙ (c.see_mark-free.ensures.carried a refl named).0 refl;
    }

mine : (g : given.Over) (c : goal.After-see_mark-free g) → Found g c c.requires.claim.context c.requires.claim.generation
mine g c = let claim = c.requires.claim in found g c claim.context claim.generation claim.inside claim.carried

-- the exchange was lost, and the place given back
undone : (g : given.Over) (c : goal.After-release g) (y generation : ℕ) → Found g (goal.at.After-release g c).After-see_mark-free y generation
    → (before : ℕ) × (c.release.new.seat ≡ record c.args.seat.now {
      known = released (occ_index c.args.self.now.table.slots c.args.target.core) before (index_sum c.args.target.index) (claimed_at c.args.target c.see_name-replaced.result generation)
          (noted kind.Move c.args.moving c.in-Err.found c.in-Err.found (seen_both c.args.self.now.table.slots c.args.target c.see_name-replaced.result c.see_mark-free.result c.args.seat.now.known));
    })
undone g c y generation is =
    let a : Carried = claimed_at c.args.target c.see_name-replaced.result generation in
    let i : ℕ = occ_index c.args.self.now.table.slots c.args.target.core in
    let lost = c.in-Err.ensures.lost.1 in
    let told = c.release.ensures c.see_name-replaced.result generation c.see_name-replaced.ensures.context (subst (λ (v : CallView g.row.T.Denot). Carries v.known a) (sym lost) is.claimed.carried) in (
      told.0,
      told.1 ∙ ap (λ (v : CallView g.row.T.Denot). record v { known = released i told.0 (index_sum c.args.target.index) a v.known })
          (lost ∙ ap (λ (v : CallView g.row.T.Denot). record v { known = noted kind.Move c.args.moving c.in-Err.found c.in-Err.found v.known }) (early g (goal.at.After-release g c).After-see_mark-free)),
    )

-- the exchange was made: the context that stood at the target has left it, and is free at the source
away : (g : given.Over) (c : goal.After-with_place g) (y generation : ℕ) → Found g (goal.at.After-with_place g c).After-see_mark-free y generation
    → c.try_move.new.seat ≡ record c.args.seat.now {
      known = noted kind.Move c.args.moving (mark_word CORE_BITS c.args.seen) (mark_word CORE_BITS (record c.args.seen { place = c.args.target }))
          (with_context (seen_both c.args.self.now.table.slots c.args.target c.see_name-replaced.result c.see_mark-free.result c.args.seat.now.known)
          (left_context (claimed_at c.args.target c.see_name-replaced.result generation) c.args.seen.place));
    }
away g c y generation is =
    let a : Carried = claimed_at c.args.target c.see_name-replaced.result generation in
    let moved_word : ℕ = mark_word CORE_BITS (record c.args.seen { place = c.args.target }) in
    c.in_default.ensures.won a is.claimed refl
    ∙ ap (λ (v : CallView g.row.T.Denot). record v { known = noted kind.Move c.args.moving (mark_word CORE_BITS c.args.seen) moved_word (with_context v.known (left_context a c.args.seen.place)) })
    (early g (goal.at.After-with_place g c).After-see_mark-free)

placed : (g : given.Over) (c : goal.After-with_place g) (y generation : ℕ) → Found g (goal.at.After-with_place g c).After-see_mark-free y generation → c.with_place.result ≡ free_at c.args.source generation
placed g c y generation is = c.with_place.ensures ∙ ap (λ (m : Marked). record m { place = c.args.source }) is.free

all-moved : (g : given.Over) (c : goal.After-move_off g) (y generation : ℕ) → Found g (goal.at.After-move_off g c).After-see_mark-free y generation
    → (named before named_before last : ℕ) × (c.move_off.new.seat ≡ record c.args.seat.now {
      known = moved_off c.args.self.now.table.slots c.args.moving c.see_name-replaced.result c.with_place.result.generation c.args.source c.args.target named before named_before last
          (without_context (noted kind.Move c.args.moving (mark_word CORE_BITS c.args.seen) (mark_word CORE_BITS (record c.args.seen { place = c.args.target }))
          (with_context (seen_both c.args.self.now.table.slots c.args.target c.see_name-replaced.result c.see_mark-free.result c.args.seat.now.known)
          (left_context (claimed_at c.args.target c.see_name-replaced.result generation) c.args.seen.place)))
          (claimed_at c.args.source c.see_name-replaced.result c.with_place.result.generation));
    })
all-moved g c y generation is =
    let told = c.move_off.ensures in
    let x = c.see_name-replaced.result in
    let big : ℕ = c.with_place.result.generation in
    let off = λ (u : Known). moved_off c.args.self.now.table.slots c.args.moving x big c.args.source c.args.target told.0 told.1 told.2 told.3 (without_context u (claimed_at c.args.source x big)) in
    (told.0, told.1, told.2, told.3, told.4 ∙ ap (λ (v : CallView g.row.T.Denot). record v { known = off v.known }) (away g (goal.at.After-move_off g c).After-with_place y generation is))

pub try_move-requires-clause-own : goal.try_move-requires-clause-own
try_move-requires-clause-own g c = ap (λ v. v.table) (early g (goal.at.try_move-requires-clause-own g c).After-see_mark-free) ∙ c.requires.own

pub try_move-requires-clause-rests : goal.try_move-requires-clause-rests
try_move-requires-clause-rests g c = (c.requires.rests.0, c.requires.rests.1, λ e. c.requires.rests.2 (ap (λ (p : Place). p.core) (sym c.requires.places.2) ∙ e))

pub try_move-requires-clause-claimed : goal.try_move-requires-clause-claimed
try_move-requires-clause-claimed g c = (claimed_at c.args.target c.see_name-replaced.result c.requires.claim.generation, (mine g (goal.at.try_move-requires-clause-claimed g c).After-see_mark-free).claimed, refl, refl, refl)

pub release-requires-clause-own : goal.release-requires-clause-own
release-requires-clause-own g c =
    let first = early g (goal.at.release-requires-clause-own g c).After-see_mark-free in
    ap (λ v. v.table) c.in-Err.ensures.lost.1 ∙ ap (λ v. v.table) first ∙ c.requires.own

pub release-requires-clause-claim : goal.release-requires-clause-claim
release-requires-clause-claim g c =
    let is = (mine g (goal.at.release-requires-clause-claim g c).After-see_mark-free).claimed in
    let generation : ℕ = c.requires.claim.generation in
    let a : Carried = claimed_at c.args.target c.see_name-replaced.result generation in
    let has = subst (λ (v : CallView g.row.T.Denot). Carries v.known a) (sym c.in-Err.ensures.lost.1) is.carried in
    record { context = c.see_name-replaced.result; generation = generation; placed = c.requires.places.0; inside = is.inside; carried = has }

pub returns-in-Err-clause-seat : goal.returns-in-Err-clause-seat
returns-in-Err-clause-seat g c =
    let whole = (undone g c _ _ (mine g (goal.at.returns-in-Err-clause-seat g c).After-see_mark-free)).1 in
    (ap (λ v. v.table) whole, ap (λ v. v.weight) whole, ap (λ v. v.slots) whole)

pub returns-in-Err-clause-answer : goal.returns-in-Err-clause-answer
returns-in-Err-clause-answer g c y gen y_in given =
    let is = found g (goal.at.After-release g c).After-see_mark-free y gen y_in given in
    let told = undone g c y gen is in
    let x = c.see_name-replaced.result in
    let i : ℕ = occ_index c.args.self.now.table.slots c.args.target.core in
    subst (λ (n : ℕ). ToAnswer c.args.self.now c.args.moving c.args.seen c.args.target n gen c.args.seat.now.known (moved.Lost c.in-Err.found) c.release.new.seat.known) is.same (
      told.0,
      c.in-Err.ensures.lost.0,
      ap (λ v. v.known) told.1 ∙ (λ j. noted kind.Release i told.0 (told.0 - index_sum c.args.target.index)
          (noted kind.Move c.args.moving c.in-Err.found c.in-Err.found (seen_both c.args.self.now.table.slots c.args.target x (is.free j) (without_context c.args.seat.now.known (claimed_at c.args.target x gen))))),
    )

pub with_place-requires : goal.with_place-requires
with_place-requires g c = record {
  index = omega (arith, c.requires.places.1.1, ap (λ v. v.shape.places_per_core) c.self.view_is, c.self.invariant.places_fit);
  core = omega (arith, c.requires.places.1.0, ap (λ v. v.shape.cores) c.self.view_is, c.self.invariant.cores_fit);
}

pub move_off-requires-clause-own : goal.move_off-requires-clause-own
move_off-requires-clause-own g c =
    let at = goal.at.move_off-requires-clause-own g c in
    ap (λ v. v.table) (away g at.After-with_place _ _ (mine g at.After-see_mark-free)) ∙ c.requires.own

pub move_off-requires-clause-places : goal.move_off-requires-clause-places
move_off-requires-clause-places g c = (c.requires.places.0, c.requires.places.1)

pub move_off-requires-clause-contexts : goal.move_off-requires-clause-contexts
move_off-requires-clause-contexts g c = (c.requires.context, c.see_name-replaced.ensures.context)

pub move_off-requires-clause-free : goal.move_off-requires-clause-free
move_off-requires-clause-free g c =
    let at = goal.at.move_off-requires-clause-free g c in
    let p = placed g at.After-with_place _ _ (mine g at.After-see_mark-free) in
    p ∙ ap (free_at c.args.source) (sym (ap (λ (m : Marked). m.generation) p))

pub move_off-requires-clause-left : goal.move_off-requires-clause-left
move_off-requires-clause-left g c =
    let at = goal.at.move_off-requires-clause-left g c in
    let is = mine g at.After-see_mark-free in
    let x = c.see_name-replaced.result in
    let l : Carried = left_context (claimed_at c.args.target x c.requires.claim.generation) c.args.seen.place in
    let same = ap (λ (m : Marked). m.generation) (placed g at.After-with_place _ _ is) in
    subst (λ (z : ℕ × Place). Carries c.try_move.new.seat.known (left_context (claimed_at c.args.target x z.0) z.1)) (λ i. (sym same i, c.requires.places.2 i))
    (subst (λ (v : CallView g.row.T.Denot). Carries v.known l) (sym (away g at.After-with_place _ _ is)) (with-at l x c.args.seat.now.known.carried refl))

pub returns-clause-seat : goal.returns-clause-seat
returns-clause-seat g c =
    let whole = (all-moved g c _ _ (mine g (goal.at.returns-clause-seat g c).After-see_mark-free)).4 in
    (ap (λ v. v.table) whole, ap (λ v. v.weight) whole, ap (λ v. v.slots) whole)

pub returns-clause-answer : goal.returns-clause-answer
returns-clause-answer g c y gen y_in given =
    let at = goal.at.After-move_off g c in
    let is = found g at.After-see_mark-free y gen y_in given in
    let told = all-moved g c y gen is in
    let same = ap (λ (m : Marked). m.generation) (placed g at.After-with_place y gen is) in
    let x = c.see_name-replaced.result in
    let n : ℕ = c.args.self.now.table.slots in
    let k : Known = c.args.seat.now.known in
    let l : Carried = left_context (claimed_at c.args.target x gen) c.args.seen.place in
    subst (λ (m : ℕ). ToAnswer c.args.self.now c.args.moving c.args.seen c.args.target m gen k moved.Moved c.move_off.new.seat.known) is.same (
      told.0,
      told.1,
      told.2,
      told.3,
      ap (λ v. v.known) told.4 ∙ (λ i. moved_off n c.args.moving x (same i) (sym c.requires.places.2 i) c.args.target told.0 told.1 told.2 told.3
          (noted kind.Move c.args.moving (mark_word CORE_BITS c.args.seen) (mark_word CORE_BITS (record c.args.seen { place = c.args.target }))
          (seen_both n c.args.target x (is.free i) (record k { carried = without-with l k.carried i })))),
    )
