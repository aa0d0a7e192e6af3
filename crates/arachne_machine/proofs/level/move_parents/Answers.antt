use Rattle.std.proofs.{Common.{◌≡◌, ◌∷◌, ◌++◌, [], take, ap, sym, ◌∙◌, subst, arith, reverse}, Math.Dec.eqb}
use Rattle.std.proofs.{Math.Seq.take-length, lemmas.{Map.Views.exact_unsigned_eq, Bool.eqb-false, List.reverse-append}}
use Rattle.arachne_machine.specs.{declared.level.{Level.Level, Parent.Parent}, Strands.{moved_level, moved_parents}}
use Rattle.arachne_machine.proofs.Moving.{Bounded, bounded, moved_is, none_before, parents_up_to, positive, some_before}
use Rattle.arachne_machine.proofs.level.move_parents.Goals as goal

pub moved-requires-clause-start : goal.moved-requires-clause-start
moved-requires-clause-start c =
    let xs = c.args.others.now in
    let i = c.loop-i.i in
    let p = c.index-others-i.result in
    let f = c.requires.fits in
    let b : Bounded c.args.start c.args.place xs i p = subst (Bounded c.args.start c.args.place xs i) (sym c.index-others-i.is)
    (bounded c.args.start c.args.place xs i f.0 f.1 f.2 f.3 p c.loop-i-test.true f.4 f.5 f.6) in
    b.start_fits

pub moved-requires-clause-place : goal.moved-requires-clause-place
moved-requires-clause-place c =
    let xs = c.args.others.now in
    let i = c.loop-i.i in
    let p = c.index-others-i.result in
    let f = c.requires.fits in
    let b : Bounded c.args.start c.args.place xs i p = subst (Bounded c.args.start c.args.place xs i) (sym c.index-others-i.is)
    (bounded c.args.start c.args.place xs i f.0 f.1 f.2 f.3 p c.loop-i-test.true f.4 f.5 f.6) in
    λ other. b.place_fits (positive i (eqb-false i 0 other))

pub loop-i-preserved : goal.loop-i-preserved
loop-i-preserved c =
    let xs = c.args.others.now in
    let i = c.loop-i.i in
    let p = c.index-others-i.result in
    let before = reverse (take i xs) in
    let were = reverse c.args.parents.now.items in
    let lt = c.loop-i-test.true in
    let entry : Level → Parent = λ level. record { level = level; control = p.control } in
    let level : c.moved.result ≡ moved_level c.args.start c.args.place before p.level =
    moved_is c.args.start c.args.place before p.level c.moved.result (eqb i 0) (λ first. none_before xs i (exact_unsigned_eq i 0 first)) (λ other. some_before xs i lt (positive i (eqb-false i 0 other)))
    c.moved.ensures.outermost c.moved.ensures.other in
    record {
      moved = ap reverse c.push_reserved.ensures.items ∙ reverse-append c.loop-i.parents.items (entry c.moved.result ∷ []) ∙ ap (λ l. entry c.moved.result ∷ l) c.loop-i.invariant.moved
          ∙ ap (λ v. entry v ∷ (moved_parents c.args.start c.args.place before ++ were)) level
          ∙ ap (λ l. moved_parents c.args.start c.args.place l ++ were) (sym (parents_up_to xs i p lt ∙ ap (λ x. x ∷ before) (sym c.index-others-i.is)));
      long = omega (arith, c.push_reserved.ensures.len, c.loop-i.invariant.long);
      room = omega (arith, c.push_reserved.ensures.capacity, c.loop-i.invariant.room);
    }

pub returns : goal.returns
returns c =
    let xs = c.args.others.now in
    c.loop-i.invariant.moved
    ∙ ap (λ l. moved_parents c.args.start c.args.place (reverse l) ++ reverse c.args.parents.now.items)
    (ap (λ n. take n xs) (omega (arith, c.loop-i-test.false, c.loop-i.auto.i-end)) ∙ take-length xs)
