use Rattle.std.proofs.Common.{◌≡◌, [], ◌∷◌, ◌++◌, length, vec_len, refl, ap, sym, ◌∙◌, arith, reverse}
use Rattle.std.proofs.lemmas.{Bool.eqb-false, List.reverse-append, Map.Views.exact_unsigned_eq}
use Rattle.arachne_machine.specs.{declared.level.Parent.Parent, Strands.{moved_level, moved_parents}}
use Rattle.arachne_machine.proofs.Moving.{fits_top, moved_is, no_parents, some_parents}
use Rattle.arachne_machine.proofs.state.State.take_levels.Goals as goal

pub moved-self-requires-clause-start : goal.moved-self-requires-clause-start
moved-self-requires-clause-start c =
    let child = c.args.child.now in
    let f = c.requires.fits in
    let on = fits_top (reverse child.parents.items) child.level.start child.level.place f.0 f.1 f.2 in
    omega (arith, on.0, f.3, c.len-start.ensures, c.args.self.now.frames.ok.0)

pub moved-self-requires-clause-place : goal.moved-self-requires-clause-place
moved-self-requires-clause-place c =
    let child = c.args.child.now in
    let f = c.requires.fits in
    let on = fits_top (reverse child.parents.items) child.level.start child.level.place f.0 f.1 f.2 in
    λ other. let less = on.1 (some_parents child.parents.items (vec_len child.parents) (sym child.parents.ok.0) (eqb-false (vec_len child.parents) 0 (sym c.is_empty.ensures ∙ other))) in
    omega (arith, less, f.4)

pub returns-clause-levels : goal.returns-clause-levels
returns-clause-levels c =
    let t = c.args.self.now in
    let child = c.args.child.now in
    let at = c.args.place in
    let others = reverse child.parents.items in
    let many = vec_len child.parents in
    let long : length child.parents.items ≡ many = sym child.parents.ok.0 in
    let q : Parent = record { level = t.level; control = t.control } in
    let start : c.len-start.result ≡ length t.frames.items = c.len-start.ensures ∙ t.frames.ok.0 in
    record {
      others = refl;
      parents = c.move_parents.ensures ∙ ap (λ l. moved_parents c.len-start.result at (reverse l) ++ reverse c.push_reserved.new.self.items) c.deref.ensures.value
          ∙ ap (λ n. moved_parents n at others ++ reverse c.push_reserved.new.self.items) start
          ∙ ap (λ l. moved_parents (length t.frames.items) at others ++ l) (ap reverse c.push_reserved.ensures.items ∙ reverse-append t.parents.items (q ∷ []));
      level = moved_is c.len-start.result at others child.level c.moved-self.result c.is_empty.result
          (λ none. no_parents child.parents.items many long (exact_unsigned_eq many 0 (sym c.is_empty.ensures ∙ none)))
          (λ some. some_parents child.parents.items many long (eqb-false many 0 (sym c.is_empty.ensures ∙ some)))
          c.moved-self.ensures.outermost c.moved-self.ensures.other
          ∙ ap (λ n. moved_level n at others child.level) start;
    }
