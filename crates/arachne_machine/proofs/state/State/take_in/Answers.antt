use Rattle.std.proofs.Common.{rules, ◌≡◌, ◌≤◌, ◌<◌, ◌+◌, ◌^◌, vec_len, vec_capacity, ◌∷◌, ◌++◌, length, length-append, refl, ap, sym, ◌∙◌, subst, arith, reverse}
use Rattle.arachne_machine.specs.{declared.level.Parent.Parent, Strands.{moved_level, moved_parents}}
use Rattle.arachne_machine.proofs.Joining.{written-back}
use Rattle.arachne_machine.specs.declared.line.Ran.TheVariants as ways
use Rattle.arachne_machine.proofs.state.State.take_in.Goals as goal

pub take_levels-requires-clause-fits : goal.take_levels-requires-clause-fits
take_levels-requires-clause-fits c =
    let t = c.args.self.now in
    let child = c.args.child.now in
    let v = c.try_reserve-2.new.self in
    let line = record c.take_line-own.result { ran = ways.InPlace } in
    let appended : c.append.new.self ≡ t.lines ++ line ∷ child.lines = search rules in
    let few : length c.append.new.self < 2 ^ 63 = search rules in
    let room : vec_len v + vec_len child.frames ≤ vec_capacity v = search rules in
    let small : vec_capacity v < 2 ^ 64 = search rules in (
      length child.frames.items,
      length child.lines,
      c.requires.fits,
      omega (arith, room, small, v.ok.0, child.frames.ok.0),
      omega (arith, few, ap length appended, length-append t.lines (line ∷ child.lines), c.len-place.ensures.length),
    )

pub returns-clause-ok : goal.returns-clause-ok
returns-clause-ok c =
    let t = c.args.self.now in
    let child = c.args.child.now in
    let d = c.take_levels.ensures.levels in
    let place = c.len-place.result in
    let many = length t.frames.items in
    let q : Parent = record { level = t.level; control = t.control } in
    let line = record c.take_line-own.result { ran = ways.InPlace } in
    let appended : c.append.new.self ≡ t.lines ++ line ∷ child.lines = search rules in
    let few : length c.append.new.self < 2 ^ 63 = search rules in
    let frames : c.append-2.new.self.items ≡ c.take_levels.new.self.frames.items ++ child.frames.items = search rules in
    let lines = ap (λ s. s.lines) d.others in
    record {
      program = ap (λ s. s.program) d.others;
      own = ap (λ s. s.own) d.others;
      lines = lines ∙ appended ∙ ap (λ l. t.lines ++ record l { ran = ways.InPlace } ∷ child.lines) c.take_line-own.ensures.line;
      few = subst (λ l. length l < 2 ^ 63) (sym lines) few;
      sums = λ n own others_too e f. ap (λ s. s.sums.items) d.others
          ∙ written-back c.add_each.new.sums t.sums.items t.sums.len t.sums.ok.0 (c.add_each.auto.sums ∙ ap length c.deref_mut.ensures.value)
          ∙ c.add_each.ensures n own others_too (c.deref_mut.ensures.value ∙ e) (c.deref.ensures.value ∙ f);
      parents = d.parents ∙ ap (λ n. moved_parents n place (reverse child.parents.items) ++ q ∷ reverse c.try_reserve.new.self.items) (ap length c.try_reserve-2.ensures.items)
          ∙ ap (λ n. moved_parents many n (reverse child.parents.items) ++ q ∷ reverse c.try_reserve.new.self.items) c.len-place.ensures.length
          ∙ ap (λ l. moved_parents many (length t.lines) (reverse child.parents.items) ++ q ∷ reverse l) c.try_reserve.ensures.items;
      level = d.level ∙ ap (λ n. moved_level n place (reverse child.parents.items) child.level) (ap length c.try_reserve-2.ensures.items)
          ∙ ap (λ n. moved_level many n (reverse child.parents.items) child.level) c.len-place.ensures.length;
      environment = ap (λ v. v.items) c.swap.ensures.x_after;
      frames = frames ∙ ap (λ l. l ++ child.frames.items) (ap (λ s. s.frames.items) d.others ∙ c.try_reserve-2.ensures.items);
      control_is = refl;
    }
