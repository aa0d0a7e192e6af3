use Rattle.std.proofs.{Common.{◌≡◌, length, [], vec_len, ap, refl, sym, ◌∙◌, arith}, lemmas.List.nil_from_length}
use Rattle.arachne_machine.{specs.Runs.giving_in, proofs.Strides.ok_then}
use Rattle.arachne_machine.proofs.{Going.{comes_end, comes_join, start_in}, Lasting.{has_parent, is_none, is_some}}
use Rattle.arachne_machine.proofs.state.State.hand_newest.Goals as goal

pub returns-then-is_empty-clause-ok : goal.returns-then-is_empty-clause-ok
returns-then-is_empty-clause-ok g c =
    let t = c.args.self.now in
    let none : t.parents.items ≡ [] = nil_from_length t.parents.items (omega (arith, is_none (vec_len t.parents) (sym c.is_empty.ensures ∙ c.if-is_empty.true), t.parents.ok.0)) in
    comes_end _ c.args.value t _ c.requires.sound none (omega (arith, c.if-len-self.false, c.len.ensures, t.frames.ok.0))
    (record { program = refl; own = refl; lines = refl; sums = refl; parents = refl; level = refl; environment_is = refl; frames_are = refl; control_is = refl })

pub join_here-requires-clause-parent : goal.join_here-requires-clause-parent
join_here-requires-clause-parent g c =
    let some : c.args.self.now.parents.items ≡ [] → ⊥ =
    λ e. is_some (vec_len c.args.self.now.parents) (sym c.is_empty.ensures ∙ c.if-is_empty.false) (omega (arith, ap length e, c.args.self.now.parents.ok.0)) in
    has_parent c.args.self.now c.args.value c.requires.sound some

pub returns-clause-ok : goal.returns-clause-ok
returns-clause-ok g c =
    let t = c.args.self.now in
    let le = start_in (giving_in t c.args.value) c.requires.sound in
    let long : length t.frames.items ≡ t.level.start = omega (arith, le, c.if-len-self.false, c.len.ensures, t.frames.ok.0) in
    ok_then c.join_here.result _ _ c.join_here.ensures.ok (λ p r. comes_join _ t c.join_here.new.self c.args.value _ _ p c.requires.sound long r)
