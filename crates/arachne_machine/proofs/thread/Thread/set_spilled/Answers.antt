use Rattle.std.proofs.Common.{ap, sym, ◌∙◌, subst}
use Rattle.arachne_machine.specs.{declared.{line.Label.Label, state.State.State}, Kept.IsKept}
use Rattle.arachne_machine.proofs.{Handed.{kept_sound, none_parents}, Begun.label_given}
use Rattle.arachne_machine.specs.declared.line.Ran.TheVariants as ways
use Rattle.arachne_machine.proofs.thread.Thread.set_spilled.Goals as goal

pub invariant_of-self : goal.invariant_of-self
invariant_of-self c =
    let t = c.self.inside.state.value in
    let ps = c.self.inside.placed.items in
    let label : State → Label = λ s. record { tag = s.own.label.tag; ran = ways.Spill } in
    let with_label : State → State = λ s. record s { own = record s.own { label = label s } } in
    let none = none_parents t (ap (λ v. v.parents) c.self.view_is ∙ c.requires) in
    let r = label_given t (label t) c.self.invariant.sound none in
    subst (λ s. IsKept (with_label s) ps) (sym c.deref_mut.ensures.value)
    (kept_sound (with_label t) ps r.sound c.self.invariant.children c.self.invariant.nested_is.waiting (λ e. none))
