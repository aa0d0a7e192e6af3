use Rattle.std.{proofs.Common.{rules, ◌≡◌, ◌∷◌, ◌++◌, [], ap, sym, ◌∙◌}, specs.{Box.with_value, Global.Box}}
use Rattle.arachne_machine.specs.declared.line.Ran.TheVariants as ways
use Rattle.arachne_machine.specs.declared.state.State.{State}
use Rattle.arachne_machine.proofs.state.State.wait_with.Goals as goal

pub returns : goal.returns
returns c =
    let here : State → State = λ s. record s { own = record s.own { label = record s.own.label { ran = ways.InPlace } } } in
    let box : Box State = with_value c.args.child (here c.deref_mut.result.now) in
    let appended : c.append.new.self.items ≡ c.args.placed.now.items ++ c.args.grandchildren.now.items = search rules in
    record {
      of_child = c.requires.forked;
      at_fork = λ forks. (box, ap here c.deref_mut.ensures.value, c.push_reserved.ensures.items ∙ ap (λ l. l ++ box ∷ []) appended, c.forked.ensures);
      at_join = λ joins. cc (sym c.requires.forks ∙ joins);
    }
