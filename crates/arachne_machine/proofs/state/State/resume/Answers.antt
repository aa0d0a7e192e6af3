use Rattle.std.proofs.Common.{refl, ap, sym}
use Rattle.arachne_machine.{specs.{Steps.pending_of, Runs.giving_in}, proofs.Going.runs_nothing}
use Rattle.arachne_machine.proofs.state.State.resume.Goals as goal

pub returns-in-Give-clause-ok : goal.returns-in-Give-clause-ok
returns-in-Give-clause-ok g c =
    let t = c.args.self.now in
    runs_nothing _ t (giving_in t c.in-Give.value) c.requires.sound
    (record { program = refl; own = refl; lines = refl; sums = refl; parents = refl; level = refl; environment_is = refl; frames_are = refl; control_is = sym c.in-Give.is })
    (ap pending_of c.in-Give.is)
