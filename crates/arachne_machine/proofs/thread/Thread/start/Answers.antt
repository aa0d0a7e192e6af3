use Rattle.std.proofs.Common.{refl, ◌∙◌}
use Rattle.arachne_program.specs.Program.{source_of}
use Rattle.arachne_machine.proofs.{Faultlessness.checked_root, Going.root_sound}
use Rattle.arachne_machine.proofs.thread.Thread.start.Goals as goal

pub thread_of-requires : goal.thread_of-requires
thread_of-requires c =
    let e = c.in_ok-state.ensures in
    root_sound c.args.program _ _ _ c.in_ok-state.state.value e.begins e.holds e.sums (e.name ∙ c.root-root.ensures) refl
    (λ checked. checked_root (source_of c.args.program.now) checked)
