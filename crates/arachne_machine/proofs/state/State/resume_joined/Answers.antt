use Rattle.std.proofs.Common.{refl, ap, sym, ◌∙◌, subst}
use Rattle.arachne_program.specs.Value.{apply}
use Rattle.arachne_machine.specs.declared.{frame.Control.TheVariants.{Begin, Give}, state.State.State}
use Rattle.arachne_machine.specs.Runs.{ResumesAs}
use Rattle.arachne_machine.proofs.state.State.resume_joined.Goals as goal

pub returns-in-Awaits-clause-resumes : goal.returns-in-Awaits-clause-resumes
returns-in-Awaits-clause-resumes c =
    let t = c.args.self.now in
    let new : State = record c.bind_joined.new.self { control = Begin c.in-Awaits.after } in
    subst (λ k. ResumesAs k t.environment.items t.frames.items c.args.value new) (sym c.in-Awaits.is) (c.bind_joined.ensures.environment_is, c.bind_joined.ensures.frames_are, refl)

pub returns-in-Awaits-clause-rest : goal.returns-in-Awaits-clause-rest
returns-in-Awaits-clause-rest c =
    let b = c.bind_joined.ensures in
    record { program = b.program; own = b.own; lines = b.lines; sums = b.sums; parents = b.parents; level = b.level }

pub returns-in-AwaitsHalf-clause-resumes : goal.returns-in-AwaitsHalf-clause-resumes
returns-in-AwaitsHalf-clause-resumes c =
    let t = c.args.self.now in
    let new : State = record t { control = Give c.apply.result } in
    subst (λ k. ResumesAs k t.environment.items t.frames.items c.args.value new) (sym c.in-AwaitsHalf.is)
    (refl, refl, ap Give (c.apply.ensures ∙ ap (λ o. apply o c.args.value c.in-AwaitsHalf.right) c.operation.ensures))
