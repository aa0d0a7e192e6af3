use Rattle.std.proofs.Common.{subst, sym}
use Rattle.arachne_machine.specs.{Steps.IsSame, Runs.{Comes, RunsOn, current_in, giving_in}}
use Rattle.arachne_machine.proofs.{Strides.ok_then, Going.{comes_more, runs_more, runs_nothing}}
use Rattle.arachne_machine.proofs.Lasting.{current_running, current_same, err_then}
use Rattle.arachne_machine.proofs.state.State.make.Goals as goal

pub returns-in-Ok-Value-clause-ok : goal.returns-in-Ok-Value-clause-ok
returns-in-Ok-Value-clause-ok g c =
    let had = c.args.left.now in
    let some = c.begin_next.new.left in
    let a = current_in c.args.begins c.args.self.now in
    let mid = c.begin_next.new.self in
    let v = c.in-Ok-Value.value in
    let known : RunsOn _ had some 0 a (giving_in mid v) = subst (λ p. Comes _ had some a p mid) c.in-Ok-Value.field-0-is c.in-Ok-Value.ensures.ok in
    ok_then c.give.result _ _ c.give.ensures.ok (λ p r. comes_more had some _ a (giving_in mid v) p _ known r)

pub returns-in-Ok-Value-clause-err : goal.returns-in-Ok-Value-clause-err
returns-in-Ok-Value-clause-err g c =
    let had = c.args.left.now in
    let some = c.begin_next.new.left in
    let a = current_in c.args.begins c.args.self.now in
    let mid = c.begin_next.new.self in
    let v = c.in-Ok-Value.value in
    let known : RunsOn _ had some 0 a (giving_in mid v) = subst (λ p. Comes _ had some a p mid) c.in-Ok-Value.field-0-is c.in-Ok-Value.ensures.ok in
    err_then c.give.result c.give.ensures.err (λ r. runs_more had some c.give.new.left 0 a (giving_in mid v) c.give.new.self known r)

pub returns-in-Err-clause-err : goal.returns-in-Err-clause-err
returns-in-Err-clause-err g c =
    let t = c.args.self.now in
    let mid = c.begin_next.new.self in
    let a = current_in c.args.begins t in
    let on = runs_nothing c.args.left.now a c.settle.new.self c.requires.sound
    (subst (λ x. IsSame a x) (sym c.settle.ensures) (current_same c.args.begins t mid c.in-Err.ensures.err))
    (current_running c.args.begins t c.requires.left_over) in
    subst (λ n. RunsOn _ c.args.left.now n 0 a c.settle.new.self) (sym c.in-Err.ensures.uncharged) on
