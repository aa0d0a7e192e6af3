use Rattle.std.proofs.Common.{◌≡◌, ◌∙◌, ◌+◌, ap, sym, subst, length, vec_len, IfSome, Some, Result, Ok, Err}
use Rattle.std.specs.Result.{IfOk, result_ok}
use Rattle.std.proofs.lemmas.Option.{IfSome_then}
use denote.Param.Send.{sendable}
use Rattle.std.proofs.Crossing as std
use Rattle.arachne_words.proofs.seat.WordSeat.TheSendSync as seat
use Rattle.arachne_words.proofs.table.WordContexts.TheSendSync as table
use Rattle.arachne_pool.proofs.Crossing.{spawned_send, worker_send}
use Rattle.example_server.proofs.job.Answer.TheSendSync as answer
use Rattle.example_server.proofs.job.Job.TheSendSync as job
use Rattle.example_server.proofs.send.Report.TheSendSync as report
use Rattle.example_server.proofs.server.Server.TheSendSync as server
use Rattle.example_server.proofs.start.run.Goals as goal

-- what a kernel thread has may cross, and it may look at what all have in common
pub work_together-requires-send-S : goal.work_together-requires-send-S
work_together-requires-send-S g c κs within =
    search (sendable, std.crosses, worker_send, seat.the_send, spawned_send, job.the_send, answer.the_send, report.the_send) depth 40

pub work_together-requires-sync-W : goal.work_together-requires-sync-W
work_together-requires-sync-W g c κs within =
    search (sendable, std.crosses, server.the_sync, table.the_sync, spawned_send, job.the_send, answer.the_send) depth 40

-- what a clause says of a value is so of the value that `ok` passes on
passed_on : {T E : Type 0} (P : T → Type 0) (r : Result T E) → IfOk r P → IfSome (result_ok r) P
passed_on P (Ok x) is = is
passed_on P (Err e) is = is

of_ok : {T E : Type 0} (P : T → Type 0) {x : T} (r : Result T E) → Some x ≡ result_ok r → IfOk r P → P x
of_ok P r same is = subst (λ o. IfSome o P) (sym same) (passed_on P r is)

-- the report is that of the share that the kernel threads leave, whose requests are those of the list
pub returns : goal.returns
returns g c = IfSome_then c.end.result c.end.ensures (λ report is.
    subst (λ r. IfSome r (λ report. vec_len report.answers + report.refused ≡ length c.in_ok-server.server.requests.now)) is c.in_ok-share.ensures.1
    ∙ ap length (of_ok _ c.begin-begun.result c.in_ok-server.ensures.value c.begin-begun.ensures.requests))
