use denote.Param.Send.{sendable}
use Rattle.std.proofs.Crossing as std
use Rattle.arachne_words.proofs.seat.WordSeat.TheSendSync as seat
use Rattle.arachne_words.proofs.table.WordContexts.TheSendSync as table
use Rattle.arachne_pool.proofs.Crossing.{spawned_send, worker_send}
use Rattle.arachne_pool_tests.proofs.rows.Crew.TheSendSync as crew
use Rattle.arachne_pool_tests.proofs.tasks.Task.TheSendSync as task
use Rattle.arachne_pool_tests.proofs.rows.holds.Goals as goal

-- what a kernel thread has may cross, and it may look at what all have in common
pub work_together-requires-send-S : goal.work_together-requires-send-S
work_together-requires-send-S g c κs within =
    search (sendable, std.crosses, worker_send, seat.the_send, spawned_send, task.the_send) depth 40

pub work_together-requires-sync-W : goal.work_together-requires-sync-W
work_together-requires-sync-W g c κs within =
    search (sendable, std.crosses, crew.the_sync, table.the_sync, spawned_send, task.the_send) depth 40
