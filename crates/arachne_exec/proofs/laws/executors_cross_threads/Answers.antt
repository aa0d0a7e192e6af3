use denote.Param.Send.{sendable}
use Rattle.arachne_exec.proofs.Crossing.{exec_seat_sync}
use Rattle.arachne_exec.proofs.laws.executors_cross_threads.Goals as goal

pub may_be_shared-requires-2-sync-T : goal.may_be_shared-requires-2-sync-T
may_be_shared-requires-2-sync-T c κs = search (sendable, exec_seat_sync) depth 20
