-- Several kernel threads may look at one seat.
use denote.{RattleType.RattleType, Param.Send.{IsSend, IsSync, part_keyless, sendable}}
use Rattle.std.proofs.Crossing as std
use Rattle.atomic_table.specs.contracts.shared.Seat as seat
use Rattle.atomic_table.proofs.shared.Seat.TheSendSync as seat_is
use Rattle.arachne_exec.specs.contracts.seat.SeatInCall as call_seat
use Rattle.arachne_exec.specs.contracts.seat.ExecSeat as exec_seat

table_seat_sync : (S V : RattleType) → IsSend S → IsSync (seat.the_row S V)
table_seat_sync S V s = record { shared = λ d b o κ q. part_keyless (seat.the_row S V) (seat_is.the_send S V s) q d b o }

pub call_seat_sync : IsSync call_seat.the_row
call_seat_sync = search (sendable, std.crosses, table_seat_sync) depth 30

pub exec_seat_sync : IsSync exec_seat.the_row
exec_seat_sync = search (sendable, std.crosses, call_seat_sync) depth 30
