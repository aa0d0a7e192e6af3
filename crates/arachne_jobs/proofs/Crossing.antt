-- Which of a run's values may cross threads.
use denote.Enum.Declared as enum
use denote.{Enum.Enum.Enum, Ref.NamedLft, Param.Send.{IsSend, IsSync, sendable, recorded_send, enum_send}}
use Rattle.std.proofs.Crossing as std
use Rattle.arachne_core.proofs.thread_id.ThreadId.TheSendSync as id
use Rattle.arachne_join.proofs.Crossing.{sender_send, receiver_send, unused_send}
use Rattle.arachne_machine.proofs.Crossing.{contents_send, thread_field_send, detached_send, spares_field_send}
use Rattle.arachne_join.proofs.cell.JoinCell.TheSendSync as cell
use Rattle.arachne_join.proofs.sending_end.SendingEnd.TheSendSync as sending_end
use Rattle.arachne_jobs.specs.contracts.ends.End as an_end
use Rattle.arachne_jobs.specs.contracts.ends.WaitEnd as wait_end
use Rattle.arachne_jobs.specs.contracts.job.Job as job
use Rattle.arachne_jobs.specs.contracts.left.LeftInCell as left
use Rattle.arachne_jobs.specs.contracts.left.Waiting as waiting
use Rattle.arachne_jobs.specs.contracts.parts.Parts as parts
use Rattle.arachne_jobs.specs.contracts.parts.SpareBoxes as spare_boxes
use Rattle.arachne_jobs.specs.contracts.spares.JobSpares as spares
use Rattle.arachne_jobs.specs.contracts.ties.SpareTies as spare_ties
use Rattle.arachne_jobs.specs.contracts.ties.Ties as ties
use Rattle.arachne_jobs.specs.contracts.waiting.Ticket as ticket
use Rattle.arachne_jobs.specs.contracts.waiting.WaitCell as wait_cell
use Rattle.arachne_jobs.specs.contracts.wanted.Wanted as wanted

pub wanted_send : IsSend wanted.the_row
wanted_send = search (sendable, std.crosses) depth 30

pub wanted_sync : IsSync wanted.the_row
wanted_sync = search (sendable, std.crosses) depth 30

waiting_send : (κ : NamedLft) → IsSend (waiting.the_field κ).row
waiting_send κ = search (sendable, std.crosses, thread_field_send, id.the_field_send) depth 30

left_send : (κ : NamedLft) → IsSend (left.the_row κ)
left_send κ = recorded_send (Enum (enum.shape (left.the_type κ))) ((left.the_type κ).D) ((left.the_type κ).to) ((left.the_type κ).to_one)
    (enum_send (enum.shape (left.the_type κ)) ((search (sendable, std.crosses, waiting_send) depth 20, tt), ((search (sendable, std.crosses, detached_send) depth 20, tt), tt)))

wait_cell_send : (κ : NamedLft) → IsSend (wait_cell.the_row κ)
wait_cell_send κ = search (sendable, std.crosses, cell.the_send, cell.the_sync, left_send, wanted_send, wanted_sync) depth 30

pub ticket_send : (κ : NamedLft) → IsSend (ticket.the_row κ)
ticket_send κ = search (sendable, std.crosses, cell.the_send, cell.the_sync, left_send, wanted_send, wanted_sync) depth 30

wait_cell_field_send : (κ : NamedLft) → IsSend (wait_cell.the_field κ).row
wait_cell_field_send κ = search (sendable, std.crosses, cell.the_send, cell.the_sync, left_send, wanted_send, wanted_sync) depth 30

wait_end_send : (κ : NamedLft) → IsSend (wait_end.the_row κ)
wait_end_send κ = search (sendable, std.crosses, wait_cell_field_send, sending_end.the_send, left_send, wanted_send, wanted_sync) depth 40

end_send : IsSend an_end.the_row
end_send = search (sendable, std.crosses, sender_send, receiver_send, detached_send, wanted_send, wanted_sync) depth 40

ties_send : IsSend ties.the_row
ties_send = search (sendable, std.crosses, end_send, id.the_field_send) depth 30

parts_send : (κ : NamedLft) → IsSend (parts.the_row κ)
parts_send κ = search (sendable, std.crosses, thread_field_send, ties_send, contents_send, wait_end_send) depth 30

pub job_send : (κ : NamedLft) → IsSend (job.the_row κ)
job_send κ = search (sendable, std.crosses, parts_send) depth 30

spare_boxes_send : (κ : NamedLft) → IsSend (spare_boxes.the_field κ).row
spare_boxes_send κ = search (sendable, std.crosses, parts_send) depth 30

spare_ties_send : IsSend spare_ties.the_field.row
spare_ties_send = search (sendable, std.crosses, ties_send) depth 30

pub spares_send : (κ : NamedLft) → IsSend (spares.the_row κ)
spares_send κ = search (sendable, std.crosses, spares_field_send, spare_ties_send, spare_boxes_send, unused_send, detached_send) depth 30
