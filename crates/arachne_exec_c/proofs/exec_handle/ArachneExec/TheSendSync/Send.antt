use denote.Struct.Owning.{to}
use denote.Param.Send.{IsSend}
use Rattle.std.proofs.option.Option.TheSendSync as option
use Rattle.arachne_handle.proofs.Sent.{kept_keyless, fields_keyless}
use Rattle.arachne_exec_c.specs.ExecRow.{row}
use Rattle.arachne_exec_c.specs.contracts.executing.Executing.{the_row as executing}
use Rattle.arachne_exec_c.specs.contracts.exec_handle.ArachneExec.{the_type, the_row}
use Rattle.arachne_exec_c.proofs.executing.Executing.TheSendSync as executing_is

pub send : IsSend the_row
send = record { owned = λ h vs. (fields_keyless (to the_type h) vs, kept_keyless row (option.the_send executing executing_is.the_send) h.alloc h.at h.value); leaving = λ k d w. tt }
