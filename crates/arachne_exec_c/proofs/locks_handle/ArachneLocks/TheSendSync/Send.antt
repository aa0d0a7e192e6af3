use denote.Struct.Owning.{to}
use denote.Param.Send.{IsSend}
use Rattle.std.proofs.option.Option.TheSendSync as option
use Rattle.arachne_handle.proofs.Sent.{kept_keyless, fields_keyless}
use Rattle.arachne_exec_c.specs.SeatingRow.{row}
use Rattle.arachne_exec_c.specs.contracts.seated.Seated.{the_row as seated}
use Rattle.arachne_exec_c.specs.contracts.locks_handle.ArachneLocks.{the_type, the_row}
use Rattle.arachne_exec_c.proofs.seated.Seated.TheSendSync as seated_is

pub send : IsSend the_row
send = record { owned = λ h vs. (fields_keyless (to the_type h) vs, kept_keyless row (option.the_send seated seated_is.the_send) h.alloc h.at h.value); leaving = λ k d w. tt }
