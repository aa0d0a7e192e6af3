use denote.Struct.Owning.{to}
use denote.Param.Send.{IsSend}
use Rattle.std.proofs.option.Option.TheSendSync as option
use Rattle.arachne_handle.proofs.Sent.{kept_keyless, fields_keyless}
use Rattle.arachne_exec_c.specs.AdderRow.{row}
use Rattle.arachne_exec_c.specs.contracts.adding.Adding.{the_row as adding}
use Rattle.arachne_exec_c.specs.contracts.adder.ArachneAdder.{the_type, the_row}
use Rattle.arachne_exec_c.proofs.adding.Adding.TheSendSync as adding_is

pub send : IsSend the_row
send = record { owned = λ h vs. (fields_keyless (to the_type h) vs, kept_keyless row (option.the_send adding adding_is.the_send) h.alloc h.at h.value); leaving = λ k d w. tt }
