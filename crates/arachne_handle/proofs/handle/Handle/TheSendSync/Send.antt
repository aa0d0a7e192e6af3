use denote.{RattleType.RattleType, Struct.Owning.to, Param.Send.IsSend}
use Rattle.arachne_handle.specs.contracts.handle.Handle.{the_type, the_row}
use Rattle.arachne_handle.proofs.Sent.{kept_keyless, fields_keyless}

pub send : (T : RattleType) → IsSend T → IsSend (the_row T)
send T s = record { owned = λ h vs. (fields_keyless (to (the_type T) h) vs, kept_keyless T s h.alloc h.at h.value); leaving = λ k d w. tt }
