-- The result that C gets for a message.
use Rattle.std.specs.Prelude.{◌≡◌, ◌⊎◌, ℕ, false, List}
use Rattle.arachne_grants.specs.declared.messages.ClientMessage.{ClientMessage}
use Rattle.arachne_grants.specs.declared.messages.ClientMessage.TheVariants as message
use Rattle.arachne_grants.specs.declared.messages.MessageFault.{MessageFault}
use Rattle.arachne_grants.specs.declared.messages.MessageFault.TheVariants as fault
use Rattle.arachne_grants.specs.Messages.{IsFaultOf, IsMessageOf}
use Rattle.arachne_grants_c.specs.Codes as code
use Rattle.arachne_grants_c.specs.declared.message.ArachneMessage.{ArachneMessage}

abbrev pub message_alone : ℕ → ArachneMessage
message_alone k = record {
  code = k;
  priority = 0;
  reserved = 0;
  most = 0;
  client = 0;
  thread = 0;
  place = 0;
  cores = 0;
  floats = false;
}

abbrev pub told_message : ClientMessage → ArachneMessage
told_message (message.Hello priority reserved most) =
    record (message_alone code.hello) { priority = priority; reserved = reserved; most = most }
told_message (message.Join client thread place floats) =
    record (message_alone code.join) { client = client; thread = thread; place = place; floats = floats }
told_message message.Wait = message_alone code.wait
told_message (message.Ask cores) = record (message_alone code.ask) { cores = cores }

abbrev pub code_of : MessageFault → ℕ
code_of fault.Short = code.short
code_of fault.Kind = code.kind
code_of fault.Version = code.version
code_of fault.Priority = code.priority
code_of fault.Place = code.place
code_of fault.Unused = code.unused

-- C gets the message at the beginning of the bytes, or the reason that there is none
abbrev pub IsRead : List ℕ → ArachneMessage → Type 0
IsRead bytes told =
    ((message : ClientMessage) × IsMessageOf bytes message × (told ≡ told_message message))
    ⊎ ((fault : MessageFault) × IsFaultOf bytes fault × (told ≡ message_alone (code_of fault)))
