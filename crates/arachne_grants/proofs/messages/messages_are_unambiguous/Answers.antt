use Rattle.arachne_grants.proofs.Reading.{IsUnambiguous-bytes}
use Rattle.arachne_grants.proofs.messages.messages_are_unambiguous.Goals as goal

pub returns : goal.returns
returns c = IsUnambiguous-bytes c.args.bytes.now
