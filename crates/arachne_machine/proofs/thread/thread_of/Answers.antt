use Rattle.arachne_machine.proofs.Answering.{kept_alone}
use Rattle.arachne_machine.proofs.thread.thread_of.Goals as goal

pub invariant_of-result : goal.invariant_of-result
invariant_of-result c = kept_alone c.args.state.value c.new.result.items c.requires c.new.ensures.items
