use Rattle.arachne_policy.proofs.Records.{threshold-record, threshold-no_record}
use Rattle.arachne_policy.proofs.laws.threshold_is_of_last_add.Goals as goal

pub returns : goal.returns
returns c = record { recorded = threshold-record; unrecorded = threshold-no_record }
