use Rattle.arachne_ledger.proofs.Keeps.{opens, keeps-add, keeps-read, keeps-split, keeps-join}
use Rattle.arachne_ledger.proofs.laws.words_stay_the_sums.Goals as goal

pub returns : goal.returns
returns c = record { at_first = opens; after_an_add = keeps-add; after_a_read = keeps-read; after_a_split = keeps-split; after_a_join = keeps-join }
