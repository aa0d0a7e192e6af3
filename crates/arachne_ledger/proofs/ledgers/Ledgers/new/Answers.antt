use Rattle.std.proofs.Common.{◌∙◌, ap, get_or}
use Rattle.arachne_ledger.proofs.Keeps.{opens}
use Rattle.arachne_ledger.proofs.ledgers.Ledgers.new.Goals as goal

pub of_words-requires : goal.of_words-requires
of_words-requires c = let blank = c.in_ok-words.ensures in
    opens c.args.count c.as_slice.result.now (c.as_slice.ensures.len ∙ blank.0) (λ i. ap (λ xs. get_or xs i 0) c.as_slice.ensures.value ∙ blank.1 i)
