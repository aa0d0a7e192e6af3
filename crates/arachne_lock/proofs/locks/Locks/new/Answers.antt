use Rattle.std.proofs.Common.{◌∙◌, ap, get_or}
use Rattle.arachne_lock.proofs.Keeps.{opens}
use Rattle.arachne_lock.proofs.locks.Locks.new.Goals as goal

pub new-requires : goal.new-requires
new-requires c = let words = c.in_ok-words.ensures in
    opens c.args.count c.as_slice.result.now _ (c.as_slice.ensures.len ∙ words.0) (λ i. ap (λ xs. get_or xs i 0) c.as_slice.ensures.value ∙ words.1 i) c.in_ok-slots.ensures
