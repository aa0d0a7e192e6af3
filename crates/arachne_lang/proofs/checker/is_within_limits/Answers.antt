use Rattle.std.proofs.Common.{◌≡◌, true, false}
use Rattle.arachne_lang.proofs.checker.is_within_limits.Goals as goal

pub returns-else-have_items_within : goal.returns-else-have_items_within
returns-else-have_items_within c =
    (λ is. absurd (let both : false ≡ true = rw c.if-have_items_within.false at is in cc), λ kept. (rw c.as_slice.ensures.value at c.have_items_within.ensures.1) kept.items)
