use Rattle.std.proofs.Common.{List, sym, subst}
use Rattle.atomic_table.specs.Table.{opening}
use Rattle.arachne_sleep.specs.{Views.Guarded, Words.first_words, Rule.{IsKept, first_view}}
use Rattle.arachne_sleep.proofs.Keeps.{opens}
use Rattle.arachne_sleep.proofs.sleep_lock.SleepLock.new.Goals as goal

pub new-requires : goal.new-requires
new-requires c = let it = c.in_ok-slots.ensures in
    subst (λ (slots : List Guarded). IsKept c.args.lock (opening first_words slots (first_view c.args.lock))) (sym it.1) (opens c.args.lock it.0 it.2)
