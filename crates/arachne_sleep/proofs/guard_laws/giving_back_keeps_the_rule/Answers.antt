use Rattle.std.proofs.Common.{subst, sym}
use Rattle.atomic_table.specs.Table.{Allows}
use Rattle.arachne_sleep.specs.{Words.guard_word, Rule.IsKept, Steps.{Mine, GivesBack}}
use Rattle.arachne_sleep.proofs.Keeps.{gives-allowed}
use Rattle.arachne_sleep.proofs.guard_laws.giving_back_keeps_the_rule.Goals as goal

pub returns : goal.returns
returns c = λ number slots id me guarded before one r.
    subst (λ (m : Mine). Allows (IsKept number) slots id m guard_word (λ _. 0) (λ _ w. GivesBack m w)) (sym r.mine)
    (gives-allowed number slots id me.0.weight me.0.known.log guarded before one r.seen r.numbered r.begins r.sound r.granted)
