use Rattle.std.proofs.Common.{List, sym, ap, ◌∙◌, refl, slice_get}
use Rattle.arachne_weights.specs.Tokens.{held}
use Rattle.arachne_sleep.{specs.declared.view.Record.Record, proofs.Traces.noted-is-made}
use Rattle.arachne_sleep.proofs.guard_laws.a_record_is_a_step.Goals as goal

pub returns-clause-all : goal.returns-clause-all
returns-clause-all c = λ number board rule place weight known mine. rule.tells.records place (held weight known) mine refl

pub returns-clause-each : goal.returns-clause-each
returns-clause-each c = λ number board rule place weight known mine at step noted.
    noted-is-made rule.trace place at step rule.tells.lawful (sym (ap (λ (records : List Record). slice_get records at) (rule.tells.records place (held weight known) mine refl)) ∙ noted)

pub returns-clause-replays : goal.returns-clause-replays
returns-clause-replays c = λ number board rule. rule.tells
