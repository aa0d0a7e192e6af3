use Rattle.std.proofs.Common.{◌∙◌, sym, ap, List}
use lib.ListN.{get_elem?}
use Rattle.arachne_rule.{specs.declared.view.Record.Record, proofs.Histories.record-is-a-step}
use Rattle.arachne_rule.proofs.laws.a_record_is_a_step.Goals as goal

pub returns : goal.returns
returns g q = record {
  all = λ tag_in bits shape s rule h weight k mine. rule.tells.records h weight k mine;
  each = λ tag_in bits shape s rule h weight k mine at r got. record-is-a-step bits _ rule.first rule.history h at r rule.tells.lawful (sym (ap (λ (rs : List Record). get_elem? rs at) (rule.tells.records h weight k mine)) ∙ got);
}
