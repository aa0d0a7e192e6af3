use Rattle.std.proofs.{Common.{◌≤◌, All, ap, length, subst, sym, ◌∙◌}, lemmas.List.{length-map, Elements.All-map}}
use Rattle.arachne_program.specs.{Meaning.meaning_of, Program.source_of}
use Rattle.arachne_sleep.specs.{History.IsSound, OneHolder.HasOneHolderAtATime}
use Rattle.arachne_run.proofs.running.run.Goals as goal

-- the report's histories are those that the locks were closed with
pub returns-clause-report : goal.returns-clause-report
returns-clause-report g c = record {
  meaning = c.in_ok-report.ensures.meaning ∙ ap (λ p. meaning_of (source_of p)) (c.in-Ok.ensures.value.0 ∙ c.in_ok-root.ensures.program);
  tags = c.in_ok-report.ensures.tags;
  histories = length-map c.in_ok-report.report.histories.items (λ history. history.items)
      ∙ ap (λ histories. length histories.items) c.in_ok-report.ensures.histories ∙ c.in_ok-remains.ensures.sound.1.0 ∙ c.in_ok-machine.ensures.made.2.1;
  sound = All-map IsSound (λ history. history.items) c.in_ok-report.report.histories.items
      (subst (λ histories. All (λ history. IsSound history.items) histories.items) (sym c.in_ok-report.ensures.histories) c.in_ok-remains.ensures.sound.1.1);
  one_holder = All-map HasOneHolderAtATime (λ history. history.items) c.in_ok-report.report.histories.items
      (subst (λ histories. All (λ history. HasOneHolderAtATime history.items) histories.items) (sym c.in_ok-report.ensures.histories) c.in_ok-remains.ensures.sound.1.2);
  grants = c.in_ok-report.ensures.grants;
  applied = subst (λ applied. applied ≤ length c.args.setup.orders.items) (sym c.in_ok-report.ensures.applied) (subst (λ orders. c.in_ok-remains.applied ≤ orders) c.in_ok-machine.ensures.made.2.0 c.in_ok-remains.ensures.sound.0);
}
