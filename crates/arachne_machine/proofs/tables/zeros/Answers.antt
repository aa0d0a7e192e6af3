use Rattle.std.proofs.{Common.{◌∙◌, ap, replicate, rules}, lemmas.Result.IfOk-weaker}
use Rattle.arachne_machine.proofs.Tabulated.{tabulated-zeros}
use Rattle.arachne_machine.proofs.tables.zeros.Goals as goal

pub returns : goal.returns
returns c =
    IfOk-weaker c.vec.result _ _ (λ v h. h (λ y e. search rules) ∙ ap (λ k. replicate k 0) c.from.ensures ∙ tabulated-zeros c.args.n)
    c.vec.ensures.items_if_clones_equal
