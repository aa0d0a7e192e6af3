use Rattle.std.proofs.Common.{[], ◌∷◌, sym, subst}
use Rattle.arachne_machine.{specs.Alone.Rests, proofs.Waiting.rests_root}
use Rattle.arachne_machine.proofs.alone.run_alone.Goals as goal

pub run_all-requires-clause-rests : goal.run_all-requires-clause-rests
run_all-requires-clause-rests c =
    let root = c.in_ok-root.root in
    let rests = rests_root c.args.program.now 0 root c.in_ok-root.ensures.alone c.in_ok-root.ensures.fresh in
    subst (λ q. Rests q (root ∷ []) []) (sym rests.0.same_program) rests
