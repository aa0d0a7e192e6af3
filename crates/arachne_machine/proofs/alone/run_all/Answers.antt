use Rattle.std.proofs.Common.{◌≡◌, [], ◌∷◌, map, reverse, sym, ap, ◌∙◌, subst}
use Rattle.arachne_machine.{specs.Alone.{key, Rests}, proofs.Waiting.pushed}
use Rattle.arachne_machine.proofs.alone.run_all.Goals as goal

pub loop-thread-init : goal.loop-thread-init
loop-thread-init c =
    let p = c.args.root.running.program in
    let root = c.args.root in
    let alone : reverse c.push.new.self.items ≡ root ∷ [] =
    pushed c.new-threads.result.items c.push.new.self.items root c.in_ok-push.ensures.items ∙ ap (λ l. root ∷ reverse l) c.new-threads.ensures.items in
    subst (λ l. Rests p l (map key (reverse c.new-outcomes.result.items))) (sym alone)
    (subst (λ o. Rests p (root ∷ []) (map key (reverse o))) (sym c.new-outcomes.ensures.items) c.requires.rests)

pub take_turn-requires-clause-rests : goal.take_turn-requires-clause-rests
take_turn-requires-clause-rests c =
    let p = c.args.root.running.program in
    let thread = c.in-Some.thread in
    let left = c.pop.new.self.items in
    let keys = map key (reverse c.loop-thread.outcomes.items) in
    let rests : Rests p (thread ∷ reverse left) keys =
    subst (λ l. Rests p l keys) (pushed left c.loop-thread.threads.items thread c.in-Some.ensures.items) c.loop-thread.invariant in
    subst (λ q. Rests q (thread ∷ reverse left) keys) (sym rests.0.same_program) rests
