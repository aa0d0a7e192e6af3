use Rattle.std.proofs.Common.{[], ◌∷◌, ◌++◌, map, reverse, sym, ap, ◌∙◌, subst}
use Rattle.arachne_machine.specs.{Alone.{key, Rests}, Nested.whole}
use Rattle.arachne_machine.proofs.Waiting.{pushed}
use Rattle.arachne_machine.proofs.alone.take_turn.Goals as goal

pub go_on-requires-clause-rests : goal.go_on-requires-clause-rests
go_on-requires-clause-rests c = (reverse c.args.threads.now.items, c.requires.rests)

pub returns-in-Goes-clause-rests : goal.returns-in-Goes-clause-rests
returns-in-Goes-clause-rests c =
    let p = c.args.thread.running.program in
    let ts = c.args.threads.now.items in
    let keys = map key (reverse c.go_on.new.outcomes.items) in
    let turned = rw c.in-Goes.is at (c.in_ok-go_on.ensures.rests (reverse ts) c.requires.rests) in
    subst (λ l. Rests p l keys) (sym (pushed ts _ c.go_on.new.thread (c.push_reserved.ensures.items ∙ ap (λ l. l ++ c.go_on.new.thread ∷ []) c.try_reserve.ensures.items))) turned

pub returns-in-Forks-clause-rests : goal.returns-in-Forks-clause-rests
returns-in-Forks-clause-rests c =
    let p = c.args.thread.running.program in
    let ts = c.args.threads.now.items in
    let keys = map key (reverse c.go_on.new.outcomes.items) in
    let turned = rw c.in-Forks.is at (c.in_ok-go_on.ensures.rests (reverse ts) c.requires.rests) in
    let first = pushed ts _ c.go_on.new.thread (c.push_reserved-in-Forks.ensures.items ∙ ap (λ l. l ++ c.go_on.new.thread ∷ []) c.try_reserve.ensures.items) in
    let second = pushed _ _ c.in-Forks.child c.push_reserved-in-Forks-2.ensures.items in
    subst (λ l. Rests p l keys) (sym (second ∙ ap (λ l. c.in-Forks.child ∷ l) first)) turned

pub returns-in_ok-push-in-Ends-clause-rests : goal.returns-in_ok-push-in-Ends-clause-rests
returns-in_ok-push-in-Ends-clause-rests c =
    let p = c.args.thread.running.program in
    let ts = c.args.threads.now.items in
    let outs = c.go_on.new.outcomes.items in
    let outcome = c.finish_into.result in
    let turned = rw c.in-Ends.is at (c.in_ok-go_on.ensures.rests (reverse ts) c.requires.rests) in
    let rests : Rests p (reverse ts) (key outcome ∷ map key (reverse outs)) =
    subst (λ q. Rests p (reverse ts) ((q, outcome.name) ∷ map key (reverse outs))) (sym c.finish_into.ensures.program)
    (subst (λ n. Rests p (reverse ts) (((whole c.go_on.new.thread).program, n) ∷ map key (reverse outs))) (sym c.finish_into.ensures.name) turned) in
    subst (λ l. Rests p (reverse l) (map key (reverse c.push.new.self.items))) (sym c.try_reserve.ensures.items)
    (subst (λ l. Rests p (reverse ts) (map key l)) (sym (pushed outs c.push.new.self.items outcome c.in_ok-push-in-Ends.ensures.items)) rests)
