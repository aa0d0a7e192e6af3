use Rattle.std.proofs.{Common.{rules, ap, ◌∙◌, subst, sym, List, ℕ}, lemmas.Fn.filter_same}
use Rattle.arachne_lock.specs.{Law.without, WaiterQueue.Indexes}
use Rattle.arachne_lock.proofs.Waiting.{Indexes-remove}
use Rattle.arachne_lock.proofs.waiter_queue.WaiterQueue.remove.Goals as goal

pub invariant_of-self : goal.invariant_of-self
invariant_of-self c =
    subst (Indexes c.remove.new.self.keys) (sym (filter_same _ _ _ (λ x b f' k. search rules) _ _ c.retain.ensures.filtered))
    (Indexes-remove _ _ _ c.args.who c.self.invariant c.remove.ensures.updates.0)

pub returns : goal.returns
returns c = filter_same _ _ _ (λ x b f' k. search rules) _ _ c.retain.ensures.filtered ∙ ap (λ (q : List ℕ). without c.args.who q) c.self.view_is
