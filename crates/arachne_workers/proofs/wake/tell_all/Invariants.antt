use Rattle.std.proofs.Common.{◌≡◌, ◌+◌, ◌≤◌, length}
use Rattle.arachne_workers.specs.declared.policy.TheConstants.{MOST_KEPT_BACK}
use Rattle.arachne_workers.proofs.wake.tell_all.Given as goal

-- of those that were kept back at first one fewer is left with each turn
abbrev pub invariant-loop : goal.invariant-loop
invariant-loop l =
    (l.queue ≡ record l.initial.queue { posts = l.queue.posts })
    × (length l.initial.queue.posts.items ≤ MOST_KEPT_BACK → length l.queue.posts.items + l.counter ≤ MOST_KEPT_BACK)
