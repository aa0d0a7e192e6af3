-- A thread in whose place no other runs goes on (`made`). Each pause that is answered leaves its outcomes and those of
-- the other threads ready for the rest. If the thread joins, the newest outcome is its child's (`is_ready`).
use Rattle.std.proofs.Common.{rules, refl, ◌≡◌, ◌<◌, List, [], ◌∷◌, ◌++◌, length, map, reverse, sym, ap, ◌∙◌, subst}
use Rattle.arachne_program.specs.Program.{source_of}
use Rattle.arachne_machine.specs.{Advance.AdvancedAlone, Alone.{key, Rests}, Nested.Nested}
use Rattle.arachne_machine.proofs.{Nesting.whole_is, alone.go_on.Goals.{In_ok-advance_within, After-unwrap-outcome}}
use Rattle.arachne_machine.proofs.Waiting.{IsReady, alone_on, pushed, same_on, some_outcome, rests_same, rests_fork, rests_end, ready}
use Rattle.arachne_machine.proofs.alone.go_on.Goals as goal

made : (c : goal.In_ok-advance_within) → AdvancedAlone c.args.budget c.args.thread.now c.in_ok-advance_within.field-0 c.advance_within.new.self
made c =
    let alone = c.requires.rests.1.0.alone in
    c.in_ok-advance_within.ensures.alone alone (c.in_ok-advance_within.ensures.everywhere refl alone)

is_ready : (c : goal.After-unwrap-outcome) (ts : List Nested) → Rests c.args.thread.now.running.program (c.args.thread.now ∷ ts) (map key (reverse c.args.outcomes.now.items)) →
    IsReady c.args.thread.now.running.program c.advance_within.new.self.running ts c.unwrap-outcome.result (map key (reverse c.pop.new.self.items))
is_ready c ts rests =
    let old = c.args.thread.now in
    let p = old.running.program in
    let outs = c.args.outcomes.now.items in
    let left = c.pop.new.self.items in
    let outcome = c.unwrap-outcome.result in
    let advanced = rw c.in-Joins.is at (made (goal.at.After-unwrap-outcome c).In_ok-advance_within).does in
    let popped : outs ≡ left ++ outcome ∷ [] = rw c.unwrap-outcome.ensures at c.pop.ensures.items in
    ready p old c.advance_within.new.self.running ts outcome (map key (reverse left)) advanced.0 advanced.3 (subst (λ l. Rests p (old ∷ ts) (map key l)) (pushed left outs outcome popped) rests)

pub returns-in-Budget-clause-rests : goal.returns-in-Budget-clause-rests
returns-in-Budget-clause-rests c = λ ts rests.
    let old = c.args.thread.now in
    let new = c.advance_within.new.self in
    let m = made (goal.at.returns-in-Budget-clause-rests c).In_ok-advance_within in
    let advanced = rw c.in-Budget.is at m.does in
    rests_same old.running.program old new ts (map key (reverse c.args.outcomes.now.items)) advanced.0 m.alone (rw c.in-Budget.is at c.in_ok-advance_within.ensures.ok).1 rests

pub returns-in-Forks-clause-rests : goal.returns-in-Forks-clause-rests
returns-in-Forks-clause-rests c = λ ts rests.
    let old = c.args.thread.now in
    let mid = c.advance_within.new.self in
    let new = c.forked.new.self in
    let child = c.in-Forks.child in
    let m = made (goal.at.returns-in-Forks-clause-rests c).In_ok-advance_within in
    let advanced = rw c.in-Forks.is at m.does in
    let moved = rw c.in-Forks.is at c.in_ok-advance_within.ensures.ok in
    rests_fork old.running.program c.args.budget _ old new child mid.running ts (map key (reverse c.args.outcomes.now.items)) advanced c.forked.ensures.same
    (alone_on mid new m.alone (ap (λ v. v.parents) c.forked.ensures.others) (ap (λ v. v.placed) c.forked.ensures.others) c.forked.ensures.same.here) c.forked.ensures.pending
    moved.2.alone moved.3.not_paused rests

pub returns-in-Ok-clause-rests : goal.returns-in-Ok-clause-rests
returns-in-Ok-clause-rests c = λ ts rests.
    let at = goal.at.returns-in-Ok-clause-rests c in
    let joined = c.in-Ok.ensures in
    let others = joined.others in
    let new = c.joined_into.new.self in
    let alone = alone_on c.advance_within.new.self new (made at.In_ok-advance_within).alone (ap (λ v. v.parents) others) (ap (λ v. v.placed) others) joined.ok.here in
    (is_ready at.After-unwrap-outcome ts rests).goes_on new alone joined.pending joined.ok

pub returns-in-Asks-clause-rests : goal.returns-in-Asks-clause-rests
returns-in-Asks-clause-rests c = λ ts rests.
    let old = c.args.thread.now in
    let mid = c.advance_within.new.self in
    let new = c.granted.new.self in
    let m = made (goal.at.returns-in-Asks-clause-rests c).In_ok-advance_within in
    let advanced = rw c.in-Asks.is at m.does in
    rests_same old.running.program old new ts (map key (reverse c.args.outcomes.now.items)) (same_on old.running mid.running new.running advanced.0 c.granted.ensures.same)
    (alone_on mid new m.alone (ap (λ v. v.parents) c.granted.ensures.others) (ap (λ v. v.placed) c.granted.ensures.others) c.granted.ensures.same.here) c.granted.ensures.pending rests

pub returns-in-Frees-clause-rests : goal.returns-in-Frees-clause-rests
returns-in-Frees-clause-rests c = λ ts rests.
    let old = c.args.thread.now in
    let mid = c.advance_within.new.self in
    let new = c.freed.new.self in
    let m = made (goal.at.returns-in-Frees-clause-rests c).In_ok-advance_within in
    let advanced = rw c.in-Frees.is at m.does in
    rests_same old.running.program old new ts (map key (reverse c.args.outcomes.now.items)) (same_on old.running mid.running new.running advanced.0 c.freed.ensures.same)
    (alone_on mid new m.alone (ap (λ v. v.parents) c.freed.ensures.others) (ap (λ v. v.placed) c.freed.ensures.others) c.freed.ensures.same.here) c.freed.ensures.pending rests

pub returns-in-Tallies-clause-rests : goal.returns-in-Tallies-clause-rests
returns-in-Tallies-clause-rests c = λ ts rests.
    let old = c.args.thread.now in
    let mid = c.advance_within.new.self in
    let new = c.tallied.new.self in
    let m = made (goal.at.returns-in-Tallies-clause-rests c).In_ok-advance_within in
    let advanced = rw c.in-Tallies.is at m.does in
    rests_same old.running.program old new ts (map key (reverse c.args.outcomes.now.items)) (same_on old.running mid.running new.running advanced.0 c.tallied.ensures.same)
    (alone_on mid new m.alone (ap (λ v. v.parents) c.tallied.ensures.others) (ap (λ v. v.placed) c.tallied.ensures.others) c.tallied.ensures.same.here) c.tallied.ensures.pending rests

pub returns-in-Ended-clause-rests : goal.returns-in-Ended-clause-rests
returns-in-Ended-clause-rests c = λ ts rests.
    let old = c.args.thread.now in
    let new = c.advance_within.new.self in
    let m = made (goal.at.returns-in-Ended-clause-rests c).In_ok-advance_within in
    let advanced = rw c.in-Ended.is at m.does in
    rests_end old.running.program old new.running ts _ _ (map key (reverse c.args.outcomes.now.items)) advanced.0 advanced.4 (ap (λ v. v.program) (whole_is new m.alone.0)) (ap (λ v. v.name) (whole_is new m.alone.0)) rests

pub unwrap-outcome-requires : goal.unwrap-outcome-requires
unwrap-outcome-requires c =
    let old = c.args.thread.now in
    let outs = c.args.outcomes.now.items in
    let m = made (goal.at.unwrap-outcome-requires c).In_ok-advance_within in
    let advanced = rw c.in-Joins.is at m.does in
    let some : 0 < length outs = some_outcome old.running.program old c.advance_within.new.self.running c.requires.rests.0 outs advanced.0 advanced.3 c.requires.rests.1 in
    search rules

pub joined_into-requires-clause-program : goal.joined_into-requires-clause-program
joined_into-requires-clause-program c =
    let at = goal.at.joined_into-requires-clause-program c in
    let m = made at.In_ok-advance_within in
    let advanced = rw c.in-Joins.is at m.does in
    let ready = is_ready at.After-unwrap-outcome c.requires.rests.0 c.requires.rests.1 in
    ap source_of (ready.of_program ∙ sym (ap (λ v. v.program) (whole_is c.advance_within.new.self m.alone.0) ∙ advanced.0.program))

pub unreachable-requires : goal.unreachable-requires
unreachable-requires c =
    let ready = is_ready (goal.at.unreachable-requires c).After-unwrap-outcome c.requires.rests.0 c.requires.rests.1 in
    (rw c.in-Err-Foreign.field-0-is at c.in-Err-Foreign.ensures.foreign).0 tt ready.of_child
