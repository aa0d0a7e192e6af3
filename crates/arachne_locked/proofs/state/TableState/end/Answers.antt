-- A thread ends, in two events: it is retired, and its place is released unless its context is spent. The idea: neither
-- event can be refused (`retire_made`, `release_made`), and each leaves enough reserved memory for the threads that are
-- held (`spent_room`, `release_room`). A change of what an end does to a place changes `ends` in `Calls` and these
-- lemmas of `Ends`.
use Rattle.std.proofs.Common.{sym, ap, ◌∙◌, subst, rules, true≢false}
use Rattle.arachne_core.specs.{ContextTable.{ContextTable, world_of}, World.HoldsIn}
use Rattle.arachne_locked.specs.{AtHome.TableView, Calls.{Takes, ends}}
use Rattle.arachne_locked.proofs.Ends.{retire_made, release_made, spent_ends, spent_room, may_release, release_ends, release_room}
use Rattle.arachne_locked.proofs.state.TableState.end.Goals as goal

pub unreachable-requires : goal.unreachable-requires
unreachable-requires g c =
    retire_made c.self.inside.homes.table c.apply.new.self.table c.args.carrier c.args.context c.in-Err.field-0 c.self.invariant
    (subst (λ (v : TableView _). HoldsIn (world_of v.table) c.args.carrier c.args.context) (sym c.self.view_is) c.requires) c.in-Err.ensures.answer

pub invariant_of-self : goal.invariant_of-self
invariant_of-self g c =
    spent_room c.self.inside.homes.table c.apply.new.self.table c.args.carrier c.args.context c.in-Ok.ensures.answer c.self.invariant
    (ap (λ (k : ContextTable). (world_of k).state c.args.context) (sym c.world.ensures.world) ∙ sym c.state.ensures ∙ c.is_spent.ensures.0 (search rules))

pub returns-then-is_spent-clause-events : goal.returns-then-is_spent-clause-events
returns-then-is_spent-clause-events g c =
    subst (λ (v : TableView _). Takes (world_of v.table) (ends (world_of v.table) c.args.carrier c.args.context) (world_of c.apply.new.self.table)) c.self.view_is
    (spent_ends c.self.inside.homes.table c.apply.new.self.table c.args.carrier c.args.context c.in-Ok.ensures.answer
    (ap (λ (k : ContextTable). (world_of k).state c.args.context) (sym c.world.ensures.world) ∙ sym c.state.ensures ∙ c.is_spent.ensures.0 (search rules)))

pub unreachable-requires-in-Err-apply : goal.unreachable-requires-in-Err-apply
unreachable-requires-in-Err-apply g c =
    release_made c.apply.new.self.table c.apply-2.new.self.table c.args.carrier c.args.context c.in-Err-apply.field-0
    (may_release c.self.inside.homes.table c.apply.new.self.table c.args.carrier c.args.context c.in-Ok.ensures.answer
    (λ e. true≢false (sym (c.is_spent.ensures.1 (c.state.ensures ∙ ap (λ (k : ContextTable). (world_of k).state c.args.context) c.world.ensures.world ∙ e)) ∙ c.if-is_spent.false)))
    c.in-Err-apply.ensures.answer

pub invariant_of-self-2 : goal.invariant_of-self-2
invariant_of-self-2 g c =
    release_room c.self.inside.homes.table c.apply.new.self.table c.args.carrier c.args.context c.in-Ok.ensures.answer c.apply-2.new.self.table c.in-Ok-apply.ensures.answer c.self.invariant

pub returns-clause-events : goal.returns-clause-events
returns-clause-events g c =
    subst (λ (v : TableView _). Takes (world_of v.table) (ends (world_of v.table) c.args.carrier c.args.context) (world_of c.apply-2.new.self.table)) c.self.view_is
    (release_ends c.self.inside.homes.table c.apply.new.self.table c.args.carrier c.args.context c.in-Ok.ensures.answer c.apply-2.new.self.table c.in-Ok-apply.ensures.answer
    (λ e. true≢false (sym (c.is_spent.ensures.1 (c.state.ensures ∙ ap (λ (k : ContextTable). (world_of k).state c.args.context) c.world.ensures.world ∙ e)) ∙ c.if-is_spent.false)))
