-- A move, in three events: the place is claimed, the thread moves, and the place that it left is released. The idea:
-- the conditions for the move (`may-move`) make each later event allowed (`allows_move`, `allows_release`), and the
-- three are the events that the contract says (`move_takes`). Another event in between changes these lemmas of `Moves`.
use Rattle.std.proofs.Common.{◌∷◌, [], sym, subst}
use Rattle.arachne_core.specs.declared.event.Event.TheVariants as event
use Rattle.arachne_core.specs.ContextTable.{world_of}
use Rattle.arachne_locked.{proofs.Moves.{allows_move, allows_release, move_takes, move_room}, specs.AtHome.TableView}
use Rattle.arachne_locked.{proofs.state.TableState.swap.Goals.After-make, specs.Calls.{Takes, CanMove}}
use Rattle.arachne_locked.proofs.state.TableState.swap.Given as given
use Rattle.arachne_locked.proofs.state.TableState.swap.Goals as goal

may-move : (g : given.Over) (c : goal.After-make g) → CanMove (world_of c.self.inside.homes.table) c.args.from c.args.target
may-move g c = subst (λ (v : TableView _). CanMove (world_of v.table) c.args.from c.args.target) (sym c.self.view_is) c.requires

pub invariant_of-self : goal.invariant_of-self
invariant_of-self g c =
    let can = may-move g (goal.at.invariant_of-self g c).After-make in
    move_room c.self.inside.homes.table c.make.new.self.table c.make-2.new.self.table c.make-3.new.self.table c.args.carrier c.args.from c.args.target can
    c.make.ensures.made c.make-2.ensures.made c.make-3.ensures.made c.self.invariant

pub make-requires-2-clause-allowed : goal.make-requires-2-clause-allowed
make-requires-2-clause-allowed g c =
    let can = may-move g (goal.at.make-requires-2-clause-allowed g c).After-make in
    let one = c.make.new.self.table in allows_move c.self.inside.homes.table one one one c.args.carrier c.args.from c.args.target can c.make.ensures.made

pub make-requires-3-clause-allowed : goal.make-requires-3-clause-allowed
make-requires-3-clause-allowed g c =
    let can = may-move g (goal.at.make-requires-3-clause-allowed g c).After-make in
    let two = c.make-2.new.self.table in
    allows_release c.self.inside.homes.table c.make.new.self.table two two c.args.carrier c.args.from c.args.target can c.make.ensures.made c.make-2.ensures.made

pub returns-clause-events : goal.returns-clause-events
returns-clause-events g c =
    let can = may-move g (goal.at.returns-clause-events g c).After-make in
    let h = c.args.carrier in
    let x = c.args.from in
    let y = c.args.target in
    subst (λ (v : TableView _). Takes (world_of v.table) (event.Claim h y ∷ event.Move h x y ∷ event.Release h y ∷ []) (world_of c.make-3.new.self.table)) c.self.view_is
    (move_takes c.self.inside.homes.table c.make.new.self.table c.make-2.new.self.table c.make-3.new.self.table h x y can c.make.ensures.made c.make-2.ensures.made c.make-3.ensures.made)
