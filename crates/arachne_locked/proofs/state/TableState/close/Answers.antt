use Rattle.std.proofs.Common.{◌≡◌, ◌*◌, sym, subst}
use Rattle.arachne_core.specs.ContextTable.{world_of}
use Rattle.arachne_contexts.specs.Answers.{IsByContext}
use Rattle.arachne_locked.specs.{AtHome.TableView, Closing.{IsAccounted, at_rest_below}}
use Rattle.arachne_locked.proofs.Closed.{accounted, by_context}
use Rattle.arachne_locked.proofs.state.TableState.close.Goals as goal

pub returns-in-Ok-clause-accounted : goal.returns-in-Ok-clause-accounted
returns-in-Ok-clause-accounted g c =
    let w = world_of c.args.self.table in
    let rest = subst (λ (v : TableView _). c.in-Ok.rest.items ≡ at_rest_below (world_of v.table) v.values ((world_of v.table).cores * (world_of v.table).slots)) c.self.view_is c.in-Ok.ensures.rest in
    subst (IsAccounted g.T.Tagged.tag_of w) (sym rest) (accounted g.T.Tagged.tag_of w c.args.self.values c.is_owned_once.ensures.owned_once c.is_owned_once.ensures.home)

pub returns-in-Ok-clause-order : goal.returns-in-Ok-clause-order
returns-in-Ok-clause-order g c =
    let v = c.self.inside.homes in subst IsByContext (sym c.in-Ok.ensures.rest) (by_context (world_of v.table) v.values ((world_of v.table).cores * (world_of v.table).slots))
