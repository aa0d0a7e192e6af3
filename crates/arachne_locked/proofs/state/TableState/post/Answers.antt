use Rattle.std.proofs.Common.{◌≡◌, ap, ◌∙◌, subst, Err}
use Rattle.arachne_core.specs.declared.event.Event.TheVariants as event
use Rattle.arachne_core.specs.{declared.event.NotApplied.NotApplied, World.World, ContextTable.{Answers, world_of}}
use Rattle.arachne_locked.{specs.AtHome.TableView, proofs.Room.{event_room, posted_room, post_has_room}}
use Rattle.arachne_locked.proofs.state.TableState.post.Goals as goal

pub invariant_of-self : goal.invariant_of-self
invariant_of-self g c =
    posted_room c.self.inside.homes c.post.new.self c.self.invariant c.args.carrier c.args.claim.context (g.T.Tagged.tag_of c.args.value) c.post.result c.post.ensures.made c.post.ensures.err

pub unreachable-requires : goal.unreachable-requires
unreachable-requires g c =
    let a = subst (λ (r : NotApplied). Answers (event.Post c.args.carrier c.args.claim.context (g.T.Tagged.tag_of c.args.value)) c.self.inside.homes.table c.post.new.self.table (Err r))
    c.in-Err-Memory-default.field-0-0-is c.in-Err-Memory-default.ensures.refused in
    post_has_room c.self.inside.homes.table c.args.carrier c.args.claim.context (g.T.Tagged.tag_of c.args.value) c.self.invariant a.0 a.1

pub invariant_of-self-2 : goal.invariant_of-self-2
invariant_of-self-2 g c =
    event_room c.self.inside.homes.table c.post.new.self.table c.self.invariant (event.Post c.args.carrier c.args.claim.context (g.T.Tagged.tag_of c.args.value)) tt c.in-Ok.ensures.made

pub returns-clause-id : goal.returns-clause-id
returns-clause-id g c =
    let x = c.args.claim.context in
    let generation : c.generation.result ≡ (world_of c.args.self.now.table).generation x =
    c.generation.ensures ∙ ap (λ (w : World). w.generation x) c.in-Ok.ensures.made.1 ∙ ap (λ (v : TableView _). (world_of v.table).generation x) c.self.view_is in
    (λ i. record { context = x; generation = generation i })
