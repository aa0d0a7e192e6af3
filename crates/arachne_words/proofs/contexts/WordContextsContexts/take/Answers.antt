use Rattle.std.proofs.Common.{ap, arith}
use Rattle.arachne_words.proofs.OutAs.{after-take}
use Rattle.arachne_words.proofs.contexts.WordContextsContexts.take.Goals as goal

pub returns-clause-out : goal.returns-clause-out
returns-clause-out g c = after-take c.args.self.now g.T.Tagged.tag_of (record { core = c.args.core; index = c.args.index }) c.args.seat.now.known c.take.new.seat.known c.take.result
    (c.requires.core, omega (arith, c.requires.index, c.self.invariant.places_fit, ap (λ v. v.shape.places_per_core) c.self.view_is)) c.take.ensures.answer
