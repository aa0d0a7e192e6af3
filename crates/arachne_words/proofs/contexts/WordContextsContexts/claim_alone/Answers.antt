use Rattle.std.{proofs.Common.{ap, arith}, specs.declared.alloc.AllocError.AllocError}
use Rattle.arachne_words.proofs.OutAs.{after-claim-alone}
use Rattle.arachne_words.proofs.contexts.WordContextsContexts.claim_alone.Goals as goal

pub returns-clause-out : goal.returns-clause-out
returns-clause-out g c = after-claim-alone c.args.self.now AllocError c.args.core c.args.seat.now.known c.claim_alone.new.seat.known c.claim_alone.result
    c.requires.core (omega (arith, c.self.invariant.laid_out.few.1, ap (λ v. v.shape.places_per_core) c.self.view_is)) c.claim_alone.ensures.answer
