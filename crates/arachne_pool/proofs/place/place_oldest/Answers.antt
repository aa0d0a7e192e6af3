use Rattle.arachne_pool.proofs.place.place_oldest.Goals as goal

-- the claim is spent, and what else was out is out
pub returns-clause-out : goal.returns-clause-out
returns-clause-out g c = let got = rw c.in-Ok-Some.field-0-is at c.in-Ok-Some.ensures.out in λ outs had. c.in_ok-post.ensures.out outs (got outs had)
