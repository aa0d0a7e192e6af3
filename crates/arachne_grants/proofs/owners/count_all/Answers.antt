use Rattle.std.proofs.Common.{◌∙◌, arith}
use Rattle.arachne_grants.proofs.Counts.{AreCounted-none, AreCounted-more, AreCounted-all}
use Rattle.arachne_grants.proofs.owners.count_all.Goals as goal

pub each-init : goal.each-init
each-init c = AreCounted-none c.args.owners.now c.args.held.now c.requires.sized c.requires.none

pub each-preserved : goal.each-preserved
each-preserved c =
    AreCounted-more c.args.owners.now c.each.held c.count.new.held c.each.owner-index c.each.invariant c.each-test.true
    (c.count.auto.held ∙ c.each.invariant.sized) c.count.ensures.counts c.count.ensures.all

pub returns-clause-counts : goal.returns-clause-counts
returns-clause-counts c = (AreCounted-all c.args.owners.now c.each.held c.each.owner-index c.each.invariant c.each-test.false).0

pub returns-clause-all : goal.returns-clause-all
returns-clause-all c = (AreCounted-all c.args.owners.now c.each.held c.each.owner-index c.each.invariant c.each-test.false).1

pub count-requires-clause-fits : goal.count-requires-clause-fits
count-requires-clause-fits c = let few = c.each.invariant.few in let cores = c.requires.cores in let below = c.each-test.true in omega arith
