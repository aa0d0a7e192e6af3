use Rattle.std.proofs.Common.{◌≡◌, ℕ, IfSome, subst, slice_index}
use Rattle.arachne_run.{specs.Histories.grants_to, proofs.Granting.as_held-more}
use Rattle.arachne_run.proofs.report.is_granted_as_held.Goals.{After-number_at}
use Rattle.arachne_run.proofs.report.is_granted_as_held.Goals as goal

counts : (c : After-number_at) → (tag : ℕ) → slice_index c.in-Some.grants.items tag ≡ grants_to tag c.args.history.now.items
counts c = subst (λ o. IfSome o (λ g. (tag : ℕ) → slice_index g.items tag ≡ grants_to tag c.args.history.now.items)) c.in-Some.is c.in_ok-grants.ensures.grants

pub loop-line-preserved : goal.loop-line-preserved
loop-line-preserved c =
    let counted = counts ((goal.at.loop-line-preserved c).After-number_at) c.in-Some-line.line.tag in
    let granted = c.number_at.ensures in
    let among = c.as_slice.ensures.value in
    let same = c.if-number_at-held.false in
    let holds = c.number_at-held.ensures in
    let own = c.holds.ensures in
    let tagged = c.tag.ensures in
    let held : grants_to c.in-Some-line.line.tag c.args.history.now.items ≡ slice_index c.in-Some-line.line.holds c.args.lock = cc in
    as_held-more c.args.lock c.args.history.now.items c.args.threads.now c.loop-line.line-iterator c.next.new.self c.in-Some-line.line c.loop-line.invariant c.in-Some-line.ensures.steps held
