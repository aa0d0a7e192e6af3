use Rattle.std.proofs.Common.{ℕ, ◌+◌, Bool, List, Option, sym, ◌∙◌, ap, subst}
use Rattle.arachne_grants.specs.Sessions.{with_mark, AreMarked}
use Rattle.arachne_grants.proofs.Marks.{AreMarked-more}
use Rattle.arachne_grants.proofs.sessions.Session.mark.Goals as goal

pub each-preserved : goal.each-preserved
each-preserved c =
    subst (λ (marks : List Bool). AreMarked c.args.marks.now marks c.args.self.now.threads (c.each.thread-index + 1))
    (sym (c.mark_core.ensures ∙ ap (λ (core : Option ℕ). with_mark core c.each.marks) c.core.ensures))
    (AreMarked-more c.args.marks.now c.each.marks c.args.self.now.threads c.each.thread-index c.each.invariant)
