-- An outcome is joined. If the call succeeds, the thread goes on with it (`went_on`). After an error the state is
-- unchanged (`stayed`).
use Rattle.std.proofs.Common.{◌≡◌, length, List, sym, ap, ◌∙◌, subst, OnErr, OnOk}
use Rattle.arachne_program.specs.Program.{source_of}
use Rattle.arachne_machine.proofs.{Going.line_in, Lasting.{in_both, ok_map, same_kept, same_seen, err_then}}
use Rattle.arachne_machine.proofs.{Nesting.{program_seen, same_whole}, Rejoining.{Rejoined, as_many_sums, rejoined}}
use Rattle.arachne_machine.{proofs.thread.Thread.join.Goals.{After-deref_mut, After-join}, specs.Kept.nested}
use Rattle.arachne_machine.specs.{Nested.{Nested, SameWhole, pending_in, whole, work_in}, Outcome.finished}
use Rattle.arachne_machine.specs.{Runs.JoinsOutcome, Steps.{HasLine, IsSame, pending_of, suspended, top}}
use Rattle.arachne_machine.specs.Suspended.{Suspended, Joined, added, awaited}
use Rattle.arachne_machine.proofs.thread.Thread.join.Goals as goal

same_source : (c : goal.After-deref_mut) → source_of c.args.program.now.value ≡ source_of c.self.inside.state.value.program.now
same_source c = c.requires.program ∙ ap (λ v. source_of (whole v).program) (sym c.self.view_is) ∙ ap source_of (program_seen c.self.inside.state.value c.self.inside.placed.items)

went_on : (c : goal.After-join) → OnOk c.join.result (Rejoined c.self.inside.state.value c.join.new.self c.self.inside.placed.items (finished c.args.program.now.value c.args.contents.now))
went_on c =
    let t = c.self.inside.state.value in
    let new = c.join.new.self in
    let at = (goal.at.After-join c).After-deref_mut in
    ok_map c.join.result (c.join.ensures.ok c.args.program.now.value)
    (λ j. rejoined t new c.self.inside.placed.items (finished c.args.program.now.value c.args.contents.now) c.self.invariant c.requires.of_its_name (same_source at) (subst (λ s. JoinsOutcome s (finished c.args.program.now.value c.args.contents.now) new) c.deref_mut.ensures.value j))

stayed : (c : goal.After-join) → OnErr c.join.result (IsSame c.self.inside.state.value c.join.new.self)
stayed c = subst (λ s. OnErr c.join.result (IsSame s c.join.new.self)) c.deref_mut.ensures.value c.join.ensures.err

pub join-requires-clause-joins : goal.join-requires-clause-joins
join-requires-clause-joins c = ap (λ s. pending_of s.control) c.deref_mut.ensures.value ∙ ap pending_in c.self.view_is ∙ c.requires.pending

pub join-requires-clause-line : goal.join-requires-clause-line
join-requires-clause-line c = subst HasLine (sym c.deref_mut.ensures.value) (line_in c.self.inside.state.value c.self.invariant.sound)

pub join-requires-clause-sums : goal.join-requires-clause-sums
join-requires-clause-sums c =
    let at = (goal.at.join-requires-clause-sums c).After-deref_mut in
    as_many_sums c.self.inside.state.value (finished c.args.program.now.value c.args.contents.now) c.self.invariant.sound c.requires.of_its_name (same_source at) ∙ ap (λ s. length s.sums.items) (sym c.deref_mut.ensures.value)

pub invariant_of-self : goal.invariant_of-self
invariant_of-self c =
    let at = (goal.at.invariant_of-self c).After-join in
    in_both c.join.result (went_on at) (stayed at) (λ r. r.kept) (λ same. same_kept c.self.inside.state.value c.join.new.self c.self.inside.placed.items c.self.invariant same)

pub returns-clause-whole : goal.returns-clause-whole
returns-clause-whole c =
    let t = c.self.inside.state.value in
    let new = c.join.new.self in
    let ps = c.self.inside.placed.items in
    let at = (goal.at.returns-clause-whole c).After-join in
    subst (λ v. SameWhole v (nested new ps)) c.self.view_is (in_both c.join.result (went_on at) (stayed at) (λ r. r.whole) (λ same. same_whole t new ps ps same.program same.own))

pub returns-clause-ok : goal.returns-clause-ok
returns-clause-ok c =
    let ok = went_on (goal.at.returns-clause-ok c).After-join in
    subst (λ v. OnOk c.join.result (Joined v.running (finished c.args.program.now.value c.args.contents.now) (suspended (top c.join.new.self)))) c.self.view_is (ok_map c.join.result ok (λ r. r.joined))

pub returns-clause-sums : goal.returns-clause-sums
returns-clause-sums c =
    let ok = went_on (goal.at.returns-clause-sums c).After-join in
    ok_map c.join.result ok (λ r. r.sums ∙ ap (λ v. added v.sums (finished c.args.program.now.value c.args.contents.now).sums) c.self.view_is)

pub returns-clause-others : goal.returns-clause-others
returns-clause-others c =
    let new = c.join.new.self in
    let ps = c.self.inside.placed.items in
    let at = (goal.at.returns-clause-others c).After-join in
    let with_new : Nested → Nested = λ v. record v { running = suspended (top new); sums = new.sums.items } in
    let with_parents : List Suspended → Nested = λ l. record (nested new ps) { parents = l } in
    in_both c.join.result (went_on at) (stayed at) (λ r. ap with_parents r.parents ∙ ap with_new c.self.view_is)
    (λ same. ap with_new (same_seen c.self.inside.state.value new ps c.self.invariant.sound same) ∙ ap with_new c.self.view_is)

pub returns-clause-pending : goal.returns-clause-pending
returns-clause-pending c = ok_map c.join.result (went_on (goal.at.returns-clause-pending c).After-join) (λ r. r.pending)

pub returns-clause-work : goal.returns-clause-work
returns-clause-work c =
    let at = (goal.at.returns-clause-work c).After-join in
    in_both c.join.result (went_on at) (stayed at) (λ r. r.work ∙ ap work_in c.self.view_is)
    (λ same. ap work_in (same_seen c.self.inside.state.value c.join.new.self c.self.inside.placed.items c.self.invariant.sound same) ∙ ap work_in c.self.view_is)

pub returns-clause-err : goal.returns-clause-err
returns-clause-err c =
    let at = (goal.at.returns-clause-err c).After-join in
    err_then c.join.result (stayed at) (λ same. same_seen c.self.inside.state.value c.join.new.self c.self.inside.placed.items c.self.invariant.sound same ∙ c.self.view_is)

pub returns-clause-foreign : goal.returns-clause-foreign
returns-clause-foreign c =
    let looks : suspended (top c.deref_mut.result.now) ≡ c.args.self.now.running = ap (λ s. suspended (top s)) c.deref_mut.ensures.value ∙ ap (λ v. v.running) c.self.view_is in
    let f = c.join.ensures.foreign in
    (λ foreign e. f.0 foreign (ap awaited looks ∙ e), λ other. f.1 (λ e. other (ap awaited (sym looks) ∙ e)))
