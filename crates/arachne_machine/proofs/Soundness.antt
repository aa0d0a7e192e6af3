-- A sound thread stays sound, and ends in the outcome of its name.
use Rattle.std.proofs.Common.{◌≡◌, ◌≤◌, ℕ, ◌+◌, List, [], ◌∷◌, ◌++◌, length, map, Option, None, Some, refl, ap, sym, ◌∙◌, subst, arith, rules, length-append, option_map, option_and_then, slice_get, IsSome, append-nil}
use Rattle.std.proofs.lemmas.List.{map-append}
use Rattle.arachne_program.specs.declared.{program.Program.Program, meaning.{Meaning.Meaning, Line.Line}}
use Rattle.arachne_program.specs.{Tree.Source, Program.source_of, Meaning.{task_of, child_of}, Checked.IsChecked}
use Rattle.arachne_program.specs.Effects.{Task, Evaluate, Child, Effects, task_value, task_effects, line_of, tabulated}
use Rattle.arachne_machine.specs.{declared.{frame.Control.Control, pause.Pending.Pending}, Strands.Strand}
use Rattle.arachne_machine.specs.declared.frame.Control.TheVariants.{Forked as Forks, Awaits, AwaitsHalf, Asks, Frees, Tallies, Ended}
use Rattle.arachne_machine.specs.Suspended.{own_line_of, SameThread, MakesSteps, Forked, Joined, awaited}
use Rattle.arachne_machine.specs.{declared.line.Label.Label, Account.{Account, untouched, after, with_fork, with_join}}
use Rattle.arachne_machine.specs.Outcome.{Finished, named_holds, meaning_as, meaning_in, outcome_of, IsOfItsName}
use Rattle.arachne_machine.specs.Ending.{child_task, account_joined, ending, account_at_end, work_left, trace_left, unjoined_of, locks_of, forks_here, KeepsForks, resume, resume_account, frames_left, begun, begun_account, fork_awaited, forks_of, lock_freed, releases}
use Rattle.arachne_machine.specs.Steps.{Goes, GoesWithin, GoesToFork, GivesChild, AwaitsHere, IsNew, IsNumbered, Joins, KeepsOverJoin, Counts, AfterSteps, IsUnchanged, pending_of, suspended, untagged}
use Rattle.arachne_machine.specs.{Faultless.IsWithoutFault, Sound.IsSound, Trace.{Event, with_steps}}
use Rattle.arachne_machine.proofs.{Accounts.after-children, Frames.with_steps-add, Splitting.child_task-found}
use Rattle.arachne_machine.proofs.{Names.{task_below-child, slice_get-seam}, Tabulated.tabulated-same}
use Rattle.arachne_machine.proofs.Outlooks.{at_of, ending_at, account_at, work_at, at_faultless, there_keeps}
use Rattle.arachne_machine.specs.declared.pause.Pending.TheVariants as pause

-- steps after steps
pub goes_on : (m n k : ℕ) (a b c : Strand) → Goes m [] a b → Goes n [] b c → k ≡ m + n → Goes k [] a c
goes_on m n k a b c p q e = record {
  program = q.program ∙ p.program;
  own = q.own ∙ p.own;
  below = q.below ∙ p.below;
  forks = q.forks ∙ p.forks;
  unjoined = q.unjoined ∙ p.unjoined;
  here = q.here ∙ p.here;
  ending = q.ending ∙ p.ending;
  account = λ account. q.account account ∙ p.account account;
  work = omega (arith, p.work, q.work, e);
  trace = ap (λ j. with_steps j (trace_left c)) e ∙ with_steps-add m n (trace_left c) ∙ ap (with_steps m) q.trace ∙ p.trace;
  faultless = λ h. q.faultless (p.faultless h);
  keeps = λ h. q.keeps (p.keeps h);
}

pub goes_on_within : (m least most : ℕ) (a b c : Strand) → Goes m [] a b → GoesWithin least most b c → GoesWithin least (m + most) a c
goes_on_within m least most a b c p q = record {
  made = m + q.made;
  at_least = omega (arith, q.at_least);
  at_most = omega (arith, q.at_most);
  goes = goes_on m q.made (m + q.made) a b c p q.goes refl;
}

-- at least and at most this many steps
pub within_more : (least most more : ℕ) (a b : Strand) → GoesWithin least most a b → most ≤ more → GoesWithin least more a b
within_more least most more a b w le = record { made = w.made; at_least = w.at_least; at_most = omega (arith, w.at_most, le); goes = w.goes }

forks_after : (m n k handed : ℕ) (answered : List Event) (here : List ℕ) (a b c : Strand) (made : Child) → Goes m [] a b → locks_of b ≡ locks_of a →
    GoesToFork n handed answered here b c made → m + n ≤ k → GoesToFork k handed answered here a c made
forks_after m n k handed answered here a b c made p locks q le =
    let source_is = ap (λ g. source_of g.now) p.program in
    let name_is = ap (λ o. o.name) p.own in
    let named : (task_of (source_of a.program.now) (a.own.name ++ a.forks ∷ []) ≡ Some made.task) → task_of (source_of b.program.now) (b.own.name ++ b.forks ∷ []) ≡ Some made.task =
    λ h. ap (λ s. task_of s (b.own.name ++ b.forks ∷ [])) source_is ∙ ap (λ n. task_of (source_of a.program.now) (n ++ b.forks ∷ [])) name_is
    ∙ ap (λ k. task_of (source_of a.program.now) (a.own.name ++ k ∷ [])) p.forks ∙ h in
    record {
      program = q.program ∙ p.program;
      own = q.own ∙ p.own;
      below = q.below ∙ p.below;
      forks = q.forks ∙ ap (λ k. k + 1) p.forks;
      unjoined = q.unjoined ∙ ap (λ k. k ∷ unjoined_of b) p.forks ∙ ap (λ l. a.forks ∷ l) p.unjoined;
      here_is = q.here_is ∙ ap (λ l. here ++ l) p.here;
      locks = q.locks ∙ locks;
      next_child = λ account. let next = q.next_child account in (next.0, ap (λ x. x.children) (sym (p.account account)) ∙ next.1);
      keeps = λ h. let kept = q.keeps (named h) in record {
        ending = kept.ending ∙ p.ending;
        account = λ account e. kept.account account (e ∙ sym p.forks) ∙ p.account account;
        taken = m + kept.taken;
        at_least = omega (arith, kept.at_least);
        at_most = omega (arith, kept.at_most, le);
        work = omega (arith, kept.work, p.work);
        trace = with_steps-add m kept.taken (answered ++ trace_left c) ∙ ap (with_steps m) kept.trace ∙ p.trace;
        faultless = λ h. kept.faultless (p.faultless h);
        keeps = λ h. kept.keeps (p.keeps h);
      };
    }

-- a child that was forked after some steps
pub gives_after : (m n k : ℕ) (a b c child : Strand) (made : Child) → Goes m [] a b → locks_of b ≡ locks_of a → GivesChild n b c child made → m + n ≤ k → GivesChild k a c child made
gives_after m n k a b c child made p locks q le =
    let new1 = subst (λ x. IsNew x (b.own.name ++ b.forks ∷ []) untagged made.task child) (ap (λ g. g.now) p.program) q.fresh in
    let new2 = subst (λ x. IsNew a.program.now (x ++ b.forks ∷ []) untagged made.task child) (ap (λ o. o.name) p.own) new1 in
    record {
      forked = forks_after m n k (work_left child) [] [] a b c made p locks q.forked le;
      pending = q.pending;
      fresh = subst (λ x. IsNew a.program.now (a.own.name ++ x ∷ []) untagged made.task child) p.forks new2;
      faultless = λ h. q.faultless (p.faultless h);
    }

-- a pause after some steps
pub goes_then_stops : (m n k : ℕ) (a b c : Strand) (next : Pending) → Goes m [] a b → locks_of b ≡ locks_of a → AfterSteps n b (Some next) c → m + n ≤ k → AfterSteps k a (Some next) c
goes_then_stops m n k a b c pause.Forks p l q le = q
goes_then_stops m n k a b c pause.Joins p l q le = (within_more 1 (m + n) k a c (goes_on_within m 1 n a b c p q.0) le, q.1, q.2 ∙ l)
goes_then_stops m n k a b c (pause.Asks lock) p l q le = (within_more 1 (m + n) k a c (goes_on_within m 1 n a b c p q.0) le, q.1, q.2 ∙ ap (λ x. lock ∷ x) l)
goes_then_stops m n k a b c (pause.Frees lock) p l q le = (within_more 1 (m + n) k a c (goes_on_within m 1 n a b c p q.0) le, q.1, q.2 ∙ l, q.3)
goes_then_stops m n k a b c (pause.Tallies ledger amount) p l q le = (within_more 1 (m + n) k a c (goes_on_within m 1 n a b c p q.0) le, q.1, q.2 ∙ l)
goes_then_stops m n k a b c pause.Ended p l q le = (within_more 1 (m + n) k a c (goes_on_within m 1 n a b c p q.0) le, q.1, q.2, q.3 ∙ l, q.4, q.5)

-- a new thread of the task of its name is sound
pub sound_new : (program : Program) (name : List ℕ) (label : Label) (task : Task) (t : Strand) →
    IsNew program name label task t → task_of (source_of program) name ≡ Some task → (IsChecked (source_of program) → IsWithoutFault t) → IsSound t untouched
sound_new program name label task t new has faultless =
    let program_is = sym new.same_program in
    let name_is = sym new.has_name in
    record {
      task = task;
      has_task = subst (λ x. task_of (source_of t.program.now) x ≡ Some task) name_is (subst (λ x. task_of (source_of x) name ≡ Some task) program_is has);
      holds = subst (λ x. t.own.holds ≡ tabulated (source_of x).locks (λ lock. 0)) program_is new.holds;
      lines = ap (map named_holds) new.below;
      forks = new.forks;
      value = subst (λ x. (ending t).value ≡ task_value (source_of x).arrays task) program_is new.value;
      environment = new.environment;
      whole = subst (λ x. account_at_end t untouched ≡ after x (task_effects (source_of t.program.now).arrays (source_of t.program.now).locks task) untouched) name_is
          (subst (λ x. account_at_end t untouched ≡ after name (task_effects (source_of x).arrays (source_of x).locks task) untouched) program_is new.account);
      numbered = (omega (arith, new.forks), omega (arith, ap length new.below));
      faultless = λ checked. faultless (subst (λ x. IsChecked (source_of x)) new.same_program checked);
      keeps = new.keeps;
    }

-- A thread with this account is sound, if it has the same result as a sound one.
pub record SameSound (old new : Strand) (account account' : Account) : Type 0 where
  pub program : source_of new.program.now ≡ source_of old.program.now
  pub name : new.own.name ≡ old.own.name
  pub holds : (locks : ℕ) → old.own.holds ≡ tabulated locks account.holds → new.own.holds ≡ tabulated locks account'.holds
  pub lines : map named_holds old.below ≡ account.lines → map named_holds new.below ≡ account'.lines
  pub forks : old.forks ≡ length account.children → new.forks ≡ length account'.children
  pub ending : ending new ≡ ending old
  pub whole : account_at_end new account' ≡ account_at_end old account
  pub numbered : IsNumbered old → IsNumbered new
  pub faultless : IsWithoutFault old → IsWithoutFault new
  pub keeps : KeepsForks old → KeepsForks new

pub sound_same : (old new : Strand) (account account' : Account) → IsSound old account → SameSound old new account account' → IsSound new account'
sound_same old new account account' s g =
    let program_is = sym g.program in
    let name_is = sym g.name in
    record {
      task = s.task;
      has_task = subst (λ x. task_of (source_of new.program.now) x ≡ Some s.task) name_is (subst (λ x. task_of x old.own.name ≡ Some s.task) program_is s.has_task);
      holds = subst (λ x. new.own.holds ≡ tabulated x.locks account'.holds) program_is (g.holds (source_of old.program.now).locks s.holds);
      lines = g.lines s.lines;
      forks = g.forks s.forks;
      value = ap (λ x. x.value) g.ending ∙ subst (λ x. (ending old).value ≡ task_value x.arrays s.task) program_is s.value;
      environment = ap (λ x. x.env) g.ending ∙ s.environment;
      whole = g.whole ∙ subst (λ x. account_at_end old account ≡ after x (task_effects (source_of new.program.now).arrays (source_of new.program.now).locks s.task) untouched) name_is
          (subst (λ x. account_at_end old account ≡ after old.own.name (task_effects x.arrays x.locks s.task) untouched) program_is s.whole);
      numbered = g.numbered s.numbered;
      faultless = λ checked. g.faultless (s.faultless (subst IsChecked (sym program_is) checked));
      keeps = g.keeps s.keeps;
    }

-- a thread with the same data of its own, and the same result, stays sound
sound_stays : (old new : Strand) (account : Account) → IsSound old account → new.program ≡ old.program → new.own ≡ old.own → new.below ≡ old.below → new.forks ≡ old.forks →
    unjoined_of new ≡ unjoined_of old → ending new ≡ ending old → ((a : Account) → account_at_end new a ≡ account_at_end old a) → (IsWithoutFault old → IsWithoutFault new) →
    (KeepsForks old → KeepsForks new) → IsSound new account
sound_stays old new account s program own below forks unjoined ends counts faultless keeps = sound_same old new account account s (record {
  program = ap (λ p. source_of p.now) program;
  name = ap (λ o. o.name) own;
  holds = λ locks h. ap (λ o. o.holds) own ∙ h;
  lines = λ h. ap (map named_holds) below ∙ h;
  forks = λ h. forks ∙ h;
  ending = ends;
  whole = counts account;
  numbered = λ h. (omega (arith, h.0, forks, ap length below, ap length unjoined), omega (arith, h.1, ap length below));
  faultless = faultless;
  keeps = keeps;
})

pub sound_goes : (n : ℕ) (answered : List Event) (old new : Strand) (account : Account) → IsSound old account → Goes n answered old new → IsSound new account
sound_goes n answered old new account s g = sound_stays old new account s g.program g.own g.below g.forks g.unjoined g.ending g.account g.faultless g.keeps

-- a thread stays sound that awaits a child in its place
pub sound_awaits : (number handed : ℕ) (old new : Strand) (account : Account) → IsSound old account → AwaitsHere number handed old new → IsSound new account
sound_awaits number handed old new account s g = sound_stays old new account s g.program g.own g.below g.forks g.unjoined g.ending g.account g.faultless g.keeps

-- the child that a thread forks next is the child of that number of its task
next_made : (t : Strand) (account : Account) (s : IsSound t account) (made : Child) (rest : List Child) → (account_at_end t account).children ≡ account.children ++ made ∷ rest →
    slice_get (task_effects (source_of t.program.now).arrays (source_of t.program.now).locks s.task).children t.forks ≡ Some made
next_made t account s made rest e =
    let source = source_of t.program.now in
    let effects = task_effects source.arrays source.locks s.task in
    let children : effects.children ≡ account.children ++ made ∷ rest =
    sym (after-children t.own.name effects untouched) ∙ sym (ap (λ a. a.children) s.whole) ∙ e in
    ap (λ l. slice_get l t.forks) children ∙ ap (λ k. slice_get (account.children ++ made ∷ rest) k) s.forks
    ∙ slice_get-seam account.children made rest

next_task : (t : Strand) (account : Account) (s : IsSound t account) (made : Child) (rest : List Child) → (account_at_end t account).children ≡ account.children ++ made ∷ rest →
    task_of (source_of t.program.now) (t.own.name ++ t.forks ∷ []) ≡ Some made.task
next_task t account s made rest e =
    let source = source_of t.program.now in
    task_below-child source.arrays source.locks (Evaluate source.root []) t.own.name t.forks s.task s.has_task
    ∙ ap (option_map (λ child. child.task)) (next_made t account s made rest e)

pub with_fork-sums : (task : Child) (a : Account) → (with_fork task a).sums ≡ a.sums
unfolding with_fork
with_fork-sums task a = refl

-- the child that a sound thread forks has its task
pub fork_has_task : (n handed : ℕ) (answered : List Event) (here : List ℕ) (old new : Strand) (made : Child) (account : Account) → IsSound old account →
    GoesToFork n handed answered here old new made → task_of (source_of old.program.now) (old.own.name ++ old.forks ∷ []) ≡ Some made.task
fork_has_task n handed answered here old new made account s g = next_task old account s made (g.next_child account).0 (g.next_child account).1

pub sound_child : (n : ℕ) (old new child : Strand) (made : Child) (account : Account) → IsSound old account → GivesChild n old new child made → IsSound child untouched
sound_child n old new child made account s g =
    sound_new old.program.now (old.own.name ++ old.forks ∷ []) untagged made.task child g.fresh (fork_has_task n (work_left child) [] [] old new made account s g.forked)
    (λ checked. g.faultless (s.faultless checked))

pub sound_fork : (n handed : ℕ) (answered : List Event) (here : List ℕ) (old new : Strand) (made : Child) (account : Account) → IsSound old account →
    GoesToFork n handed answered here old new made → IsSound new (with_fork made account)
unfolding with_fork
sound_fork n handed answered here old new made account s g =
    let kept = g.keeps (fork_has_task n handed answered here old new made account s g) in
    sound_same old new account (with_fork made account) s (record {
      program = ap (λ p. source_of p.now) g.program;
      name = ap (λ o. o.name) g.own;
      holds = λ locks h. ap (λ o. o.holds) g.own ∙ h;
      lines = λ h. ap (map named_holds) g.below ∙ h;
      forks = λ h. omega (arith, g.forks, h, length-append account.children (made ∷ []));
      ending = kept.ending;
      whole = kept.account account (sym s.forks);
      numbered = λ h. (omega (arith, h.0, g.forks, ap length g.below, ap length g.unjoined), omega (arith, h.1, ap length g.below));
      faultless = kept.faultless;
      keeps = kept.keeps;
    })

same_some : (x y : Meaning) → Some x ≡ Some y → x ≡ y
same_some x y h = cc

-- the task that an outcome's name and meaning determine
pub outcome_task : (source : Source) (name : List ℕ) (m : Meaning) → outcome_of source name ≡ Some m →
    (t : Task) × (task_of source name ≡ Some t) × (meaning_as source name t ≡ m)
outcome_task source name m h =
    elim (task_of source name) as (λ o. option_map (meaning_as source name) o ≡ Some m → (t : Task) × (o ≡ Some t) × (meaning_as source name t ≡ m)) [
      | None ↦ λ e. cc
      | Some t ↦ λ e. (t, refl, same_some (meaning_as source name t) m e)
    ] h

pub with_join-sums : (locks : ℕ) (name : List ℕ) (n : ℕ) (e : Effects) (a : Account) → (with_join locks name n e a).sums ≡ (λ l. a.sums l + e.sums l)
unfolding with_join
with_join-sums locks name n e a = refl

-- the outcome is the meaning of the awaited child
join_means : (old new : Strand) (outcome : Finished) → IsOfItsName outcome → source_of outcome.program ≡ source_of old.program.now → (j : Joins old outcome new) →
    meaning_as (source_of old.program.now) (old.own.name ++ j.number ∷ []) (child_task (source_of old.program.now) old.own.name j.number) ≡ meaning_in outcome
join_means old new outcome of_name same_source j =
    let source = source_of old.program.now in
    let name = old.own.name ++ j.number ∷ [] in
    let here : outcome_of source name ≡ Some (meaning_in outcome) =
    ap (λ x. outcome_of x name) (sym same_source) ∙ ap (outcome_of (source_of outcome.program)) (sym j.name) ∙ of_name in
    let found = outcome_task source name (meaning_in outcome) here in
    ap (meaning_as source name) (child_task-found source old.own.name j.number found.0 found.1) ∙ found.2

-- the join doesn't change the result of the thread
pub join_keeps : (old new : Strand) (outcome : Finished) → IsOfItsName outcome → source_of outcome.program ≡ source_of old.program.now →
    (j : Joins old outcome new) → KeepsOverJoin old new j.number
join_keeps old new outcome of_name same_source j = j.keeps (sym (ap (λ m. m.value) (join_means old new outcome of_name same_source j)))

-- the account after the join
abbrev pub joined_account : Strand → ℕ → Account → Account
joined_account t number account = account_joined (source_of t.program.now) t.own.name number account

-- A sound thread that joins an outcome of the awaited child stays sound.
pub sound_join : (old new : Strand) (outcome : Finished) (account : Account) → IsSound old account → IsOfItsName outcome → source_of outcome.program ≡ source_of old.program.now →
    (j : Joins old outcome new) → IsSound new (joined_account old j.number account)
unfolding with_join
sound_join old new outcome account s of_name same_source j =
    let source = source_of old.program.now in
    let name = old.own.name in
    let n = j.number in
    let effects = task_effects source.arrays source.locks (child_task source name n) in
    let means = join_means old new outcome of_name same_source j in
    let kept = join_keeps old new outcome of_name same_source j in
    let lines : map named_holds outcome.lines ≡ line_of source.locks (name ++ n ∷ []) effects ∷ effects.lines (name ++ n ∷ []) 0 = sym (ap (λ m. m.threads) means) in
    sound_same old new account (with_join source.locks name n effects account) s (record {
      program = ap (λ p. source_of p.now) j.program;
      name = ap (λ o. o.name) j.own;
      holds = λ locks h. ap (λ o. o.holds) j.own ∙ h;
      lines = λ h. ap (map named_holds) j.below.lines_are
          ∙ map-append named_holds old.below outcome.lines ∙ ap (λ l. l ++ map named_holds outcome.lines) h
          ∙ ap (λ l. account.lines ++ l) lines;
      forks = λ h. j.forks ∙ h;
      ending = kept.ending;
      whole = kept.account account;
      numbered = λ h. (omega (arith, h.0, j.forks, j.below.more, ap length j.unjoined), j.below.few);
      faultless = kept.faultless;
      keeps = kept.keeps;
    })

-- The sums of the account are raised by those of the child.
pub join_sums : (old new : Strand) (outcome : Finished) (account : Account) → IsOfItsName outcome → source_of outcome.program ≡ source_of old.program.now → (j : Joins old outcome new) →
    (childs : ℕ → ℕ) × (outcome.sums ≡ tabulated (source_of old.program.now).ledgers childs) × ((ledger : ℕ) → (joined_account old j.number account).sums ledger ≡ account.sums ledger + childs ledger)
join_sums old new outcome account of_name same_source j =
    let source = source_of old.program.now in
    let effects = task_effects source.arrays source.locks (child_task source old.own.name j.number) in (
      effects.sums,
      sym (ap (λ m. m.totals) (join_means old new outcome of_name same_source j)),
      λ ledger. ap (λ f. f ledger) (with_join-sums source.locks old.own.name j.number effects account),
    )

pub after-sums : (name : List ℕ) (e : Effects) (a : Account) → (after name e a).sums ≡ (λ l. a.sums l + e.sums l)
unfolding after
after-sums name e a = refl

same_meaning : (v v' : ℕ) (t t' : List ℕ) (l l' : List Line) → v ≡ v' → t ≡ t' → l ≡ l' →
    ◌≡◌ {A = Meaning} (record { value = v; totals = t; threads = l }) (record { value = v'; totals = t'; threads = l' })
same_meaning v v' t t' l l' p q r =
    let f : ℕ → Meaning = λ x. record { value = x; totals = t; threads = l } in
    let g : List ℕ → Meaning = λ x. record { value = v'; totals = x; threads = l } in
    let h : List Line → Meaning = λ x. record { value = v'; totals = t'; threads = x } in
    ap f p ∙ ap g q ∙ ap h r

-- A thread that has this value at once, and no more to do.
pub record IsOver (t : Strand) (value : ℕ) (account : Account) : Type 0 where
  pub value_is : (ending t).value ≡ value
  pub account_is : account_at_end t account ≡ account

-- The outcome of such a sound thread is the one that the program has for its name.
pub over_means : (t : Strand) (v : ℕ) (account : Account) → IsSound t account → IsOver t v account →
    outcome_of (source_of t.program.now) t.own.name
    ≡ Some (record { value = v; totals = tabulated (source_of t.program.now).ledgers account.sums; threads = map named_holds (own_line_of (suspended t) ∷ t.below) })
unfolding after
over_means t v account s over =
    let source = source_of t.program.now in
    let name = t.own.name in
    let effects = task_effects source.arrays source.locks s.task in
    let value : v ≡ task_value source.arrays s.task = sym over.value_is ∙ s.value in
    let whole : account ≡ after name effects untouched = sym over.account_is ∙ s.whole in
    let sums : tabulated source.ledgers account.sums ≡ tabulated source.ledgers effects.sums =
    ap (λ a. tabulated source.ledgers a.sums) whole ∙ ap (tabulated source.ledgers) (after-sums name effects untouched)
    ∙ tabulated-same source.ledgers (λ l. 0 + effects.sums l) effects.sums (λ k. omega arith) in
    let holds : t.own.holds ≡ tabulated source.locks effects.holds =
    s.holds ∙ ap (λ a. tabulated source.locks a.holds) whole ∙ tabulated-same source.locks (λ l. 0 + effects.holds l) effects.holds (λ k. omega arith) in
    let below : map named_holds t.below ≡ effects.lines name 0 = s.lines ∙ ap (λ a. a.lines) whole in
    let line : List ℕ → Line = λ h. record { name = name; holds = h } in
    ap (option_map (meaning_as source name)) s.has_task
    ∙ ap (λ m. Some m) (same_meaning (task_value source.arrays s.task) v (tabulated source.ledgers effects.sums) (tabulated source.ledgers account.sums)
    (line_of source.locks name effects ∷ effects.lines name 0) (map named_holds (own_line_of (suspended t) ∷ t.below))
    (sym value) (sym sums)
    (ap (λ h. line h ∷ effects.lines name 0) (sym holds) ∙ ap (λ l. line t.own.holds ∷ l) (sym below)))

-- it has added to each ledger the amount that its task adds
pub over_sums : (t : Strand) (v : ℕ) (account : Account) (s : IsSound t account) → IsOver t v account → (ledger : ℕ) →
    account.sums ledger ≡ (task_effects (source_of t.program.now).arrays (source_of t.program.now).locks s.task).sums ledger
over_sums t v account s over ledger =
    let source = source_of t.program.now in
    let effects = task_effects source.arrays source.locks s.task in
    ap (λ a. a.sums ledger) (sym over.account_is ∙ s.whole) ∙ ap (λ f. f ledger) (after-sums t.own.name effects untouched) ∙ omega arith

-- A sound thread that has ended has the outcome of its name.
pub sound_end : (t : Strand) (v : ℕ) (sums : List ℕ) (account : Account) → IsSound t account → t.control ≡ Ended v → sums ≡ tabulated (source_of t.program.now).ledgers account.sums →
    IsOfItsName (record { program = t.program.now; name = t.own.name; value = v; sums = sums; lines = own_line_of (suspended t) ∷ t.below })
sound_end t v sums account s ended is =
    let source = source_of t.program.now in
    let name = t.own.name in
    over_means t v account s (record {
      value_is = ap (λ k. (resume source name (frames_left k t.frames) (begun source name k t.environment)).value) ended;
      account_is = ap (λ k. resume_account source name (frames_left k t.frames) (begun source name k t.environment) (begun_account source name k t.environment account)) ended;
    })
    ∙ ap (λ l. Some (record { value = v; totals = l; threads = map named_holds (own_line_of (suspended t) ∷ t.below) })) (sym is)

-- A sound thread that counts effects of its own stays sound.
pub sound_counts : (old new : Strand) (answered : Pending) (effects : Effects) (account : Account) → IsSound old account → effects.children ≡ [] → ((name : List ℕ) (next : ℕ) → effects.lines name next ≡ []) →
    Counts answered effects old new → IsSound new (after old.own.name effects account)
unfolding after
sound_counts old new answered effects account s no_children no_lines g =
    let name = old.own.name in
    sound_same old new account (after name effects account) s (record {
      program = ap (λ p. source_of p.now) g.program;
      name = g.name;
      holds = λ locks h. g.holds locks account.holds h;
      lines = λ h. ap (map named_holds) g.below ∙ h ∙ sym (ap (λ l. account.lines ++ l) (no_lines name (length account.children)) ∙ append-nil account.lines);
      forks = λ h. g.forks ∙ h ∙ sym (ap length (after-children name effects account ∙ ap (λ l. account.children ++ l) no_children ∙ append-nil account.children));
      ending = g.ending;
      whole = g.account account;
      numbered = λ h. (omega (arith, h.0, g.forks, ap length g.below, ap length g.unjoined), omega (arith, h.1, ap length g.below));
      faultless = g.faultless;
      keeps = g.keeps;
    })

pub counted_seen : (old new : Strand) (answered : Pending) (effects : Effects) → Counts answered effects old new → SameThread (suspended old) (suspended new)
counted_seen old new answered effects g = assumption (ap (λ p. p.now) g.program)

-- The view that callers have of these steps.
pub same_thread : (n : ℕ) (old new : Strand) → Goes n [] old new → SameThread (suspended old) (suspended new)
same_thread n old new g = assumption (ap (λ p. p.now) g.program, ap (λ o. o.name) g.own, ap (λ o. o.label) g.own)

pub within_seen : (least most : ℕ) (old new : Strand) → GoesWithin least most old new → MakesSteps least most (suspended old) (suspended new)
within_seen least most old new w = record { made = w.made; at_least = w.at_least; at_most = w.at_most; work = w.goes.work; trace = sym w.goes.trace }

-- the child that it forks is the one that the program has there
child_made : (n handed : ℕ) (answered : List Event) (here : List ℕ) (old new : Strand) (made : Child) (account : Account) → IsSound old account →
    GoesToFork n handed answered here old new made → child_of (source_of old.program.now) old.own.name old.forks ≡ Some made
child_made n handed answered here old new made account s g =
    let source = source_of old.program.now in
    let forks : Task → Option Child = λ task. slice_get (task_effects source.arrays source.locks task).children old.forks in
    ap (option_and_then forks) s.has_task ∙ next_made old account s made (g.next_child account).0 (g.next_child account).1

pub forked_seen : (n : ℕ) (old new child : Strand) (made : Child) (account : Account) → IsSound old account → GivesChild n old new child made →
    Forked n made.class (suspended old) (suspended new) (suspended child)
forked_seen n old new child made account s given =
    let g = given.forked in
    let kept = g.keeps (fork_has_task n (work_left child) [] [] old new made account s g) in
    record {
      program = ap (λ p. p.now) g.program;
      name = ap (λ o. o.name) g.own;
      label = ap (λ o. o.label) g.own;
      forks = g.forks;
      unjoined = g.unjoined;
      here = g.here_is;
      locks = g.locks;
      below = g.below;
      pending = given.pending;
      fresh = assumption;
      task = made.task;
      is_child = child_made n (work_left child) [] [] old new made account s g;
      childs_work = given.fresh.work;
      childs_trace = given.fresh.trace;
      made = kept.taken;
      at_least = kept.at_least;
      at_most = kept.at_most;
      work = kept.work;
      trace = sym kept.trace;
    }

-- a thread that awaits a child shows which one it awaits
awaits_some : (k : Control) (name frames : List ℕ) → pending_of k ≡ Some pause.Joins →
    IsSome (option_map (λ number. name ++ number ∷ []) (slice_get (fork_awaited k ++ frames) 0))
awaits_some (Awaits number during next) name frames h = search rules
awaits_some (AwaitsHalf number right reduction) name frames h = search rules
awaits_some _ name frames h = cc

pub stopped_seen : (t : Strand) → pending_of t.control ≡ Some pause.Joins → IsSome (awaited (suspended t))
stopped_seen t h = awaits_some t.control t.own.name (forks_of t.frames) h

pub joined_seen : (old new : Strand) (outcome : Finished) → IsOfItsName outcome → source_of outcome.program ≡ source_of old.program.now →
    Joins old outcome new → Joined (suspended old) outcome (suspended new)
joined_seen old new outcome of_name same_source j =
    record {
      of_child = ap (λ l. option_map (λ k. old.own.name ++ k ∷ []) (slice_get l 0)) j.unjoined ∙ ap (λ n. Some n) (sym j.name);
      program = ap (λ p. p.now) j.program;
      name = ap (λ o. o.name) j.own;
      label = ap (λ o. o.label) j.own;
      forks = j.forks;
      unjoined = (j.number, j.unjoined);
      here = j.here;
      locks = j.locks;
      holds = ap (λ o. o.holds) j.own;
      below = j.below.lines_are;
      pending = j.pending;
      work = (join_keeps old new outcome of_name same_source j).work;
      trace = sym (join_keeps old new outcome of_name same_source j).trace;
    }

-- a thread in which nothing has changed but capacities looks the same
pub unchanged_seen : (old new : Strand) → IsUnchanged old new → suspended new ≡ suspended old
unchanged_seen old new u = cc

-- and has made no step
pub goes_nowhere : (old new : Strand) → IsUnchanged old new → Goes 0 [] old new
goes_nowhere old new u =
    let source = source_of old.program.now in
    let name = old.own.name in
    let k = old.control in
    let fs = old.frames in
    let env = old.environment in
    let at = at_of old new k fs env u in
    record {
      program = u.program;
      own = u.own;
      below = u.below;
      forks = u.forks;
      unjoined = ap (λ x. fork_awaited x ++ forks_of new.frames) u.control_is ∙ ap (λ x. fork_awaited k ++ forks_of x) u.frames_are;
      here = ap forks_here u.frames_are;
      ending = ending_at source name k fs env new at;
      account = λ a. account_at source name k fs env new a at;
      work = omega (arith, work_at source name k fs env new at);
      trace = ap (λ t. t.trace) (unchanged_seen old new u);
      faultless = at_faultless source name k fs env new at;
      keeps = there_keeps source name k fs env new at;
    }

-- and has the same locks
pub locks_unchanged : (old new : Strand) → IsUnchanged old new → locks_of new ≡ locks_of old
locks_unchanged old new u = ap (λ x. lock_freed x ++ releases new.frames) u.control_is ∙ ap (λ x. lock_freed old.control ++ releases x) u.frames_are
