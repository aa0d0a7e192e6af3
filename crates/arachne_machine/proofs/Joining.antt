-- Joins, and the answers to pauses that count.
use Rattle.std.proofs.Common.{◌≡◌, ℕ, ◌+◌, List, [], ◌∷◌, ◌++◌, length, None, Some, refl, ap, sym, ◌∙◌, subst, arith, append_assoc, take, drop, slice_get, option_map, append-nil}
use Rattle.std.{specs.Borrow.Bor, proofs.Math.Seq.{drop-length, take-append_seam, take-length}}
use Rattle.arachne_program.specs.{declared.program.{Expr.Expr, Reduction.Reduction}, Tree.Source}
use Rattle.arachne_program.specs.{Program.{source_of, tree_of}, Value.{value_of, with_newest, apply, operation_of}}
use Rattle.arachne_program.specs.Effects.{Effects, task_value, tabulated, held, tallied}
use Rattle.arachne_machine.specs.Ending.{child_task, joined_env, account_joined, fork_awaited, lock_freed, forks_of, forks_here, releases, AwaitsFork}
use Rattle.arachne_machine.proofs.Outlooks.{KeepsTop, SameOutlook, IsAt, LeavesFrames, Any, at_itself, unjoined_at, here_at, locks_at, same_end}
use Rattle.arachne_machine.specs.declared.frame.Control.TheVariants.{Begin, Give, Awaits, AwaitsHalf, Asks, Tallies}
use Rattle.arachne_machine.specs.{Steps.{Joins, Counts, pending_of, suspended}, declared.frame.Frame.Frame, Lines.Gains}
use Rattle.arachne_machine.specs.declared.{frame.{Frame.TheVariants.Restore, Control.Control}, pause.Pending.Pending}
use Rattle.arachne_machine.specs.{Suspended.awaited, Outcome.Finished, Strands.Strand, Account.after, Trace.At}
use Rattle.arachne_machine.specs.declared.pause.Pending.TheVariants as pause

joins_by : (old new : Strand) (outcome : Finished) (n : ℕ) (k k' : Control) (gs' : List Frame) (env' : List ℕ) → old.control ≡ k → outcome.name ≡ old.own.name ++ n ∷ [] →
    new.program ≡ old.program → new.own ≡ old.own → new.forks ≡ old.forks → new.control ≡ k' →
    new.frames ≡ old.frames ++ gs' → new.environment ≡ env' →
    Gains old.below outcome.lines new.below →
    LeavesFrames k → LeavesFrames k' →
    fork_awaited k ++ [] ≡ n ∷ (fork_awaited k' ++ forks_of gs') → forks_here gs' ≡ [] → lock_freed k' ++ releases gs' ≡ lock_freed k ++ [] → pending_of k' ≡ None →
    KeepsTop (source_of old.program.now) old.own.name k' gs' env' →
    (outcome.value ≡ task_value (source_of old.program.now).arrays (child_task (source_of old.program.now) old.own.name n) →
    SameOutlook 0 0 (At pause.Joins ∷ []) Any (account_joined (source_of old.program.now) old.own.name n) (source_of old.program.now) old.own.name k [] old.environment k' gs' env') →
    Joins old outcome new
joins_by old new outcome n k k' gs' env' is_k is_name program own forks is_k' frames environment below left left' joined here locks pending keep outlook =
    let source = source_of old.program.now in
    let name = old.own.name in
    let fs = old.frames in
    let env = old.environment in
    let at : IsAt source name k (fs ++ []) env old = at_itself old k is_k in
    let at' : IsAt source name k' (fs ++ gs') env' new = assumption (ap (λ p. source_of p.now) program, ap (λ o. o.name) own) in
    record {
      program = program;
      own = own;
      forks = forks;
      pending = ap pending_of is_k' ∙ pending;
      number = n;
      name = is_name;
      unjoined = unjoined_at source name k fs [] env old at ∙ ap (λ l. l ++ forks_of fs) joined ∙ ap (λ l. n ∷ l) (sym (unjoined_at source name k' fs gs' env' new at'));
      here = here_at source name k' fs gs' env' new at' ∙ ap (λ l. l ++ forks_here fs) here ∙ sym (here_at source name k fs [] env old at);
      locks = locks_at source name k' fs gs' env' new at' ∙ ap (λ l. l ++ releases fs) locks ∙ sym (locks_at source name k fs [] env old at);
      below = below;
      keeps = λ is_value.
          let end = same_end 0 0 (At pause.Joins ∷ []) Any (account_joined source name n) source name k k' fs [] gs' env env' old new at at' (left (fs ++ [])) (left' (fs ++ gs')) (λ h. keep) (outlook is_value) in
          record { ending = end.ending; account = λ a. end.account a tt; work = omega (arith, end.work); trace = end.trace; faultless = end.faultless; keeps = end.keeps };
    }

take-two : (env : List ℕ) (x y : ℕ) → take (length env) (with_newest (with_newest env x) y) ≡ env
take-two env x y = ap (take (length env)) (append_assoc env (x ∷ []) (y ∷ [])) ∙ take-append_seam env (x ∷ y ∷ [])

-- The child's value becomes the newest variable but one.
join_outlook : (source : Source) (name env : List ℕ) (n v : ℕ) (next : Bor Expr) →
    SameOutlook 0 0 (At pause.Joins ∷ []) Any (account_joined source name n) source name (Awaits n v next) [] env (Begin next) (Restore (length env) ∷ []) (joined_env source name n (record { env = env; value = v }))
join_outlook source name env n v next =
    let x = task_value source.arrays (child_task source name n) in
    let inner = with_newest (with_newest env x) v in
    let w = value_of source.arrays (tree_of next.now) inner in
    let back = take-two env x v in
    record {
      ending = ap (λ e. record { env = e; value = w }) back;
      account = λ a any. refl;
      work = omega arith;
      trace = refl;
      faultless = λ held h. ((tt, tt), h.1.1);
    }

pub joins_fork : (old new : Strand) (outcome : Finished) (n v : ℕ) (next : Bor Expr) → old.control ≡ Awaits n v next → outcome.name ≡ old.own.name ++ n ∷ [] →
    new.program ≡ old.program → new.own ≡ old.own → new.forks ≡ old.forks → new.control ≡ Begin next →
    new.frames ≡ old.frames ++ Restore (length old.environment) ∷ [] →
    new.environment ≡ with_newest (with_newest old.environment outcome.value) v →
    Gains old.below outcome.lines new.below →
    Joins old outcome new
joins_fork old new outcome n v next awaits is_name program own forks control frames environment below =
    let source = source_of old.program.now in
    let name = old.own.name in
    let env = old.environment in
    joins_by old new outcome n (Awaits n v next) (Begin next) (Restore (length env) ∷ []) (with_newest (with_newest env outcome.value) v) awaits is_name
    program own forks control frames environment below (λ fs. refl) (λ fs. refl) refl refl refl refl (tt, (tt, tt))
    (λ is_value. subst (λ x. SameOutlook 0 0 (At pause.Joins ∷ []) Any (account_joined source name n) source name (Awaits n v next) [] env (Begin next) (Restore (length env) ∷ []) (with_newest (with_newest env x) v))
    (sym is_value) (join_outlook source name env n v next))

pub joins_half : (old new : Strand) (outcome : Finished) (n right w : ℕ) (reduction : Reduction) → old.control ≡ AwaitsHalf n right reduction → outcome.name ≡ old.own.name ++ n ∷ [] →
    new.program ≡ old.program → new.own ≡ old.own → new.forks ≡ old.forks → new.control ≡ Give w → w ≡ apply (operation_of reduction) outcome.value right →
    new.frames ≡ old.frames → new.environment ≡ old.environment →
    Gains old.below outcome.lines new.below →
    Joins old outcome new
joins_half old new outcome n right w reduction awaits is_name program own forks control is frames environment below =
    let source = source_of old.program.now in
    let name = old.own.name in
    let env = old.environment in
    joins_by old new outcome n (AwaitsHalf n right reduction) (Give w) [] env awaits is_name
    program own forks control (frames ∙ sym (append-nil old.frames)) environment below (λ fs. refl) (λ fs. refl) refl refl refl refl (tt, tt)
    (λ is_value. record {
      ending = ap (λ x. record { env = env; value = x }) (is ∙ ap (λ x. apply (operation_of reduction) x right) is_value);
      account = λ a any. refl;
      work = omega arith;
      trace = refl;
      faultless = λ held h. (tt, tt);
    })

-- a list whose items were all overwritten has the items that were written
pub written-back : (xs items : List ℕ) (n : ℕ) → n ≡ length items → length xs ≡ length items → take n (xs ++ drop (length xs) items) ≡ xs
written-back xs items n is same =
    ap (λ k. take n (xs ++ drop k items)) same ∙ ap (λ l. take n (xs ++ l)) (drop-length items) ∙ ap (take n) (append-nil xs) ∙ ap (λ k. take k xs) (is ∙ sym same) ∙ take-length xs

-- the name of the child that is awaited
pub awaited_child : (t : Strand) (n : ℕ) (k : Control) (name : List ℕ) → t.control ≡ k → fork_awaited k ≡ n ∷ [] → awaited (suspended t) ≡ Some name → name ≡ t.own.name ++ n ∷ []
awaited_child t n k name is_control one is_awaited =
    let e : Some (t.own.name ++ n ∷ []) ≡ Some name =
    ap (λ l. option_map (λ number. t.own.name ++ number ∷ []) (slice_get (l ++ forks_of t.frames) 0)) (sym (ap fork_awaited is_control ∙ one)) ∙ is_awaited in
    cc

-- All else that an answer that counts leaves unchanged.
pub record LeavesRest (old new : Strand) : Type 0 where
  pub program : new.program ≡ old.program
  pub name : new.own.name ≡ old.own.name
  pub label : new.own.label ≡ old.own.label
  pub below : new.below ≡ old.below
  pub forks : new.forks ≡ old.forks
  pub frames : new.frames ≡ old.frames
  pub environment : new.environment ≡ old.environment

-- A pause is answered by counting, and the thread goes on.
counts_by : (old new : Strand) (answered : Pending) (effects : Effects) (k k' : Control) → old.control ≡ k → new.control ≡ k' → LeavesRest old new →
    ((n : ℕ) (own : ℕ → ℕ) → old.own.holds ≡ tabulated n own → new.own.holds ≡ tabulated n (λ lock. own lock + effects.holds lock)) →
    LeavesFrames k → LeavesFrames k' →
    fork_awaited k' ≡ fork_awaited k → lock_freed k' ≡ lock_freed k → pending_of k' ≡ None → AwaitsFork (source_of old.program.now) old.own.name k' old.environment →
    SameOutlook 0 0 (At answered ∷ []) Any (after old.own.name effects) (source_of old.program.now) old.own.name k [] old.environment k' [] old.environment →
    Counts answered effects old new
counts_by old new answered effects k k' is_k is_k' rest holds left left' awaits locks pending keep outlook =
    let source = source_of old.program.now in
    let name = old.own.name in
    let fs = old.frames in
    let env = old.environment in
    let at : IsAt source name k (fs ++ []) env old = at_itself old k is_k in
    let at' : IsAt source name k' (fs ++ []) env new = assumption (ap (λ p. source_of p.now) rest.program, rest.frames ∙ sym (append-nil fs)) in
    let end = same_end 0 0 (At answered ∷ []) Any (after name effects) source name k k' fs [] [] env env old new at at' (left (fs ++ [])) (left' (fs ++ [])) (λ h. (keep, tt)) outlook in
    record {
      program = rest.program;
      name = rest.name;
      label = rest.label;
      below = rest.below;
      forks = rest.forks;
      unjoined = ap (λ x. fork_awaited x ++ forks_of new.frames) is_k' ∙ ap (λ l. l ++ forks_of new.frames) awaits
          ∙ ap (λ x. fork_awaited k ++ forks_of x) rest.frames ∙ ap (λ x. fork_awaited x ++ forks_of fs) (sym is_k);
      here = ap forks_here rest.frames;
      locks = ap (λ x. lock_freed x ++ releases new.frames) is_k' ∙ ap (λ l. l ++ releases new.frames) locks
          ∙ ap (λ x. lock_freed k ++ releases x) rest.frames ∙ ap (λ x. lock_freed x ++ releases fs) (sym is_k);
      pending = ap pending_of is_k' ∙ pending;
      holds = holds;
      ending = end.ending;
      account = λ a. end.account a tt;
      work = omega (arith, end.work);
      trace = end.trace;
      faultless = end.faultless;
      keeps = end.keeps;
    }

pub counts_hold : (old new : Strand) (lock : ℕ) (body : Bor Expr) → old.control ≡ Asks lock body → new.control ≡ Begin body → LeavesRest old new →
    ((n : ℕ) (own : ℕ → ℕ) → old.own.holds ≡ tabulated n own → new.own.holds ≡ tabulated n (λ other. own other + (held lock).holds other)) →
    Counts (pause.Asks lock) (held lock) old new
counts_hold old new lock body asks begins rest holds =
    counts_by old new (pause.Asks lock) (held lock) (Asks lock body) (Begin body) asks begins rest holds
    (λ fs. refl) (λ fs. refl) refl refl refl tt (record { ending = refl; account = λ a any. refl; work = omega arith; trace = refl; faultless = λ held h. (tt, h.1.1) })

pub counts_tally : (old new : Strand) (ledger amount : ℕ) (body : Bor Expr) → old.control ≡ Tallies ledger amount body → new.control ≡ Begin body → LeavesRest old new →
    ((n : ℕ) (own : ℕ → ℕ) → old.own.holds ≡ tabulated n own → new.own.holds ≡ tabulated n (λ lock. own lock + (tallied ledger amount).holds lock)) →
    Counts (pause.Tallies ledger amount) (tallied ledger amount) old new
counts_tally old new ledger amount body tallies begins rest holds =
    counts_by old new (pause.Tallies ledger amount) (tallied ledger amount) (Tallies ledger amount body) (Begin body) tallies begins rest holds
    (λ fs. refl) (λ fs. refl) refl refl refl tt (record { ending = refl; account = λ a any. refl; work = omega arith; trace = refl; faultless = λ held h. (tt, h.1.1) })
