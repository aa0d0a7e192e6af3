-- The effects of an expression are the sum of the effects of its parts.
use Rattle.std.proofs.Common.{◌≡◌, ℕ, zero, suc, ◌+◌, ◌-◌, ◌*◌, ◌/◌, ◌^◌, ◌<◌, ◌≤◌, List, [], ◌∷◌, ◌++◌, length, Bool, true, false, refl, ap, sym, ◌∙◌, subst, arith, append_assoc, length-append, add-one, max, take, ◌==◌, if◌then◌else◌, nat_le}
use Rattle.std.proofs.Math.{ListN.{set, replicate}, Seq.{set-append_seam, take-append_seam}, Nat.two-pow-succ}
use Rattle.std.proofs.lemmas.Bool.Decides.{nat_tests}
use Rattle.arachne_lang.{specs.declared.evaluator.{Own.Own, Shared.Shared}, proofs.Reductions.over-halves}
use Rattle.arachne_lang.specs.Evaluation.{Gains, HasDone, HasEnded, IsEvaluated, IsRun, folded, folded_effects, IsFolded, reduced, reduced_effects, IsReduced, halved_effects, IsHalved, IsHalfRun, MaySplit}
use Rattle.arachne_lang.proofs.Accounts.{Gains-all, HasDone-nothing, HasDone-then, HasDone-tallied, HasDone-held, HasDone-forked, HasEnded-line}
use Rattle.arachne_program.specs.declared.{meaning.Line.Line, program.{Class.Class, Operation.Operation}}
use Rattle.arachne_program.specs.{declared.program.Reduction.Reduction, Nesting.nesting, Meaning.meaning_of}
use Rattle.arachne_program.specs.Tree.{Tree, Source, Binary, Choose, Bind, Tally, Hold, Fork, Fold, Sweep}
use Rattle.arachne_program.specs.Value.{Environment, apply, operation_of, unit_of, value_of, with_newest}
use Rattle.arachne_program.specs.Effects.{Effects, Evaluate, half, effects_of, ◌⨾◌, tallied, held, forked, tabulated, line_of}

module _ (program : Source) where
  abbrev value : Tree → Environment → ℕ
  value tree env = value_of program.arrays tree env

  abbrev effects : Tree → Environment → Effects
  effects tree env = effects_of program.arrays program.locks tree env

  pub IsEvaluated-Binary : (operation : Operation) (a b : Tree) (own : Own) (shared : Shared) (own₁ : Own) (shared₁ : Shared) (own₂ : Own) (shared₂ : Shared) (x y : ℕ)
      → IsEvaluated program a shared.environment.items own shared x own₁ shared₁
      → IsEvaluated program b shared₁.environment.items own₁ shared₁ y own₂ shared₂
      → IsEvaluated program (Binary operation a b) shared.environment.items own shared (apply operation x y) own₂ shared₂
  IsEvaluated-Binary operation a b own shared own₁ shared₁ own₂ shared₂ x y first second =
      let env = shared.environment.items in
      let second' = subst (λ (e : Environment). IsEvaluated program b e own₁ shared₁ y own₂ shared₂) first.restored second in
      record {
        value = rw (first.value, second'.value) refl;
        restored = second'.restored ∙ first.restored;
        effects = HasDone-then (effects a env) (effects b env) own shared.sums.items shared.lines.items own₁ shared₁.sums.items shared₁.lines.items
            own₂ shared₂.sums.items shared₂.lines.items first.effects second'.effects;
      }

  pub IsEvaluated-Choose : (condition first second chosen : Tree) (own : Own) (shared : Shared) (own₁ : Own) (shared₁ : Shared) (own₂ : Own) (shared₂ : Shared) (x y : ℕ)
      → chosen ≡ (if x == 0 then second else first)
      → IsEvaluated program condition shared.environment.items own shared x own₁ shared₁
      → IsEvaluated program chosen shared₁.environment.items own₁ shared₁ y own₂ shared₂
      → IsEvaluated program (Choose condition first second) shared.environment.items own shared y own₂ shared₂
  IsEvaluated-Choose condition first second chosen own shared own₁ shared₁ own₂ shared₂ x y choice tested done =
      let env = shared.environment.items in
      let c = value condition env in
      let is : chosen ≡ (if c == 0 then second else first) = choice ∙ ap (λ (n : ℕ). if n == 0 then second else first) tested.value in
      let done' = subst (λ (e : Environment). IsEvaluated program chosen e own₁ shared₁ y own₂ shared₂) tested.restored done in
      let done'' = subst (λ (t : Tree). IsEvaluated program t env own₁ shared₁ y own₂ shared₂) is done' in
      let of_value : value (if c == 0 then second else first) env ≡ (if c == 0 then value second env else value first env) =
      elim (c == 0) as (λ (b : Bool). value (if b then second else first) env ≡ (if b then value second env else value first env)) [ true ↦ refl | false ↦ refl ] in
      let of_effects : effects (if c == 0 then second else first) env ≡ (if c == 0 then effects second env else effects first env) =
      elim (c == 0) as (λ (b : Bool). effects (if b then second else first) env ≡ (if b then effects second env else effects first env)) [ true ↦ refl | false ↦ refl ] in
      record {
        value = done''.value ∙ of_value;
        restored = done''.restored ∙ tested.restored;
        effects = HasDone-then (effects condition env) (if c == 0 then effects second env else effects first env)
            own shared.sums.items shared.lines.items own₁ shared₁.sums.items shared₁.lines.items own₂ shared₂.sums.items shared₂.lines.items tested.effects
            (subst (λ (e : Effects). HasDone e own₁ shared₁.sums.items shared₁.lines.items own₂ shared₂.sums.items shared₂.lines.items) of_effects done''.effects);
      }

  pub IsEvaluated-Bind : (bound body : Tree) (own : Own) (shared : Shared) (own₁ : Own) (shared₁ : Shared) (own₂ : Own) (shared₂ : Shared) (x y : ℕ)
      → IsEvaluated program bound shared.environment.items own shared x own₁ shared₁
      → IsEvaluated program body (with_newest shared₁.environment.items x) own₁ shared₁ y own₂ shared₂
      → IsEvaluated program (Bind bound body) shared.environment.items own shared y own₂ shared₂
  IsEvaluated-Bind bound body own shared own₁ shared₁ own₂ shared₂ x y first second =
      let env = shared.environment.items in
      let newest : with_newest shared₁.environment.items x ≡ with_newest env (value bound env) = rw (first.restored, first.value) refl in
      let second' = subst (λ (e : Environment). IsEvaluated program body e own₁ shared₁ y own₂ shared₂) newest second in
      record {
        value = second'.value;
        restored = second'.restored ∙ first.restored;
        effects = HasDone-then (effects bound env) (effects body (with_newest env (value bound env)))
            own shared.sums.items shared.lines.items own₁ shared₁.sums.items shared₁.lines.items own₂ shared₂.sums.items shared₂.lines.items first.effects second'.effects;
      }

  pub IsEvaluated-Tally : (ledger : ℕ) (amount body : Tree) (own : Own) (shared : Shared) (own₁ : Own) (shared₁ : Shared) (shared₂ : Shared) (own₃ : Own) (shared₃ : Shared) (x y : ℕ)
      → IsEvaluated program amount shared.environment.items own shared x own₁ shared₁
      → shared₂.environment.items ≡ shared₁.environment.items
      → Gains (tallied ledger x).sums shared₁.sums.items shared₂.sums.items
      → shared₂.lines.items ≡ shared₁.lines.items
      → IsEvaluated program body shared₂.environment.items own₁ shared₂ y own₃ shared₃
      → IsEvaluated program (Tally ledger amount body) shared.environment.items own shared y own₃ shared₃
  IsEvaluated-Tally ledger amount body own shared own₁ shared₁ shared₂ own₃ shared₃ x y first same_environment gains same_lines second =
      let env = shared.environment.items in
      let second' = subst (λ (e : Environment). IsEvaluated program body e own₁ shared₂ y own₃ shared₃) (same_environment ∙ first.restored) second in
      let tally = tallied ledger (value amount env) in
      let gains' = subst (λ (n : ℕ). Gains (tallied ledger n).sums shared₁.sums.items shared₂.sums.items) first.value gains in
      let before = HasDone-then (effects amount env) tally own shared.sums.items shared.lines.items own₁ shared₁.sums.items shared₁.lines.items
      own₁ shared₂.sums.items shared₁.lines.items first.effects (HasDone-tallied ledger (value amount env) own₁ shared₁.sums.items shared₂.sums.items shared₁.lines.items gains') in
      let before' = subst (λ (lines : List Line). HasDone (effects amount env ⨾ tally) own shared.sums.items shared.lines.items own₁ shared₂.sums.items lines) (sym same_lines) before in
      record {
        value = second'.value;
        restored = second'.restored ∙ same_environment ∙ first.restored;
        effects = HasDone-then (effects amount env ⨾ tally) (effects body env) own shared.sums.items shared.lines.items own₁ shared₂.sums.items shared₂.lines.items
            own₃ shared₃.sums.items shared₃.lines.items before' second'.effects;
      }

  pub IsEvaluated-Hold : (lock : ℕ) (body : Tree) (own : Own) (shared : Shared) (own₁ : Own) (own₂ : Own) (shared₂ : Shared) (y : ℕ)
      → own₁.name ≡ own.name
      → own₁.forks ≡ own.forks
      → Gains (tallied lock 1).sums own.holds.items own₁.holds.items
      → IsEvaluated program body shared.environment.items own₁ shared y own₂ shared₂
      → IsEvaluated program (Hold lock body) shared.environment.items own shared y own₂ shared₂
  IsEvaluated-Hold lock body own shared own₁ own₂ shared₂ y same_name same_forks gains done = record {
    value = done.value;
    restored = done.restored;
    effects = HasDone-then (held lock) (effects body shared.environment.items) own shared.sums.items shared.lines.items own₁ shared.sums.items shared.lines.items
        own₂ shared₂.sums.items shared₂.lines.items (HasDone-held lock own own₁ shared.sums.items shared.lines.items same_name same_forks gains) done.effects;
  }

  pub IsEvaluated-Fork : (class : Class) (child during after : Tree) (own : Own) (shared : Shared) (own₁ : Own) (shared₁ : Shared) (shared₂ : Shared)
      (own₃ : Own) (shared₃ : Shared) (x y z : ℕ)
      → IsEvaluated program during shared.environment.items (record own { forks = own.forks + 1 }) shared y own₁ shared₁
      → IsRun program child (own.name ++ own.forks ∷ []) shared₁ x shared₂
      → IsEvaluated program after (with_newest (with_newest shared₂.environment.items x) y) own₁ shared₂ z own₃ shared₃
      → IsEvaluated program (Fork class child during after) shared.environment.items own shared z own₃ shared₃
  IsEvaluated-Fork class child during after own shared own₁ shared₁ shared₂ own₃ shared₃ x y z first run last =
      let env = shared.environment.items in
      let name = own.name ++ own.forks ∷ [] in
      let ended = subst (λ (e : Environment). HasEnded program.locks (effects child e) name shared₁.sums.items shared₁.lines.items shared₂.sums.items shared₂.lines.items)
      first.restored run.ended in
      let child_value : x ≡ value child env = run.value ∙ ap (λ (e : Environment). value child e) first.restored in
      let newest : with_newest (with_newest shared₂.environment.items x) y ≡ with_newest (with_newest env (value child env)) (value during env) =
      rw (run.restored, first.restored, child_value, first.value) refl in
      let last' = subst (λ (e : Environment). IsEvaluated program after e own₁ shared₂ z own₃ shared₃) newest last in
      record {
        value = last'.value;
        restored = last'.restored ∙ run.restored ∙ first.restored;
        effects = HasDone-then (forked program.locks (record { class = class; task = Evaluate child env }) (effects child env) (effects during env))
            (effects after (with_newest (with_newest env (value child env)) (value during env)))
            own shared.sums.items shared.lines.items own₁ shared₂.sums.items shared₂.lines.items own₃ shared₃.sums.items shared₃.lines.items
            (HasDone-forked program.locks (record { class = class; task = Evaluate child env }) (effects child env) (effects during env) own shared.sums.items shared.lines.items
            own₁ shared₁.sums.items shared₁.lines.items shared₂.sums.items shared₂.lines.items first.effects ended)
            last'.effects;
      }

  -- no iterations yet
  pub IsFolded-none : (body : Tree) (env : Environment) (from first : ℕ) (own : Own) (shared shared' : Shared)
      → shared'.sums.items ≡ shared.sums.items → shared'.lines.items ≡ shared.lines.items
      → IsFolded program body env from first 0 own shared first own shared'
  IsFolded-none body env from first own shared shared' same_sums same_lines = record {
    value = refl;
    effects = rw (same_sums, same_lines) (HasDone-nothing own shared.sums.items shared.lines.items);
  }

  -- one iteration more
  pub IsFolded-turn : (body : Tree) (env : Environment) (from first n : ℕ) (own : Own) (shared : Shared) (own₁ : Own) (shared₁ shared₂ : Shared) (own₃ : Own) (shared₃ : Shared) (so_far x : ℕ)
      → IsFolded program body env from first n own shared so_far own₁ shared₁
      → shared₂.environment.items ≡ with_newest (with_newest env (from + n)) so_far
      → shared₂.sums.items ≡ shared₁.sums.items
      → shared₂.lines.items ≡ shared₁.lines.items
      → IsEvaluated program body shared₂.environment.items own₁ shared₂ x own₃ shared₃
      → IsFolded program body env from first (n + 1) own shared x own₃ shared₃
  IsFolded-turn body env from first n own shared own₁ shared₁ shared₂ own₃ shared₃ so_far x before newest same_sums same_lines done =
      let is : shared₂.environment.items ≡ with_newest (with_newest env (from + n)) (folded program body env from first n) =
      newest ∙ ap (λ (y : ℕ). with_newest (with_newest env (from + n)) y) before.value in
      let done' = subst (λ (e : Environment). IsEvaluated program body e own₁ shared₂ x own₃ shared₃) is done in
      let turn = effects body (with_newest (with_newest env (from + n)) (folded program body env from first n)) in
      let last : HasDone turn own₁ shared₁.sums.items shared₁.lines.items own₃ shared₃.sums.items shared₃.lines.items = rw (← same_sums, ← same_lines) done'.effects in
      rw add-one (record {
        value = done'.value;
        effects = HasDone-then (folded_effects program body env from first n) turn own shared.sums.items shared.lines.items own₁ shared₁.sums.items shared₁.lines.items
            own₃ shared₃.sums.items shared₃.lines.items before.effects last;
      })

  pub IsEvaluated-Fold : (from to first body : Tree) (own : Own) (shared : Shared) (own₁ : Own) (shared₁ : Shared) (own₂ : Own) (shared₂ : Shared) (own₃ : Own) (shared₃ : Shared)
      (own₄ : Own) (shared₄ : Shared) (low high start x : ℕ)
      → IsEvaluated program from shared.environment.items own shared low own₁ shared₁
      → IsEvaluated program to shared₁.environment.items own₁ shared₁ high own₂ shared₂
      → IsEvaluated program first shared₂.environment.items own₂ shared₂ start own₃ shared₃
      → IsFolded program body shared₃.environment.items low start (high - low) own₃ shared₃ x own₄ shared₄
      → shared₄.environment.items ≡ shared₃.environment.items
      → IsEvaluated program (Fold from to first body) shared.environment.items own shared x own₄ shared₄
  IsEvaluated-Fold from to first body own shared own₁ shared₁ own₂ shared₂ own₃ shared₃ own₄ shared₄ low high start x of_low of_high of_start turned restored =
      let env = shared.environment.items in
      let of_high' = subst (λ (e : Environment). IsEvaluated program to e own₁ shared₁ high own₂ shared₂) of_low.restored of_high in
      let back₂ : shared₂.environment.items ≡ env = of_high'.restored ∙ of_low.restored in
      let of_start' = subst (λ (e : Environment). IsEvaluated program first e own₂ shared₂ start own₃ shared₃) back₂ of_start in
      let back₃ : shared₃.environment.items ≡ env = of_start'.restored ∙ back₂ in
      let turned₁ = subst (λ (e : Environment). IsFolded program body e low start (high - low) own₃ shared₃ x own₄ shared₄) back₃ turned in
      let turned₂ = subst (λ (n : ℕ). IsFolded program body env low n (high - low) own₃ shared₃ x own₄ shared₄) of_start'.value turned₁ in
      let turned₃ = subst (λ (n : ℕ). IsFolded program body env low (value first env) (n - low) own₃ shared₃ x own₄ shared₄) of_high'.value turned₂ in
      let turned₄ = subst (λ (n : ℕ). IsFolded program body env n (value first env) (value to env - n) own₃ shared₃ x own₄ shared₄) of_low.value turned₃ in
      let bounds = HasDone-then (effects from env) (effects to env) own shared.sums.items shared.lines.items own₁ shared₁.sums.items shared₁.lines.items
      own₂ shared₂.sums.items shared₂.lines.items of_low.effects of_high'.effects in
      let all = HasDone-then (effects from env ⨾ effects to env) (effects first env) own shared.sums.items shared.lines.items own₂ shared₂.sums.items shared₂.lines.items
      own₃ shared₃.sums.items shared₃.lines.items bounds of_start'.effects in
      record {
        value = turned₄.value;
        restored = restored ∙ back₃;
        effects = HasDone-then (effects from env ⨾ effects to env ⨾ effects first env) (folded_effects program body env (value from env) (value first env) (value to env - value from env))
            own shared.sums.items shared.lines.items own₃ shared₃.sums.items shared₃.lines.items own₄ shared₄.sums.items shared₄.lines.items all turned₄.effects;
      }

  pub IsReduced-none : (r : Reduction) (body : Tree) (env : Environment) (first : ℕ) (own : Own) (shared shared' : Shared)
      → shared'.sums.items ≡ shared.sums.items → shared'.lines.items ≡ shared.lines.items
      → IsReduced program r body env first 0 own shared (unit_of r) own shared'
  IsReduced-none r body env first own shared shared' same_sums same_lines = record {
    value = refl;
    effects = rw (same_sums, same_lines) (HasDone-nothing own shared.sums.items shared.lines.items);
  }

  pub IsReduced-turn : (r : Reduction) (body : Tree) (env : Environment) (first n : ℕ) (own : Own) (shared : Shared) (own₁ : Own) (shared₁ shared₂ : Shared) (own₃ : Own) (shared₃ : Shared) (so_far x : ℕ)
      → IsReduced program r body env first n own shared so_far own₁ shared₁
      → shared₂.environment.items ≡ with_newest env (first + n)
      → shared₂.sums.items ≡ shared₁.sums.items
      → shared₂.lines.items ≡ shared₁.lines.items
      → IsEvaluated program body shared₂.environment.items own₁ shared₂ x own₃ shared₃
      → IsReduced program r body env first (n + 1) own shared (apply (operation_of r) so_far x) own₃ shared₃
  IsReduced-turn r body env first n own shared own₁ shared₁ shared₂ own₃ shared₃ so_far x before newest same_sums same_lines done =
      let done' = subst (λ (e : Environment). IsEvaluated program body e own₁ shared₂ x own₃ shared₃) newest done in
      let turn = effects body (with_newest env (first + n)) in
      let last : HasDone turn own₁ shared₁.sums.items shared₁.lines.items own₃ shared₃.sums.items shared₃.lines.items = rw (← same_sums, ← same_lines) done'.effects in
      rw add-one (record {
        value = rw (before.value, done'.value) refl;
        effects = HasDone-then (reduced_effects program body env first n) turn own shared.sums.items shared.lines.items own₁ shared₁.sums.items shared₁.lines.items
            own₃ shared₃.sums.items shared₃.lines.items before.effects last;
      })

  -- a range that is no longer than the grain is reduced in its thread
  halved-short : (r : Reduction) (grain : ℕ) (body : Tree) (env : Environment) (fuel first n : ℕ) → n ≤ max 1 grain
      → reduced_effects program body env first n ≡ halved_effects program r grain body env fuel first n
  halved-short r grain body env zero first n short = refl
  halved-short r grain body env (suc fuel) first n short =
      let is : nat_le n (max 1 grain) ≡ true = grind (arith, nat_tests) in
      sym (rw is refl)

  pub IsHalved-short : (r : Reduction) (grain : ℕ) (body : Tree) (env : Environment) (first n : ℕ) (own : Own) (shared : Shared) (own₁ : Own) (shared₁ : Shared) (x : ℕ)
      → n ≤ max 1 grain
      → shared₁.environment.items ≡ shared.environment.items
      → IsReduced program r body env first n own shared x own₁ shared₁
      → IsHalved program r grain body env first n own shared x own₁ shared₁
  IsHalved-short r grain body env first n own shared own₁ shared₁ x short restored done = record {
    value = done.value;
    restored = restored;
    effects = λ fuel enough. subst (λ (e : Effects). HasDone e own shared.sums.items shared.lines.items own₁ shared₁.sums.items shared₁.lines.items)
        (halved-short r grain body env fuel first n short) done.effects;
  }

  halved-long : (r : Reduction) (grain : ℕ) (body : Tree) (env : Environment) (fuel first n : ℕ) → max 1 grain < n
      → halved_effects program r grain body env (suc fuel) first n
      ≡ forked program.locks (half r grain body env first (n / 2)) (halved_effects program r grain body env fuel first (n / 2))
      (halved_effects program r grain body env fuel (first + n / 2) (n - n / 2))
  halved-long r grain body env fuel first n long =
      let is_not : nat_le n (max 1 grain) ≡ false = grind (arith, nat_tests) in
      rw is_not refl

  split-effects : (r : Reduction) (grain : ℕ) (body : Tree) (env : Environment) (fuel first n : ℕ) (own : Own) (shared : Shared) (own₁ : Own) (shared₁ : Shared) (shared₂ : Shared)
      → max 1 grain < n → n ≤ fuel
      → ((fuel : ℕ) → n - n / 2 ≤ fuel → HasDone (halved_effects program r grain body env fuel (first + n / 2) (n - n / 2))
      (record own { forks = own.forks + 1 }) shared.sums.items shared.lines.items own₁ shared₁.sums.items shared₁.lines.items)
      → ((fuel : ℕ) → n / 2 ≤ fuel → HasEnded program.locks (halved_effects program r grain body env fuel first (n / 2))
      (own.name ++ own.forks ∷ []) shared₁.sums.items shared₁.lines.items shared₂.sums.items shared₂.lines.items)
      → HasDone (halved_effects program r grain body env fuel first n) own shared.sums.items shared.lines.items own₁ shared₂.sums.items shared₂.lines.items
  split-effects r grain body env zero first n own shared own₁ shared₁ shared₂ long enough right left = absurd (omega arith)
  split-effects r grain body env (suc fuel) first n own shared own₁ shared₁ shared₂ long enough right left =
      let of_right = halved_effects program r grain body env fuel (first + n / 2) (n - n / 2) in
      let of_left = halved_effects program r grain body env fuel first (n / 2) in
      let done = HasDone-forked program.locks (half r grain body env first (n / 2)) of_left of_right own shared.sums.items shared.lines.items
      own₁ shared₁.sums.items shared₁.lines.items shared₂.sums.items shared₂.lines.items (right fuel (omega arith)) (left fuel (omega arith)) in
      subst (λ (e : Effects). HasDone e own shared.sums.items shared.lines.items own₁ shared₂.sums.items shared₂.lines.items)
      (sym (halved-long r grain body env fuel first n long)) done

  -- A longer range forks its left half, and reduces its right half while that child runs.
  pub IsHalved-long : (r : Reduction) (grain : ℕ) (body : Tree) (first n : ℕ) (own : Own) (shared : Shared) (own₁ : Own) (shared₁ : Shared) (shared₂ : Shared) (x y : ℕ)
      → max 1 grain < n → x < 2 ^ 64
      → IsHalved program r grain body shared.environment.items (first + n / 2) (n - n / 2) (record own { forks = own.forks + 1 }) shared y own₁ shared₁
      → IsHalfRun program r grain body first (n / 2) (own.name ++ own.forks ∷ []) shared₁ x shared₂
      → IsHalved program r grain body shared.environment.items first n own shared (apply (operation_of r) x y) own₁ shared₂
  IsHalved-long r grain body first n own shared own₁ shared₁ shared₂ x y long fits right left =
      let env = shared.environment.items in
      let of_left : x ≡ reduced program r body env first (n / 2) = left.value ∙ ap (λ (e : Environment). reduced program r body e first (n / 2)) right.restored in
      let all : n / 2 + (n - n / 2) ≡ n = omega arith in
      let in_range : reduced program r body env first (n / 2) < 2 ^ 64 = subst (λ (k : ℕ). k < 2 ^ 64) of_left fits in
      let joined = over-halves r (λ i. value body (with_newest env i)) first (n / 2) (n - n / 2) in_range in
      let left' = subst (λ (e : Environment). (fuel : ℕ) → n / 2 ≤ fuel → HasEnded program.locks (halved_effects program r grain body e fuel first (n / 2))
      (own.name ++ own.forks ∷ []) shared₁.sums.items shared₁.lines.items shared₂.sums.items shared₂.lines.items) right.restored left.ended in
      record {
        value = rw (of_left, right.value) (joined ∙ ap (λ (k : ℕ). reduced program r body env first k) all);
        restored = left.restored ∙ right.restored;
        effects = λ fuel enough. split-effects r grain body env fuel first n own shared own₁ shared₁ shared₂ long enough right.effects left';
      }

  pub IsEvaluated-Sweep : (r : Reduction) (grain : ℕ) (from to body : Tree) (own : Own) (shared : Shared) (own₁ : Own) (shared₁ : Shared) (own₂ : Own) (shared₂ : Shared) (own₃ : Own) (shared₃ : Shared)
      (low high x : ℕ)
      → IsEvaluated program from shared.environment.items own shared low own₁ shared₁
      → IsEvaluated program to shared₁.environment.items own₁ shared₁ high own₂ shared₂
      → IsHalved program r grain body shared₂.environment.items low (high - low) own₂ shared₂ x own₃ shared₃
      → IsEvaluated program (Sweep r grain from to body) shared.environment.items own shared x own₃ shared₃
  IsEvaluated-Sweep r grain from to body own shared own₁ shared₁ own₂ shared₂ own₃ shared₃ low high x of_low of_high done =
      let env = shared.environment.items in
      let of_high' = subst (λ (e : Environment). IsEvaluated program to e own₁ shared₁ high own₂ shared₂) of_low.restored of_high in
      let back : shared₂.environment.items ≡ env = of_high'.restored ∙ of_low.restored in
      let done₁ = subst (λ (e : Environment). IsHalved program r grain body e low (high - low) own₂ shared₂ x own₃ shared₃) back done in
      let done₂ = subst (λ (n : ℕ). IsHalved program r grain body env low (n - low) own₂ shared₂ x own₃ shared₃) of_high'.value done₁ in
      let done₃ = subst (λ (n : ℕ). IsHalved program r grain body env n (value to env - n) own₂ shared₂ x own₃ shared₃) of_low.value done₂ in
      let n = value to env - value from env in
      let bounds = HasDone-then (effects from env) (effects to env) own shared.sums.items shared.lines.items own₁ shared₁.sums.items shared₁.lines.items
      own₂ shared₂.sums.items shared₂.lines.items of_low.effects of_high'.effects in
      record {
        value = done₃.value;
        restored = done₃.restored ∙ back;
        effects = HasDone-then (effects from env ⨾ effects to env) (halved_effects program r grain body env n (value from env) n)
            own shared.sums.items shared.lines.items own₂ shared₂.sums.items shared₂.lines.items own₃ shared₃.sums.items shared₃.lines.items bounds (done₃.effects n (omega arith));
      }

-- The line that was kept for a thread gets what the thread did.
pub IsRun-line : (program : Source) (tree : Tree) (name : List ℕ) (own : Own) (shared began : Shared) (kept : Line) (own₁ : Own) (shared₁ ended : Shared) (x : ℕ)
    → own.name ≡ name
    → own.forks ≡ 0
    → own.holds.items ≡ replicate program.locks 0
    → began.environment.items ≡ shared.environment.items
    → began.sums.items ≡ shared.sums.items
    → began.lines.items ≡ shared.lines.items ++ kept ∷ []
    → IsEvaluated program tree began.environment.items own began x own₁ shared₁
    → ended.environment.items ≡ shared₁.environment.items
    → ended.sums.items ≡ shared₁.sums.items
    → ended.lines.items ≡ set shared₁.lines.items (length shared.lines.items) (record { name = own₁.name; holds = own₁.holds.items })
    → IsRun program tree name shared x ended
IsRun-line program tree name own shared began kept own₁ shared₁ ended x named no_forks no_holds same_environment same_sums kept_line done end_environment end_sums end_lines =
    let done' = subst (λ (e : Environment). IsEvaluated program tree e own began x own₁ shared₁) same_environment done in
    let all = effects_of program.arrays program.locks tree shared.environment.items in
    let effects = subst (λ (lines : List Line). HasDone all own began.sums.items lines own₁ shared₁.sums.items shared₁.lines.items) kept_line done'.effects in
    let line = HasEnded-line program.locks all name own began.sums.items shared.lines.items kept own₁ shared₁.sums.items shared₁.lines.items named no_forks no_holds effects in
    record {
      value = done'.value;
      restored = end_environment ∙ done'.restored ∙ same_environment;
      ended = rw (end_sums, end_lines, ← same_sums) line;
    }

pub IsHalfRun-line : (program : Source) (r : Reduction) (grain : ℕ) (body : Tree) (first n : ℕ) (name : List ℕ) (own : Own) (shared began : Shared) (kept : Line) (own₁ : Own) (shared₁ ended : Shared) (x : ℕ)
    → own.name ≡ name
    → own.forks ≡ 0
    → own.holds.items ≡ replicate program.locks 0
    → began.environment.items ≡ shared.environment.items
    → began.sums.items ≡ shared.sums.items
    → began.lines.items ≡ shared.lines.items ++ kept ∷ []
    → IsHalved program r grain body began.environment.items first n own began x own₁ shared₁
    → ended.environment.items ≡ shared₁.environment.items
    → ended.sums.items ≡ shared₁.sums.items
    → ended.lines.items ≡ set shared₁.lines.items (length shared.lines.items) (record { name = own₁.name; holds = own₁.holds.items })
    → IsHalfRun program r grain body first n name shared x ended
IsHalfRun-line program r grain body first n name own shared began kept own₁ shared₁ ended x named no_forks no_holds same_environment same_sums kept_line done end_environment end_sums end_lines =
    let done' = subst (λ (e : Environment). IsHalved program r grain body e first n own began x own₁ shared₁) same_environment done in
    record {
      value = done'.value;
      restored = end_environment ∙ done'.restored ∙ same_environment;
      ended = λ fuel enough.
          let all = halved_effects program r grain body shared.environment.items fuel first n in
          let effects = subst (λ (lines : List Line). HasDone all own began.sums.items lines own₁ shared₁.sums.items shared₁.lines.items) kept_line (done'.effects fuel enough) in
          let line = HasEnded-line program.locks all name own began.sums.items shared.lines.items kept own₁ shared₁.sums.items shared₁.lines.items named no_forks no_holds effects in
          rw (end_sums, end_lines, ← same_sums) line;
    }

-- A range of more than one number is halved once more than its right half.
split-right : (body : Tree) (n forks : ℕ) (lines : List Line) (halvings : ℕ) → 1 < n → nesting body < 64 → n ≤ 2 ^ halvings
    → forks + halvings + 65 * nesting body ≤ length lines + 65 * 64 → MaySplit body (n - n / 2) (forks + 1) lines
split-right body n forks lines zero long levels enough room = absurd (let one : n ≤ 1 = enough in omega arith)
split-right body n forks lines (suc d) long levels enough room =
    let twice : 2 ^ suc d ≡ 2 ^ d + 2 ^ d = two-pow-succ d in
    record {
      levels = levels;
      halvings = d;
      enough = omega arith;
      room = omega arith;
    }

pub MaySplit-right : (body : Tree) (n forks : ℕ) (lines : List Line) → 1 < n → MaySplit body n forks lines → MaySplit body (n - n / 2) (forks + 1) lines
MaySplit-right body n forks lines long split = split-right body n forks lines split.halvings long split.levels split.enough split.room

-- the newest variables are overwritten
pub newest-set : (env xs : List ℕ) (x a : ℕ) → xs ≡ with_newest env x → set xs (length env) a ≡ with_newest env a
newest-set env xs x a is = rw is (set-append_seam env x [] a)

pub two_newest-set : (env xs : List ℕ) (x y a b : ℕ) → xs ≡ with_newest (with_newest env x) y
    → set (set xs (length env) a) (length env + 1) b ≡ with_newest (with_newest env a) b
two_newest-set env xs x y a b is =
    let front : xs ≡ env ++ x ∷ y ∷ [] = is ∙ append_assoc env (x ∷ []) (y ∷ []) in
    let first : set xs (length env) a ≡ env ++ a ∷ y ∷ [] = rw front (set-append_seam env x (y ∷ []) a) in
    let back : set xs (length env) a ≡ with_newest (with_newest env a) y = first ∙ sym (append_assoc env (a ∷ []) (y ∷ [])) in
    let size : length (with_newest env a) ≡ length env + 1 = length-append env (a ∷ []) in
    let second : set (set xs (length env) a) (length (with_newest env a)) b ≡ with_newest (with_newest env a) b = newest-set (with_newest env a) (set xs (length env) a) y b back in
    subst (λ (k : ℕ). set (set xs (length env) a) k b ≡ with_newest (with_newest env a) b) size second

pub newest-cut : (env : List ℕ) (x : ℕ) → take (length env) (with_newest env x) ≡ env
newest-cut env x = take-append_seam env (x ∷ [])

pub two_newest-cut : (env : List ℕ) (x y : ℕ) → take (length env) (with_newest (with_newest env x) y) ≡ env
two_newest-cut env x y = ap (take (length env)) (append_assoc env (x ∷ []) (y ∷ [])) ∙ take-append_seam env (x ∷ y ∷ [])

-- The account of the root's thread is empty at the beginning.
pub IsRun-meaning : (program : Source) (shared : Shared) (shared₁ : Shared) (x : ℕ)
    → shared.environment.items ≡ []
    → shared.sums.items ≡ replicate program.ledgers 0
    → shared.lines.items ≡ []
    → IsRun program program.root [] shared x shared₁
    → record { value = x; totals = shared₁.sums.items; threads = shared₁.lines.items } ≡ meaning_of program
IsRun-meaning program shared shared₁ x no_variables no_sums no_lines run =
    let env = shared.environment.items in
    let root = program.root in
    let value : x ≡ value_of program.arrays root [] = run.value ∙ ap (λ (e : Environment). value_of program.arrays root e) no_variables in
    let effects : effects_of program.arrays program.locks root env ≡ effects_of program.arrays program.locks root [] =
    ap (λ (e : Environment). effects_of program.arrays program.locks root e) no_variables in
    let totals : shared₁.sums.items ≡ tabulated program.ledgers (effects_of program.arrays program.locks root []).sums =
    Gains-all (effects_of program.arrays program.locks root env).sums program.ledgers shared.sums.items shared₁.sums.items no_sums run.ended.gained
    ∙ ap (λ (e : Effects). tabulated program.ledgers e.sums) effects in
    let threads : shared₁.lines.items
    ≡ line_of program.locks [] (effects_of program.arrays program.locks root []) ∷ (effects_of program.arrays program.locks root []).lines [] 0
    = run.ended.come ∙ rw no_lines (ap (λ (e : Effects). line_of program.locks [] e ∷ e.lines [] 0) effects) in
    rw (value, totals, threads) refl
