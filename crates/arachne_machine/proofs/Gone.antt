-- Advances over tallies that are made as the thread comes to them.
use Rattle.std.proofs.Common.{◌≡◌, ◌≤◌, ℕ, ◌+◌, ◌-◌, [], ◌∷◌, None, refl, ap, sym, ◌∙◌, subst, arith, ◌==◌, if◌then◌else◌}
use Rattle.arachne_program.specs.{Value.wrapped, Program.source_of, Checked.IsChecked}
use Rattle.arachne_machine.specs.{declared.pause.Pause.Pause, Suspended.SameThread}
use Rattle.arachne_machine.specs.Nested.{FallsBy, Nested, SameWhole, pending_in, whole, work_in}
use Rattle.arachne_machine.specs.Advance.{AwaitsAt, IsCharged, IsSpentAt, Moves, PausesAt, pause_at}
use Rattle.arachne_machine.specs.Tallying.{AdvancesOver, Dues, GainsAt, HasGone, IsAdvance, IsRefusedAdvance, IsTallied, RefusedOver}
use Rattle.arachne_machine.specs.declared.pause.Pause.TheVariants as pauses

same_on : (a b c : Nested) → SameWhole a b → SameWhole b c → SameWhole a c
same_on a b c p q = record { program = q.program ∙ p.program; name = q.name ∙ p.name; label = q.label ∙ p.label }

falls_on : (had left : ℕ) (from mid to : ℕ) → left ≤ had → mid + had ≡ from + left → FallsBy 1 left mid to → FallsBy 1 had from to
falls_on had left from mid to fewer w f = record {
  made = f.made + (had - left);
  at_least = omega (arith, f.at_least);
  at_most = omega (arith, f.at_most, fewer);
  left = omega (arith, f.left, fewer, w);
}

pub moves_on : (had left : ℕ) (old mid : Nested) (gives : Pause) (new : Nested) → SameWhole old mid → left ≤ had → work_in mid + had ≡ work_in old + left → Moves left mid gives new → Moves had old gives new
moves_on had left old mid pauses.Budget new same fewer w m = (same_on old mid new same m.0, m.1, omega (arith, m.2, w))
moves_on had left old mid (pauses.Forks class child) new same fewer w m = (same_on old mid new same m.0, m.1, m.2, m.3, falls_on had left (work_in old) (work_in mid) _ fewer w m.4)
moves_on had left old mid pauses.Ended new same fewer w m =
    (record { same = same_on old mid new same m.0.same; pending = m.0.pending; work = falls_on had left (work_in old) (work_in mid) _ fewer w m.0.work }, m.1, m.2, m.3, m.4)
moves_on had left old mid _ new same fewer w m = record { same = same_on old mid new same m.same; pending = m.pending; work = falls_on had left (work_in old) (work_in mid) _ fewer w m.work }

spent_on : (had left next : ℕ) (gives : Pause) → left ≤ had → IsSpentAt gives left next → IsSpentAt gives had next
spent_on had left next pauses.Budget fewer s = s
spent_on had left next _ fewer s = omega (arith, s, fewer)

-- The thread has gone on over some tallies, and goes on.
pub record Gone (had left : ℕ) (old now : Nested) (due now_due : Dues) : Type 0 where
  pub gone : HasGone had left old now due now_due
  pub same : SameWhole old now
  pub going : pending_in now ≡ None
  pub charged : work_in now + had ≡ work_in old + left
  pub fewer : left ≤ had

-- The thread comes to a tally, which is made.
pub gone_on : (had left next : ℕ) (old now mid new : Nested) (due now_due new_due : Dues) (ledger amount : ℕ) → Gone had left old now due now_due →
    IsAdvance left next now (pause_at (pending_in mid)) mid → IsTallied ledger amount mid new → GainsAt now_due ledger amount new_due → Gone had next old new due new_due
gone_on had left next old now mid new due now_due new_due ledger amount g a t d =
    let a' : IsAdvance left next now (pauses.Tallies ledger amount) mid = subst (λ p. IsAdvance left next now (pause_at p) mid) t.paused a in
    record {
      gone = record {
        tallies = (ledger, amount) ∷ g.gone.tallies;
        goes = (left, now, mid, g.gone.goes, a', t);
        due_now = λ other. d other ∙ ap (λ n. wrapped (n + (if other == ledger then amount else 0))) (g.gone.due_now other);
      };
      same = same_on old now new g.same (same_on now mid new a'.moves.same t.same_whole);
      going = t.goes_on;
      charged = omega (arith, g.charged, a'.charged, t.work);
      fewer = omega (arith, g.fewer, a'.spent);
    }

-- The thread pauses.
pub record PausedOver (had next : ℕ) (old : Nested) (gives : Pause) (new : Nested) (due new_due : Dues) : Type 0 where
  pub over : AdvancesOver had next old gives new due new_due
  pub moves : Moves had old gives new
  pub spent : IsSpentAt gives had next
  pub charged : IsCharged had next old gives new
  pub elsewhere : AwaitsAt gives new
  pub within : IsChecked (source_of (whole old).program) → PausesAt gives new.running

pub gone_paused : (had left next : ℕ) (old now : Nested) (gives : Pause) (new : Nested) (due now_due : Dues) → Gone had left old now due now_due → IsAdvance left next now gives new → PausedOver had next old gives new due now_due
gone_paused had left next old now gives new due now_due g a = record {
  over = record { before = left; mid = now; gone = g.gone; last = a };
  moves = moves_on had left old now gives new g.same g.fewer g.charged a.moves;
  spent = spent_on had left next gives g.fewer a.spent;
  charged = omega (arith, g.charged, a.charged);
  elsewhere = a.elsewhere;
  within = λ checked. a.within (subst (λ p. IsChecked (source_of p)) (sym g.same.program) checked);
}

-- an advance of no steps
nothing_more : (t : Nested) → pending_in t ≡ None → IsAdvance 0 0 t pauses.Budget t
nothing_more t going =
    let whole_same : SameWhole t t = record { program = refl; name = refl; label = refl } in
    let same : SameThread t.running t.running = record { program = refl; name = refl; label = refl; forks = refl; unjoined = refl; here = refl; below = refl } in
    record {
      moves = (whole_same, going, omega arith);
      spent = refl;
      charged = omega arith;
      elsewhere = tt;
      within = λ checked. tt;
      alone = λ alone places. record {
        does = (same, refl, going, record { made = 0; at_least = omega arith; at_most = omega arith; work = omega arith; trace = refl });
        alone = alone;
        sums = refl;
        holds = refl;
      };
      rest = ([], refl);
      sums = λ none. refl;
    }

-- All steps are made.
pub gone_all : (had : ℕ) (old now : Nested) (due now_due : Dues) → Gone had 0 old now due now_due → PausedOver had 0 old pauses.Budget now due now_due
gone_all had old now due now_due g = gone_paused had 0 0 old now pauses.Budget now due now_due g (nothing_more now g.going)

-- The thread is refused memory.
pub record RefusedFar (had next : ℕ) (old new : Nested) (due new_due : Dues) : Type 0 where
  pub over : RefusedOver had next old new due new_due
  pub same : SameWhole old new
  pub charged : work_in new + had ≡ work_in old + next
  pub pending : pending_in new ≡ None

pub gone_refused : (had left next : ℕ) (old now new : Nested) (due now_due : Dues) → Gone had left old now due now_due → IsRefusedAdvance left next now new → RefusedFar had next old new due now_due
gone_refused had left next old now new due now_due g r = record {
  over = record { before = left; mid = now; gone = g.gone; last = r };
  same = same_on old now new g.same r.same;
  charged = omega (arith, g.charged, r.charged);
  pending = r.pending;
}
