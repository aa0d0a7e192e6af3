-- A call on the state while a seat has it: what its result says of the history, and the seat's log after it.
use Rattle.std.proofs.Common.{◌≡◌, ℕ, ◌+◌, List, [], ◌∷◌, ◌++◌, length, get_or, refl, sym, ap, ◌∙◌, subst, append_assoc, length-append, Option, None, Some, slice_get, IfSome, All}
use Rattle.std.specs.declared.result.Result.{Result, TheVariants.{Ok, Err}}
use Rattle.arachne_sleep.specs.declared.answer.Asked.{Asked, TheVariants.{Granted, Queued}}
use Rattle.arachne_sleep.specs.declared.answer.{AskFault.AskFault, Freed.Freed, NotHolder.NotHolder, Pass.Pass}
use Rattle.arachne_sleep.specs.declared.event.LockEvent.{LockEvent, TheVariants.{Ask, Grant, Free}}
use Rattle.arachne_sleep.specs.{declared.{who.Who.Who, view.SeatLog.SeatLog}, History.IsSound, Lock.{Lock, grants_to}}
use Rattle.arachne_sleep.specs.Views.{Guarded, SleepLockView, SeatView, IsSeatOf, with_log}
use Rattle.arachne_sleep.specs.{Histories.{BeginsWith, IsGrantedIn}, Logs.{taken_log, answered_log, given_back_log}}
use Rattle.arachne_sleep.{specs.Calls.{IsAsked, IsFreed, IsChecked, IsCallOn, pass_asked}, proofs.Growing.begins-refl}
use Rattle.arachne_sleep.specs.Steps.{Mine, idle, with_guard, Extends, HasTaken, Visits, GoesOn, IsReturnable}
use Rattle.atomic_table.specs.Seated.{TableId}

get-last : (pre : List LockEvent) (e : LockEvent) → slice_get (pre ++ e ∷ []) (length pre) ≡ Some e
get-last [] e = refl
get-last (x ∷ pre) e = get-last pre e

-- the second of two events after a history
get-second : (pre : List LockEvent) (a b : LockEvent) → slice_get (pre ++ a ∷ b ∷ []) (length pre + 1) ≡ Some b
get-second pre a b =
    ap (λ (x : List LockEvent). slice_get x (length pre + 1)) (sym (append_assoc pre (a ∷ []) (b ∷ [])))
    ∙ ap (λ (n : ℕ). slice_get ((pre ++ a ∷ []) ++ b ∷ []) n) (sym (length-append pre (a ∷ [])))
    ∙ get-last (pre ++ a ∷ []) b

stays : (old new : Lock) → new ≡ old → BeginsWith new.history old.history
stays old new same = subst (BeginsWith new.history) (ap (λ (x : Lock). x.history) same) (begins-refl new.history)

pub ask-goes-on : (old new : Lock) (who : Who) (r : Result Asked AskFault) → IsAsked old new who r → IsSound new.history → GoesOn old new (pass_asked r)
ask-goes-on old new who (Ok (Granted pass)) a sound =
    let events = ap (λ (x : Lock). x.history) a.ok.1 in record {
      numbered = ap (λ (x : Lock). x.number) a.ok.1;
      begins = (Ask who ∷ Grant who ∷ [], events);
      sound = sound;
      granted = subst (IsGrantedIn old.number new.history) (sym a.ok.2) (refl, ap (λ (x : List LockEvent). slice_get x (length old.history + 1)) events ∙ get-second old.history (Ask who) (Grant who));
    }
ask-goes-on old new who (Ok (Queued at)) a sound = record {
  numbered = ap (λ (x : Lock). x.number) a.ok.1;
  begins = (Ask who ∷ [], ap (λ (x : Lock). x.history) a.ok.1);
  sound = sound;
  granted = tt;
}
ask-goes-on old new who (Err fault) a sound = record {
  numbered = ap (λ (x : Lock). x.number) a.err;
  begins = stays old new a.err;
  sound = sound;
  granted = tt;
}

pub free-goes-on : (old new : Lock) (who : Who) (r : Result Freed NotHolder) → IsFreed old new who r → IsSound new.history → GoesOn old new None
free-goes-on old new who (Ok freed) a sound = record {
  numbered = ap (λ (x : Lock). x.number) a.ok.events;
  begins = (Free who ∷ grants_to freed.next, ap (λ (x : Lock). x.history) a.ok.events);
  sound = sound;
  granted = tt;
}
free-goes-on old new who (Err fault) a sound = record {
  numbered = ap (λ (x : Lock). x.number) a.err;
  begins = stays old new a.err;
  sound = sound;
  granted = tt;
}

pub check-goes-on : (old new : Lock) (who : Who) (r : Option Pass) → IsChecked old new who r → IsSound new.history → GoesOn old new r
check-goes-on old new who None a sound = record {
  numbered = ap (λ (x : Lock). x.number) a.same;
  begins = stays old new a.same;
  sound = sound;
  granted = tt;
}
check-goes-on old new who (Some pass) a sound = record {
  numbered = ap (λ (x : Lock). x.number) a.same;
  begins = stays old new a.same;
  sound = sound;
  granted = (a.pass.number, ap (λ (x : Lock). slice_get x.history pass.at) a.same ∙ a.pass.place.granted ∙ ap (λ (w : Who). Some (Grant w)) (sym a.pass.holder));
}

-- ---- take the guard, visit the state, give the guard back

guarded-in : (a b : Guarded) → ◌≡◌ {A = List (ℕ × Guarded)} ((0, a) ∷ []) ((0, b) ∷ []) → a ≡ b
guarded-in a b e = ap (λ (x : List (ℕ × Guarded)). (get_or x 0 (0, a)).1) e

module _ (w : ℕ) (l : SeatLog) {from to : TableId} (taken visited : Mine) (old new : Guarded) (pass : Option Pass) (come : HasTaken w l taken) (visits : Visits from to taken visited old new) (goes : GoesOn old.state new.state pass) (given : new.last_pass ≡ pass) where
  same-guarded : come.0 ≡ old
  same-guarded = guarded-in come.0 old (sym (ap (λ (m : Mine). m.1) come.1) ∙ visits.was)

  pub came : Extends l old
  came = subst (Extends l) same-guarded come.2

  -- the seat while it has the state
  visited-is : visited ≡ with_guard w (taken_log l old.state.history) new
  visited-is = let before : taken ≡ with_guard w (taken_log l old.state.history) old = come.1 ∙ ap (λ (d : Guarded). with_guard w (taken_log l d.state.history) d) same-guarded in
      λ i. ((visits.view ∙ ap (λ (m : Mine). m.0) before) i, visits.is i)

  pub returnable : IsReturnable visited new old.state.history
  returnable = subst (λ (m : Mine). IsReturnable m new old.state.history) (sym visited-is) (record {
    mine = refl;
    seen = refl;
    numbered = goes.numbered ∙ came.numbered;
    begins = goes.begins;
    sound = goes.sound;
    granted = subst (λ (p : Option Pass). IfSome p (IsGrantedIn l.number new.state.history)) (sym given)
        (subst (λ (n : ℕ). IfSome pass (IsGrantedIn n new.state.history)) came.numbered goes.granted);
  })

  module _ (back : Mine) (told : (guarded : Guarded) → visited.1 ≡ (0, guarded) ∷ [] → back ≡ idle visited.0.weight (given_back_log visited.0.known.log guarded.state.history guarded.last_pass)) where
    -- the seat after the call
    pub back-is : back ≡ idle w (answered_log l old.state.history new.state.history pass)
    back-is =
        told new visits.is
        ∙ ap (λ (m : Mine). idle m.0.weight (given_back_log m.0.known.log new.state.history new.last_pass)) visited-is
        ∙ ap (λ (p : Option Pass). idle w (answered_log l old.state.history new.state.history p)) given

    pub idle-again : (weight : ℕ) → w ≡ weight → back ≡ idle weight back.0.known.log
    idle-again weight same = subst (λ (m : Mine). m ≡ idle weight m.0.known.log) (sym back-is) (ap (λ (x : ℕ). idle x (answered_log l old.state.history new.state.history pass)) same)

    pub called : (number weight : ℕ) (home away : TableId) (v : SeatView) → ◌≡◌ {A = SeatView} (record { table = home; weight = weight; log = l }) v → away ≡ home → v.log.number ≡ number
        → IsCallOn number v (record { table = away; weight = weight; log = back.0.known.log }) pass old.state new.state
    called number weight home away v view same numbered = record {
      numbered = came.numbered ∙ ap (λ (x : SeatView). x.log.number) view ∙ numbered;
      sound = came.sound;
      begins = subst (λ (x : SeatView). All (BeginsWith old.state.history) x.log.seen) view came.begins;
      told =
          (λ i. record { table = same i; weight = weight; log = ap (λ (m : Mine). m.0.known.log) back-is i })
          ∙ ap (λ (x : SeatView). with_log x (answered_log x.log old.state.history new.state.history pass)) view;
    }

-- the seat belongs to the same lock after a call
pub seat-kept : (lock : SleepLockView) (old new : SeatView) (l : SeatLog) → new ≡ with_log old l → l.number ≡ old.log.number → IsSeatOf lock old → IsSeatOf lock new × (new.weight ≡ old.weight)
seat-kept lock old new l told same own =
    subst (λ (v : SeatView). IsSeatOf lock v × (v.weight ≡ old.weight)) (sym told) (record { table = own.table; number = same ∙ own.number }, refl)
