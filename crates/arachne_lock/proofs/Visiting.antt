-- A call on a lock's state while a seat has it.
use Rattle.std.proofs.Common.{◌≡◌, ℕ, List, [], ◌∷◌, ◌++◌, get_or, refl, sym, ap, ◌∙◌, subst}
use Rattle.atomic_table.specs.Seated.{TableId}
use Rattle.arachne_lock.specs.{declared.event.QueueEvent.QueueEvent, declared.view.EventLog.EventLog, History.IsSound}
use Rattle.arachne_lock.specs.{State.{Lock, IsLeftBy}, Logs.{taken_log, given_back_log, answered_log}}
use Rattle.arachne_lock.specs.Views.{Guarded, SeatView, with_log}
use Rattle.arachne_lock.specs.Steps.{Mine, idle, with_guard, GoesOnFrom, Comes, HasTaken, Visits, IsReturnable}
use Rattle.arachne_lock.specs.Calls.{HasCalled}
use Rattle.arachne_lock.proofs.GoingOn.{Leaves}

guarded-in : (lock : ℕ) (a b : Guarded) → ◌≡◌ {A = List (ℕ × Guarded)} ((lock, a) ∷ []) ((lock, b) ∷ []) → a ≡ b
guarded-in lock a b e = ap (λ (x : List (ℕ × Guarded)). (get_or x 0 (0, a)).1) e

-- the guard was taken, the state was changed by a call that adds these events, and the guard was given back
module _ (lock : ℕ) (l : EventLog) {from to : TableId} (taken visited : Mine) (old new : Guarded) (events : List QueueEvent) (come : HasTaken lock l taken) (visits : Visits lock from to taken visited old new) (added : new.events ≡ events)
    (goes : (h : List QueueEvent) → Leaves h old.lock → Leaves (h ++ events) new.lock) where
  abbrev pub history : List QueueEvent
  history = come.0

  same-guarded : come.1 ≡ old
  same-guarded = guarded-in lock come.1 old (sym (ap (λ (m : Mine). m.1) come.2) ∙ visits.was)

  came : Comes lock l history old
  came = subst (Comes lock l history) same-guarded come.3

  after : Leaves (history ++ events) new.lock
  after = goes history (came.sound, came.left)

  -- the seat while it has the state
  visited-is : visited ≡ with_guard lock history (taken_log l lock history) new
  visited-is =
      let before : taken ≡ with_guard lock history (taken_log l lock history) old = come.2 ∙ ap (λ (d : Guarded). with_guard lock history (taken_log l lock history) d) same-guarded in
      λ i. ((visits.view ∙ ap (λ (m : Mine). m.0) before) i, visits.is i)

  pub returnable : IsReturnable lock history visited new
  returnable = subst (λ (m : Mine). IsReturnable lock history m new) (sym visited-is) (record {
    mine = refl;
    sound = subst (λ (e : List QueueEvent). IsSound (history ++ e)) (sym added) after.0;
    left = subst (λ (e : List QueueEvent). IsLeftBy (history ++ e) new.lock) (sym added) after.1;
  })

  module _ (back : Mine) (told : (h : List QueueEvent) (g : Guarded) → IsReturnable lock h visited g → back ≡ idle (given_back_log visited.0.log lock h g.events)) where
    -- the seat after the call
    pub back-is : back ≡ idle (answered_log l lock history events)
    back-is =
        told history new returnable
        ∙ ap (λ (m : Mine). idle (given_back_log m.0.log lock history new.events)) visited-is
        ∙ ap (λ (e : List QueueEvent). idle (answered_log l lock history e)) added

    pub idle-again : back ≡ idle back.0.log
    idle-again = subst (λ (m : Mine). m ≡ idle m.0.log) (sym back-is) refl

    pub called : (answers : Lock → Lock → Type 0) (home away : TableId) (v : SeatView) → ◌≡◌ {A = SeatView} (record { table = home; log = l }) v → away ≡ home → answers old.lock new.lock
        → HasCalled lock v (record { table = away; log = back.0.log }) events answers
    called answers home away v view same answered = (
      history,
      old.lock,
      new.lock,
      record {
        sound = came.sound;
        begins = subst (λ (x : SeatView). GoesOnFrom lock history x.log) view came.begins;
        left = came.left;
        sound_after = after.0;
        left_after = after.1;
        told =
            (λ i. record { table = same i; log = ap (λ (m : Mine). m.0.log) back-is i })
            ∙ ap (λ (x : SeatView). with_log x (answered_log x.log lock history events)) view;
      },
      answered,
    )
