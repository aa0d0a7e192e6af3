-- The state of a lock, and the result of each call with its effect on the state.
use Rattle.std.specs.Prelude.{◌≡◌, ◌↔◌, ℕ, ◌+◌, ◌%◌, ◌^◌, List, [], ◌∷◌, ◌++◌, Contains, drop, length, slice_get, IsOk, IsSome, IfOk, OnErr}
use Rattle.std.specs.declared.{option.Option.Option, option.Option.TheVariants.{None, Some}, result.Result.Result}
use Rattle.std.specs.declared.result.Result.TheVariants.{Err}
use Rattle.arachne_lock.specs.declared.answer.Admitted.{Admitted, TheVariants.{Granted, Queued}}
use Rattle.arachne_lock.specs.declared.answer.AskRefusal.{AskRefusal, TheVariants.{AlreadyIn, Memory}}
use Rattle.arachne_lock.specs.declared.answer.{Released.Released, NotOwner.NotOwner, Withdrawn.Withdrawn}
use Rattle.arachne_lock.specs.declared.{answer.Withdrawn.TheVariants.{Left, Holds, Outside}, lock_entry.Holder.Holder}
use Rattle.arachne_lock.specs.{declared.event.QueueEvent.QueueEvent, Law.{Holding, IsIn, without}}
use Rattle.arachne_lock.specs.History.{replay, HoldsSince}

-- the owner of the lock, with the number of its grant; the tasks that wait; and the number of events, modulo 2^64
pub record Lock : Type 0 where
  pub owner : Option Holder
  pub queue : List ℕ
  pub count : ℕ

abbrev pub unused : Lock
unused = record { owner = None; queue = []; count = 0 }

abbrev pub holder_of : Option Holder → Option ℕ
holder_of None = None
holder_of (Some holder) = Some holder.who

abbrev pub holding_of : Lock → Holding
holding_of lock = record { owner = holder_of lock.owner; queue = lock.queue }

-- the state is the one after these events
pub record IsLeftBy (events : List QueueEvent) (lock : Lock) : Type 0 where
  pub replays : replay events ≡ holding_of lock
  pub counted : lock.count ≡ length events % 2 ^ 64
  pub since : (holder : Holder) → lock.owner ≡ Some holder → (place : ℕ) × (holder.at ≡ place % 2 ^ 64) × HoldsSince events holder.who place

-- the event number `more` after `count`, modulo 2^64
abbrev pub later : ℕ → ℕ → ℕ
later count more = (count + more) % 2 ^ 64

-- ---- an ask: granted at once if nobody owns the lock, and otherwise at the end of the queue

abbrev pub AnswersAsk : Lock → Lock → ℕ → Admitted → Type 0
AnswersAsk before after who (Granted at) =
    (before.owner ≡ None)
    × (at ≡ later before.count 1)
    × (after ≡ record { owner = Some (record { who = who; at = at }); queue = before.queue; count = later before.count 2 })
AnswersAsk before after who (Queued at) =
    IsSome before.owner
    × (at ≡ before.count)
    × (after ≡ record { owner = before.owner; queue = before.queue ++ who ∷ []; count = later before.count 1 })

pub record IsAsked (before after : Lock) (who : ℕ) (answer : Result Admitted AskRefusal) : Type 0 where
  pub already : (answer ≡ Err AlreadyIn) ↔ IsIn (holding_of before) who
  -- memory is needed only if the task must wait
  pub memory : answer ≡ Err Memory → IsSome before.owner
  pub ok : IfOk answer (AnswersAsk before after who)
  pub err : OnErr answer (after ≡ before)

-- ---- a free: the lock is granted to the front of the queue, if a task waits

abbrev pub handed : Lock → Option ℕ → Lock
handed before None = record { owner = None; queue = drop 1 before.queue; count = later before.count 1 }
handed before (Some next) = record {
  owner = Some (record { who = next; at = later before.count 1 });
  queue = drop 1 before.queue;
  count = later before.count 2;
}

pub record AnswersFree (before after : Lock) (freed : Released) : Type 0 where
  pub next : freed.next ≡ slice_get before.queue 0
  pub at : freed.at ≡ before.count
  pub state : after ≡ handed before freed.next

pub record IsFreed (before after : Lock) (who : ℕ) (answer : Result Released NotOwner) : Type 0 where
  pub holder : IsOk answer ↔ (holder_of before.owner ≡ Some who)
  pub ok : IfOk answer (AnswersFree before after)
  pub err : OnErr answer (after ≡ before)

-- ---- a withdrawal: a task that waits leaves the queue; nothing changes if it holds the lock or isn't in

abbrev pub IsWithdrawn : Lock → Lock → ℕ → Withdrawn → Type 0
IsWithdrawn before after who (Left at) =
    Contains before.queue who
    × (at ≡ before.count)
    × (after ≡ record { owner = before.owner; queue = without who before.queue; count = later before.count 1 })
IsWithdrawn before after who (Holds at) = (before.owner ≡ Some (record { who = who; at = at })) × (after ≡ before)
IsWithdrawn before after who Outside = (¬ IsIn (holding_of before) who) × (after ≡ before)

-- ---- a check: the number of the grant by which the task holds the lock, if it does

abbrev pub IsChecked : Lock → Lock → ℕ → Option ℕ → Type 0
IsChecked before after who None = (¬ (holder_of before.owner ≡ Some who)) × (after ≡ before)
IsChecked before after who (Some at) = (before.owner ≡ Some (record { who = who; at = at })) × (after ≡ before)
