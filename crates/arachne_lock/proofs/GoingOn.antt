-- After each call on a sound history and its state, the history with the call's events is sound, and the state is the
-- one after it.
use Rattle.std.proofs.Common.{◌≡◌, ℕ, ◌+◌, ◌%◌, ◌^◌, List, [], ◌∷◌, ◌++◌, length, refl, sym, ◌∙◌, ap, subst, append_assoc, length-append, Option, None, Some, Contains, slice_get, is_some, true, append-nil}
use Rattle.std.specs.{Result.is_ok, declared.result.Result.Result, declared.result.Result.TheVariants.{Ok, Err}}
use Rattle.std.proofs.{Math.Nat.mod-add-mod, lemmas.Bool.{true≢false, false≢true}, lemmas.Option.{same_Some, none-some}}
use Rattle.arachne_lock.specs.declared.answer.Admitted.{Admitted, TheVariants.{Granted, Queued}}
use Rattle.arachne_lock.specs.declared.answer.{AskRefusal.AskRefusal, Released.Released, NotOwner.NotOwner}
use Rattle.arachne_lock.specs.declared.answer.Withdrawn.{Withdrawn, TheVariants.{Left, Holds, Outside}}
use Rattle.arachne_lock.specs.declared.{lock_entry.Holder.Holder, event.QueueEvent.QueueEvent}
use Rattle.arachne_lock.specs.declared.event.QueueEvent.TheVariants.{Ask, Grant, Free, Leave}
use Rattle.arachne_lock.specs.Law.{Holding, IsIn, IsNeverIdle, after, without}
use Rattle.arachne_lock.specs.History.{replay, IsLawful, IsSound, HoldsSince}
use Rattle.arachne_lock.specs.State.{Lock, unused, holder_of, IsLeftBy, later, handed, IsAsked, IsFreed, IsWithdrawn, IsChecked}
use Rattle.arachne_lock.specs.Deeds.{asked_events, handed_events, freed_events, withdrawn_events}
use Rattle.arachne_lock.proofs.Histories.{replay-push, IsLawful-push, HoldsSince-quiet, HoldsSince-grant}

-- sound events, and the state after them
abbrev pub Leaves : List QueueEvent → Lock → Type 0
Leaves events lock = IsSound events × IsLeftBy events lock

pub nothing-yet : Leaves [] unused
nothing-yet = (
  record { lawful = tt; never_idle = λ _. refl },
  record { replays = refl; counted = refl; since = λ holder is. absurd (none-some _ is) },
)

nothing-more : (h : List QueueEvent) (before now : Lock) → Leaves h before → now ≡ before → Leaves (h ++ []) now
nothing-more h before now leaves same =
    subst (λ (x : List QueueEvent × Lock). Leaves x.0 x.1) (λ i. (sym (append-nil h) i, sym same i)) leaves

abbrev holding : Option ℕ → List ℕ → Holding
holding owner queue = record { owner = owner; queue = queue }

-- the count grows with the history
count-more : (h events : List QueueEvent) (count n : ℕ) → count ≡ length h % 2 ^ 64 → length events ≡ n → later count n ≡ length (h ++ events) % 2 ^ 64
count-more h events count n counted long =
    ap (λ (c : ℕ). (c + n) % 2 ^ 64) counted
    ∙ mod-add-mod (length h) (2 ^ 64) n
    ∙ ap (λ (k : ℕ). k % 2 ^ 64) (ap (λ (k : ℕ). length h + k) (sym long) ∙ sym (length-append h events))

-- a lock that somebody owns isn't idle
owned-busy : (events : List QueueEvent) (who : ℕ) (queue : List ℕ) → replay events ≡ holding (Some who) queue → IsNeverIdle (replay events)
owned-busy events who queue is = λ idle. absurd (none-some who (sym idle ∙ ap (λ (x : Holding). x.owner) is))

-- a grant to the front of a lock that nobody owns
record IsGranted (events : List QueueEvent) (next : ℕ) (queue : List ℕ) : Type 0 where
  pub sound : IsSound (events ++ Grant next ∷ [])
  pub replays : replay (events ++ Grant next ∷ []) ≡ holding (Some next) queue
  pub since : HoldsSince (events ++ Grant next ∷ []) next (length events)

granted : (events : List QueueEvent) (next : ℕ) (queue : List ℕ) → IsLawful events → replay events ≡ holding None (next ∷ queue) → IsGranted events next queue
granted events next queue lawful is =
    let replays : replay (events ++ Grant next ∷ []) ≡ holding (Some next) queue = replay-push events (Grant next) ∙ ap (λ (x : Holding). after x (Grant next)) is in record {
      sound = record {
        lawful = IsLawful-push events (Grant next) lawful (ap (λ (x : Holding). x.owner) is, ap (λ (x : Holding). slice_get x.queue 0) is);
        never_idle = owned-busy (events ++ Grant next ∷ []) next queue replays;
      };
      replays = replays;
      since = HoldsSince-grant events next;
    }

-- a state in which the last of two events is a grant
granted-leaves : (h : List QueueEvent) (first : QueueEvent) (next : ℕ) (queue : List ℕ) (count : ℕ) → IsLawful (h ++ first ∷ []) → replay (h ++ first ∷ []) ≡ holding None (next ∷ queue) → count ≡ length h % 2 ^ 64
    → Leaves (h ++ first ∷ Grant next ∷ []) (record { owner = Some (record { who = next; at = later count 1 }); queue = queue; count = later count 2 })
granted-leaves h first next queue count lawful is counted =
    let g = granted (h ++ first ∷ []) next queue lawful is in
    let one : later count 1 ≡ length (h ++ first ∷ []) % 2 ^ 64 = count-more h (first ∷ []) count 1 counted refl in
    let whole : (h ++ first ∷ []) ++ Grant next ∷ [] ≡ h ++ first ∷ Grant next ∷ [] = append_assoc h (first ∷ []) (Grant next ∷ []) in (
      subst IsSound whole g.sound,
      record {
        replays = ap replay (sym whole) ∙ g.replays;
        counted = count-more h (first ∷ Grant next ∷ []) count 2 counted refl;
        since = λ holder held.
            subst (λ (x : Holder). (place : ℕ) × (x.at ≡ place % 2 ^ 64) × HoldsSince (h ++ first ∷ Grant next ∷ []) x.who place) (same_Some _ _ held)
            (length (h ++ first ∷ []), one, subst (λ (x : List QueueEvent). HoldsSince x next (length (h ++ first ∷ []))) whole g.since);
      },
    )

-- if nobody owns the lock, nobody waits
none-waits : (h : List QueueEvent) (owner : Option Holder) (queue : List ℕ) → IsSound h → replay h ≡ holding (holder_of owner) queue → owner ≡ None → queue ≡ []
none-waits h owner queue sound is free =
    sym (ap (λ (x : Holding). x.queue) is) ∙ sound.never_idle (ap (λ (x : Holding). x.owner) is ∙ ap holder_of free)

ok-err : {A E : Type 0} (x : A) (e : E) → ◌≡◌ {A = Result A E} (Ok x) (Err e) → ⊥
ok-err {A} {E} x e same = true≢false (ap (λ (r : Result A E). is_ok r) same)

-- the lock still has an owner after an event that changes only the queue
owner-kept : (owner : Option Holder) (queue : List ℕ) → is_some owner ≡ true → IsNeverIdle (holding (holder_of owner) queue)
owner-kept None queue some = absurd (false≢true some)
owner-kept (Some holder) queue some = λ idle. absurd (none-some _ (sym idle))

-- ---- an ask

pub ask-goes-on : (h : List QueueEvent) (before now : Lock) (who : ℕ) (r : Result Admitted AskRefusal) → Leaves h before → IsAsked before now who r → Leaves (h ++ asked_events who r) now
ask-goes-on h before now who (Ok (Granted at)) (sound, left) a =
    let out : ¬ IsIn (replay h) who = λ inside. ok-err _ _ (a.already.1 (subst (λ (x : Holding). IsIn x who) left.replays inside)) in
    let empty : before.queue ≡ [] = none-waits h before.owner before.queue sound left.replays a.ok.0 in
    let is : replay (h ++ Ask who ∷ []) ≡ holding None (who ∷ []) =
    replay-push h (Ask who) ∙ ap (λ (x : Holding). after x (Ask who)) left.replays ∙ (λ i. holding (holder_of (a.ok.0 i)) (empty i ++ who ∷ [])) in
    let made = granted-leaves h (Ask who) who [] before.count (IsLawful-push h (Ask who) sound.lawful out) is left.counted in
    subst (Leaves (h ++ Ask who ∷ Grant who ∷ []))
    (sym (a.ok.2 ∙ (λ i. record { owner = Some (record { who = who; at = a.ok.1 i }); queue = empty i; count = later before.count 2 }))) made
ask-goes-on h before now who (Ok (Queued at)) (sound, left) a =
    let out : ¬ IsIn (replay h) who = λ inside. ok-err _ _ (a.already.1 (subst (λ (x : Holding). IsIn x who) left.replays inside)) in
    let is : replay (h ++ Ask who ∷ []) ≡ holding (holder_of before.owner) (before.queue ++ who ∷ []) =
    replay-push h (Ask who) ∙ ap (λ (x : Holding). after x (Ask who)) left.replays in
    subst (Leaves (h ++ Ask who ∷ [])) (sym a.ok.2) (
      record {
        lawful = IsLawful-push h (Ask who) sound.lawful out;
        never_idle = subst IsNeverIdle (sym is) (owner-kept before.owner (before.queue ++ who ∷ []) a.ok.0);
      },
      record {
        replays = is;
        counted = count-more h (Ask who ∷ []) before.count 1 left.counted refl;
        since = λ holder held. let old = left.since holder held in (old.0, old.1, HoldsSince-quiet h (Ask who) holder.who old.0 tt old.2);
      },
    )
ask-goes-on h before now who (Err fault) leaves a = nothing-more h before now leaves a.err

-- ---- a free

-- a free while nobody waits, and one that grants the lock to the front
free-leaves : (h : List QueueEvent) (owner : Option Holder) (queue : List ℕ) (count who : ℕ) → Leaves h (record { owner = owner; queue = queue; count = count }) → holder_of owner ≡ Some who
    → Leaves (h ++ handed_events who (slice_get queue 0)) (handed (record { owner = owner; queue = queue; count = count }) (slice_get queue 0))
free-leaves h owner [] count who (sound, left) owns =
    let is : replay (h ++ Free who ∷ []) ≡ holding None [] = replay-push h (Free who) ∙ ap (λ (x : Holding). after x (Free who)) left.replays in (
      record {
        lawful = IsLawful-push h (Free who) sound.lawful (ap (λ (x : Holding). x.owner) left.replays ∙ owns);
        never_idle = λ _. ap (λ (x : Holding). x.queue) is;
      },
      record {
        replays = is;
        counted = count-more h (Free who ∷ []) count 1 left.counted refl;
        since = λ holder held. absurd (none-some _ held);
      },
    )
free-leaves h owner (next ∷ queue) count who (sound, left) owns =
    granted-leaves h (Free who) next queue count
    (IsLawful-push h (Free who) sound.lawful (ap (λ (x : Holding). x.owner) left.replays ∙ owns))
    (replay-push h (Free who) ∙ ap (λ (x : Holding). after x (Free who)) left.replays) left.counted

pub free-goes-on : (h : List QueueEvent) (before now : Lock) (who : ℕ) (r : Result Released NotOwner) → Leaves h before → IsFreed before now who r → Leaves (h ++ freed_events who r) now
free-goes-on h before now who (Ok freed) leaves a =
    subst (λ (x : Option ℕ × Lock). Leaves (h ++ handed_events who x.0) x.1) (λ i. (sym a.ok.next i, sym (a.ok.state ∙ ap (handed before) a.ok.next) i))
    (free-leaves h before.owner before.queue before.count who leaves (a.holder.0 refl))
free-goes-on h before now who (Err fault) leaves a = nothing-more h before now leaves a.err

-- ---- a withdrawal, and a check

pub withdraw-goes-on : (h : List QueueEvent) (before now : Lock) (who : ℕ) (r : Withdrawn) → Leaves h before → IsWithdrawn before now who r → Leaves (h ++ withdrawn_events who r) now
withdraw-goes-on h before now who (Left at) (sound, left) a =
    let is : replay (h ++ Leave who ∷ []) ≡ holding (holder_of before.owner) (without who before.queue) =
    replay-push h (Leave who) ∙ ap (λ (x : Holding). after x (Leave who)) left.replays in
    subst (Leaves (h ++ Leave who ∷ [])) (sym a.2) (
      record {
        lawful = IsLawful-push h (Leave who) sound.lawful (subst (λ (x : Holding). Contains x.queue who) (sym left.replays) a.0);
        never_idle = subst IsNeverIdle (sym is) (λ idle. ap (without who) (sym (ap (λ (x : Holding). x.queue) left.replays) ∙ sound.never_idle (ap (λ (x : Holding). x.owner) left.replays ∙ idle)));
      },
      record {
        replays = is;
        counted = count-more h (Leave who ∷ []) before.count 1 left.counted refl;
        since = λ holder held. let old = left.since holder held in (old.0, old.1, HoldsSince-quiet h (Leave who) holder.who old.0 tt old.2);
      },
    )
withdraw-goes-on h before now who (Holds at) leaves a = nothing-more h before now leaves a.1
withdraw-goes-on h before now who Outside leaves a = nothing-more h before now leaves a.1

pub check-goes-on : (h : List QueueEvent) (before now : Lock) (who : ℕ) (r : Option ℕ) → Leaves h before → IsChecked before now who r → Leaves (h ++ []) now
check-goes-on h before now who None leaves a = nothing-more h before now leaves a.1
check-goes-on h before now who (Some at) leaves a = nothing-more h before now leaves a.1
