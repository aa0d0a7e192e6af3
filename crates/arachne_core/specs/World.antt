-- The World of a context table: the place and state of each context, and each event's guard and effect.
-- There are no packed words here, and an event has no steps: sets are tests, maps are functions, and a collection
-- counts each of its members.
use Rattle.std.specs.Prelude.{◌≡◌, ◌≢◌, ℕ, ◌+◌, ◌*◌, ◌<◌, Bool, true, false, ◌&&◌, if◌then◌else◌, ◌==◌, nat_lt}
use Rattle.arachne_core.specs.declared.{place.Place.Place, thread_id.ThreadId.ThreadId, state.State.State}
use Rattle.arachne_core.specs.declared.state.{State.TheVariants.{Free, Claimed, Ready, Blocked, Held, Spent}, Rest.Rest}
use Rattle.arachne_core.specs.declared.state.Rest.TheVariants as rest
use Rattle.arachne_core.specs.{declared.event.Event.Event, Place.same_place}
use Rattle.arachne_core.specs.declared.event.Event.TheVariants as event

-- a thread as its poster knows it: its id and its tag
abbrev pub Thread : Type 0
Thread = ThreadId × ℕ

pub record World : Type 0 where
  -- the number of cores, the number of places of each core, and the last generation
  pub cores : ℕ
  pub slots : ℕ
  pub last : ℕ
  -- the place of each context
  pub at : ℕ → Place
  -- the set of occupied places
  pub occupied : Place → Bool
  -- each context's generation and state
  pub generation : ℕ → ℕ
  pub state : ℕ → State
  -- the sets of closed cores, and of exclusive cores, which one thread has for itself
  pub closed : ℕ → Bool
  pub alone : ℕ → Bool
  -- the collections of the threads that were posted, and of those that have ended
  pub given : Thread → ℕ
  pub ended : Thread → ℕ

-- ---- sets, maps and collections with one member changed

-- the map with this value at x
abbrev pub with_at : {A : Type 0} → (ℕ → A) → ℕ → A → ℕ → A
with_at f x v y = if y == x then v else f y

-- the set of places with p in it, or without it
abbrev pub with_place : (Place → Bool) → Place → Bool → Place → Bool
with_place s p b q = if same_place q p then b else s q

abbrev pub same_thread : Thread → Thread → Bool
same_thread s t = (s.0.context == t.0.context) && (s.0.generation == t.0.generation) && (s.1 == t.1)

-- the collection with one more t
abbrev pub with_thread : (Thread → ℕ) → Thread → Thread → ℕ
with_thread f t s = if same_thread s t then f s + 1 else f s

-- ---- terms of the guards

-- x is a context: they are numbered from 0, as many as there are places
abbrev pub IsContext : World → ℕ → Type 0
IsContext w x = x < w.cores * w.slots

abbrev pub IsPlace : World → Place → Type 0
IsPlace w p = (p.core < w.cores) × (p.index < w.slots)

abbrev pub core_of : World → ℕ → ℕ
core_of w x = (w.at x).core

-- the id of the thread that is in the context now, or of the next one if there is none
abbrev pub id_of : World → ℕ → ThreadId
id_of w x = record { context = x; generation = w.generation x }

-- new threads may come to the core
pub record TakesThreads (w : World) (c : ℕ) : Type 0 where
  pub not_closed : w.closed c ≡ false
  pub not_alone : w.alone c ≡ false

abbrev pub IsEmptyCore : World → ℕ → Type 0
IsEmptyCore w c = (i : ℕ) → i < w.slots → w.occupied (record { core = c; index = i }) ≡ false

abbrev pub IsReady : State → Type 0
IsReady (Ready tag) = Unit {0}
IsReady s = ⊥

-- the state is ready or blocked
abbrev pub IsAtRest : State → Type 0
IsAtRest (Ready tag) = Unit {0}
IsAtRest (Blocked tag) = Unit {0}
IsAtRest s = ⊥

-- the thread is held by h, woken or not
abbrev pub IsHeldBy : ℕ → State → Type 0
IsHeldBy h (Held k woken tag) = k ≡ h
IsHeldBy h s = ⊥

-- the thread is blocked, or held and not woken yet
abbrev pub CanBeWoken : State → Type 0
CanBeWoken (Blocked tag) = Unit {0}
CanBeWoken (Held h false tag) = Unit {0}
CanBeWoken s = ⊥

-- ---- the guards

-- x is free, and its core takes threads
pub record MayClaim (w : World) (x : ℕ) : Type 0 where
  pub context : IsContext w x
  pub free : w.state x ≡ Free
  pub core : TakesThreads w (core_of w x)

-- x is free, its core takes threads and has no occupied place, and x stands at index 0
pub record MayClaimAlone (w : World) (x : ℕ) : Type 0 where
  pub context : IsContext w x
  pub free : w.state x ≡ Free
  pub core : TakesThreads w (core_of w x)
  pub first : (w.at x).index ≡ 0
  pub empty : IsEmptyCore w (core_of w x)

-- h has claimed x
pub record HasClaimed (w : World) (h x : ℕ) : Type 0 where
  pub context : IsContext w x
  pub claimed : w.state x ≡ Claimed h

-- the thread in x is ready
pub record MayTake (w : World) (x : ℕ) : Type 0 where
  pub context : IsContext w x
  pub ready : IsReady (w.state x)

-- h holds the thread in x
pub record HoldsIn (w : World) (h x : ℕ) : Type 0 where
  pub context : IsContext w x
  pub held : IsHeldBy h (w.state x)

-- the thread of this id is in its context, and can be woken
pub record MayWake (w : World) (id : ThreadId) : Type 0 where
  pub context : IsContext w id.context
  pub generation : w.generation id.context ≡ id.generation
  pub waits : CanBeWoken (w.state id.context)

-- the thread in x is at rest, h has claimed y on another core, and neither core is exclusive
pub record MayMove (w : World) (h x y : ℕ) : Type 0 where
  pub from : IsContext w x
  pub to : IsContext w y
  pub at_rest : IsAtRest (w.state x)
  pub claimed : w.state y ≡ Claimed h
  pub apart : core_of w x ≢ core_of w y
  pub from_core : w.alone (core_of w x) ≡ false
  pub to_core : w.alone (core_of w y) ≡ false

-- ---- changes of a context's state

-- the state after h has taken the thread, if it was ready
abbrev pub taken : ℕ → State → State
taken h (Ready tag) = Held h false tag
taken h s = s

-- the state after a held thread was put back: blocked if asked for and if it wasn't woken meanwhile, else ready
abbrev pub put_back : Rest → State → State
put_back rest.Blocked (Held h false tag) = Blocked tag
put_back r (Held h woken tag) = Ready tag
put_back r s = s

abbrev pub woken : State → State
woken (Blocked tag) = Ready tag
woken (Held h w tag) = Held h true tag
woken s = s

-- the tag of the thread, or 0 if there is none
abbrev pub tag_of : State → ℕ
tag_of (Ready tag) = tag
tag_of (Blocked tag) = tag
tag_of (Held h w tag) = tag
tag_of s = 0

-- ---- the events

-- the guard of an event, and the World after it
pub record Rule : Type 1 where
  pub allowed : Type 0
  pub after : World

abbrev pub rule : World → Event → Rule
-- Claim: h claims a free context, whose core takes threads. The context's place is occupied from then on.
rule w (event.Claim h x) = record {
  allowed = MayClaim w x;
  after = record w { state = with_at w.state x (Claimed h); occupied = with_place w.occupied (w.at x) true };
}
-- Alone: h claims a free context at index 0 of a core that takes threads and has no occupied place. The core is
-- exclusive from then on.
rule w (event.Alone h x) = record {
  allowed = MayClaimAlone w x;
  after = record w { state = with_at w.state x (Claimed h); occupied = with_place w.occupied (w.at x) true; alone = with_at w.alone (core_of w x) true };
}
-- Post: a thread is posted in a context that h has claimed. It is ready, and has the context's id.
rule w (event.Post h x tag) = record {
  allowed = HasClaimed w h x;
  after = record w { state = with_at w.state x (Ready tag); given = with_thread w.given (id_of w x, tag) };
}
-- Take: h holds a thread that was ready.
rule w (event.Take h x) = record {
  allowed = MayTake w x;
  after = record w { state = with_at w.state x (taken h (w.state x)) };
}
-- Rest: h puts a thread back. It is blocked if that was asked for and it wasn't woken meanwhile, else ready.
rule w (event.Rest h x r) = record {
  allowed = HoldsIn w h x;
  after = record w { state = with_at w.state x (put_back r (w.state x)) };
}
-- Wake: the thread of this id becomes ready if it was blocked, and woken if it was held and not woken yet.
rule w (event.Wake id) = record {
  allowed = MayWake w id;
  after = record w { state = with_at w.state id.context (woken (w.state id.context)) };
}
-- Retire: a thread that h holds has ended. Below the last generation the context gets the next one and is claimed by h.
-- At the last generation it is spent, and its place stays occupied.
rule w (event.Retire h x) = record {
  allowed = HoldsIn w h x;
  after = record w {
    state = with_at w.state x (if nat_lt (w.generation x) w.last then Claimed h else Spent);
    generation = with_at w.generation x (if nat_lt (w.generation x) w.last then w.generation x + 1 else w.generation x);
    ended = with_thread w.ended (id_of w x, tag_of (w.state x));
  };
}
-- Release: h gives up a context that it has claimed. Its place is no longer occupied, and its core no longer exclusive.
rule w (event.Release h x) = record {
  allowed = HasClaimed w h x;
  after = record w { state = with_at w.state x Free; occupied = with_place w.occupied (w.at x) false; alone = with_at w.alone (core_of w x) false };
}
-- CloseCore, OpenCore: a core of the table is closed, or opened.
rule w (event.CloseCore c) = record { allowed = c < w.cores; after = record w { closed = with_at w.closed c true } }
rule w (event.OpenCore c) = record { allowed = c < w.cores; after = record w { closed = with_at w.closed c false } }
-- Move: a thread at rest moves to the place of a context that h has claimed on another core. Neither core may be
-- exclusive. The two contexts swap places.
rule w (event.Move h x y) = record {
  allowed = MayMove w h x y;
  after = record w { at = with_at (with_at w.at x (w.at y)) y (w.at x) };
}
-- Still: nothing changes.
rule w event.Still = record { allowed = Unit {0}; after = w }

abbrev pub Allowed : World → Event → Type 0
Allowed w e = (rule w e).allowed

abbrev pub after : World → Event → World
after w e = (rule w e).after
