-- A free core is given to a thread that can take one.
use Rattle.std.proofs.Common.{◌≡◌, ◌≢◌, ℕ, zero, suc, ◌<◌, ◌≤◌, Bool, true, false, cond, Option, Some, None, List, [], ◌∷◌, length, map, get_or, refl, ap, sym, ◌∙◌, inl, inr, arith, count_by, position}
use Rattle.std.specs.List.{position_or_len}
use Rattle.std.proofs.Math.ListN.{get_or-map}
use Rattle.std.proofs.lemmas.Bool.{cases_lt, lt-ltb, false≢true}
use Rattle.std.proofs.lemmas.List.{get_or_past, length-map, get_or-map as get_or-map_within}
use Rattle.std.proofs.lemmas.List.FromFn.{fill_by_all}
use Rattle.std.proofs.lemmas.List.Sums.{sum_by-cons, fails_before_first}
use Rattle.std.proofs.lemmas.List.Quantifiers.{position-Some}
use Rattle.arachne_grants.specs.declared.claims.Client.{Client}
use Rattle.arachne_grants.specs.declared.sessions.Session.{Session}
use Rattle.arachne_grants.specs.declared.sessions.ClientThread.{ClientThread}
use Rattle.arachne_grants.specs.declared.sessions.ClientThread.TheVariants.{Absent, Runs, Waits, On, Floats, FloatsOn}
use Rattle.arachne_grants.specs.Grants.{client_at, target_at}
use Rattle.arachne_grants.specs.Owners.{IsHighestShort, IsShort}
use Rattle.arachne_grants.specs.Sessions.{core_of, has_core, held_in, is_ready, is_usable, is_waiting, placed, session_at, slice_thread, thread_at, wants_of, with_thread, IsFree}
use Rattle.arachne_grants.specs.Steps.{AllGiven, HasFewer, IsGrant}

pub client_at-wants : (sessions : List Session) (client : ℕ) → client_at (map wants_of sessions) client ≡ wants_of (session_at sessions client)
client_at-wants sessions client = get_or-map wants_of sessions client _

held-wants : (sessions : List Session) (client : ℕ) → get_or (map held_in sessions) client 0 ≡ held_in (session_at sessions client)
held-wants sessions client = get_or-map held_in sessions client _

-- a list whose each element is f of the other's
mapped : {X Y : Type 0} (f : X → Y) (xs : List X) (ys : List Y) (n : ℕ) (d : X) (e : Y) → length xs ≡ n → length ys ≡ n
    → ((k : ℕ) → k < n → get_or ys k e ≡ f (get_or xs k d)) → ys ≡ map f xs
mapped f xs ys n d e of_xs of_ys each =
    fill_by_all (λ k. f (get_or xs k d)) ys n e of_ys each
    ∙ sym (fill_by_all (λ k. f (get_or xs k d)) (map f xs) n e (length-map xs f ∙ of_xs) (λ k h. get_or-map_within f xs k d e (omega arith)))

pub wants-all : (sessions : List Session) (clients : List Client) → length sessions ≡ 64 → length clients ≡ 64
    → ((k : ℕ) → k < 64 → client_at clients k ≡ wants_of (session_at sessions k)) → clients ≡ map wants_of sessions
wants-all sessions clients of_sessions of_clients each = mapped wants_of sessions clients 64 _ _ of_sessions of_clients each

pub held-all : (sessions : List Session) (held : List ℕ) → length sessions ≡ 64 → length held ≡ 64
    → ((k : ℕ) → k < 64 → get_or held k 0 ≡ held_in (session_at sessions k)) → held ≡ map held_in sessions
held-all sessions held of_sessions of_held each = mapped held_in sessions held 64 _ _ of_sessions of_held each

-- a client that has less than it is allowed is short
IsShort-fewer : (sessions : List Session) (allowed : List ℕ) (client : ℕ) → length allowed ≡ length sessions
    → HasFewer sessions allowed client → (client < length sessions) × IsShort (map wants_of sessions) allowed (map held_in sessions) client
IsShort-fewer sessions allowed client sized fewer =
    elim (cases_lt client (length sessions)) [
      | inl within ↦ (within, ((let l = length-map sessions wants_of in omega arith), (let e = held-wants sessions client in omega arith)))
      | inr past ↦ absurd (let none : target_at allowed client ≡ 0 = get_or_past allowed client 0 (omega arith) in omega arith)
    ]

-- if nobody is short, all cores that are allowed are given
pub AllGiven-none : (sessions : List Session) (allowed : List ℕ) (cores : ℕ) → length allowed ≡ length sessions
    → ((client : ℕ) → client < length sessions → IsShort (map wants_of sessions) allowed (map held_in sessions) client → ⊥)
    → AllGiven sessions allowed cores
AllGiven-none sessions allowed cores sized none within client core fewer below =
    let short = IsShort-fewer sessions allowed client sized fewer in
    absurd (none client short.0 short.1)

count-no_ready : (threads : List ClientThread) → ((k : ℕ) → k < length threads → is_ready (slice_thread threads k) ≡ false)
    → count_by is_usable threads ≡ count_by has_core threads
count-no_ready [] none = refl
count-no_ready (thread ∷ threads) none =
    let one : Bool → ℕ = λ b. cond b 1 0 in
    let rest : count_by is_usable threads ≡ count_by has_core threads = count-no_ready threads (λ k h. none (suc k) (omega arith)) in
    let first : is_ready thread ≡ false = none zero (omega arith) in
    let here : one (is_usable thread) ≡ one (has_core thread) = ap one (usable-no_ready thread first) in
    let e = sum_by-cons (λ (t : ClientThread). cond (is_usable t) 1 0) thread threads in
    let f = sum_by-cons (λ (t : ClientThread). cond (has_core t) 1 0) thread threads in
    omega arith
  where
    usable-no_ready : (t : ClientThread) → is_ready t ≡ false → is_usable t ≡ has_core t
    usable-no_ready Absent none = refl
    usable-no_ready Runs none = refl
    usable-no_ready Waits none = absurd (cc)
    usable-no_ready (On core) none = refl
    usable-no_ready Floats none = absurd (cc)
    usable-no_ready (FloatsOn core) none = refl

count-position : (threads : List ClientThread) → position is_ready threads ≡ None → count_by is_usable threads ≡ count_by has_core threads
count-position threads none =
    elim (cases_lt (position_or_len is_ready threads) (length threads)) [
      | inl found ↦ absurd (
          let is : position is_ready threads ≡ Some (position_or_len is_ready threads) = ap (λ (b : Bool). let o : Option ℕ = cond b (Some (position_or_len is_ready threads)) None in o) (lt-ltb _ _ found) in
          let both : None ≡ Some (position_or_len is_ready threads) = sym none ∙ is in cc)
      | inr past ↦ count-no_ready threads (λ k h. fails_before_first is_ready threads k Absent (omega arith))
    ]

-- a client that is allowed no more than it has threads for, and has less, has a thread that can take a core
pub AllGiven-ready : (sessions : List Session) (allowed : List ℕ) (cores client : ℕ)
    → IsHighestShort (map wants_of sessions) allowed (map held_in sessions) 64 client
    → position is_ready (session_at sessions client).threads ≡ None → AllGiven sessions allowed cores
AllGiven-ready sessions allowed cores client short none within =
    let less : get_or (map held_in sessions) client 0 < target_at allowed client = short.short.1 in
    let e = held-wants sessions client in
    let few : target_at allowed client ≤ count_by is_usable (session_at sessions client).threads = within client in
    let same = count-position (session_at sessions client).threads none in
    absurd (omega arith)

waits-is : (thread : ClientThread) → is_waiting thread ≡ true → thread ≡ Waits
waits-is Absent is = absurd (cc)
waits-is Runs is = absurd (cc)
waits-is Waits is = refl
waits-is (On core) is = absurd (cc)
waits-is Floats is = absurd (cc)
waits-is (FloatsOn core) is = absurd (cc)

waits-not : (thread : ClientThread) → is_waiting thread ≡ false → thread ≢ Waits
waits-not thread idle same = false≢true (sym idle ∙ ap is_waiting same)

pub core-placed : (thread : ClientThread) (core other : ℕ) → core_of (placed thread core) ≡ Some other → core ≡ other
core-placed Absent core other is = cc
core-placed Runs core other is = cc
core-placed Waits core other is = cc
core-placed (On k) core other is = cc
core-placed Floats core other is = cc
core-placed (FloatsOn k) core other is = cc

pub IsGrant-give : (sessions new : List Session) (allowed : List ℕ) (cores client place core : ℕ) (thread : ClientThread) (waited : Bool)
    → length allowed ≡ length sessions → length sessions ≡ 64
    → IsHighestShort (map wants_of sessions) allowed (map held_in sessions) 64 client
    → (core < cores) × IsFree sessions core
    → position is_ready (session_at sessions client).threads ≡ Some place
    → new ≡ with_thread sessions client place thread → thread ≡ placed (thread_at sessions client place) core
    → waited ≡ is_waiting (thread_at sessions client place)
    → IsGrant sessions new allowed cores (record { client = client; place = place; core = core; waited = waited })
IsGrant-give sessions new allowed cores client place core thread waited sized all short free found is same waits = record {
  fewer = (let less = short.short.1 in let e = held-wants sessions client in omega arith);
  free = free.1;
  core = free.0;
  ready = (position-Some is_ready (session_at sessions client).threads place Absent found).1;
  place = found;
  waited = λ yes. waits-is (thread_at sessions client place) (sym waits ∙ yes);
  unasked = λ idle. waits-not (thread_at sessions client place) (sym waits ∙ idle);
  first = λ other fewer higher.
      let is_short = IsShort-fewer sessions allowed other sized fewer in
      short.highest other (let w = is_short.0 in omega arith) is_short.1
      (let e = ap (λ (c : Client). c.priority) (client_at-wants sessions other) in let f = ap (λ (c : Client). c.priority) (client_at-wants sessions client) in omega arith);
  placed = is ∙ ap (λ (t : ClientThread). with_thread sessions client place t) same;
}
