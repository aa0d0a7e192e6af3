-- A core has one thread, whatever a step changes.
use Rattle.std.proofs.Common.{◌≡◌, ◌≢◌, ◌⊎◌, ℕ, ◌<◌, ◌≤◌, Some, None, List, [], length, set, replicate, ap, sym, ◌∙◌, subst, inl, inr, arith}
use Rattle.std.proofs.lemmas.Bool.{cases_eq, cases_lt}
use Rattle.std.proofs.lemmas.List.{get_or-set_same, get_or-set_other, get_or_past, set_past, get_or-replicate, length-replicate}
use Rattle.arachne_grants.specs.declared.sessions.Session.{Session}
use Rattle.arachne_grants.specs.declared.sessions.ClientThread.{ClientThread}
use Rattle.arachne_grants.specs.declared.sessions.ClientThread.TheVariants.{Absent}
use Rattle.arachne_grants.specs.Sessions.{core_of, core_at, session_at, slice_thread, thread_at, with_thread, AreBelow, IsSound, IsFree}

pub session_at-same : (sessions : List Session) (client : ℕ) (session : Session) → client < length sessions
    → session_at (set sessions client session) client ≡ session
session_at-same sessions client session h = get_or-set_same sessions client session _ h

pub session_at-other : (sessions : List Session) (client other : ℕ) (session : Session) → other ≢ client
    → session_at (set sessions client session) other ≡ session_at sessions other
session_at-other sessions client other session ne = get_or-set_other sessions client other session _ ne

-- each core's thread had it before, or it is a new one's
IsSound-back : (old new : List Session) (client place : ℕ) → IsSound old
    → ((c p core : ℕ) → core_at new c p ≡ Some core → (core_at old c p ≡ Some core) ⊎ ((c ≡ client) × (p ≡ place) × IsFree old core))
    → IsSound new
IsSound-back old new client place sound back c p d q core first second =
    elim (back c p core first) [
      | inl had ↦ elim (back d q core second) [
        | inl has ↦ sound c p d q core had has
        | inr is ↦ absurd (is.2 c p had)
      ]
      | inr was ↦ elim (back d q core second) [
        | inl has ↦ absurd (was.2 d q has)
        | inr is ↦ (was.0 ∙ sym is.0, was.1 ∙ sym is.1)
      ]
    ]

-- a client's threads have no cores but those that they had at their places
core_at-set : (sessions : List Session) (client : ℕ) (session : Session) → client < length sessions
    → ((place core : ℕ) → core_of (slice_thread session.threads place) ≡ Some core → core_at sessions client place ≡ Some core)
    → (c p core : ℕ) → core_at (set sessions client session) c p ≡ Some core → core_at sessions c p ≡ Some core
core_at-set sessions client session h keeps c p core is =
    elim (cases_eq c client) [
      | inl same ↦
          let here : core_at (set sessions client session) client p ≡ core_of (slice_thread session.threads p) = ap (λ (s : Session). core_of (slice_thread s.threads p)) (session_at-same sessions client session h) in
          subst (λ (n : ℕ). core_at sessions n p ≡ Some core) (sym same)
          (keeps p core (sym here ∙ subst (λ (n : ℕ). core_at (set sessions client session) n p ≡ Some core) same is))
      | inr ne ↦ sym (ap (λ (s : Session). core_of (slice_thread s.threads p)) (session_at-other sessions client c session ne)) ∙ is
    ]

pub IsSound-set : (sessions : List Session) (client : ℕ) (session : Session) → client < length sessions → IsSound sessions
    → ((place core : ℕ) → core_of (slice_thread session.threads place) ≡ Some core → core_at sessions client place ≡ Some core)
    → IsSound (set sessions client session)
IsSound-set sessions client session h sound keeps =
    IsSound-back sessions (set sessions client session) client 0 sound (λ c p core is. inl (core_at-set sessions client session h keeps c p core is))

pub AreBelow-set : (sessions : List Session) (cores client : ℕ) (session : Session) → client < length sessions → AreBelow sessions cores
    → ((place core : ℕ) → core_of (slice_thread session.threads place) ≡ Some core → core_at sessions client place ≡ Some core)
    → AreBelow (set sessions client session) cores
AreBelow-set sessions cores client session h below keeps c p core is = below c p core (core_at-set sessions client session h keeps c p core is)

thread_at-here : (sessions : List Session) (client place : ℕ) (thread : ClientThread) → client < length sessions
    → place < length (session_at sessions client).threads → thread_at (with_thread sessions client place thread) client place ≡ thread
thread_at-here sessions client place thread h within =
    ap (λ (s : Session). slice_thread s.threads place) (session_at-same sessions client _ h)
    ∙ get_or-set_same (session_at sessions client).threads place thread Absent within

thread_at-there : (sessions : List Session) (client place other : ℕ) (thread : ClientThread) → client < length sessions
    → other ≢ place → thread_at (with_thread sessions client place thread) client other ≡ thread_at sessions client other
thread_at-there sessions client place other thread h ne =
    ap (λ (s : Session). slice_thread s.threads other) (session_at-same sessions client _ h)
    ∙ get_or-set_other (session_at sessions client).threads place other thread Absent ne

thread_at-past_threads : (sessions : List Session) (client place : ℕ) (thread : ClientThread) → client < length sessions
    → length (session_at sessions client).threads ≤ place → thread_at (with_thread sessions client place thread) client place ≡ thread_at sessions client place
thread_at-past_threads sessions client place thread h past =
    ap (λ (s : Session). slice_thread s.threads place) (session_at-same sessions client _ h)
    ∙ ap (λ (ts : List ClientThread). slice_thread ts place) (set_past (session_at sessions client).threads place thread past)

-- a core was its thread's before, or it is the one that the thread has now
core_at-with_thread : (sessions : List Session) (client place : ℕ) (thread : ClientThread) → client < length sessions
    → (c p core : ℕ) → core_at (with_thread sessions client place thread) c p ≡ Some core
    → (core_at sessions c p ≡ Some core) ⊎ ((c ≡ client) × (p ≡ place) × (core_of thread ≡ Some core))
core_at-with_thread sessions client place thread h c p core is =
    elim (cases_eq c client) [
      | inl same ↦
          let mine : core_at (with_thread sessions client place thread) client p ≡ Some core = subst (λ (n : ℕ). core_at (with_thread sessions client place thread) n p ≡ Some core) same is in
          elim (cases_eq p place) [
            | inl here ↦
                let has : core_at (with_thread sessions client place thread) client place ≡ Some core = subst (λ (n : ℕ). core_at (with_thread sessions client place thread) client n ≡ Some core) here mine in
                elim (cases_lt place (length (session_at sessions client).threads)) [
                  | inl within ↦ inr (same, here, sym (ap core_of (thread_at-here sessions client place thread h within)) ∙ has)
                  | inr past ↦
                      inl (subst (λ (n : ℕ). core_at sessions n p ≡ Some core) (sym same) (subst (λ (n : ℕ). core_at sessions client n ≡ Some core) (sym here)
                      (sym (ap core_of (thread_at-past_threads sessions client place thread h past)) ∙ has)))
                ]
            | inr there ↦
                inl (subst (λ (n : ℕ). core_at sessions n p ≡ Some core) (sym same)
                (sym (ap core_of (thread_at-there sessions client place p thread h there)) ∙ mine))
          ]
      | inr ne ↦ inl (sym (ap (λ (s : Session). core_of (slice_thread s.threads p)) (session_at-other sessions client c _ ne)) ∙ is)
    ]

-- a thread takes a core that was free, or none
pub IsSound-with_thread : (sessions : List Session) (client place : ℕ) (thread : ClientThread) → client < length sessions
    → IsSound sessions
    → ((core : ℕ) → core_of thread ≡ Some core → IsFree sessions core)
    → IsSound (with_thread sessions client place thread)
IsSound-with_thread sessions client place thread h sound free =
    IsSound-back sessions (with_thread sessions client place thread) client place sound
    (λ c p core is. elim (core_at-with_thread sessions client place thread h c p core is) [
      | inl had ↦ inl had
      | inr has ↦ inr (has.0, has.1, free core has.2)
    ])

pub AreBelow-with_thread : (sessions : List Session) (cores client place : ℕ) (thread : ClientThread) → client < length sessions
    → AreBelow sessions cores
    → ((core : ℕ) → core_of thread ≡ Some core → core < cores)
    → AreBelow (with_thread sessions client place thread) cores
AreBelow-with_thread sessions cores client place thread h below within c p core is =
    elim (core_at-with_thread sessions client place thread h c p core is) [
      | inl had ↦ below c p core had
      | inr has ↦ within core has.2
    ]

-- no thread of a place that is empty has a core
pub none-in : (n place core : ℕ) → core_of (slice_thread (replicate n Absent) place) ≡ Some core → ⊥
none-in n place core is =
    elim (cases_lt place n) [
      | inl within ↦ (let e : core_of (slice_thread (replicate n Absent) place) ≡ None = ap core_of (get_or-replicate n place Absent Absent within) in let both : None ≡ Some core = sym e ∙ is in cc)
      | inr past ↦ (let e : core_of (slice_thread (replicate n Absent) place) ≡ None = ap core_of (get_or_past (replicate n Absent) place Absent (let s = length-replicate {A = ClientThread} n Absent in omega arith)) in let both : None ≡ Some core = sym e ∙ is in cc)
    ]

-- a client past the last has no threads
pub thread_at-past : (sessions : List Session) (client place : ℕ) → length sessions ≤ client → thread_at sessions client place ≡ Absent
thread_at-past sessions client place past =
    ap (λ (s : Session). slice_thread s.threads place) (get_or_past sessions client _ past) ∙ get_or_past [] place Absent (omega arith)

-- no client has a thread with a core
pub none-at : (n m : ℕ) (session : Session) → session.threads ≡ replicate m Absent
    → (client place core : ℕ) → core_at (replicate n session) client place ≡ Some core → ⊥
none-at n m session empty client place core is =
    elim (cases_lt client n) [
      | inl within ↦ (let here : core_at (replicate n session) client place ≡ core_of (slice_thread session.threads place) = ap (λ (s : Session). core_of (slice_thread s.threads place)) (get_or-replicate n client session _ within) in
          none-in m place core (sym (ap (λ (ts : List ClientThread). core_of (slice_thread ts place)) empty) ∙ sym here ∙ is))
      | inr past ↦ (let e : core_at (replicate n session) client place ≡ None = ap core_of (thread_at-past (replicate n session) client place (let s = length-replicate {A = Session} n session in omega arith)) in let both : None ≡ Some core = sym e ∙ is in cc)
    ]
