-- The numbers that clients are allowed stay right if a core is given or taken.
use Rattle.std.proofs.Common.{◌≡◌, ℕ, ◌+◌, ◌<◌, ◌≤◌, Bool, true, false, min, nat_le, cond, is_some, List, [], ◌∷◌, length, map, set, refl, ap, sym, ◌∙◌, subst, inl, inr, arith, count_by}
use Rattle.std.proofs.lemmas.Bool.{cases_eq, cases_lt, false≢true}
use Rattle.std.proofs.lemmas.Grind.{common_steps}
use Rattle.std.proofs.lemmas.List.{get_or_past, length-map, length-set}
use Rattle.std.proofs.lemmas.List.Sums.{sum_by-cons, sum_by-set}
use Rattle.arachne_grants.specs.declared.claims.Client.{Client}
use Rattle.arachne_grants.specs.declared.claims.Claim.{Claim}
use Rattle.arachne_grants.specs.declared.sessions.Session.{Session}
use Rattle.arachne_grants.specs.declared.sessions.ClientThread.{ClientThread}
use Rattle.arachne_grants.specs.declared.sessions.ClientThread.TheVariants.{Absent, Runs, Waits, On, Floats, FloatsOn}
use Rattle.arachne_grants.specs.declared.state.CoreArbiter.{CoreArbiter}
use Rattle.arachne_grants.specs.declared.state.Grant.{Grant}
use Rattle.arachne_grants.specs.declared.state.TakenCore.{TakenCore}
use Rattle.arachne_grants.specs.Claims.{claim_of, goes_before, reserve_of}
use Rattle.arachne_grants.specs.Grants.{claim_at, client_at, target_at, AreGrants, AsksForMore, IsAnswer}
use Rattle.arachne_grants.specs.Sessions.{has_core, held_in, is_ready, is_usable, placed, session_at, slice_thread, thread_at, unplaced, wants_of, with_thread, with_thread_in}
use Rattle.arachne_grants.specs.Steps.{IsGrant, IsTake, KeepsAllowed, StaysAnswered}
use Rattle.arachne_grants.proofs.Giving.{client_at-wants}
use Rattle.arachne_grants.proofs.Sound.{session_at-other, session_at-same, thread_at-past}

-- a client's request and its cores changed only so that its target stays right
pub record IsNear (a b : Client) (t : ℕ) : Type 0 where
  pub priority : b.priority ≡ a.priority
  pub reserved : b.reserved ≡ a.reserved
  pub asks : b.asks ≤ a.asks
  pub enough : t ≤ a.asks → t ≤ b.asks
  pub keeps : a.held ≤ t → b.held ≤ t
  pub back : (n : ℕ) → n + 1 ≡ t → b.held ≤ n → a.held ≤ n

abbrev pub AreNear : List Client → List Client → List ℕ → Type 0
AreNear old new targets = (k : ℕ) → IsNear (client_at old k) (client_at new k) (target_at targets k)

asks-old : (old new : List Client) (targets : List ℕ) (k : ℕ) → length new ≡ length old → AreNear old new targets
    → AsksForMore new targets k → AsksForMore old targets k
asks-old old new targets k sized near asks = (let w = asks.0 in omega arith, let m = asks.1 in let n = (near k).asks in omega arith)

pub AreGrants-near : (old new : List Client) (cores : ℕ) (targets : List ℕ) → length new ≡ length old → AreNear old new targets
    → AreGrants old cores targets → AreGrants new cores targets
AreGrants-near old new cores targets sized near was =
    let within : (k : ℕ) → k < length new → target_at targets k ≤ (client_at new k).asks = λ k h. (near k).enough (was.bounded.each k (omega arith)) in
    record {
      sized = (let s = was.sized in omega arith);
      bounded = record { each = within; together = was.bounded.together };
      used = λ k asks. was.used k (asks-old old new targets k sized near asks);
      reserved = record {
        first = λ k j less more. was.reserved.first k j (below k less) (beyond k j within more);
        short = λ k j less h higher. was.reserved.short k j (below k less) (omega arith) (higher-old k j higher);
      };
      priority = λ k j asks higher more. was.priority k j (asks-old old new targets k sized near asks) (higher-old k j higher) (beyond k j within more);
      fair = record {
        beyond = λ k j asks more same. was.fair.beyond k j (asks-old old new targets k sized near asks) (beyond k j within more) (sym (near k).priority ∙ same ∙ (near j).priority);
        below = λ k j less h same. was.fair.below k j (below k less) (omega arith) (sym (near k).priority ∙ same ∙ (near j).priority);
      };
    }
  where
    below : (k : ℕ) → (k < length new) × (target_at targets k < reserve_of (client_at new k)) → (k < length old) × (target_at targets k < reserve_of (client_at old k))
    below k less = (let w = less.0 in omega arith, let l = less.1 in let r = (near k).reserved in let a = (near k).asks in omega arith)

    beyond : (i k : ℕ) → ((j : ℕ) → j < length new → target_at targets j ≤ (client_at new j).asks) → (k < length new) × (reserve_of (client_at new k) < target_at targets k)
        → (k < length old) × (reserve_of (client_at old k) < target_at targets k)
    beyond i k within more = (let w = more.0 in omega arith, let l = more.1 in let r = (near k).reserved in let e = within k more.0 in omega arith)

    higher-old : (k j : ℕ) → (client_at new k).priority < (client_at new j).priority → (client_at old k).priority < (client_at old j).priority
    higher-old k j higher = (let p = (near k).priority in let q = (near j).priority in omega arith)

-- two claims are the same but for whether they move a core
pub record IsAlike (x x' : Claim) : Type 0 where
  pub beyond : x'.beyond ≡ x.beyond
  pub priority : x'.priority ≡ x.priority
  pub gets : x'.gets ≡ x.gets

order-near : (x y x' y' : Claim) → IsAlike x x' → IsAlike y y' → (x.moves ≡ true → x'.moves ≡ true) → (y'.moves ≡ true → y.moves ≡ true)
    → goes_before x y ≡ false → goes_before x' y' ≡ false
order-near x y x' y' like other later earlier was = grind (arith, common_steps, like.beyond, like.priority, like.gets, other.beyond, other.priority, other.gets, later, earlier, was)

turn-near : (x y x' y' : Claim) → IsAlike x x' → IsAlike y y' → (x.moves ≡ true → x'.moves ≡ true) → (y'.moves ≡ true → y.moves ≡ true)
    → goes_before y x ≡ true → goes_before y' x' ≡ true
turn-near x y x' y' like other later earlier was = grind (arith, common_steps, like.beyond, like.priority, like.gets, other.beyond, other.priority, other.gets, later, earlier, was)

beyond-same : (r a b n : ℕ) → n < a → n < b → nat_le (min r b) n ≡ nat_le (min r a) n
beyond-same r a b n less fewer = grind (arith, common_steps, less, fewer)

claim-alike : (a b : Client) (t n : ℕ) → IsNear a b t → n < a.asks → n < b.asks → IsAlike (claim_of a n) (claim_of b n)
claim-alike a b t n near less fewer = record {
  beyond = ap (λ (r : ℕ). nat_le (min r b.asks) n) near.reserved ∙ beyond-same a.reserved a.asks b.asks n less fewer;
  priority = near.priority;
  gets = refl;
}

nat_le-from : (h h' n : ℕ) → (h ≤ n → h' ≤ n) → nat_le h n ≡ true → nat_le h' n ≡ true
nat_le-from h h' n from is = grind (arith, common_steps, from, is)

pub IsAnswer-near : (old new : List Client) (cores : ℕ) (targets : List ℕ) → length new ≡ length old → AreNear old new targets
    → IsAnswer old cores targets → IsAnswer new cores targets
IsAnswer-near old new cores targets sized near was = record {
  sized = (let s = was.sized in omega arith);
  bounded = record { each = within; together = was.bounded.together };
  used = λ k asks. was.used k (asks-old old new targets k sized near asks);
  order = λ k j n asks h is.
      order-near (claim_at old targets k) (claim_of (client_at old j) n) (claim_at new targets k) (claim_of (client_at new j) n)
      (asker k asks) (last j n h is) (later k) (earlier j n is)
      (was.order k j n (asks-old old new targets k sized near asks) (omega arith) is);
  turn = λ k j n asks before h is.
      turn-near (claim_at old targets k) (claim_of (client_at old j) n) (claim_at new targets k) (claim_of (client_at new j) n)
      (asker k asks) (last j n h is) (later k) (earlier j n is)
      (was.turn k j n (asks-old old new targets k sized near asks) before (omega arith) is);
}
  where
    within : (k : ℕ) → k < length new → target_at targets k ≤ (client_at new k).asks
    within k h = (near k).enough (was.bounded.each k (omega arith))

    asker : (k : ℕ) → AsksForMore new targets k → IsAlike (claim_at old targets k) (claim_at new targets k)
    asker k asks = claim-alike (client_at old k) (client_at new k) (target_at targets k) (target_at targets k) (near k) (asks-old old new targets k sized near asks).1 asks.1

    last : (j n : ℕ) → j < length new → target_at targets j ≡ n + 1 → IsAlike (claim_of (client_at old j) n) (claim_of (client_at new j) n)
    last j n h is =
        let w = within j h in
        let a = (near j).asks in
        claim-alike (client_at old j) (client_at new j) (target_at targets j) n (near j) (omega arith) (omega arith)

    later : (k : ℕ) → (claim_at old targets k).moves ≡ true → (claim_at new targets k).moves ≡ true
    later k = nat_le-from (client_at old k).held (client_at new k).held (target_at targets k) (near k).keeps

    earlier : (j n : ℕ) → target_at targets j ≡ n + 1 → (claim_of (client_at new j) n).moves ≡ true → (claim_of (client_at old j) n).moves ≡ true
    earlier j n is = nat_le-from (client_at new j).held (client_at old j).held n ((near j).back n (sym is))

-- a place of which something is said that isn't so of an empty one is within the lists
thread-within : (p : ClientThread → Bool) (sessions : List Session) (client place : ℕ) → p Absent ≡ false → p (thread_at sessions client place) ≡ true
    → (client < length sessions) × (place < length (session_at sessions client).threads)
thread-within p sessions client place none is = (
  elim (cases_lt client (length sessions)) [
    | inl within ↦ within
    | inr past ↦ absurd (false≢true (sym none ∙ sym (ap p (thread_at-past sessions client place past)) ∙ is))
  ],
  elim (cases_lt place (length (session_at sessions client).threads)) [
    | inl within ↦ within
    | inr past ↦ absurd (false≢true (sym none ∙ sym (ap p (get_or_past (session_at sessions client).threads place Absent past)) ∙ is))
  ],
)

abbrev one : Bool → ℕ
one b = cond b 1 0

count-set : (p : ClientThread → Bool) (threads : List ClientThread) (place : ℕ) (thread : ClientThread) → place < length threads
    → count_by p (set threads place thread) + one (p (slice_thread threads place)) ≡ count_by p threads + one (p thread)
count-set p threads place thread h = sum_by-set (λ (t : ClientThread). cond (p t) 1 0) threads place thread Absent h

count-usable : (threads : List ClientThread) → count_by has_core threads ≤ count_by is_usable threads
count-usable [] = omega arith
count-usable (thread ∷ threads) =
    let rest = count-usable threads in
    let here : one (has_core thread) ≤ one (is_usable thread) = usable thread in
    let e = sum_by-cons (λ (t : ClientThread). cond (is_usable t) 1 0) thread threads in
    let f = sum_by-cons (λ (t : ClientThread). cond (has_core t) 1 0) thread threads in
    omega arith
  where
    usable : (t : ClientThread) → one (has_core t) ≤ one (is_usable t)
    usable Absent = omega arith
    usable Runs = omega arith
    usable Waits = omega arith
    usable (On core) = omega arith
    usable Floats = omega arith
    usable (FloatsOn core) = omega arith

ready-counts : (t : ClientThread) (core : ℕ) → is_ready t ≡ true
    → (one (is_usable t) ≡ 1) × (one (is_usable (placed t core)) ≡ 1) × (one (has_core t) ≡ 0) × (one (has_core (placed t core)) ≡ 1)
ready-counts Absent core is = absurd (cc)
ready-counts Runs core is = absurd (cc)
ready-counts Waits core is = (refl, refl, refl, refl)
ready-counts (On k) core is = absurd (cc)
ready-counts Floats core is = (refl, refl, refl, refl)
ready-counts (FloatsOn k) core is = absurd (cc)

placed-counts : (t : ClientThread) → has_core t ≡ true → (one (is_usable t) ≡ 1) × (one (is_usable (unplaced t)) ≤ 1) × (one (has_core t) ≡ 1) × (one (has_core (unplaced t)) ≡ 0)
placed-counts Absent is = absurd (cc)
placed-counts Runs is = absurd (cc)
placed-counts Waits is = absurd (cc)
placed-counts (On k) is = (refl, omega arith, refl, refl)
placed-counts Floats is = absurd (cc)
placed-counts (FloatsOn k) is = (refl, omega arith, refl, refl)

near-give : (session : Session) (place core t : ℕ) → place < length session.threads → is_ready (slice_thread session.threads place) ≡ true
    → held_in session < t → IsNear (wants_of session) (wants_of (with_thread_in session place (placed (slice_thread session.threads place) core))) t
near-give session place core t h ready fewer =
    let u = count-set is_usable session.threads place (placed (slice_thread session.threads place) core) h in
    let w = count-set has_core session.threads place (placed (slice_thread session.threads place) core) h in
    let f = ready-counts (slice_thread session.threads place) core ready in
    record {
      priority = refl;
      reserved = refl;
      asks = omega (arith, f.0, f.1);
      enough = λ e. omega (arith, f.0, f.1);
      keeps = λ e. omega (arith, f.2, f.3);
      back = λ n is few. omega (arith, f.2, f.3);
    }

near-take : (session : Session) (place t : ℕ) → place < length session.threads → has_core (slice_thread session.threads place) ≡ true
    → t < held_in session → IsNear (wants_of session) (wants_of (with_thread_in session place (unplaced (slice_thread session.threads place)))) t
near-take session place t h has more =
    let u = count-set is_usable session.threads place (unplaced (slice_thread session.threads place)) h in
    let w = count-set has_core session.threads place (unplaced (slice_thread session.threads place)) h in
    let l = count-usable (set session.threads place (unplaced (slice_thread session.threads place))) in
    let f = placed-counts (slice_thread session.threads place) has in
    record {
      priority = refl;
      reserved = refl;
      asks = omega (arith, f.0, f.1);
      enough = λ e. omega (arith, f.2, f.3);
      keeps = λ e. omega (arith, f.2, f.3);
      back = λ n is few. omega (arith, f.2, f.3);
    }

AreNear-with_thread : (sessions : List Session) (client place : ℕ) (thread : ClientThread) (targets : List ℕ) → client < length sessions
    → IsNear (wants_of (session_at sessions client)) (wants_of (with_thread_in (session_at sessions client) place thread)) (target_at targets client)
    → AreNear (map wants_of sessions) (map wants_of (with_thread sessions client place thread)) targets
AreNear-with_thread sessions client place thread targets h near k =
    let new = with_thread sessions client place thread in
    elim (cases_eq k client) [
      | inl same ↦
          subst (λ (n : ℕ). IsNear (client_at (map wants_of sessions) n) (client_at (map wants_of new) n) (target_at targets n)) (sym same)
          (subst (λ (a : Client). IsNear a (client_at (map wants_of new) client) (target_at targets client)) (sym (client_at-wants sessions client))
          (subst (λ (b : Client). IsNear (wants_of (session_at sessions client)) b (target_at targets client)) (sym (client_at-wants new client ∙ ap wants_of (session_at-same sessions client _ h))) near))
      | inr ne ↦
          subst (λ (b : Client). IsNear (client_at (map wants_of sessions) k) b (target_at targets k)) (sym (client_at-wants new k ∙ ap wants_of (session_at-other sessions client k _ ne) ∙ sym (client_at-wants sessions k)))
          (record { priority = refl; reserved = refl; asks = omega arith; enough = λ e. e; keeps = λ e. e; back = λ n is few. few })
    ]

stay-near : (old new : CoreArbiter) (client place : ℕ) (thread : ClientThread) → client < length old.sessions
    → IsNear (wants_of (session_at old.sessions client)) (wants_of (with_thread_in (session_at old.sessions client) place thread)) (target_at old.allowed client)
    → new.sessions ≡ with_thread old.sessions client place thread → KeepsAllowed old new → StaysAnswered old new
stay-near old new client place thread h near is kept =
    let after = with_thread old.sessions client place thread in
    let all = AreNear-with_thread old.sessions client place thread old.allowed h near in
    let sized : length (map wants_of after) ≡ length (map wants_of old.sessions) = length-map after wants_of ∙ length-set old.sessions client _ ∙ sym (length-map old.sessions wants_of) in
    rw (is, kept.0, kept.1) (AreGrants-near (map wants_of old.sessions) (map wants_of after) old.cores old.allowed sized all, IsAnswer-near (map wants_of old.sessions) (map wants_of after) old.cores old.allowed sized all)

pub stay-give : (old new : CoreArbiter) (grant : Grant) → IsGrant old.sessions new.sessions old.allowed old.cores grant → KeepsAllowed old new → StaysAnswered old new
stay-give old new grant is kept =
    let within = thread-within is_ready old.sessions grant.client grant.place refl is.ready in
    stay-near old new grant.client grant.place _ within.0
    (near-give (session_at old.sessions grant.client) grant.place grant.core (target_at old.allowed grant.client) within.1 is.ready is.fewer) is.placed kept

pub stay-take : (old new : CoreArbiter) (client : ℕ) (late : Bool) (taken : TakenCore) → IsTake old.sessions new.sessions old.allowed client late taken
    → KeepsAllowed old new → StaysAnswered old new
stay-take old new client late taken is kept =
    let has : has_core (thread_at old.sessions client taken.place) ≡ true = ap is_some is.core in
    let within = thread-within has_core old.sessions client taken.place refl has in
    stay-near old new client taken.place _ within.0
    (near-take (session_at old.sessions client) taken.place (target_at old.allowed client) within.1 has is.more) is.unplaced kept
