-- Histories that extend others, and the places of their events.
use Rattle.std.proofs.Common.{◌≡◌, ◌≢◌, ℕ, zero, suc, ◌+◌, Bool, true, false, List, [], ◌∷◌, ◌++◌, length, refl, sym, ap, ◌∙◌, arith, append_assoc, length-append, Some, eq-eqb, ne_eqb, slice_get, All, ◌==◌, ◌&&◌, if◌then◌else◌, append-nil}
use Rattle.std.proofs.lemmas.{Bool.Decides.nat_tests, List.Elements.{All-nil, All-cons, All-weaker}}
use Rattle.std.proofs.lemmas.{List.Sums.{sum_by-cons, sum_by-append}, Option.none-some}
use Rattle.arachne_lock.specs.declared.{event.QueueEvent.QueueEvent, view.LoggedEvent.LoggedEvent, view.Sight.Sight}
use Rattle.arachne_lock.specs.Placed.{BeginsWith, placed, StandsIn, is_at, times_at, once_below}
use Rattle.arachne_lock.specs.Rule.{Histories, IsSeenIn}

pub begins-refl : (h : List QueueEvent) → BeginsWith h h
begins-refl h = ([], sym (append-nil h))

begins-trans : (a b c : List QueueEvent) → BeginsWith c b → BeginsWith b a → BeginsWith c a
begins-trans a b c cb ba = (ba.0 ++ cb.0, cb.1 ∙ ap (λ (x : List QueueEvent). x ++ cb.0) ba.1 ∙ append_assoc a ba.0 cb.0)

get-append : {X : Type 0} (xs ys : List X) (k : ℕ) (x : X) → slice_get xs k ≡ Some x → slice_get (xs ++ ys) k ≡ Some x
get-append [] ys k x there = absurd (none-some x there)
get-append (z ∷ xs) ys zero x there = there
get-append (z ∷ xs) ys (suc k) x there = get-append xs ys k x there

get-begins : (h s : List QueueEvent) → BeginsWith h s → (k : ℕ) (e : QueueEvent) → slice_get s k ≡ Some e → slice_get h k ≡ Some e
get-begins h s b k e there = ap (λ (x : List QueueEvent). slice_get x k) b.1 ∙ get-append s b.0 k e there

get-here : (pre : List QueueEvent) (e : QueueEvent) (events : List QueueEvent) → slice_get (pre ++ e ∷ events) (length pre) ≡ Some e
get-here [] e events = refl
get-here (x ∷ pre) e events = get-here pre e events

-- each history begins with what it was before
abbrev pub GoOn : Histories → Histories → Type 0
GoOn before now = (lock : ℕ) → BeginsWith (now lock) (before lock)

pub seen-more : (before now : Histories) → GoOn before now → (seen : List Sight) → All (IsSeenIn before) seen → All (IsSeenIn now) seen
seen-more before now more seen all =
    All-weaker (IsSeenIn before) (IsSeenIn now) (λ s b. begins-trans s.history (before s.lock) (now s.lock) (more s.lock) b) seen all

pub made-more : (before now : Histories) → GoOn before now → (made : List LoggedEvent) → All (StandsIn before) made → All (StandsIn now) made
made-more before now more made all =
    All-weaker (StandsIn before) (StandsIn now) (λ m there. get-begins (now m.lock) (before m.lock) (more m.lock) m.at m.event there) made all

-- the events that are added are at their places
pub stands-placed : (histories : Histories) (lock : ℕ) (pre events : List QueueEvent) (n : ℕ) → histories lock ≡ pre ++ events → n ≡ length pre
    → All (StandsIn histories) (placed lock n events)
stands-placed histories lock pre [] n is at = All-nil (StandsIn histories)
stands-placed histories lock pre (e ∷ events) n is at =
    All-cons (StandsIn histories) (record { lock = lock; at = n; event = e }) (placed lock (n + 1) events)
    (ap (λ (h : List QueueEvent). slice_get h n) is ∙ ap (λ (k : ℕ). slice_get (pre ++ e ∷ events) k) at ∙ get-here pre e events)
    (stands-placed histories lock (pre ++ e ∷ []) events (n + 1) (is ∙ sym (append_assoc pre (e ∷ []) events)) (omega (arith, at, length-append pre (e ∷ []))))

-- the number of them that are at a place of their lock, and of another
once-step : (k n : ℕ) → (if n == k then 1 else 0) + once_below k n ≡ once_below k (n + 1)
once-step k n = grind (arith, nat_tests)

if-and : (b c : Bool) → b ≡ true → ◌≡◌ {A = ℕ} (if b && c then 1 else 0) (if c then 1 else 0)
if-and true c e = refl
if-and false c e = cc

if-not : (b c : Bool) → b ≡ false → ◌≡◌ {A = ℕ} (if b && c then 1 else 0) 0
if-not true c e = cc
if-not false c e = refl

pub times-placed : (lock k n : ℕ) (events : List QueueEvent) → times_at lock k (placed lock n events) + once_below k n ≡ once_below k (n + length events)
times-placed lock k n [] = let end : once_below k n ≡ once_below k (n + length {A = QueueEvent} []) = ap (once_below k) (omega arith) in omega (arith, end)
times-placed lock k n (e ∷ events) =
    let m : LoggedEvent = record { lock = lock; at = n; event = e } in
    let here = if-and (lock == lock) (n == k) (eq-eqb lock lock refl) in
    let one = once-step k n in
    let more = times-placed lock k (n + 1) events in
    let head = sum_by-cons (is_at lock k) m (placed lock (n + 1) events) in
    let end : once_below k (n + 1 + length events) ≡ once_below k (n + length (e ∷ events)) = ap (once_below k) (omega arith) in
    omega (arith, here, one, more, head, end)

pub times-elsewhere : (other lock k n : ℕ) (events : List QueueEvent) → lock ≢ other → times_at other k (placed lock n events) ≡ 0
times-elsewhere other lock k n [] apart = refl
times-elsewhere other lock k n (e ∷ events) apart =
    let m : LoggedEvent = record { lock = lock; at = n; event = e } in
    let not_here = if-not (lock == other) (n == k) (ne_eqb lock other apart) in
    let more = times-elsewhere other lock k (n + 1) events apart in
    let head = sum_by-cons (is_at other k) m (placed lock (n + 1) events) in
    omega (arith, not_here, more, head)

pub times-append : (lock k : ℕ) (a b : List LoggedEvent) → times_at lock k (a ++ b) ≡ times_at lock k a + times_at lock k b
times-append lock k a b = sum_by-append (is_at lock k) a b
