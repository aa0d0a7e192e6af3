-- Histories that extend others, and the places of their events.
use Rattle.std.proofs.Common.{◌≡◌, ℕ, zero, suc, ◌+◌, List, [], ◌∷◌, ◌++◌, drop, length, refl, sym, ap, ◌∙◌, subst, arith, append_assoc, length-append, Some, slice_get, All, ◌==◌, if◌then◌else◌, append-nil, drop_at}
use Rattle.std.proofs.lemmas.{Bool.Decides.nat_tests, List.Elements.{All-nil, All-cons, All-weaker}}
use Rattle.std.proofs.lemmas.{List.Sums.{sum_by-cons, sum_by-append}, Option.none-some}
use Rattle.arachne_sleep.specs.declared.{event.LockEvent.LockEvent, answer.Pass.Pass, view.PlacedEvent.PlacedEvent}
use Rattle.arachne_sleep.specs.Histories.{BeginsWith, placed, since, StandsIn, times_at, once_below, IsGrantedIn}

pub begins-refl : (h : List LockEvent) → BeginsWith h h
begins-refl h = ([], sym (append-nil h))

pub begins-trans : (a b c : List LockEvent) → BeginsWith c b → BeginsWith b a → BeginsWith c a
begins-trans a b c cb ba = (ba.0 ++ cb.0, cb.1 ∙ ap (λ (x : List LockEvent). x ++ cb.0) ba.1 ∙ append_assoc a ba.0 cb.0)

get-append : {X : Type 0} (xs ys : List X) (k : ℕ) (x : X) → slice_get xs k ≡ Some x → slice_get (xs ++ ys) k ≡ Some x
get-append [] ys k x there = absurd (none-some x there)
get-append (z ∷ xs) ys zero x there = there
get-append (z ∷ xs) ys (suc k) x there = get-append xs ys k x there

pub get-begins : (h s : List LockEvent) → BeginsWith h s → (k : ℕ) (e : LockEvent) → slice_get s k ≡ Some e → slice_get h k ≡ Some e
get-begins h s b k e there = ap (λ (x : List LockEvent). slice_get x k) b.1 ∙ get-append s b.0 k e there

get-here : (pre : List LockEvent) (e : LockEvent) (events : List LockEvent) → slice_get (pre ++ e ∷ events) (length pre) ≡ Some e
get-here [] e events = refl
get-here (x ∷ pre) e events = get-here pre e events

-- an event of a history is in each history that extends it
pub begins-more : (h g : List LockEvent) → BeginsWith g h → (seen : List (List LockEvent)) → All (BeginsWith h) seen → All (BeginsWith g) seen
begins-more h g more seen all = All-weaker (BeginsWith h) (BeginsWith g) (λ s b. begins-trans s h g more b) seen all

pub stands-more : (h g : List LockEvent) → BeginsWith g h → (made : List PlacedEvent) → All (StandsIn h) made → All (StandsIn g) made
stands-more h g more made all = All-weaker (StandsIn h) (StandsIn g) (λ m there. get-begins g h more m.at m.event there) made all

pub granted-more : (number : ℕ) (h g : List LockEvent) → BeginsWith g h → (passes : List Pass) → All (IsGrantedIn number h) passes → All (IsGrantedIn number g) passes
granted-more number h g more passes all = All-weaker (IsGrantedIn number h) (IsGrantedIn number g) (λ p there. (there.0, get-begins g h more p.at _ there.1)) passes all

-- the events that are added are at their places
stands-placed : (pre events : List LockEvent) (n : ℕ) → n ≡ length pre → All (StandsIn (pre ++ events)) (placed n events)
stands-placed pre [] n at = All-nil (StandsIn (pre ++ []))
stands-placed pre (e ∷ events) n at =
    All-cons (StandsIn (pre ++ e ∷ events)) (record { at = n; event = e }) (placed (n + 1) events)
    (ap (λ (k : ℕ). slice_get (pre ++ e ∷ events) k) at ∙ get-here pre e events)
    (subst (λ (h : List LockEvent). All (StandsIn h) (placed (n + 1) events)) (append_assoc pre (e ∷ []) events)
    (stands-placed (pre ++ e ∷ []) events (n + 1) (omega (arith, at, length-append pre (e ∷ [])))))

once-step : (k n : ℕ) → (if n == k then 1 else 0) + once_below k n ≡ once_below k (n + 1)
once-step k n = grind (arith, nat_tests)

times-placed : (k n : ℕ) (events : List LockEvent) → times_at k (placed n events) + once_below k n ≡ once_below k (n + length events)
times-placed k n [] = let end : once_below k n ≡ once_below k (n + length {A = LockEvent} []) = ap (once_below k) (omega arith) in omega (arith, end)
times-placed k n (e ∷ events) =
    let m : PlacedEvent = record { at = n; event = e } in
    let one = once-step k n in
    let more = times-placed k (n + 1) events in
    let head = sum_by-cons (λ (x : PlacedEvent). if x.at == k then 1 else 0) m (placed (n + 1) events) in
    let end : once_below k (n + 1 + length events) ≡ once_below k (n + length (e ∷ events)) = ap (once_below k) (omega arith) in
    omega (arith, one, more, head, end)

pub since-is : (h g : List LockEvent) (more : BeginsWith g h) → since h g ≡ placed (length h) more.0
since-is h g more = ap (λ (x : List LockEvent). placed (length h) x) (ap (λ (x : List LockEvent). drop (length h) x) more.1 ∙ drop_at h more.0 (length h) refl)

pub stands-since : (h g : List LockEvent) → BeginsWith g h → All (StandsIn g) (since h g)
stands-since h g more =
    subst (λ (ms : List PlacedEvent). All (StandsIn g) ms) (sym (since-is h g more))
    (subst (λ (x : List LockEvent). All (StandsIn x) (placed (length h) more.0)) (sym more.1) (stands-placed h more.0 (length h) refl))

pub times-since : (k : ℕ) (h g : List LockEvent) → BeginsWith g h → times_at k (since h g) + once_below k (length h) ≡ once_below k (length g)
times-since k h g more =
    let same = ap (times_at k) (since-is h g more) in
    let long : length g ≡ length h + length more.0 = ap length more.1 ∙ length-append h more.0 in
    let end = ap (once_below k) (sym long) in
    omega (arith, same, times-placed k (length h) more.0, end)

pub times-append : (k : ℕ) (a b : List PlacedEvent) → times_at k (a ++ b) ≡ times_at k a + times_at k b
times-append k a b = sum_by-append (λ (x : PlacedEvent). if x.at == k then 1 else 0) a b
