-- The last thread that has a core.
use Rattle.std.proofs.Common.{◌≡◌, ℕ, zero, suc, ◌+◌, ◌<◌, Bool, true, false, cond, Option, Some, None, is_some, List, [], ◌∷◌, length, refl, ap, ◌∙◌, arith, below_more, count_by}
use Rattle.std.proofs.lemmas.Bool.{false≢true}
use Rattle.std.proofs.lemmas.List.Sums.{sum_by-cons}
use Rattle.arachne_grants.specs.declared.sessions.ClientThread.{ClientThread}
use Rattle.arachne_grants.specs.declared.sessions.ClientThread.TheVariants.{Absent, Runs, Waits, On, Floats, FloatsOn}
use Rattle.arachne_grants.specs.Sessions.{core_of, gives_way, has_core, slice_thread, unplaced, IsLastPlaced}

pub IsLastPlaced-keep : (threads : List ClientThread) (n : ℕ) (last : Option ℕ) → IsLastPlaced threads n last
    → has_core (slice_thread threads n) ≡ false → IsLastPlaced threads (n + 1) last
IsLastPlaced-keep threads n None none here = below_more (λ (k : ℕ). has_core (slice_thread threads k) ≡ false) n none here
IsLastPlaced-keep threads n (Some place) was here = record {
  within = (let w = was.within in omega arith);
  has = was.has;
  later = λ k after below. below_more (λ (j : ℕ). place < j → has_core (slice_thread threads j) ≡ false) n (λ j less later. was.later j later less) (λ later. here) k below after;
}

pub count-none : (threads : List ClientThread) → ((k : ℕ) → k < length threads → has_core (slice_thread threads k) ≡ false) → count_by has_core threads ≡ 0
count-none [] none = refl
count-none (thread ∷ threads) none =
    let one : Bool → ℕ = λ b. cond b 1 0 in
    let rest : count_by has_core threads ≡ 0 = count-none threads (λ k h. none (suc k) (omega arith)) in
    let first : has_core thread ≡ false = none zero (omega arith) in
    let here : one (has_core thread) ≡ 0 = ap one first in
    let e = sum_by-cons (λ (t : ClientThread). cond (has_core t) 1 0) thread threads in
    omega arith

pub core-unplaced : (thread : ClientThread) (core : ℕ) → core_of (unplaced thread) ≡ Some core → ⊥
core-unplaced Absent core is = cc
core-unplaced Runs core is = cc
core-unplaced Waits core is = cc
core-unplaced (On k) core is = cc
core-unplaced Floats core is = cc
core-unplaced (FloatsOn k) core is = cc

pub gives_way-late : (thread : ClientThread) → gives_way thread true ≡ true
gives_way-late Absent = refl
gives_way-late Runs = refl
gives_way-late Waits = refl
gives_way-late (On k) = refl
gives_way-late Floats = refl
gives_way-late (FloatsOn k) = refl

-- a thread that has a core is not without one
pub not-none : (thread : ClientThread) → has_core thread ≡ true → None ≡ core_of thread → ⊥
not-none thread has none = false≢true (ap is_some none ∙ has)
