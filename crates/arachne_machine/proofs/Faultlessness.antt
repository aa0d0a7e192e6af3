-- A thread without fault stays without fault.
use Rattle.std.proofs.Common.{◌≡◌, ◌≤◌, ◌<◌, ℕ, ◌+◌, Bool, true, false, List, [], ◌∷◌, ◌++◌, length, Option, None, Some, Ok, Err, refl, ap, sym, subst, arith, rules, length-append, nat_lt, if◌then◌else◌}
use Rattle.std.proofs.lemmas.List.{nil_from_length}
use Rattle.arachne_program.specs.{Tree.Source, Program.source_of, Nesting.nesting}
use Rattle.arachne_program.specs.Checked.{NodeFault, node_faults, unless, or_else, first_fault, is_within_limits, IsChecked}
use Rattle.arachne_program.specs.declared.check_fault.CheckFault.TheVariants as fault
use Rattle.arachne_machine.specs.declared.frame.{Frame.{Frame, TheVariants.Release}, Control.Control}
use Rattle.arachne_machine.specs.declared.frame.Control.TheVariants.{Forked, Halved, Awaits, AwaitsHalf, Asks, Frees, Tallies}
use Rattle.arachne_machine.specs.{Strands.Strand, Ending.{releases, lock_of, lock_freed}, Steps.{pending_of, suspended}}
use Rattle.arachne_machine.specs.Faultless.{NoFaults, IsFaultless, IsFaultlessFrame, IsFaultlessNext, held_over, held_by, AreFaultless, GoesWithoutFault, IsWithoutFault, NamesWhatIsThere, PausesWithin}

pub no_faults-append : (xs ys : List (Option NodeFault)) → NoFaults (xs ++ ys) → NoFaults xs × NoFaults ys
no_faults-append [] ys h = (tt, h)
no_faults-append (x ∷ xs) ys (one, more) = let both = no_faults-append xs ys more in ((one, both.0), both.1)

none_first : (n : ℕ) (nodes : List (Option NodeFault)) → first_fault n nodes ≡ Ok tt → NoFaults nodes
none_first n [] h = tt
none_first n (None ∷ nodes) h = (refl, none_first (n + 1) nodes h)
none_first n (Some f ∷ nodes) h = cc

none_judged : (source : Source) (deep within : Bool) →
    (if deep then Err fault.Nesting else if within then first_fault 0 (node_faults source false 0 source.root) else Err fault.OverLimit) ≡ Ok tt →
    NoFaults (node_faults source false 0 source.root)
none_judged source true within h = cc
none_judged source false true h = none_first 0 (node_faults source false 0 source.root) h
none_judged source false false h = cc

-- the expression of a checked program has no fault
pub checked_root : (source : Source) → IsChecked source → IsFaultless source false source.root
checked_root source h = (0, none_judged source (nat_lt 64 (nesting source.root)) (is_within_limits source) h)

-- the test is true if it gives no fault
pub unless_none : (holds : Bool) (f : NodeFault) → unless holds f ≡ None → holds ≡ true
unless_none true f h = refl
unless_none false f h = cc

pub within_none : (held : Bool) (f : NodeFault) → (if held then Some f else None) ≡ None → held ≡ false
within_none true f h = cc
within_none false f h = refl

pub or_else_none : (held : Bool) (f : NodeFault) (other : Option NodeFault) → or_else (if held then Some f else None) other ≡ None → (held ≡ false) × (other ≡ None)
or_else_none true f other h = cc
or_else_none false f other h = (refl, h)

pub less : (x y : ℕ) → nat_lt x y ≡ true → x < y
less x y h = search rules

-- frames
pub held_by-append : (held : Bool) (fs gs : List Frame) → held_by held (fs ++ gs) ≡ held_by (held_by held fs) gs
held_by-append held [] gs = refl
held_by-append held (f ∷ fs) gs = held_by-append (held_over held f) fs gs

pub faultless-append : (source : Source) (held : Bool) (fs gs : List Frame) → AreFaultless source held (fs ++ gs) →
    AreFaultless source held fs × AreFaultless source (held_by held fs) gs
faultless-append source held [] gs h = (tt, h)
faultless-append source held (f ∷ fs) gs (one, more) = let both = faultless-append source (held_over held f) fs gs more in ((one, both.0), both.1)

pub append-faultless : (source : Source) (held : Bool) (fs gs : List Frame) → AreFaultless source held fs → AreFaultless source (held_by held fs) gs →
    AreFaultless source held (fs ++ gs)
append-faultless source held [] gs p q = q
append-faultless source held (f ∷ fs) gs (one, more) q = (one, append-faultless source (held_over held f) fs gs more q)

-- If the newest frames and the next action have no fault, whatever is below them, then the whole thread has none.
pub faultless_above : (source : Source) (fs gs gs' : List Frame) (k k' : Control) →
    ((held : Bool) → GoesWithoutFault source held gs k → GoesWithoutFault source held gs' k') →
    GoesWithoutFault source false (fs ++ gs) k → GoesWithoutFault source false (fs ++ gs') k'
faultless_above source fs gs gs' k k' keeps (frames, next) =
    let both = faultless-append source false fs gs frames in
    let now = keeps (held_by false fs) (both.1, subst (λ held. IsFaultlessNext source held k) (held_by-append false fs gs) next) in (
      append-faultless source false fs gs' both.0 now.0,
      subst (λ held. IsFaultlessNext source held k') (sym (held_by-append false fs gs')) now.1,
    )

-- the number of locks that may still be requested
abbrev room : Bool → ℕ
room true = 0
room false = 1

one_released : (source : Source) (held : Bool) (f : Frame) → IsFaultlessFrame source held f → length (lock_of f) + room (held_over held f) ≡ room held
one_released source held (Release lock) (none, there) = ap room (sym none)
one_released source held _ h = omega arith

pub released : (source : Source) (held : Bool) (fs : List Frame) → AreFaultless source held fs → length (releases fs) + room (held_by held fs) ≡ room held
released source held [] h = omega arith
released source held (f ∷ fs) (one, more) =
    omega (arith, length-append (releases fs) (lock_of f), one_released source held f one, released source (held_over held f) fs more)

no_locks : (l : List ℕ) → length l ≤ 0 → l ≡ []
no_locks l h = nil_from_length l (omega (arith, h))

none_held : (held : Bool) → held ≡ false → room held ≡ 1
none_held held h = ap room h

names : (source : Source) (fs : List Frame) (k : Control) → GoesWithoutFault source false fs k → NamesWhatIsThere source (lock_freed k ++ releases fs) (pending_of k)
names source fs (Forked expr) (frames, next) = no_locks (releases fs) (omega (arith, released source false fs frames, none_held (held_by false fs) next.0))
names source fs (Halved stretch) (frames, next) = no_locks (releases fs) (omega (arith, released source false fs frames, none_held (held_by false fs) next.0))
names source fs (Awaits number during after) (frames, next) = no_locks (releases fs) (omega (arith, released source false fs frames, none_held (held_by false fs) next.0))
names source fs (AwaitsHalf number right reduction) (frames, next) = no_locks (releases fs) (omega (arith, released source false fs frames, none_held (held_by false fs) next))
names source fs (Asks lock body) (frames, next) = next.0
names source fs (Frees lock value) (frames, next) = next.1
names source fs (Tallies ledger amount body) (frames, next) = next.0
names source fs _ (frames, next) = tt

one_lock : (source : Source) (fs : List Frame) (k : Control) → GoesWithoutFault source false fs k → length (lock_freed k ++ releases fs) ≤ 1
one_lock source fs (Frees lock value) (frames, next) = omega (arith, released source false fs frames, none_held (held_by false fs) next.0)
one_lock source fs _ (frames, next) = omega (arith, released source false fs frames)

pub pauses_within : (t : Strand) → IsWithoutFault t → PausesWithin (suspended t)
pauses_within t h = record {
  names = names (source_of t.program.now) t.frames t.control h;
  one_lock = one_lock (source_of t.program.now) t.frames t.control h;
}
