-- The properties of the threads of a checked program: nothing that they will begin has a fault, and they hold at most
-- one lock.
use Rattle.std.specs.Prelude.{◌≡◌, ◌≤◌, ◌<◌, ℕ, Bool, true, false, List, [], ◌∷◌, length, Option, None, Some}
use Rattle.arachne_program.specs.{Tree.{Tree, Source}, Program.{source_of, tree_of}, Checked.{NodeFault, node_faults}}
use Rattle.arachne_machine.specs.declared.{frame.{Frame.Frame, Control.Control}, pause.Pending.Pending}
use Rattle.arachne_machine.specs.declared.frame.Frame.TheVariants.{Index, Right, Apply, Branch, Extend, Amount, Release, Join, Merge, JoinHere, MergeHere, FoldTo, FoldFirst, FoldStart, FoldTurn, SweepTo, SweepStart, SweepTurn, Restore}
use Rattle.arachne_machine.specs.declared.frame.Control.TheVariants.{Begin, Give, Cover, Forked, Halved, Awaits, AwaitsHalf, Asks, Frees, Tallies, Ended}
use Rattle.arachne_machine.specs.{Strands.Strand, Suspended.Suspended}
use Rattle.arachne_machine.specs.declared.pause.Pending.TheVariants as pause

-- no node of these has a fault
abbrev pub NoFaults : List (Option NodeFault) → Type 0
NoFaults [] = Unit {0}
NoFaults (node ∷ nodes) = (node ≡ None) × NoFaults nodes

-- No node of the expression has a fault, with some number of variables, while a lock is held or none is.
abbrev pub IsFaultless : Source → Bool → Tree → Type 0
IsFaultless source held tree = (bound : ℕ) × NoFaults (node_faults source held bound tree)

-- Nothing that the frame begins has a fault, and it forks or joins only while no lock is held.
abbrev pub IsFaultlessFrame : Source → Bool → Frame → Type 0
IsFaultlessFrame source held (Index a) = Unit {0}
IsFaultlessFrame source held (Right operation right) = IsFaultless source held (tree_of right.now)
IsFaultlessFrame source held (Apply operation left) = Unit {0}
IsFaultlessFrame source held (Branch first second) = IsFaultless source held (tree_of first.now) × IsFaultless source held (tree_of second.now)
IsFaultlessFrame source held (Extend body) = IsFaultless source held (tree_of body.now)
IsFaultlessFrame source held (Amount ledger body) = (ledger < source.ledgers) × IsFaultless source held (tree_of body.now)
IsFaultlessFrame source held (Release lock) = (held ≡ false) × (lock < source.locks)
IsFaultlessFrame source held (Join number next) = (held ≡ false) × IsFaultless source held (tree_of next.now)
IsFaultlessFrame source held (Merge number reduction) = held ≡ false
IsFaultlessFrame source held (JoinHere number child next) =
    (held ≡ false) × IsFaultless source held (tree_of child.now) × IsFaultless source held (tree_of next.now)
IsFaultlessFrame source held (MergeHere number left) = (held ≡ false) × IsFaultless source held (tree_of left.body.now)
IsFaultlessFrame source held (FoldTo to first body) =
    IsFaultless source held (tree_of to.now) × IsFaultless source held (tree_of first.now) × IsFaultless source held (tree_of body.now)
IsFaultlessFrame source held (FoldFirst from first body) = IsFaultless source held (tree_of first.now) × IsFaultless source held (tree_of body.now)
IsFaultlessFrame source held (FoldStart from to body) = IsFaultless source held (tree_of body.now)
IsFaultlessFrame source held (FoldTurn next end body) = IsFaultless source held (tree_of body.now)
IsFaultlessFrame source held (SweepTo reduction grain to body) =
    (held ≡ false) × IsFaultless source held (tree_of to.now) × IsFaultless source held (tree_of body.now)
IsFaultlessFrame source held (SweepStart reduction grain from body) = (held ≡ false) × IsFaultless source held (tree_of body.now)
IsFaultlessFrame source held (SweepTurn reduction next end so_far body) = IsFaultless source held (tree_of body.now)
IsFaultlessFrame source held (Restore n) = Unit {0}

-- Nothing that the next action begins has a fault.
abbrev pub IsFaultlessNext : Source → Bool → Control → Type 0
IsFaultlessNext source held (Begin expr) = IsFaultless source held (tree_of expr.now)
IsFaultlessNext source held (Give value) = Unit {0}
IsFaultlessNext source held (Cover stretch) = (held ≡ false) × IsFaultless source held (tree_of stretch.body.now)
IsFaultlessNext source held (Forked expr) = (held ≡ false) × IsFaultless source held (tree_of expr.now)
IsFaultlessNext source held (Halved stretch) = (held ≡ false) × IsFaultless source held (tree_of stretch.body.now)
IsFaultlessNext source held (Awaits number during next) = (held ≡ false) × IsFaultless source held (tree_of next.now)
IsFaultlessNext source held (AwaitsHalf number right reduction) = held ≡ false
IsFaultlessNext source held (Asks lock body) = (lock < source.locks) × IsFaultless source held (tree_of body.now)
IsFaultlessNext source held (Frees lock value) = (held ≡ false) × (lock < source.locks)
IsFaultlessNext source held (Tallies ledger amount body) = (ledger < source.ledgers) × IsFaultless source held (tree_of body.now)
IsFaultlessNext source held (Ended value) = Unit {0}

-- a lock is held above this frame; `held` is true if one is held below it
abbrev pub held_over : Bool → Frame → Bool
held_over held (Release lock) = true
held_over held _ = held

abbrev pub held_by : Bool → List Frame → Bool
held_by held [] = held
held_by held (frame ∷ frames) = held_by (held_over held frame) frames

abbrev pub AreFaultless : Source → Bool → List Frame → Type 0
AreFaultless source held [] = Unit {0}
AreFaultless source held (frame ∷ frames) = IsFaultlessFrame source held frame × AreFaultless source (held_over held frame) frames

-- these frames and the next action have no fault
abbrev pub GoesWithoutFault : Source → Bool → List Frame → Control → Type 0
GoesWithoutFault source held frames control = AreFaultless source held frames × IsFaultlessNext source (held_by held frames) control

abbrev pub IsWithoutFault : Strand → Type 0
IsWithoutFault t = GoesWithoutFault (source_of t.program.now) false t.frames t.control

-- The lock or ledger that a pause names exists, and no lock is held while a child is forked or awaited.
abbrev pub NamesWhatIsThere : Source → List ℕ → Option Pending → Type 0
NamesWhatIsThere source locks (Some pause.Forks) = locks ≡ []
NamesWhatIsThere source locks (Some pause.Joins) = locks ≡ []
NamesWhatIsThere source locks (Some (pause.Asks lock)) = lock < source.locks
NamesWhatIsThere source locks (Some (pause.Frees lock)) = lock < source.locks
NamesWhatIsThere source locks (Some (pause.Tallies ledger amount)) = ledger < source.ledgers
NamesWhatIsThere source locks _ = Unit {0}

-- The lock or ledger of the pending pause exists, and at most one lock is requested and not released.
pub record PausesWithin (thread : Suspended) : Type 0 where
  pub names : NamesWhatIsThere (source_of thread.program) thread.locks thread.pending
  pub one_lock : length thread.locks ≤ 1
