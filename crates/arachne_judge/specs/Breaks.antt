-- For each kind of entry of a log, the rules that it breaks, given what the log has shown before.
use Rattle.std.specs.Prelude.{◌≡◌, ◌<◌, ◌≤◌, ℕ, ◌+◌, ◌-◌, ◌/◌, ◌^◌, Bool, true, false, not, ◌&&◌, ◌||◌, ◌==◌, nat_lt, nat_le, min, if◌then◌else◌, is_none, Option, None, Some, option_and_then, slice_get, slice_index_or}
use Rattle.arachne_core.specs.declared.thread_id.ThreadId.{ThreadId}
use Rattle.arachne_policy.specs.declared.orders.CoreOrder.{CoreOrder}
use Rattle.arachne_workers.specs.declared.dispatch.SliceEnd.{SliceEnd}
use Rattle.arachne_workers.specs.declared.dispatch.SliceEnd.TheVariants.{GoesOn, AwaitsChild, Awaits, Ended}
use Rattle.arachne_judge.specs.declared.{case.Case.Case, cores.Core.Core, threads.ThreadFacts.ThreadFacts, rules.Broken.Broken, rules.Rule.Rule}
use Rattle.arachne_judge.specs.declared.rules.Rule.TheVariants.{OwnCore, InHand, Numbers, Quantum, Due, CoreZero, Parks, Unparks, Alone, Upwards, Places, Stays, Pulls}
use Rattle.arachne_judge.specs.Rules.{number_of, broken_if}

-- the first break, given the one before, and if the entry that is read breaks `rule`
abbrev pub judged : Case → Rule → Bool → Option Broken → Option Broken
judged case rule is_broken before = broken_if is_broken before (record { rule = rule; at = case.at })

-- a core of which the log has shown nothing
abbrev pub unseen : Core
unseen = record { next = 0; ended = 0; ends_slice = false; turn = None; is_in_slice = false; alone = None; is_closed = false; last = 0; was_closed = false; grants = 0; unparks = 0; moved = 0; owes_move = false; owes_return = false; owes_close = false }

-- the sum, or the greatest number of 64 bits if the sum is more
abbrev pub plus : ℕ → ℕ → ℕ
plus a b = min (a + b) (2 ^ 64 - 1)

-- what the log has shown of a core
abbrev pub core_of : Case → ℕ → Core
core_of case core = slice_index_or case.cores.items core unseen

abbrev pub is_same : ThreadId → ThreadId → Bool
is_same id other = (id.context == other.context) && (id.generation == other.generation)

abbrev if_same : ThreadId → Option ThreadFacts → Option ThreadFacts
if_same id None = None
if_same id (Some thread) = if is_same thread.id id then Some thread else None

-- what the log has shown of a thread, if a worker has taken it
abbrev pub thread_of : Case → ThreadId → Option ThreadFacts
thread_of case id = if_same id (option_and_then (λ thread. thread) (slice_get case.threads.items id.context))

abbrev pub has_ended : SliceEnd → Bool
has_ended GoesOn = false
has_ended AwaitsChild = false
has_ended (Awaits lock) = false
has_ended Ended = true

-- a slice of the thread may begin on the core: the thread was taken there, is in no slice and hasn't ended
abbrev pub is_in_hand : ℕ → ThreadFacts → Bool
is_in_hand core thread = (thread.core == core) && not thread.is_in_slice && not (has_ended thread.end)

-- what the log has shown of the thread that a core's worker took last
abbrev pub taken_by : Case → ℕ → Option ThreadFacts
taken_by case core = option_and_then (thread_of case) (core_of case core).turn

abbrev is_some_in_hand : ℕ → Option ThreadFacts → Bool
is_some_in_hand core None = false
is_some_in_hand core (Some thread) = is_in_hand core thread

-- A slice begins. Numbers: its number isn't the core's next. InHand: the core is in a slice, or the thread that its
-- worker took last isn't in hand.
abbrev pub broken_by_begin : Case → (core nth : ℕ) → Option Broken
broken_by_begin case core nth =
    let known = core_of case core in
    judged case InHand (known.is_in_slice || not (is_some_in_hand core (taken_by case core)))
    (judged case Numbers (not (nth == known.next)) case.broken)

-- A slice ends. Quantum: it has more steps than the quantum. InHand: the core is in no slice.
abbrev pub broken_by_end : Case → (core steps : ℕ) → Option Broken
broken_by_end case core steps =
    judged case InHand (not (core_of case core).is_in_slice)
    (judged case Quantum (nat_lt case.run.quantum steps) case.broken)

abbrev is_another : ThreadId → Option ThreadId → Bool
is_another id None = false
is_another id (Some other) = not (is_same other id)

-- A worker takes a thread. InHand: its core is in a slice, or another core than 0 takes the run's first thread. Alone:
-- another thread has the core to itself.
abbrev pub broken_by_turn : Case → ℕ → ThreadId → Option Broken
broken_by_turn case core id =
    judged case Alone (is_another id (core_of case core).alone)
    (judged case InHand ((core_of case core).is_in_slice || (is_none case.root && nat_lt 0 core)) case.broken)

-- A thread that was taken before is taken again. InHand: it has ended, or is in a slice.
abbrev pub broken_by_second_turn : Case → ThreadFacts → Option Broken
broken_by_second_turn case before = judged case InHand (has_ended before.end || before.is_in_slice) case.broken

-- the order of this number, if the run has as many
abbrev pub order_at : Case → ℕ → Option CoreOrder
order_at case nth = slice_get case.run.orders.now nth

abbrev is_overdue : Case → Option CoreOrder → Bool
is_overdue case None = false
is_overdue case (Some order) = nat_le order.after (plus case.counted (core_of case 0).ended)

-- Core 0 begins a slice. Due: the next order is due, by the slices that have ended on core 0, and those of other cores
-- that core 0 must have seen (`counted`).
abbrev pub broken_by_delay : Case → Option Broken
broken_by_delay case = judged case Due (is_overdue case (order_at case case.applied)) case.broken

-- fewer slices have ended than the order asks for, or there is no such order
abbrev pub is_early : Case → Option CoreOrder → Bool
is_early case None = true
is_early case (Some order) = nat_lt case.ended order.after

-- An order is carried out. Due: it isn't due yet.
abbrev pub broken_by_order : Case → CoreOrder → Option Broken
broken_by_order case order = judged case Due (is_early case (Some order)) case.broken

-- each order behind those that were carried out before, up to this number, exists and is due
abbrev pub AreDue : Case → ℕ → Type 0
AreDue case orders = (nth : ℕ) → case.applied ≤ nth → nth < orders → is_early case (order_at case nth) ≡ false

-- Core 0 must have reported what it did to a core. OwnCore: it owes the move of a thread to the core, and the program
-- has an exclusive fork, or more moves stay without a report than 2 and one for each 64 times that a thread went on.
-- Parks: it owes that it closed the core, which has parked, or moved a thread away from it. Unparks: the core went on
-- after a park more often than it was granted (one more is allowed once the run has ended).
abbrev pub broken_by_silence : Case → ℕ → Option Broken
broken_by_silence case core =
    let known = core_of case core in
    let allowed = plus 2 (slice_index_or case.counts.counts (number_of OwnCore) 0 / 64) in
    judged case Unparks (nat_lt (plus known.grants (if case.is_over then 1 else 0)) known.unparks)
    (judged case Parks (known.owes_close || known.owes_return)
    (judged case OwnCore (known.owes_move && (case.run.has_exclusive || nat_lt allowed (plus case.untold 1))) case.broken))

-- A thread is moved to a core, or is run there. Stays: the program has an exclusive fork. Pulls: the thread comes from
-- that core itself.
abbrev pub broken_by_pull : Case → (core from : ℕ) → Option Broken
broken_by_pull case core from =
    judged case Pulls (from == core) (judged case Stays case.run.has_exclusive case.broken)

-- A scan reaches a thread. Upwards: it has missed a ready one. Places: a child has waited though a slot was free.
abbrev pub broken_by_scan : Case → (is_downward was_free : Bool) → Option Broken
broken_by_scan case is_downward was_free = judged case Places was_free (judged case Upwards is_downward case.broken)

-- A core reports that it has moved threads away. CoreZero: it isn't core 0.
abbrev pub broken_by_moves : Case → ℕ → Option Broken
broken_by_moves case core = judged case CoreZero (not (core == 0)) case.broken
