-- A worker's tokens (rights to use the shared objects), and what is out with them (claimed or taken, and not given
-- back).
use Rattle.std.specs.Prelude.{◌≡◌, ◌≤◌, ℕ, Bool, List, [], ◌∷◌, Option, None, Some, IfSome, MatchOption, All, length, map, not}
use Rattle.arachne_program.specs.{Program.tree_of, declared.program.Program.Program}
use Rattle.arachne_jobs.specs.{Classes.forks_exclusive, Views.{IsPassOf, IsWhole as IsWholePass, QueueView}}
use Rattle.arachne_contexts.specs.{Out.{Out, Claim, Thread}, declared.held.Held.Held}
use Rattle.arachne_weights.specs.Weight.{whole}
use Rattle.arachne_ledger.specs.Views.{IsShareOf, IsWhole as IsWholeShare}
use Rattle.arachne_sleep.specs.{SleepLocks.AreSeatsOf, Views.{IsWhole as IsWholeSeat}}
use Rattle.arachne_arbiter.specs.Orders.{Progress}
use Rattle.arachne_core.specs.declared.layout.TheConstants.{CORES, SLOTS}
use Rattle.arachne_run.specs.declared.{seat.InHand.InHand, machine.Machine.Machine, resources.Holdings.Holdings}
use Rattle.arachne_run.specs.declared.{resources.Resources.Resources, machine.Tokens.Tokens}

-- what contracts see of a worker's access: the table, the queue of tickets, the ledgers and locks, the numbers of cores
-- and orders, the most steps of a slice, and if workers are allowed to move threads to their own cores
pub record Ground (Table : Type 0) : Type 0 where
  pub table : Table
  pub tickets : QueueView
  pub resources : Resources
  pub cores : ℕ
  pub orders : ℕ
  pub quantum : ℕ
  pub may_pull : Bool

abbrev pub ground_of : {Table Ticket : Type 0} → Machine Table Ticket → Ground Table
ground_of machine = record { table = machine.table; tickets = machine.tickets; resources = machine.resources; cores = machine.cores; orders = machine.orders; quantum = machine.quantum; may_pull = machine.may_pull }

-- true if the arbiter, if any, has as many orders as the machine, for its cores
abbrev pub IsArbiterOf : {Table Ticket : Type 0} → Machine Table Ticket → Option Progress → Type 0
IsArbiterOf machine arbiter = IfSome arbiter (λ progress. (length progress.list ≡ machine.orders) × (progress.cores ≡ machine.cores))

-- true if these are rights to use these ledgers and locks
abbrev pub AreHoldingsOf : Resources → Holdings → Type 0
AreHoldingsOf resources holdings = IsShareOf resources.ledgers holdings.share × AreSeatsOf resources.locks holdings.lock_seats

-- what contracts see of a worker's access to ledgers and locks: these, and what its share has added to each ledger
pub record AccessView : Type 0 where
  pub resources : Resources
  pub sums : List ℕ

-- true if these tokens are for the machine's table, queue, ledgers, locks and orders, and nothing is out with the seat
abbrev pub AreIdle : {Table Seat Ticket : Type 0} → (Table → Seat → Type 0) → (Table → Seat → Type 0) → Machine Table Ticket → Tokens Seat Ticket → Type 0
AreIdle sits idle machine tokens =
    sits machine.table tokens.seat × idle machine.table tokens.seat × IsPassOf machine.tickets tokens.pass
    × AreHoldingsOf machine.resources tokens.holdings × IsArbiterOf machine tokens.arbiter

-- true if the seat, the pass, the share and the lock seats are whole: no worker has a part of them any more
abbrev pub AreAllBack : {Seat Ticket : Type 0} → (Seat → ℕ) → Tokens Seat Ticket → Type 0
AreAllBack weight tokens =
    (weight tokens.seat ≡ whole) × IsWholePass tokens.pass × IsWholeShare tokens.holdings.share × All IsWholeSeat tokens.holdings.lock_seats

-- true if at least one thread was left in the table when it was closed
abbrev pub IsAnyLeft : {Thread : Type 0} → (List Thread → Type 0) → Type 0
IsAnyLeft {Thread} settles = (first : Thread) × (others : List Thread) × settles (first ∷ others)

-- the thread that the worker runs now, as the table knows it
abbrev pub thread_in : {C T H : Type 0} → (T → ℕ) → Held T H → Out C H
thread_in tag held = Thread held.hold (tag held.value)

-- what is out while the worker runs this thread, or none
abbrev pub in_hand : {C T H : Type 0} → (T → ℕ) → Option (InHand T H) → List (Out C H)
in_hand tag None = []
in_hand tag (Some thread) = thread_in tag thread.held ∷ []

-- true if `out` is no longer out, and everything else still is
abbrev pub IsSpent : {Seat C H : Type 0} → (Seat → List (Out C H) → Type 0) → Out C H → Seat → Seat → Type 0
IsSpent {Seat} {C} {H} has out old new = (outs : List (Out C H)) → has old (out ∷ outs) → has new outs

-- true if exactly the slots in `kept` are out, and the slot that was found, if any
abbrev pub IsOutWith : {C H : Type 0} → (List (Out C H) → Type 0) → List C → Option C → Type 0
IsOutWith has kept place = MatchOption place (has (map Claim kept)) (λ claim. has (Claim claim ∷ map Claim kept))

-- true if the machine has these numbers of cores, slots and orders, this quantum, and as many locks and ledgers as the
-- program; its workers are allowed to move threads unless the program forks a thread that wants a whole core
abbrev pub IsMachineFor : {Table Ticket : Type 0} → (cores slots quantum orders : ℕ) → Program → Machine Table Ticket → Type 0
IsMachineFor cores slots quantum orders program machine =
    (machine.orders ≡ orders) × (length machine.resources.locks ≡ program.locks)
    × (machine.may_pull ≡ not (forks_exclusive (tree_of program.root))) × (machine.resources.ledgers.count ≡ program.ledgers)
    × (machine.cores ≡ cores) × (machine.slots ≡ slots) × (machine.quantum ≡ quantum)

-- true if the machine's numbers are right: 1 to 64 cores, the same in the table and in the shared words, each with 1 to
-- 56 slots, the same in the table, and at least one step in a slice
pub record IsSetUp {Table Ticket : Type 0} (core_count slot_count : Table → ℕ) (machine : Machine Table Ticket) : Type 0 where
  pub cores : core_count machine.table ≡ machine.cores
  pub some : 1 ≤ machine.cores
  pub few : machine.cores ≤ CORES
  pub slots : slot_count machine.table ≡ machine.slots
  pub some_slots : 1 ≤ machine.slots
  pub few_slots : machine.slots ≤ SLOTS
  pub shared : machine.shared ≡ machine.cores
  pub some_steps : 1 ≤ machine.quantum
