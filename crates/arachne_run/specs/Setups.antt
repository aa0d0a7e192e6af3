-- Which setups of a run are refused.
use Rattle.std.specs.Prelude.{◌≡◌, ◌⊎◌, true, false, ℕ, ◌==◌, Bool, ◌&&◌, nat_le, if◌then◌else◌, List, Option, None, Some}
use Rattle.arachne_core.specs.declared.layout.TheConstants.{CORES, SLOTS}
use Rattle.arachne_run.specs.declared.{fault.{RunFault.RunFault, WorkerFault.WorkerFault}, setup.Setup.Setup}
use Rattle.arachne_run.specs.declared.fault.RunFault.TheVariants.{Cores, Quantum, Slots, Choosers, Orders, Worker}
use Rattle.arachne_run.specs.declared.fault.WorkerFault.TheVariants as worker
use Rattle.arachne_jobs.specs.declared.fault.JobFault.{JobFault}
use Rattle.arachne_jobs.specs.declared.fault.JobFault.TheVariants as job
use Rattle.arachne_workers.specs.declared.dispatch.Halt.{Halt}
use Rattle.arachne_workers.specs.declared.dispatch.Halt.TheVariants as halt
use Rattle.arachne_sleep.specs.declared.answer.AskFault.{AskFault}
use Rattle.arachne_sleep.specs.declared.answer.AskFault.TheVariants as ask
use Rattle.arachne_team.specs.declared.team.TeamFault.{TeamFault}
use Rattle.arachne_team.specs.declared.team.TeamFault.TheVariants as team
use Rattle.arachne_policy.specs.{declared.orders.{CoreOrder.CoreOrder, OrderFault.OrderFault}, Orders.IsFirstFault}

-- true if the number is from `least` to `most`
abbrev pub is_within : ℕ → ℕ → ℕ → Bool
is_within least most n = nat_le least n && nat_le n most

-- the first fault in these numbers: cores, steps of a slice, slots of a core, choosers
abbrev pub refusal_of : ℕ → ℕ → ℕ → ℕ → Option RunFault
refusal_of cores quantum slots choosers =
    if is_within 1 CORES cores then
    (if is_within 1 10000 quantum then (if is_within 1 SLOTS slots then (if choosers == cores then None else Some Choosers) else Some Slots) else Some Quantum)
    else Some Cores

-- the first fault in the numbers of a setup with this many choosers
abbrev pub refusal_in : Setup → ℕ → Option RunFault
refusal_in setup choosers = refusal_of setup.cores setup.quantum setup.slots choosers

-- true if this is the first fault of these orders, on this number of cores
abbrev pub IsFirstOrderFault : ℕ → List CoreOrder → RunFault → Type 0
IsFirstOrderFault cores orders fault = (first : OrderFault) × IsFirstFault cores orders first × (fault ≡ Orders first)

-- true if this is the first fault of a setup: one of its numbers, or one of its orders if its numbers have none
abbrev pub IsSetupFault : ℕ → ℕ → ℕ → ℕ → List CoreOrder → RunFault → Type 0
IsSetupFault cores quantum slots choosers orders fault =
    (refusal_of cores quantum slots choosers ≡ Some fault)
    ⊎ ((refusal_of cores quantum slots choosers ≡ None) × IsFirstOrderFault cores orders fault)

-- true if the fault is one of the setup, and not one that a worker met
abbrev pub is_of_setup : RunFault → Bool
is_of_setup Cores = true
is_of_setup Quantum = true
is_of_setup Slots = true
is_of_setup Choosers = true
is_of_setup (Orders first) = true
is_of_setup (Worker fault) = false

-- the reason for which a worker's loop ends at a fault, and the fault of a reason
abbrev pub halt_of : WorkerFault → Halt
halt_of worker.Memory = halt.Memory
halt_of worker.Foreign = halt.Foreign
halt_of worker.Threads = halt.Lock
halt_of worker.Ledgers = halt.Token
halt_of worker.Token = halt.Token
halt_of worker.KernelThread = halt.Token

abbrev pub of_halt : Halt → WorkerFault
of_halt halt.Memory = worker.Memory
of_halt halt.Foreign = worker.Foreign
of_halt halt.Lock = worker.Threads
of_halt halt.Token = worker.Token

-- the worker's fault for a fault of a job
abbrev pub as_worker_fault : JobFault → WorkerFault
as_worker_fault job.Memory = worker.Memory
as_worker_fault job.Foreign = worker.Foreign

-- the run's fault for a team of kernel threads that could not start
abbrev pub of_team : TeamFault → WorkerFault
of_team team.Memory = worker.Memory
of_team team.KernelThread = worker.KernelThread

-- the worker's fault if a thread's ask for a lock is refused
abbrev pub of_ask : AskFault → WorkerFault
of_ask ask.AlreadyIn = worker.Threads
of_ask ask.Memory = worker.Memory
