-- The line that is printed for a fault, also for that of a run.
use Rattle.std.specs.Prelude.{ℕ, List}
use Rattle.arachne_policy.specs.declared.orders.OrderFaultKind.{OrderFaultKind}
use Rattle.arachne_policy.specs.declared.orders.OrderFaultKind.TheVariants.{NoSuchCore, ReleasesCoreZero, AfterFalls}
use Rattle.arachne_run.specs.declared.fault.RunFault.{RunFault}
use Rattle.arachne_run.specs.declared.fault.RunFault.TheVariants as run
use Rattle.arachne_run.specs.declared.fault.WorkerFault.TheVariants as worker
use Rattle.arachne_cli.specs.declared.fault.FaultLine.{FaultLine}
use Rattle.arachne_cli.specs.declared.fault.Place.{Place}
use Rattle.arachne_cli.specs.declared.fault.Place.TheVariants as place
use Rattle.arachne_cli.specs.Fault as cli
use Rattle.arachne_commands.specs.declared.fault.Fault.{Fault}
use Rattle.arachne_commands.specs.declared.fault.Fault.TheVariants.{Cli, InRun}

-- the number of a fault of an order
abbrev pub order_fault_number : OrderFaultKind → ℕ
order_fault_number NoSuchCore = 22
order_fault_number ReleasesCoreZero = 23
order_fault_number AfterFalls = 25

-- the number of a run's fault
abbrev pub run_number : RunFault → ℕ
run_number run.Cores = 20
run_number run.Quantum = 21
run_number run.Choosers = 24
run_number run.Slots = 27
run_number (run.Orders fault) = order_fault_number fault.kind
run_number (run.Worker worker.Memory) = 30
run_number (run.Worker worker.Foreign) = 31
run_number (run.Worker worker.Threads) = 32
run_number (run.Worker worker.Ledgers) = 33
run_number (run.Worker worker.Token) = 34
run_number (run.Worker worker.KernelThread) = 35

-- the place of a run's fault
abbrev pub run_place : RunFault → Place
run_place (run.Orders fault) = place.Order fault.index
run_place _ = place.Nowhere

abbrev pub line_of : Fault → FaultLine
line_of (Cli fault) = cli.line_of fault
line_of (InRun fault) = record { number = run_number fault; place = run_place fault }

abbrev pub fault_line : Fault → List ℕ
fault_line fault = cli.line_text (line_of fault)
