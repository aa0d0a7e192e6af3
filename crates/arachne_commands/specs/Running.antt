-- The settings of a run, the reasons why it is refused, and the seeds of its cores' choices.
use Rattle.std.specs.Prelude.{◌≡◌, ◌≤◌, ◌⊎◌, true, ◌+◌, ◌%◌, ◌^◌, ℕ, List, map, None, Some}
use Rattle.std.specs.List.{range_with_len}
use Rattle.rand_xoshiro.specs.SplitMix64.{splitmix_seed}
use Rattle.rand_xoshiro.specs.Xoshiro256.{of_seed}
use Rattle.arachne_core.specs.declared.layout.TheConstants.{CORES}
use Rattle.arachne_policy.specs.Orders.{AreInOrder}
use Rattle.arachne_run.specs.declared.setup.Setup.{Setup}
use Rattle.arachne_run.specs.Setups.{IsFirstOrderFault, IsSetupFault, is_of_setup, refusal_of}
use Rattle.arachne_run.specs.declared.fault.RunFault.{RunFault}
use Rattle.arachne_run.specs.declared.fault.RunFault.TheVariants.{Worker}
use Rattle.arachne_run.specs.declared.fault.WorkerFault.TheVariants.{Memory}
use Rattle.arachne_cli.specs.declared.command_line.RunSettings.{RunSettings}

-- Settings that are refused are refused for their first fault, or for their orders' first fault if they have no other,
-- or because memory was refused. A fault of settings is reported only for settings that have it. This says nothing
-- about faults that occur during a run.
pub record IsRefusal (settings : RunSettings) (fault : RunFault) : Type 0 where
  pub of_settings : (first : RunFault) → refusal_of settings.cores settings.quantum settings.slots settings.cores ≡ Some first → (fault ≡ first) ⊎ (fault ≡ Worker Memory)
  pub of_orders : refusal_of settings.cores settings.quantum settings.slots settings.cores ≡ None → (AreInOrder settings.cores settings.orders → ⊥)
      → IsFirstOrderFault settings.cores settings.orders fault ⊎ (fault ≡ Worker Memory)
  pub of_setup : is_of_setup fault ≡ true → IsSetupFault settings.cores settings.quantum settings.slots settings.cores settings.orders fault

-- A run with these settings may begin: none of its numbers is refused, and its orders are in order.
pub record MayRun (settings : RunSettings) : Type 0 where
  pub numbers : refusal_of settings.cores settings.quantum settings.slots settings.cores ≡ None
  pub in_order : AreInOrder settings.cores settings.orders

-- the generator of a core's choices, whose seed is `seed + core`
abbrev pub chooser_of : ℕ → ℕ → List ℕ
chooser_of seed core = of_seed (splitmix_seed 32 ((seed + core) % 2 ^ 64))

-- the generators of the first cores
abbrev pub choosers_of : ℕ → ℕ → List (List ℕ)
choosers_of seed cores = map (chooser_of seed) (range_with_len 0 cores)

-- A run has these settings, and each of its cores has its own chooser. This says nothing about the choosers if there
-- are too many cores: such a run is refused before it uses a chooser.
pub record IsSetUpBy (settings : RunSettings) (setup : Setup) (made : List (List ℕ)) : Type 0 where
  pub cores : setup.cores ≡ settings.cores
  pub slots : setup.slots ≡ settings.slots
  pub quantum : setup.quantum ≡ settings.quantum
  pub orders : setup.orders.items ≡ settings.orders
  pub choosers : settings.cores ≤ CORES → made ≡ choosers_of settings.seed settings.cores
