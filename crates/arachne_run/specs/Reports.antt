-- What a report says.
use Rattle.std.specs.Prelude.{◌≡◌, ◌≤◌, ℕ, List, All, length, map}
use Rattle.arachne_program.specs.{Meaning.meaning_of, Program.source_of, declared.meaning.Meaning.Meaning}
use Rattle.arachne_program.specs.declared.program.Program.{Program}
use Rattle.arachne_machine.specs.Outcome.{named_holds}
use Rattle.arachne_sleep.specs.{History.IsSound, OneHolder.HasOneHolderAtATime, declared.event.LockEvent.LockEvent}
use Rattle.arachne_run.specs.{Distinct.AreDistinct, Histories.GrantsAreHolds, declared.report.Report.Report}

-- the report's value and totals, and for each thread its name and how often it has held each lock
abbrev pub meaning_in : Report → Meaning
meaning_in report = record { value = report.value; totals = report.totals; threads = map named_holds report.threads }

-- the tags of the threads
abbrev pub tags_of : Report → List ℕ
tags_of report = map (λ line. line.tag) report.threads

-- the history of each lock
abbrev pub histories_in : Report → List (List LockEvent)
histories_in report = map (λ history. history.items) report.histories.items

-- true if this is a report of a run of `program` with this number of orders: the program's meaning on one core; its
-- threads, each once; and for each lock a lawful history with one holder at a time, with as many grants to each thread
-- as its line says
pub record IsReportOf (program : Program) (orders : ℕ) (report : Report) : Type 0 where
  pub meaning : meaning_in report ≡ meaning_of (source_of program)
  pub tags : AreDistinct (tags_of report)
  pub histories : length (histories_in report) ≡ program.locks
  pub sound : All IsSound (histories_in report)
  pub one_holder : All HasOneHolderAtATime (histories_in report)
  pub grants : GrantsAreHolds report.threads (histories_in report)
  pub applied : report.applied ≤ orders
