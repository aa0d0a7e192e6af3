use Rattle.std.proofs.Common.{refl}
use contract.BorrowLft.{⊑_static}
use denote.Param.Send.{sendable}
use Rattle.std.proofs.Crossing as std
use contract.Lifetimes.{Lfts}
use denote.Ref.{NamedLft}
use mir.Syntax.{named}
use Rattle.arachne_machine.proofs.thread.Thread.TheLaws as thread
use Rattle.arachne_jobs.proofs.job.Job.TheLaws as job
use Rattle.arachne_jobs.proofs.waiting.Ticket.TheLaws as ticket
use Rattle.arachne_jobs.proofs.spares.JobSpares.TheLaws as spares
use Rattle.arachne_machine.proofs.Crossing.{thread_send}
use Rattle.arachne_jobs.proofs.Crossing.{job_send, spares_send, ticket_send}
use Rattle.arachne_run_tests.proofs.choosers.Progression.TheSendSync as chooser
use Rattle.arachne_run_tests.proofs.gates.Watch.TheSendSync as watch
use Rattle.arachne_run_tests.proofs.runs.run_on_lock.Statement.{statement}
use Rattle.arachne_run_tests.proofs.runs.run_on_lock.Tie as tie

-- the lifetime of the program
abbrev program : Lfts 10 → NamedLft
program κs = record { mir = named 1; lft = κs.1.0 }

-- What is lent to the run outlives it; what it sends to its kernel threads and shares with them may cross; the program
-- is checked. It is by hand, since the module of the function's goals, which an Answers.antt needs, takes 26 seconds.
pub run_on_lock_spec : {M : Type 1} → statement M
run_on_lock_spec = tie.close (λ R laws threads threads-dict wait wait-dict clock clock-dict world met-threads met-wait met-clock.
    tie.spec R laws threads threads-dict wait wait-dict clock clock-dict
    (λ c κs within. (
      within.1.1.1.1,
      (
        job.the_within (program κs) _ within.0,
        (
          ⊑_static _,
          (
            ⊑_static _,
            (
              thread.the_within (program κs) _ within.1.0,
              (
                ticket.the_within (program κs) _ within.1.1.0,
                (
                  spares.the_within (program κs) _ within.1.1.1.0,
                  (
                    search (sendable, job_send) depth 20,
                    (
                      search (sendable, chooser.the_send) depth 20,
                      (
                        search (sendable, thread_send) depth 20,
                        (
                          search (sendable, ticket_send) depth 20,
                          (
                            search (sendable, spares_send) depth 20,
                            (
                              search (sendable, c.requires.1.0) depth 20,
                              (
                                search (sendable, std.crosses, watch.the_sync) depth 20,
                                ((refl, tt), c.requires.1.1),
                              ),
                            ),
                          ),
                        ),
                      ),
                    ),
                  ),
                ),
              ),
            ),
          ),
        ),
      ),
    ))
    (λ c. tt))
