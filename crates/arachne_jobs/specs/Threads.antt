-- What contracts see of a thread of a run, with the children that run inside it.
use Rattle.std.specs.Prelude.{◌≡◌, ℕ, List, [], Option, None, Some}
use Rattle.arachne_core.specs.declared.thread_id.ThreadId.{ThreadId}
use Rattle.arachne_program.specs.declared.program.Program.{Program}
use Rattle.arachne_machine.specs.declared.{pause.Pending.Pending, line.Ran.TheVariants.Spill}
use Rattle.arachne_machine.specs.Nested.{Nested, whole, pending_in, IsChildOf}
use Rattle.arachne_machine.specs.declared.pause.Pending.TheVariants as pause

abbrev pub Thread : Type 0
Thread = Nested

abbrev pub program_of : Thread → Program
program_of thread = (whole thread).program

abbrev pub name_of : Thread → List ℕ
name_of thread = (whole thread).name

abbrev pub tag_of : Thread → ℕ
tag_of thread = (whole thread).label.tag

-- the tag of the innermost thread, which makes the next step
abbrev pub running_tag_of : Thread → ℕ
running_tag_of thread = thread.running.label.tag

-- the thread's request that is not answered yet
abbrev pub pause_of : Thread → Option Pending
pause_of thread = pending_in thread

-- true if the thread has no such request, so that it can make steps
abbrev pub IsGoing : Thread → Type 0
IsGoing thread = pause_of thread ≡ None

abbrev pub IsAwaiting : Thread → Type 0
IsAwaiting thread = pause_of thread ≡ Some pause.Joins

-- true if the thread is paused to fork this child
abbrev pub IsForking : Thread → Thread → Type 0
IsForking thread child = (pause_of thread ≡ Some pause.Forks) × IsChildOf thread child

-- true if the thread got its slot after it had waited for one, as its line in the report will say
abbrev pub HasWaited : Thread → Type 0
HasWaited thread = (whole thread).label.ran ≡ Spill

-- a thread, and its parent's id, or `None` for the root
pub record Posted : Type 0 where
  pub thread : Thread
  pub parent : Option ThreadId

-- the view of a job, which is never `None`

abbrev pub job_tag : Option Posted → ℕ
job_tag (Some job) = tag_of job.thread
job_tag None = 0

abbrev pub job_running_tag : Option Posted → ℕ
job_running_tag (Some job) = running_tag_of job.thread
job_running_tag None = 0

abbrev pub job_name : Option Posted → List ℕ
job_name (Some job) = name_of job.thread
job_name None = []

abbrev pub job_parent : Option Posted → Option ThreadId
job_parent (Some job) = job.parent
job_parent None = None

abbrev pub job_pause : Option Posted → Option Pending
job_pause (Some job) = pause_of job.thread
job_pause None = None

abbrev pub IsJobForking : Option Posted → Thread → Type 0
IsJobForking (Some job) child = IsForking job.thread child
IsJobForking None child = ⊥
