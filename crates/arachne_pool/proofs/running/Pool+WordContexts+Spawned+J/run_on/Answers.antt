use Rattle.std.proofs.Common.{◌≡◌, ◌∙◌, sym, IfSome, Option, None, Some}
use denote.RattleType.{RattleType}
use denote.Param.{param}
use denote.Exit.{no}
use denote.Param.Send.{sendable, param_send, param_sync, arg_send, arg_sync}
use Rattle.std.proofs.Crossing as std
use Rattle.arachne_words.specs.contracts.seat.WordSeat as word_seat
use Rattle.arachne_words.specs.contracts.table.WordContexts as word_table
use Rattle.arachne_words.proofs.seat.WordSeat.TheSendSync as seat
use Rattle.arachne_words.proofs.table.WordContexts.TheSendSync as table
use Rattle.arachne_contexts.specs.declared.tagged.Tagged as tagged
use Rattle.arachne_pool.specs.declared.job.PoolJob as pool_job
use Rattle.arachne_pool.specs.contracts.spawned.Spawned as spawned
use Rattle.arachne_pool.specs.contracts.spawned.SpawnedTagged.TheImpl as spawned_tagged
use Rattle.arachne_pool.proofs.Crossing.{crew_sync, share_send, spawned_send}
use Rattle.arachne_pool.proofs.running.Pool+WordContexts+Spawned+J.run_on.Goals as goal

-- the rows of a run's jobs, seats and table
module _ (J O : RattleType) (P : pool_job.Ghosts J.Denot O.Denot) (G : tagged.Ghosts J.Denot) where
  abbrev job_row : RattleType
  job_row = spawned.the_row J O P G

  abbrev seat_row : RattleType
  seat_row = word_seat.the_row job_row

  abbrev table_row : RattleType
  table_row = word_table.the_row job_row
      (spawned_tagged.ghosts J O P spawned_tagged.no_dict G spawned_tagged.no_dict spawned_tagged.no_dict spawned_tagged.no_dict)

-- what follows from what an option has, if it has something, is so of it too
if_some : {T : Type 0} {P Q : T → Type 0} (o : Option T) → IfSome o P → ((x : T) → P x → Q x) → IfSome o Q
if_some None p f = p
if_some (Some x) p f = f x p

-- what a kernel thread has may cross, where the job and its result may, and it may look at what all have in common
pub work_together-share-requires-send-S : goal.work_together-share-requires-send-S
work_together-share-requires-send-S g c κs within =
    let J = param 0 g.row.J in
    let O = param 1 g.row.J-Output in
    let job = spawned_send J O g.J.PoolJob g.J.Tagged c.type_bounds.send-J c.type_bounds.send-J-Output in
    param_send 1 _ (arg_send _ no _ (share_send J O g.J.PoolJob g.J.Tagged c.type_bounds.send-J c.type_bounds.send-J-Output (seat_row J O g.J.PoolJob g.J.Tagged)
    (search (sendable, std.crosses, seat.the_send, job) depth 40)))

pub work_together-share-requires-sync-W : goal.work_together-share-requires-sync-W
work_together-share-requires-sync-W g c κs within =
    let J = param 0 g.row.J in
    let O = param 1 g.row.J-Output in
    let job = spawned_send J O g.J.PoolJob g.J.Tagged c.type_bounds.send-J c.type_bounds.send-J-Output in
    param_sync 2 _ (arg_sync _ no _ (crew_sync _ (table_row J O g.J.PoolJob g.J.Tagged) J (seat_row J O g.J.PoolJob g.J.Tagged) _
    (search (sendable, std.crosses, table.the_sync, job) depth 40)))

-- the job, or its handle, is as it was given
pub end-requires-clause-job : goal.end-requires-clause-job
end-requires-clause-job g c =
    if_some c.work_together-share.result c.work_together-share.ensures
    (λ share has. if_some share.job has.1 (λ job is. is ∙ (c.of.ensures ∙ sym c.of-as_spawned.ensures)))

pub end-requires-clause-handle : goal.end-requires-clause-handle
end-requires-clause-handle g c =
    if_some c.work_together-share.result c.work_together-share.ensures
    (λ share has. if_some share.handle has.2 (λ job is. is ∙ (c.of.ensures ∙ sym c.of-as_spawned.ensures)))
