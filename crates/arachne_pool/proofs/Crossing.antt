-- Which of a pool's values may cross threads: all, where the job and its result may.
use denote.RattleType.{RattleType}
use denote.Struct.Declared as struct
use denote.Struct.Struct.{Struct}
use denote.Ref.{NamedLft}
use denote.Param.Send.{IsSend, IsSync, AllSend, AllSync, sendable, recorded_send, recorded_sync, shr_sync, struct_send, struct_sync}
use Rattle.std.proofs.Crossing as std
use Rattle.rand_xoshiro.proofs.xoshiro256.Xoshiro256PlusPlus.TheSendSync as chooser
use Rattle.arachne_contexts.specs.declared.seats.Seats as seats
use Rattle.arachne_contexts.specs.declared.tagged.Tagged as tagged
use Rattle.arachne_join.proofs.Crossing.{sender_send, receiver_send, unused_send}
use Rattle.arachne_join.specs.declared.fits.Fits as fits
use Rattle.arachne_join.specs.contracts.spare.SpareCells as spare
use Rattle.std.specs.contracts.alloc.Global as heap
use Rattle.std.specs.contracts.impls.GlobalAllocator.TheImpl as heap_impl
use Rattle.std.specs.contracts.vec.Vec as Vec
use Rattle.arachne_pool.specs.declared.job.PoolJob as pool_job
use Rattle.arachne_pool.specs.contracts.handle.JobOutcome as outcome
use Rattle.arachne_pool.specs.contracts.handle.WantedResult as wanted
use Rattle.arachne_pool.proofs.handle.JobOutcome.TheSendSync as outcome_own
use Rattle.arachne_pool.specs.contracts.handle.JobOutcomeFitsWantedResult.TheImpl as fits_impl
use Rattle.arachne_pool.specs.contracts.links.Links as links
use Rattle.arachne_pool.specs.contracts.links.Links.TheInside as links_inside
use Rattle.arachne_pool.specs.contracts.spawned.Spawned as spawned
use Rattle.arachne_pool.specs.contracts.spawned.Spawned.TheInside as spawned_inside
use Rattle.arachne_pool.specs.contracts.worker.WorkerState as state
use Rattle.arachne_pool.specs.contracts.stack.JobFrame as frame
use Rattle.arachne_pool.specs.contracts.stack.JobFrame.TheInside as frame_inside
use Rattle.arachne_pool.specs.contracts.stack.Stack as stack
use Rattle.arachne_pool.specs.contracts.stack.Stack.TheInside as stack_inside
use Rattle.arachne_arbiter.proofs.arbiter.Arbiter.TheSendSync as arbiter
use Rattle.arachne_arbiter.proofs.backoff.Backoff.TheSendSync as backoff
use Rattle.arachne_join.specs.contracts.ends.Receiver as receiver
use Rattle.arachne_pool.specs.contracts.worker.Worker as worker
use Rattle.arachne_pool.specs.contracts.worker.Worker.TheInside as worker_inside
use Rattle.arachne_pool.specs.contracts.running.Crew as crew
use Rattle.arachne_pool.specs.contracts.running.Share as share
use Rattle.arachne_pool.specs.contracts.pool.Pool as pool
use Rattle.arachne_pool.proofs.pool.Pool.TheSendSync as pool_own
use Rattle.arachne_pool.specs.contracts.handle.Handle as handle
use Rattle.arachne_pool.specs.contracts.handle.Handle.TheInside as handle_inside

-- a struct may cross where its fields may
fields_send : (D : struct.Declared) → AllSend (struct.fields D) → IsSend (struct.row D)
fields_send D all = recorded_send (Struct (struct.shape D)) D.D D.to D.to_one (struct_send (struct.shape D) all)

fields_sync : (D : struct.Declared) → AllSync (struct.fields D) → IsSync (struct.row D)
fields_sync D all = recorded_sync (Struct (struct.shape D)) D.D D.to D.to_one (struct_sync (struct.shape D) all)

module _ (J O : RattleType) (P : pool_job.Ghosts J.Denot O.Denot) (G : tagged.Ghosts J.Denot) (s : IsSend J) (o : IsSend O) where
  outcome_send : IsSend (outcome.the_row J O)
  outcome_send = search (sendable, o, outcome_own.the_send) depth 10

  abbrev link : fits.Ghosts (outcome.the_row J O).Denot (wanted.the_row J).Denot
  link = fits_impl.ghosts J O P fits_impl.no_dict G fits_impl.no_dict fits_impl.no_dict fits_impl.no_dict

  begun_send : IsSend (Vec.the_field (receiver.the_row (outcome.the_row J O) (wanted.the_row J) link) heap.the_row heap_impl.ghosts).row
  begun_send = search (sendable, std.crosses, receiver_send (outcome.the_row J O) (wanted.the_row J) link outcome_send) depth 20

  links_in_send : IsSend (links_inside.the_row J O P G)
  links_in_send = fields_send (links_inside.the_type J O P G) (search (sendable, std.crosses, s, receiver_send (outcome.the_row J O) (wanted.the_row J) link outcome_send) depth 20)

  links_send : IsSend (links.the_row J O P G)
  links_send = search (sendable, links_in_send) depth 10

  frame_in_send : IsSend (frame_inside.the_row J O P G)
  frame_in_send = fields_send (frame_inside.the_type J O P G) (search (sendable, std.crosses, s) depth 20)

  frame_send : IsSend (frame.the_row J O P G)
  frame_send = search (sendable, frame_in_send) depth 10

  stack_in_send : IsSend (stack_inside.the_row J O P G)
  stack_in_send = fields_send (stack_inside.the_type J O P G) (
    search (sendable, std.crosses, s) depth 10,
    (
      search (sendable, frame_send) depth 10,
      (
        search (sendable, std.crosses, frame_send) depth 20,
        (search (sendable, links_send) depth 10, (search (sendable, std.crosses, s) depth 20, (search (sendable, std.crosses, o) depth 20, search (sendable, std.crosses) depth 20))),
      ),
    ),
  )

  stack_send : IsSend (stack.the_row J O P G)
  stack_send = search (sendable, stack_in_send) depth 10

  spawned_in_send : IsSend (spawned_inside.the_row J O P G)
  spawned_in_send = fields_send (spawned_inside.the_type J O P G) (search (sendable, std.crosses, stack_send, sender_send (outcome.the_row J O) (wanted.the_row J) link outcome_send) depth 30)

  pub spawned_send : IsSend (spawned.the_row J O P G)
  spawned_send = search (sendable, spawned_in_send) depth 10

  handle_in_send : IsSend (handle_inside.the_row J O P G)
  handle_in_send = fields_send (handle_inside.the_type J O P G) (receiver_send (outcome.the_row J O) (wanted.the_row J) link outcome_send, tt)

  pub handle_send : IsSend (handle.the_row J O P G)
  handle_send = search (sendable, handle_in_send) depth 10

  cells_send : IsSend (spare.the_field (outcome.the_row J O) (wanted.the_row J) link).row
  cells_send = struct_send (struct.shape (spare.the_type (outcome.the_row J O) (wanted.the_row J) link))
      (search (sendable, std.crosses, unused_send (outcome.the_row J O) (wanted.the_row J) link outcome_send) depth 20)

  state_send : IsSend (state.the_field J O P G).row
  state_send = struct_send (struct.shape (state.the_type J O P G))
      (search (sendable, std.crosses) depth 10, (std.Deque-send (spawned.the_row J O P G) spawned_send, (cells_send, (chooser.the_send, search (sendable, std.crosses, arbiter.the_send) depth 40))))

  module _ (S : RattleType) (seat : IsSend S) where
    worker_in_send : IsSend (worker_inside.the_row S J O P G)
    worker_in_send = fields_send (worker_inside.the_type S J O P G)
        (search (sendable, std.crosses, seat) depth 10, (state_send, search (sendable, std.crosses, backoff.the_send) depth 20))

    pub worker_send : IsSend (worker.the_row S J O P G)
    worker_send = search (sendable, worker_in_send) depth 10

    pub share_send : IsSend (share.the_row S J O P G)
    share_send = fields_send (share.the_type S J O P G) (worker_send, (search (sendable, std.crosses, s) depth 20, (search (sendable, std.crosses, handle_send) depth 20, tt)))

-- what the kernel threads of a run have in common may be looked at by all, if its table may
module _ (κ : NamedLft) (C Job S : RattleType) (G : seats.Ghosts C.Denot S.Denot) (table : IsSync C) where
  pub crew_sync : IsSync (crew.the_row κ C Job S G)
  crew_sync = fields_sync (crew.the_type κ C Job S G)
      (shr_sync κ.mir κ.lft (pool.the_row C S G) (pool_own.the_sync C S G table), (search (sendable, std.crosses) depth 20, (search (sendable, std.crosses) depth 20, tt)))
