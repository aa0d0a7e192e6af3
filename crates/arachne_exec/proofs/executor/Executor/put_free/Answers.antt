use Rattle.atomic_table.specs.Table.{rest}
use Rattle.arachne_exec.specs.Changes.{freeing}
use Rattle.arachne_exec.proofs.{Told.told-view, Allowed.free-asks}
use Rattle.arachne_exec.proofs.executor.Executor.put_free.Goals as goal

pub fetch_or-requires : goal.fetch_or-requires
fetch_or-requires c = free-asks _ _ _ c.self.invariant _ c.self.view_is _ _ _ c.seat.invariant _ c.seat.view_is c.requires.own c.args.place c.requires.place _ c.requires.newest _ c.free_word.ensures c.bit.ensures

pub returns : goal.returns
returns c = record {
  seat = told-view c.seat.inside.seat.table_id c.fetch_or.new.seat.table_id c.seat.inside.seat.me c.fetch_or.new.seat.me c.args.seat.now c.seat.view_is c.fetch_or.ensures.0
      freeing rest c.fetch_or.ensures.2.1;
}
