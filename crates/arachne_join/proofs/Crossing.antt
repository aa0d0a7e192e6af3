-- The types of a block that may cross threads: all, if the value may.
use denote.{RattleType.RattleType, Enum.Enum.Enum, Struct.Struct.Struct, Builtin.unit}
use denote.Param.Send.{IsSend, IsSync, AllSend, AllSync, sendable, recorded_send, recorded_sync, enum_send, struct_send, struct_sync}
use denote.Enum.Declared as enum
use denote.Struct.Declared as struct
use Rattle.std.proofs.Crossing as std
use Rattle.atomic_table.proofs.owned.Table.TheSendSync as table
use Rattle.atomic_table.proofs.shared.Seat.TheSendSync as seat
use Rattle.std.specs.contracts.alloc.Global as heap
use Rattle.std.specs.contracts.sync.Arc as Arc
use Rattle.std.specs.contracts.impls.GlobalAllocator.TheImpl as heap_impl
use Rattle.arachne_join.specs.contracts.block_steps.BlockRule as rule
use Rattle.arachne_join.specs.contracts.block_steps.BlockRuleTableRuleContentPartViewUnit.TheImpl as rule_impl
use Rattle.arachne_join.specs.contracts.part.Content as content
use Rattle.arachne_join.specs.contracts.part.PartView as view
use Rattle.arachne_join.specs.contracts.block.CellBlock as block
use Rattle.arachne_join.specs.contracts.block.CellBlock.TheInside as block_inside
use Rattle.arachne_join.specs.contracts.ends.UnusedCell as unused
use Rattle.arachne_join.specs.contracts.ends.UnusedCell.TheInside as unused_inside
use Rattle.arachne_join.specs.contracts.ends.Sender as sender
use Rattle.arachne_join.specs.contracts.ends.Sender.TheInside as sender_inside
use Rattle.arachne_join.specs.contracts.ends.Receiver as receiver
use Rattle.arachne_join.specs.contracts.ends.Receiver.TheInside as receiver_inside
use Rattle.arachne_join.specs.declared.fits.Fits as fits

content_send : (T K : RattleType) → IsSend T → IsSend (content.the_row T K)
content_send T K s = recorded_send (Enum (enum.shape (content.the_type T K))) ((content.the_type T K).D) ((content.the_type T K).to) ((content.the_type T K).to_one)
    (enum_send (enum.shape (content.the_type T K)) (search (sendable, std.crosses, s) depth 20))

-- a struct may cross if its fields may
fields_send : (D : struct.Declared) → AllSend (struct.fields D) → IsSend (struct.row D)
fields_send D all = recorded_send (Struct (struct.shape D)) D.D D.to D.to_one (struct_send (struct.shape D) all)

fields_sync : (D : struct.Declared) → AllSync (struct.fields D) → IsSync (struct.row D)
fields_sync D all = recorded_sync (Struct (struct.shape D)) D.D D.to D.to_one (struct_sync (struct.shape D) all)

module _ (T K : RattleType) (F : fits.Ghosts T.Denot K.Denot) (s : IsSend T) where
  block_in_send : IsSend (block_inside.the_row T K F)
  block_in_send = fields_send (block_inside.the_type T K F) (table.the_field_send (content.the_row T K) (view.the_row K) unit rule.the_row heap.the_row (rule_impl.ghosts T K F rule_impl.no_dict) heap_impl.ghosts (content_send T K s) std.send std.frees, tt)

  block_in_sync : IsSync (block_inside.the_row T K F)
  block_in_sync = fields_sync (block_inside.the_type T K F) (table.the_field_sync (content.the_row T K) (view.the_row K) unit rule.the_row heap.the_row (rule_impl.ghosts T K F rule_impl.no_dict) heap_impl.ghosts (content_send T K s) std.send std.sync std.frees, tt)

  block_send : IsSend (block.the_row T K F)
  block_send = search (sendable, block_in_send) depth 10

  block_sync : IsSync (block.the_row T K F)
  block_sync = search (sendable, block_in_sync) depth 10

  shared_send : IsSend (Arc.the_row (block.the_row T K F) heap.the_row heap_impl.ghosts)
  shared_send = std.Arc-send (block.the_row T K F) block_send block_sync

  unused_in_send : IsSend (unused_inside.the_row T K F)
  unused_in_send = fields_send (unused_inside.the_type T K F) (shared_send, search (sendable, std.crosses, seat.the_send, content_send T K s) depth 20)

  pub unused_send : IsSend (unused.the_row T K F)
  unused_send = search (sendable, unused_in_send) depth 10

  sender_in_send : IsSend (sender_inside.the_row T K F)
  sender_in_send = fields_send (sender_inside.the_type T K F) (shared_send, search (sendable, std.crosses, seat.the_send, content_send T K s) depth 20)

  pub sender_send : IsSend (sender.the_row T K F)
  sender_send = search (sendable, sender_in_send) depth 10

  receiver_in_send : IsSend (receiver_inside.the_row T K F)
  receiver_in_send = fields_send (receiver_inside.the_type T K F) (shared_send, search (sendable, std.crosses, seat.the_send, content_send T K s) depth 20)

  pub receiver_send : IsSend (receiver.the_row T K F)
  receiver_send = search (sendable, receiver_in_send) depth 10
