-- What a handle keeps says the same to every thread.
use mathlib.Core.List.{List, [], ◌∷◌}
use mir.{Raw.raw, Val.Val}
use base.{Fraction.full_share, Shift.Keyless}
use denote.{RattleType.RattleType, Builtin.RawPtr, Struct.Struct.Struct, Memory.lone, RawPtr.{Ptr, block_ptr, null_ptr}}
use denote.Param.Send.{IsSend, part_keyless}
use Rattle.std.specs.declared.{alloc.Global.Global, option.Option.Option, option.Option.TheVariants.{None, Some}}
use Rattle.std.specs.contracts.alloc.Global.{the_field}
use Rattle.std.proofs.Crossing.{frees}
use Rattle.std.proofs.alloc.Global.TheSendSync as heap
use Rattle.arachne_handle.specs.Kept.{kept}

pub kept_keyless : (R : RattleType) → IsSend R → (a : Global) (p : Ptr) (k : Option R.Denot) → Keyless (kept R a p k)
kept_keyless R s a p None = tt
kept_keyless R s a (block_ptr b o) (Some x) = (part_keyless R s full_share x b o, frees.frees a (raw (lone R.mir)) (block_ptr b o))
kept_keyless R s a null_ptr (Some x) = (tt, frees.frees a (raw (lone R.mir)) null_ptr)

-- the fields: a pointer and the heap's allocator
abbrev Fields : RattleType
Fields = Struct (record { name = []; args = []; types = []; fields = RawPtr ∷ the_field.row ∷ [] })

pub fields_keyless : (d : Fields.Denot) (vs : List Val) → Keyless (Fields.own_val d vs)
fields_keyless d vs = λ vss. (tt, (tt, (heap.the_field_send.owned d.1.0 vss.1.0, tt)))
