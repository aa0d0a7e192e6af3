-- The ownership of a pointer that C holds.
use base.Fml.{Fml, feq}
use denote.{RattleType.RattleType, RawPtr.{Ptr, null_ptr}}
use Rattle.std.specs.declared.{alloc.Global.Global, option.Option.Option, option.Option.TheVariants.{None, Some}}
use Rattle.std.specs.contracts.impls.GlobalAllocator.TheImpl.{ghosts}
use Rattle.std_alloc.specs.Box.Ownership.{box_owns}

module _ (R : RattleType) (alloc : Global) (at : Ptr) where
  -- a pointer that holds nothing is null; any other owns a value of type R, and the right to free its block
  abbrev pub kept : Option R.Denot → Fml
  kept None = feq Ptr at null_ptr
  kept (Some x) = box_owns (ghosts.dealloc_token alloc) R at x
