-- What the two functions between a handle and a static library's own struct cite.
pub use Rattle.std.proofs.Common.{◌≡◌, List, [], ◌∷◌, ◌++◌, refl, sym, subst}
pub use mir.Val.{Val}
pub use base.Logic.{SProp, ent, emp, id⊢}
pub use prog.Wp.{WpFn}
pub use types.Kit.{‵, raw, ◌⊛◌, ◌$◌, ◌∵◌, !, qed, by, move, keep, split, fsplit, fjoin, use0, suffices}
pub use types.Run.{stop, fld, of_opd, no_more, and_then, returns, enter}
pub use types.ByLocal.{alloc_all, pass_all, free_all, look_at, get, get_in, sets}
pub use types.Part.{agg, sub, whole}
pub use contract.Monad.{fact, fact_i}
pub use contract.Running.{tables}
pub use denote.Exit.{yes}
pub use denote.RattleType.{owns}
pub use denote.Signature.{types_at, plain}
pub use denote.RawPtr.{ptr_val}
pub use denote.Steps.{nothing}
pub use denote.Triple.Entry.{alive}
pub use denote.Triple.Walked.{Stays, stay_dropped, walk_of, Goes-dropped}
pub use Rattle.core.proofs.atomic.Steps.{Ptr-Good}
pub use Rattle.std.proofs.raw_atomic.Walks.{proved_at, leaves}
pub use Rattle.arachne_handle.proofs.Values.{both, Handle, pair_good, fields_out, fields_in}
