-- What the proofs of this crate name most.
pub use Rattle.std.proofs.Common.{◌≡◌, List, None, [], ◌∷◌, ◌++◌, refl, sym, ap, ◌∙◌, subst}
pub use Rattle.std.proofs.raw_atomic.Walks.{proved_at, leaves}
pub use Rattle.assise_desk.specs.DeskAnswers.{cluster_at, IsServedAt}
pub use Rattle.assise_desk.specs.declared.caller_desk.CallerDesk.{CallerDesk as Desk}
pub use base.Fraction.{full_share}
pub use base.Logic.{SProp, emp, sep, never, id⊢, ex, ex_i}
pub use borrow.Table.OneValue.{part_in, part_out}
pub use contract.Monad.{fact, fact_i}
pub use contract.Running.{tables}
pub use denote.Builtin.{RawPtr}
pub use denote.Exit.{yes}
pub use denote.Laws.{Is, shows, Typed}
pub use denote.Memory.{part_at, lone}
pub use denote.RattleType.{RattleType, owns}
pub use denote.RawPtr.{Ptr, ptr_val, lies_at, room_at, in_a_block}
pub use denote.Signature.{types_at, plain}
pub use denote.Steps.{nothing, heard, peeks, only}
pub use denote.Triple.Call.{calls_at}
pub use denote.Triple.Clauses.{Lasts, lasts}
pub use denote.Triple.Entry.{alive}
pub use denote.Triple.Spec.{triple_of}
pub use denote.Triple.Table.{framed}
pub use denote.Triple.Walked.{Stays, stay_dropped, walk_of, Goes-dropped}
pub use mir.Val.{Val, vptr, vunit}
pub use prog.Wp.{WpFn}
pub use types.ByLocal.{alloc_all, pass_all, free_all, look_at, get, through, sets, lands_as, env, sets_last}
pub use types.Kit.{‵, raw, ◌⊛◌, some, later, prop, at_ret, ◌$◌, ◌∵◌, !, qed, by, move, keep, drop, use0, use1, use2, split, join, fsplit, fjoin, feq_i, pick}
pub use types.Kit.{await, rewrite, regoal}
pub use types.Logic.{sem}
pub use types.Run.{stop, unit_lit, init, of_opd, no_more, first, blocks, assigns_last, exec, returns, enter, load, look, store, and_then}
