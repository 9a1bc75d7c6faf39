-- What the proofs of this crate name most.
pub use Rattle.std.proofs.Common.{◌≡◌, ℕ, zero, suc, ◌+◌, ◌<◌, Bool, true, false, cond, List, [], ◌∷◌, ◌++◌, length, take, get_or, Option, inl, inr, filter}
pub use Rattle.std.proofs.Common.{sym, refl, ap, subst, ◌∙◌, arith, append-nil, ◌≢◌, ◌==◌, not, ◌&&◌, map, ne_eqb, ◌⊎◌, true≢false, drop, set, eq-eqb, None}
pub use Rattle.std.proofs.Common.{Some, nat_eq, ◌≤◌, is_some, ◌||◌, rules}
pub use Rattle.std.proofs.lemmas.Bool.{cond_both, false_from_ne_true, and_parts, and_from, and_left, not-true, not_from_false, eqb-true, eqb-false, cases_Bool}
pub use Rattle.std.proofs.lemmas.Bool.{or_left, or_right, or_cases, or_parts, and_right}
pub use Rattle.std.proofs.lemmas.List.{map_push, get_or_default}
pub use Rattle.std.specs.List.{list_all, list_any, AllByRecursion}
unfoldable pub use Rattle.std.specs.List.{IsDistinct}
pub use Rattle.std.specs.Map.{lookup, keys_of, values_of}
pub use Rattle.assise_lease_table.specs.Answers.{IsAnswer, AnswerAll}
pub use Rattle.assise_lease_table.specs.Cuts.{is_of, is_asked, are_once, are_uncut, asked_at}
pub use Rattle.assise_lease_table.specs.LeaseMaps.{Becomes, SameLeases, HasPlace, leases_at}
pub use Rattle.assise_lease_table.specs.Leases.{Among, is_to_ask, holders, is_own_unasked, is_rival, stand_together, compatible, IsFree, raise, raise_unopposed}
pub use Rattle.assise_lease_table.specs.Leases.{raised_if, without_holder, with_lease, leave_out, new_lease, revoke, revoked_if, is_own, lease_of}
pub use Rattle.assise_lease_table.specs.Lists.{leases_in, is_none_or, is_any, HasPlaceIn}
pub use Rattle.assise_lease_table.specs.declared.lease.Asked.{Asked}
pub use Rattle.assise_lease_table.specs.declared.lease.Lease.{Lease}
pub use Rattle.assise_names.specs.declared.mode.Mode.{Mode}
pub use Rattle.assise_names.specs.declared.mode.Mode.TheVariants.{Read, Write}
pub use Rattle.indexmap.specs.IndexMap.{get}
pub use Rattle.smallvec.specs.SmallVec.{SmallVec, small_vec_len, HasRoomFor}
