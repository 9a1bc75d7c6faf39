-- What the proofs of this crate name most.
pub use Rattle.std.proofs.Common.{◌≡◌, ◌≢◌, ℕ, ◌==◌, ◌&&◌, ◌||◌, Bool, true, false, cond, not, List, [], ◌∷◌, Option, Some, None, ◌⊎◌, inl, inr, sym, refl, ap}
pub use Rattle.std.proofs.Common.{subst, ◌∙◌, is_some, eq-eqb, true≢false, ◌++◌, nat_eq, rules, arith, drop}
pub use Rattle.std.proofs.lemmas.Bool.{cases_Bool, cond_both, and_parts, and_from, or_right, not-true, not_from_false, ne_eqb, eqb-false, eqb-true}
pub use Rattle.std.proofs.lemmas.Bool.{false_from_ne_true, or_left, or_parts}
pub use Rattle.std.specs.List.{list_any, list_all}
pub use Rattle.std.specs.Prelude.{Result, Ok, Err, IsOk, OnOk, OnErr, IfOk}
pub use Rattle.assise_lease_table.proofs.Shared.Compatibles.{raise_unopposed_compatible, one_lease, not_against}
pub use Rattle.assise_lease_table.proofs.Shared.Compatibles.{stronger_against, with_compatible, filter_compatible}
pub use Rattle.assise_lease_table.proofs.Shared.Elements.{not_both, any_among, among_any, filter_among}
pub use Rattle.assise_lease_table.proofs.Shared.Elements.{among_filter, map_among, among_map, none_among, among_prefix}
pub use Rattle.assise_lease_table.proofs.Shared.Elements.{among_last, among_push}
pub use Rattle.assise_lease_table.proofs.Shared.LeaseChanges.{leave_out_fits, revoke_fits}
pub use Rattle.assise_lease_table.proofs.Shared.Retained.{kept_after, all_held, nothing_left, none_at, some_at, middle, lists_after, held_after, revoke_any}
pub use Rattle.assise_lease_table.proofs.Shared.Unasked.{others, not_wanted, all_listed, once_in, unasked_in, uncut_in, which_in}
pub use Rattle.assise_lease_table.specs.Cuts.{is_unasked, is_asked, are_once, are_uncut}
pub use Rattle.assise_lease_table.specs.LeaseMaps.{Becomes, SameLeases}
pub use Rattle.assise_lease_table.specs.Leases.{Among, lease_of, is_own_unasked, is_rival, revoked_if, revoke, leave_out, raise, raise_unopposed, raised_if}
pub use Rattle.assise_lease_table.specs.Leases.{compatible, without_holder, serves, new_lease, IsFree, stand_together, is_own, is_to_ask, with_lease}
pub use Rattle.assise_lease_table.specs.Lists.{is_any}
pub use Rattle.assise_lease_table.specs.Modes.{against, strong, stronger}
pub use Rattle.assise_lease_table.specs.declared.lease.Lease.{Lease}
pub use Rattle.assise_lease_tree.specs.BothLevels.{is_in_use}
pub use Rattle.assise_lease_tree.specs.LeaseLevels.{clients_at, nodes_at}
pub use Rattle.assise_lease_tree.specs.Levels.{Homes, lives, is_busy, carries, Under, AskedBelow, is_revoked, is_free, gives_up, rivals_asked, nodes_released}
pub use Rattle.assise_lease_tree.specs.Levels.{is_node, raised_mode}
unfoldable pub use Rattle.assise_lease_tree.specs.Levels.{in_way, nodes_asked, clients_granted, nodes_granted}
pub use Rattle.assise_lease_tree.specs.Trees.{levels_of, stored_by}
pub use Rattle.assise_lease_tree.specs.TwoLevels.{TwoLevels, LevelsInvariant, is_free_for, IsGranted, IsAskedFor, SameLevels, nobody, EnrolsAt, ReleasesLease}
pub use Rattle.assise_lease_tree.specs.TwoLevels.{IsRevoked, IsIdle, IsFreed}
pub use Rattle.assise_lease_tree.specs.declared.both_levels.BothLevels.{BothLevels}
pub use Rattle.assise_names.specs.declared.mode.Mode.{Mode}
pub use Rattle.indexmap.specs.IndexMap.{get, Updates}
pub use mathlib.Core.Logic.{dite}
pub use native.Mathlib.Decide.{ℕ_discrete}
