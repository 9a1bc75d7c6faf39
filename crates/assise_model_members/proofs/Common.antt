-- What the proofs of this crate name most.
pub use Rattle.std.proofs.Common.{◌≡◌, ◌≢◌, inl, inr, ℕ, ◌<◌, true, false, Some, sym, ap, ◌∙◌, subst, arith, cond, Option, None, [], ◌∷◌, ◌++◌, refl, eqb-true}
pub use Rattle.std.proofs.Common.{not, Bool, ◌⊎◌, zero, suc, ◌+◌, ◌-◌, List, map, length, eq-eqb, ◌≤◌, take, drop}
pub use Rattle.std.proofs.lemmas.Bool.{cases_eq, cases_Bool, or_parts, both_ways, ne_eqb, or_left, or_right, cond_both, false_from_ne_true, or_cases}
pub use Rattle.std.proofs.lemmas.Bool.{true_from_ne_false, cases_lt}
pub use Rattle.std.proofs.lemmas.Option.{none-some, same_Some, slice_get-map}
pub use Rattle.std.specs.Cmp.{nat_cmp_total, unsigned_tied}
pub use Rattle.std.specs.FinSet.{contains-union, empty_of_len, contains-empty, contains-remove, len-empty, contains-from_list_nat, contains-items, same_set}
pub use Rattle.std.specs.FinSet.{nat_cmp-IsAntisymmetric}
pub use Rattle.std.specs.List.{list_all, list_any, slice_get, slice_set, slice_index_or}
pub use Rattle.std.specs.Option.{option_map}
pub use Rattle.std.specs.Ordering.{nat_cmp, eq_by_cmp}
pub use Rattle.std.specs.Prelude.{◌&&◌, ◌==◌, filter, ◌↔◌, if◌then◌else◌}
pub use Rattle.assise_inode_table.specs.Effects.{contains, touched}
pub use Rattle.assise_manager.proofs.Shared.Lawful.{noted_lawful, all_full_lawful, donor_full, joined_lawful}
pub use Rattle.assise_manager.proofs.Shared.Lawful.{failed_lawful, back_lawful, copied_lawful, stale_written}
pub use Rattle.assise_manager.proofs.Shared.Lawful.{down_listed, return_listed, list_there, with_node_full}
pub use Rattle.assise_manager.proofs.Shared.Lawful.{Within, union_right, later_within, length_with_written}
pub use Rattle.assise_manager.proofs.Shared.Lawful.{noted_keeps, noted_there}
pub use Rattle.assise_manager.specs.Changes.{fulls, all_full, noted, stale_again, donor_of, joined, join_fault_of, with_node, failed_as, failure_fault_of}
pub use Rattle.assise_manager.specs.Changes.{back_as, copied_as, filling_fault_of, stale_of, refilled_from, is_returning, failure_fault, return_fault_of}
pub use Rattle.assise_manager.specs.Changes.{with_epoch, with_new_donor, failed, back, with_copied, return_fault, join_fault, IsLowest, with_written}
pub use Rattle.assise_manager.specs.Membership.{Membership, written_since, IsMembership, lowest_full, first_listed, all_inodes}
pub use Rattle.assise_manager.specs.Standings.{standing_of, full_nodes, Standing, with_standing, full_from, is_full}
pub use Rattle.assise_manager.specs.Standings.Standing.{full, returning, down}
pub use Rattle.assise_model_members.specs.Members.{since_of, AreMembers}
pub use Rattle.assise_model_members.specs.Returns.{OtherAreasStay, KeepsAreas, DigestsNoted, Rejoins, FailsAgain, BeginsReturn, Refills, FailsWithMembers}
pub use Rattle.assise_model_world.proofs.Shared.Logs.{contains-take, take-of_take, contains-drop}
pub use Rattle.assise_model_world.specs.NodeSteps.{Joins, Fails, Rests}
unfoldable pub use Rattle.assise_model_world.specs.NodeSteps.{kept_at_failure}
pub use Rattle.assise_model_world.specs.World.{World, Full, received_by_all, undigested_below}
unfoldable pub use Rattle.assise_model_world.specs.World.{records_between}
pub use Rattle.assise_names.specs.declared.refusal.Refusal.TheVariants.{BadNode, Busy, WrongPhase, LastNode}
pub use Rattle.assise_record.specs.Records.{all_effects}
