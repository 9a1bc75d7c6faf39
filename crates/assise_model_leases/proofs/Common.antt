-- What the proofs of this crate name most.
pub use Rattle.std.proofs.Common.{◌≡◌, ℕ, ◌≤◌, ◌⊎◌, inl, inr, Bool, true, Option, Some, refl, ap, sym, ◌∙◌, subst, arith, ◌≢◌, ◌==◌, List, eq-eqb, ne_eqb, ◌+◌}
pub use Rattle.std.proofs.Common.{◌-◌, false, [], ◌∷◌, ◌++◌, take, drop, length, zero, suc, not, ◌&&◌, ◌||◌, None, cond, if◌then◌else◌}
pub use Rattle.std.proofs.lemmas.Bool.{both_ways, cases_eq, cases_Bool, and_right, false_from_ne_true, and_from, and_parts, eqb-true, cases_lt}
pub use Rattle.std.specs.List.{list_any}
pub use Rattle.assise_inode_table.specs.Effects.{touched, contains}
pub use Rattle.assise_inode_table.specs.Traces.{NumberedCall}
pub use Rattle.assise_lease_table.proofs.Shared.Elements.{among_map, map_among, any_among, among_any, none_among, both_true, not_true}
pub use Rattle.assise_lease_table.specs.LeaseMaps.{SameLeases, Becomes}
pub use Rattle.assise_lease_table.specs.Leases.{lease_of, revoke, revoked_if, is_own, compatible, Among, new_lease, is_rival, serves, without_holder}
pub use Rattle.assise_lease_table.specs.Modes.{against, strong}
pub use Rattle.assise_lease_table.specs.declared.lease.Lease.{Lease}
pub use Rattle.assise_lease_tree.proofs.Shared.ClientHomes.{lease_among, weaker_against, strong_raised, home_of}
pub use Rattle.assise_lease_tree.proofs.Shared.Lookups.{with_own, with_other, without_own, without_other}
pub use Rattle.assise_lease_tree.proofs.Shared.Steps.{asked_lawful, revoked_lawful, nobody_in_way}
pub use Rattle.assise_lease_tree.proofs.Shared.Steps.{granted_lawful, released_lawful, freed_lawful, enrolled_lawful}
pub use Rattle.assise_lease_tree.specs.Levels.{is_revoked, Homes, Under, AskedBelow, is_node, lives, carries, raised_mode, is_free, nodes_granted, nodes_asked}
pub use Rattle.assise_lease_tree.specs.Levels.{nodes_released}
unfoldable pub use Rattle.assise_lease_tree.specs.Levels.{in_way, clients_granted}
pub use Rattle.assise_lease_tree.specs.TwoLevels.{TwoLevels, LevelsInvariant, IsGranted, IsAskedFor, IsIdle}
pub use Rattle.assise_model_leases.specs.Handing.{Asks, is_newly_revoked, asked_goal, CrashesWith, FailsWithLeases, Grants, ReleasesReady, FreesNode}
pub use Rattle.assise_model_leases.specs.Handing.{HoldsAsLeased, CallsUnder, OpensAt, CoalescesUnder}
pub use Rattle.assise_model_leases.specs.Leases.{Leases, client_lease, IsRevokedLease, CoversFrom, AreLeases, is_held, is_written}
unfoldable pub use Rattle.assise_model_leases.specs.Leases.{client_records_from}
pub use Rattle.assise_model_world.proofs.Shared.Logs.{drop-of_drop, contains-drop, contains-take, length-both, of_fresh}
pub use Rattle.assise_model_world.proofs.Shared.WorldObserved.{part-whole, end-else, least_of-end, least_of-above}
pub use Rattle.assise_model_world.specs.ClientSteps.{IsModeFree, Acquires, is_for_writing, Releases}
pub use Rattle.assise_model_world.specs.Invariant.{WorldInvariant}
unfoldable pub use Rattle.assise_model_world.specs.Invariant.{AreDropped}
pub use Rattle.assise_model_world.specs.NodeSteps.{Drops}
unfoldable pub use Rattle.assise_model_world.specs.NodeSteps.{kept_at_failure}
pub use Rattle.assise_model_world.specs.World.{World, Full, IsClient, step_at_home}
unfoldable pub use Rattle.assise_model_world.specs.World.{end_of_log, digested_by_all, records_between, received_by_all}
pub use Rattle.assise_names.specs.declared.mode.Mode.{Mode}
pub use Rattle.assise_names.specs.declared.mode.Mode.TheVariants.{Read, Write}
pub use Rattle.assise_record.specs.LogRecord.{LogRecord}
pub use Rattle.assise_record.specs.Records.{all_effects, record_of}
