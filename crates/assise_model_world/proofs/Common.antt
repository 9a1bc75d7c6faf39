-- What the proofs of this crate name most.
pub use Rattle.std.proofs.Common.{◌≡◌, ℕ, ◌<◌, ◌≤◌, ◌⊎◌, inl, inr, true, false, sym, ◌∙◌, arith, suc, ◌+◌, ◌-◌, ◌≢◌, Bool, List, [], ◌∷◌, ◌++◌, if◌then◌else◌}
pub use Rattle.std.proofs.Common.{Option, Some, None, IsSome, refl, ap, subst, ◌||◌, nat_lt, nat_le, take, length, zero, drop, length-drop, min, not, ◌&&◌}
pub use Rattle.std.proofs.Common.{◌==◌, length-take, filter, max}
pub use Rattle.std.proofs.Math.Seq.{take-add, drop-append-add}
pub use Rattle.std.proofs.lemmas.Bool.{cases_Bool, ltb-true, ltb-false, both_ways, le-ltb, leb-true, lt-ltb, le-leb, ne_eqb, cases_eq, or_left, or_cases}
pub use Rattle.std.proofs.lemmas.Bool.{or_parts, false_from_ne_true, cases_lt, or_right, and_from, and_right, eq-eqb, eqb-true, and_parts}
pub use Rattle.std.proofs.lemmas.Bool.Decides.{nat_tests}
pub use Rattle.std.proofs.lemmas.List.{append-nil, take_all, take-append-le, take-take, drop-take}
pub use Rattle.std.specs.List.{list_any}
pub use Rattle.assise_inode_table.proofs.Shared.AtOpening.{root_alone, opening_spells}
pub use Rattle.assise_inode_table.proofs.Shared.CallSteps.{step_replies, step_spells}
pub use Rattle.assise_inode_table.proofs.Shared.EffectValues.{value_after-append, contains-both, contains-append, untouched}
pub use Rattle.assise_inode_table.proofs.Shared.Lateness.{in_window, late_client}
pub use Rattle.assise_inode_table.proofs.Shared.PairwiseLists.{each-map, each-both, each-always}
pub use Rattle.assise_inode_table.specs.Contents.{Content, Values}
pub use Rattle.assise_inode_table.specs.Effects.{touched, contains, value_after, after, makes, SameNetEffect}
pub use Rattle.assise_inode_table.specs.Interaction.{Step, AgreeOn}
pub use Rattle.assise_inode_table.specs.Late.{late_value, raised_at}
pub use Rattle.assise_inode_table.specs.Spelled.{Spells}
pub use Rattle.assise_inode_table.specs.Traces.{NumberedCall, Each, below, window, trace, step_of, values_after_calls, AllMakeNew, exchanges, ops}
pub use Rattle.assise_inode_table.specs.Traces.{NumbersAscend, Pairs}
pub use Rattle.assise_inode_table.specs.Unseen.{Clear, Unseen}
pub use Rattle.assise_model_world.specs.ClientSteps.{MakesCall, Opens, RaisesGoals, Crashes, is_for_writing, IsModeFree, Acquires, Releases}
pub use Rattle.assise_model_world.specs.Coalescing.{Coalesces}
pub use Rattle.assise_model_world.specs.Invariant.{CallsInvariant, WorldInvariant, IsMadeBy, IsMade, StandFor, IsOrdered}
unfoldable pub use Rattle.assise_model_world.specs.Invariant.{AreDropped, Stands, Counted, Numbered, AreMade, Guarded, Compatible, Areas, WritesAreHeld}
pub use Rattle.assise_model_world.specs.NodeSteps.{Rests, Delivers, Digests, Drops, Fails, Joins}
unfoldable pub use Rattle.assise_model_world.specs.NodeSteps.{kept_at_failure}
pub use Rattle.assise_model_world.specs.Runs.{NoneFalls, Moves, opens, makes_call, raises_goals, crashes, acquires, releases, delivers, digests, drops}
pub use Rattle.assise_model_world.specs.Runs.{coalesces, fails, joins, rests, Runs, last, begun}
unfoldable pub use Rattle.assise_model_world.specs.Runs.{StayReplicated}
pub use Rattle.assise_model_world.specs.Staying.{KeepsLeases, SameNode, SameLogs, SameNodes}
pub use Rattle.assise_model_world.specs.World.{World, Full, opening_values, IsClient, step_at_home, least_of, call_makes_inode, all_undigested_records}
unfoldable pub use Rattle.assise_model_world.specs.World.{received_by_all, records_between, call_at, first_undigested_at, first_unreplicated, steps}
unfoldable pub use Rattle.assise_model_world.specs.World.{digested_by_all, calls_replicated, end_of_log, first_undigested, now, tree, value_below}
unfoldable pub use Rattle.assise_model_world.specs.World.{undigested_below, alone_at, undigested_records, view}
pub use Rattle.assise_names.specs.declared.mode.Mode.{Mode}
pub use Rattle.assise_record.proofs.Shared.Records.{all_effects-append, all_effects-one, ascending-append}
pub use Rattle.assise_record.specs.LogRecord.{LogRecord}
pub use Rattle.assise_record.specs.Records.{all_effects, has_some, record_of, Ascending, call_of}
pub use Rattle.assise_record.specs.declared.effect.Effect.{Effect}
pub use Rattle.assise_seq_tree.specs.Answer.{answer}
pub use Rattle.assise_seq_tree.specs.Runs.{AreAnswered, tree_after_calls}
pub use Rattle.assise_seq_tree.specs.Tree.{opening as opening_tree, Tree}
