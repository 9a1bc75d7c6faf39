-- What the proofs of this crate name most.
pub use Rattle.std.proofs.Common.{◌≡◌, ℕ, ◌-◌, ◌≤◌, List, [], ◌∷◌, length, slice_index_or, Result, Ok, Err, Bor, ap, sym, ◌∙◌, arith, ◌++◌, Option, Some, None}
pub use Rattle.std.proofs.Common.{IfOk, refl, subst, inl, inr, append_assoc, true, false, if◌then◌else◌, nat_le, ◌==◌, Bool, ◌||◌, ◌&&◌, MatchResult, ◌⊎◌, ◌+◌}
pub use Rattle.std.proofs.Common.{◌<◌, drop, option_copied, take, length-append, take_all, rules}
pub use Rattle.std.proofs.Math.ListN.{drop_of_length-le}
pub use Rattle.std.proofs.lemmas.Bool.{cases_Bool, ne_eqb, and_from}
pub use Rattle.std.proofs.lemmas.List.{append-nil, get_or_default, drop_more, take-append-le}
pub use Rattle.assise_inode_plan.specs.Leased.{LeaseView, for_reading, first_missing, NotesAVisit, AreLeased, for_writing, wants}
pub use Rattle.assise_inode_plan.specs.Planning.{PlanAnswers, effects_planned, plan_lacking, visited_plan_of, ready, shown, changed_plan_of, missing, plan_of}
pub use Rattle.assise_inode_plan.specs.Planning.{Plan}
pub use Rattle.assise_inode_plan.specs.Walking.{plan_from, plan_stopped, EndsAt}
pub use Rattle.assise_inode_plan.specs.declared.plan.Planned.{Planned}
pub use Rattle.assise_inode_plan.specs.declared.walk.Entry.{Entry}
pub use Rattle.assise_inode_plan.specs.declared.walk.Stop.{Stop}
pub use Rattle.assise_inode_plan.specs.declared.walk.Stop.TheVariants.{Fault}
pub use Rattle.assise_inode_table.proofs.Shared.TableView.{on_err}
pub use Rattle.assise_inode_table.specs.Calls.{then_or_error, walk, as_links, room_among, make_call, interaction, step, as_regular, write_effects, write_call}
pub use Rattle.assise_inode_table.specs.Calls.{truncate_call, stat_reply, read_call, list_call, stat_call, walk_to_entry, without_links, unlink_call}
pub use Rattle.assise_inode_table.specs.Calls.{rmdir_call, content_may_replace, move_effects, replace_target, receive, move_to, rename_call, walk_from}
pub use Rattle.assise_inode_table.specs.Contents.{Content, Links, Values, values}
pub use Rattle.assise_inode_table.specs.Effects.{touched}
pub use Rattle.assise_inode_table.specs.Interaction.{Interaction, finish, visit, visits_of, reply_of, effects_of, Step, step_by, AgreeOn}
pub use Rattle.assise_inode_table.specs.Reach.{link_of}
pub use Rattle.assise_inode_table.specs.Whole.{CanBeMadeWhole}
pub use Rattle.assise_names.specs.Path.{is_proper_prefix, same_path}
pub use Rattle.assise_names.specs.declared.call.Op.{Op}
pub use Rattle.assise_names.specs.declared.mode.Mode.{Mode}
pub use Rattle.assise_names.specs.declared.mode.Mode.TheVariants.{Read, Write}
pub use Rattle.assise_names.specs.declared.reply.Reply.{Reply}
pub use Rattle.assise_names.specs.declared.reply.Reply.TheVariants.{Done, Error, Bytes, Names}
pub use Rattle.assise_names.specs.declared.reply.TreeError.{TreeError}
pub use Rattle.assise_names.specs.declared.reply.TreeError.TheVariants.{Exists, TooBig, IsDir, Invalid, NotEmpty, NoEnt}
pub use Rattle.assise_record.specs.declared.effect.Effect.{Effect}
pub use Rattle.assise_record.specs.declared.effect.Effect.TheVariants.{Link, SetLen, Unlink, Free}
pub use Rattle.assise_seq_tree.proofs.Shared.Checks.{same_is}
pub use Rattle.assise_seq_tree.specs.Answer.{parent_of, answer, last_name}
pub use Rattle.assise_seq_tree.specs.Contents.{is_within, bytes_from}
pub use Rattle.assise_seq_tree.specs.Tree.{Tree}
