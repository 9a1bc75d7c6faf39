-- What the proofs of this crate name most.
pub use Rattle.std.proofs.Common.{◌≡◌, ◌≤◌, arith, inl, inr, ℕ, ℤ, List, Option, Some, Result, refl, sym, ap, subst, ◌∙◌, ◌+◌, ◌*◌, ◌<◌, [], ◌∷◌, ◌++◌, length}
pub use Rattle.std.proofs.Common.{take, None, IfSome, MatchOption, length-append, ◌⊎◌, Err, min, Ok, IsOkUnless, length-take, append_assoc, rules, string_bytes}
pub use Rattle.std.proofs.Common.{of_z, to_z, to_z-of_z, ◌-◌, drop, length-drop}
pub use Rattle.std.proofs.lemmas.List.{take_all}
pub use Rattle.std.proofs.lemmas.Result.{err_from_is_err_and}
pub use Rattle.std.specs.Int.{to_le_bytes, w32, w64}
pub use Rattle.std.specs.Option.{option_map}
pub use Rattle.assise_desk.specs.DeskAnswers.{AnswersAlone, AnswersRequest, DoesAt, IsOutOfRange, IsServedAt, ServesHot, ServesLink, ServesOpen, ShowsLosses}
pub use Rattle.assise_desk.specs.DeskAnswers.{TellsRedo, answers_alone, done_told, has_no_cluster, is_no_request, number_told, opens_as, owned, request_calls}
pub use Rattle.assise_desk.specs.DeskAnswers.{request_frees, request_makes, request_manages, request_pages, request_prints, request_queries, result_shown}
pub use Rattle.assise_desk.specs.DeskAnswers.{links_no_node, sets_hot, sets_link, request_renews, request_shows_listed, CallsAt, asks_for_none, is_called}
pub use Rattle.assise_desk.specs.DeskAnswers.{names_no_durability, names_no_kind, sets_nothing, makes_cluster, makes_no_cluster, cluster_lacks_memory}
pub use Rattle.assise_desk.specs.DeskAnswers.{is_not_renewed, renewal_is_out_of_range}
pub use Rattle.assise_desk.specs.Listings.{ShowsListed, shows_listed}
pub use Rattle.assise_desk.specs.Pages.{loss_bytes, losses_bytes, zero_ended}
pub use Rattle.assise_desk.specs.RequestedOps.{MayFault, MayFaultPath, first_faults, has_fault, path_lacks_memory, other_faults}
pub use Rattle.assise_desk.specs.Texts.{keeps_text, prints_none, prints_text, has_no_tree, text_lacks_memory}
pub use Rattle.assise_desk.specs.declared.desk_call.ClientCall.{ClientCall}
pub use Rattle.assise_desk.specs.declared.desk_call.ClusterCall.{ClusterCall}
pub use Rattle.assise_desk.specs.declared.desk_call.ClusterCall.TheVariants.{Open, Crash, Fail, Back, SetHot, Raise, SetLink, Redo, Round}
pub use Rattle.assise_desk.specs.declared.desk_fault.DeskFault.{DeskFault}
pub use Rattle.assise_desk.specs.declared.desk_fault.DeskFault.TheVariants.{Refused}
pub use Rattle.assise_desk.specs.declared.desk_request.DeskRequest.{DeskRequest}
pub use Rattle.assise_desk.specs.declared.desk_request.TheConstants.{DESK_BYTES}
pub use Rattle.assise_files.specs.FilesSeen.{cluster_seen, kinds_seen, links_seen}
pub use Rattle.assise_files.specs.declared.files.Files.{Files}
pub use Rattle.assise_link.specs.Kinds.{Kind}
pub use Rattle.assise_model_events.specs.Machine.{Machine}
pub use Rattle.assise_names.specs.declared.refusal.Refusal.{Refusal}
pub use Rattle.assise_names.specs.declared.refusal.Refusal.TheVariants.{BadNode, OutOfMemory}
pub use Rattle.assise_rounds.specs.Traces.{Told, IsEventTrace}
