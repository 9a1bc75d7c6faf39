-- What the proofs of this crate name most.
pub use Rattle.std.proofs.Common.{◌≡◌, ◌≢◌, ℕ, ◌≤◌, arith, Bool, true, false, Option, Some, None, refl, sym, ◌∙◌, subst, Result, Ok, Err, List, [], ◌∷◌, ◌++◌}
pub use Rattle.std.proofs.Common.{ap, ◌+◌, length, append_assoc, append-nil, add-zero, length-append, suc, ◌<◌, inl, inr, of_calls, rules}
pub use Rattle.std.proofs.Math.Logic.{∥∥₁_elim, ∥∥₁_map}
pub use Rattle.std.specs.Prelude.{not, nat_le, IfErr, IfOk, OnErr}
pub use Rattle.assise_history.proofs.Shared.ClientCounts.{next_opened, opened_within, early}
pub use Rattle.assise_history.proofs.Shared.Legality.{fits_in, prefix_in}
pub use Rattle.assise_history.specs.Entries.{opens, EntryValue, calls}
pub use Rattle.assise_history.specs.Legal.{IsDown, IsOpenedOn, MayCall, clients_opened, durability_of, is_failure_of, calls_made, IsLegal}
pub use Rattle.assise_keeper.proofs.Shared.LedStates.{led_from}
pub use Rattle.assise_keeper.proofs.Shared.PassAdds.{all-openings-append, extends-same, extends_by_one, calls-append}
pub use Rattle.assise_keeper.specs.Clients.{openings_of, Extends, ExtendsByOne, calls_by, calls_of, MayOpenClients}
pub use Rattle.assise_keeper.specs.Passes.{seen, client}
pub use Rattle.assise_libfs.specs.Calling.{IsCutOff, MakesInode, MayRefuseTry, WritesTooMuch, MayRefuse, ExtendsByOthers, SeesTry, Tries, told_call, answers}
pub use Rattle.assise_libfs.specs.Clients.{IsSameClient, client_of, node_of, seen_by}
pub use Rattle.assise_libfs.specs.InTurns.{EndsBy, HasWaited, IsFullOf, InOneTurn, TurnsOnce, TurnsTo, tried_answer}
pub use Rattle.assise_libfs.specs.Lives.{HasCrashed, HasLostNode, OpensNoOther}
pub use Rattle.assise_machine_calls.specs.Answers.{opening_answer, turn_answer}
pub use Rattle.assise_model_events.specs.Events.{Answer, not_yet, opened, refused, replied, ClusterEvent, try_call}
pub use Rattle.assise_names.specs.declared.call.Op.{Op}
pub use Rattle.assise_names.specs.declared.durability.Durability.{Durability}
pub use Rattle.assise_names.specs.declared.refusal.Refusal.{Refusal}
pub use Rattle.assise_names.specs.declared.refusal.Refusal.TheVariants.{BadClient, BadNode, ClientGone, InodesSpent, LogFull, NodeDown, OutOfMemory, TooLarge}
pub use Rattle.assise_names.specs.declared.refusal.Refusal.TheVariants.{Busy}
pub use Rattle.assise_names.specs.declared.reply.Reply.{Reply}
