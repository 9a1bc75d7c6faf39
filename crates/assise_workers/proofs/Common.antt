-- What the proofs of this crate name most.
pub use Rattle.std.proofs.Common.{◌≡◌, ◌∙◌, ℕ, ◌+◌, ◌≤◌, ap, arith, Bool, true, false, List, [], ◌∷◌, ◌++◌, map, None, Some, Result, Ok, Err, refl, sym, subst}
pub use Rattle.std.proofs.Common.{append_assoc, suc, ◌<◌, length, take, get_or, append-nil, add-zero, length-append, Bor, ◌-◌, zero, ap₂, rules, vec_len, inl}
pub use Rattle.std.proofs.lemmas.List.{map-append, take_more}
pub use Rattle.std.specs.List.{AllByRecursion, AllZip}
pub use Rattle.std.specs.Prelude.{is_ok, min, IfErr, IfOk, vec_capacity}
pub use Rattle.assise_history.specs.Entries.{EntryValue, calls}
pub use Rattle.assise_keeper.proofs.Shared.LedStates.{led_from}
pub use Rattle.assise_keeper.specs.Clients.{calls_by, Extends}
pub use Rattle.assise_keeper.specs.Passes.{IsPassOf, client, last, opens, seen}
pub use Rattle.assise_libfs.specs.Clients.{client_of, limit_of, seen_by, IsSameClient}
pub use Rattle.assise_libfs.specs.InTurns.{InOneTurn, TurnsTo}
pub use Rattle.assise_link.specs.Kinds.{perfect}
pub use Rattle.assise_model_events.specs.Events.{Answer, ClusterEvent, deliver, received, sent}
pub use Rattle.assise_names.specs.declared.refusal.Refusal.{Refusal}
pub use Rattle.assise_workers.specs.Acting.{HasCarried, HasDone, IsRead, DigestsSome, TurnAfterTurn, Replicates}
pub use Rattle.assise_workers.specs.Letters.{AreReadBy, letter_of, letters_seen}
pub use Rattle.assise_workers.specs.Serving.{HasServed}
pub use Rattle.assise_workers.specs.Told.{AreCallsMade, IsCallMade, SeesAll, told_all, Turned}
pub use Rattle.assise_workers.specs.Working.{node_at, nodes_up_to, seen_at, GoesOn}
pub use Rattle.assise_workers.specs.declared.worker.TurnEnd.{TurnEnd}
