-- A call that a client makes.
-- Assise (OSDI 2020), section 3 (CC-NVM: a process takes leases and writes its own log); POSIX.1-2017, section 2.9.7.
use Rattle.std.specs.Prelude.{List, Result, IfErr}
use Rattle.assise_names.specs.declared.call.Op.{Op}
use Rattle.assise_names.specs.declared.refusal.Refusal.{Refusal}
use Rattle.assise_names.specs.declared.reply.Reply.{Reply}
use Rattle.assise_history.specs.Entries.{EntryValue}
use Rattle.assise_history.specs.Legal.{IsLegal}
use Rattle.assise_model_events.specs.Events.{Answer, ClusterEvent}
use Rattle.assise_libfs.specs.declared.libfs.LibFs.{LibFs}
use Rattle.assise_libfs.specs.Calling.{MayRefuse, SeesCall}
use Rattle.assise_libfs.specs.Clients.{IsSameClient, client_of, limit_of, seen_by}
use Rattle.assise_libfs.specs.InTurns.{TurnsTo}

-- It stays the same client. What it has seen goes on by others' entries and, where the call is answered, by the call with its reply, and
-- is legal. Where it is refused, what it has seen says why; and it was tried in turns.
pub record MakesOwnCall {S : Type 0} (history : S → List EntryValue) (acts : S → ClusterEvent → Answer → S → Type 0) (old : LibFs S) (op : Op) (result : Result Reply Refusal) (new : LibFs S) : Type 0 where
  pub same : IsSameClient old new
  pub sees : SeesCall (client_of old) op (seen_by old) result (seen_by new)
  pub legal : ∥ IsLegal (seen_by new) ∥₁
  pub refused : IfErr result (λ r. MayRefuse (client_of old) op (seen_by new) r)
  pub turns : TurnsTo history acts (client_of old) op (limit_of old) result (seen_by old) (seen_by new)
