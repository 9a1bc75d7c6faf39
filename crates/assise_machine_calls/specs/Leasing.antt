-- What a client's next call does over what the client reads, and that all its leases are there.
-- Assise (OSDI 2020), section 3 (CC-NVM: update logs, leases).
use Rattle.std.specs.Prelude.{◌≡◌, ◌==◌, ◌&&◌, ℕ, List, None, Option, Some, length, true, false}
use Rattle.std.specs.List.{list_any}
use Rattle.assise_names.specs.declared.call.Op.{Op}
use Rattle.assise_names.specs.declared.durability.Durability.{Durability}
use Rattle.assise_names.specs.declared.mode.Mode.TheVariants.{Read, Write}
use Rattle.assise_names.specs.declared.refusal.Refusal.{Refusal}
use Rattle.assise_names.specs.declared.refusal.Refusal.TheVariants.{InodesSpent, LogFull}
use Rattle.assise_names.specs.declared.reply.Reply.TheVariants.{Done}
use Rattle.assise_history.specs.Legal.{is_sync}
use Rattle.assise_record.specs.declared.effect.Effect.{Effect}
use Rattle.assise_record.specs.Records.{has_some}
use Rattle.assise_inode_plan.specs.Leased.{first_missing, for_writing}
use Rattle.assise_inode_table.specs.Effects.{contains, makes, touched}
use Rattle.assise_inode_table.specs.Interaction.{Step}
use Rattle.assise_inode_table.specs.Numbers.{inode_number}
use Rattle.assise_inode_table.specs.Traces.{NumberedCall}
use Rattle.assise_digest.specs.Region.{ReceivedLog}
use Rattle.assise_lease_table.specs.Leases.{serves}
use Rattle.assise_lease_tree.specs.Levels.{is_revoked}
use Rattle.assise_model_world.specs.World.{World, step_at_home}
use Rattle.assise_model_leases.specs.Leases.{client_lease}
use Rattle.assise_model_events.specs.ClientEvents.{Calling, HasServingLeases, call_of_client}
use Rattle.assise_model_events.specs.Events.{Answer}
use Rattle.assise_model_events.specs.Faults.{call_fault, fault_if, or_else}
use Rattle.assise_model_events.specs.Machine.{MachineInvariant, Machine}
use Rattle.assise_machine_state.specs.ClientValues.{ClientValue}
use Rattle.assise_machine_calls.specs.Asked.{clients_log}

-- the call is a sync of nobody
abbrev pub NeverSyncs : Op → Type 0
NeverSyncs op = (u : Durability) → is_sync op u ≡ false

-- the client's next call: what it does doesn't depend on what it answers
abbrev pub next_call : World → ℕ → Op → NumberedCall
next_call w c op = call_of_client w c op Done

abbrev pub next_step : World → ℕ → Op → Step
next_step w c op = step_at_home w (next_call w c op)

-- this is what the call does, and its leases serve for what it visits
pub record IsVisited (m : Machine) (c : ℕ) (op : Op) (s : Step) : Type 0 where
  pub step : s ≡ next_step m.world c op
  pub visited : (i : ℕ) → contains (next_step m.world c op).visits i ≡ true → serves (client_lease m.leases c i) Read ≡ true

-- the client's lease serves for a change of the inode
abbrev pub MayChange : Machine → ℕ → ℕ → Type 0
MayChange m c i = serves (client_lease m.leases c i) Write ≡ true

-- the first inode that the call changes, in the order of its effects, and that its lease doesn't serve for
abbrev pub LacksChange : Machine → ℕ → Step → ℕ → Type 0
LacksChange m c s i = first_missing (λ j mode. serves (client_lease m.leases c j) mode) (for_writing (touched s.effects)) ≡ Some (i, Write)

-- this is what the call does, and all leases serve that it needs
pub record IsReady (m : Machine) (c : ℕ) (op : Op) (s : Step) : Type 0 where
  pub step : s ≡ next_step m.world c op
  pub served : HasServingLeases m.world m.leases (next_call m.world c op)

-- the client got leases, and kept those that it had, and none was revoked, nor did a log change: what comes of the call from here on
-- comes of it
pub record GotLeases (m : Machine) (c : ℕ) (op : Op) (s : Step) (m' : Machine) : Type 0 where
  pub fine : call_fault m' c op ≡ None
  pub holds : ∥ MachineInvariant m' ∥₁
  pub visited : IsVisited m' c op s
  pub kept : (i : ℕ) → MayChange m c i → MayChange m' c i
  pub unrevoked : (d i : ℕ) → is_revoked (client_lease m'.leases d i) ≡ is_revoked (client_lease m.leases d i)
  pub logs : (d : ℕ) → clients_log m' d ≡ clients_log m d
  pub onward : (a : Answer) (last : Machine) → Calling m' c op a last → Calling m c op a last

-- the client got leases, of which none was revoked, and has all that the call needs: what comes of the call from here on comes of it
pub record HasAllLeases (m : Machine) (c : ℕ) (op : Op) (s : Step) (m' : Machine) : Type 0 where
  pub fine : call_fault m' c op ≡ None
  pub holds : ∥ MachineInvariant m' ∥₁
  pub ready : IsReady m' c op s
  pub unrevoked : (d i : ℕ) → is_revoked (client_lease m'.leases d i) ≡ is_revoked (client_lease m.leases d i)
  pub onward : (a : Answer) (last : Machine) → Calling m' c op a last → Calling m c op a last

-- the client would make an inode and has made as many as it may, or its log has no room for the effects
abbrev pub room_fault : ClientValue → ℕ → ReceivedLog → List Effect → Option Refusal
room_fault x c l es =
    or_else (fault_if (list_any (makes (inode_number c x.made)) es && (x.made == 1048576)) InodesSpent)
    (fault_if (has_some es && (length l.log.records == l.log.limit)) LogFull)
