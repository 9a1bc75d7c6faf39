-- What a desk tells of its cluster.
use Rattle.std.specs.Prelude.{◌≡◌, ◌⊎◌, ℕ, ◌-◌, ◌^◌, min, if◌then◌else◌, length, Result, Ok, Err}
use Rattle.assise_names.specs.declared.refusal.Refusal.{Refusal}
use Rattle.assise_names.specs.declared.refusal.Refusal.TheVariants.{BadClient}
use Rattle.assise_history.specs.Payload.{payloads}
use Rattle.assise_manager.specs.declared.phase.Phase.{Phase as NodePhase}
use Rattle.assise_manager.specs.declared.phase.Phase.TheVariants.{Full, Down, Returning}
use Rattle.assise_manager.specs.Standings.{phase_of, standing_of}
use Rattle.assise_model_world.specs.World.{IsClient}
use Rattle.assise_model_events.specs.Machine.{Machine}
use Rattle.assise_machine_state.specs.ClientValues.{ClientValue}
use Rattle.assise_machine.specs.KnownClients.{IsKnownClient}
use Rattle.assise_files.specs.FilesSeen.{cluster_seen, replicated_seen}
use Rattle.assise_files.specs.declared.files.Files.{Files}
use Rattle.assise_desk.specs.declared.desk_call.ClusterQuery.{ClusterQuery}
use Rattle.assise_desk.specs.declared.desk_call.ClusterQuery.TheVariants.{Legal, Entries, Payload, Phase, Standing, Home, Answered, Replicated}
use Rattle.assise_desk.specs.declared.desk_fault.DeskFault.{DeskFault}
use Rattle.assise_desk.specs.declared.desk_fault.DeskFault.TheVariants.{Refused}
use Rattle.assise_desk.specs.declared.desk_request.DeskRequest.{DeskRequest}
use Rattle.assise_desk.specs.FaultCodes.{no_memory}

-- ---- a node

abbrev pub phase_number : NodePhase → ℕ
phase_number Full = 1
phase_number Down = 2
phase_number Returning = 3

abbrev pub phase_told : Result NodePhase Refusal → Result ℕ DeskFault
phase_told (Ok phase) = Ok (phase_number phase)
phase_told (Err refusal) = Err (Refused refusal)

-- ---- a client

-- 1 where it may call, 2 where it crashed, and 3 where its node has failed since
abbrev pub standing_number : ClientValue → ℕ
standing_number known = if known.failed then 3 else if known.crashed then 2 else 1

-- a number of what is known of client c, or that there is no such client
pub data TellsKnown (number : ClientValue → ℕ) (m : Machine) (c : ℕ) (result : Result ℕ DeskFault) : Type 0 where
  tells_known : (known : ClientValue) → ∥ IsKnownClient m.history c known ∥₁ → result ≡ Ok (number known) → TellsKnown number m c result
  knows_none : (IsClient m.world c → ⊥) → result ≡ Err (Refused BadClient) → TellsKnown number m c result

-- how many of its calls are replicated
pub data TellsReplicated (files : Files) (c : ℕ) (result : Result ℕ DeskFault) : Type 0 where
  tells_replicated : IsClient (cluster_seen files).world c → result ≡ Ok (replicated_seen files c) → TellsReplicated files c result
  replicates_none : (IsClient (cluster_seen files).world c → ⊥) → result ≡ Err (Refused BadClient) → TellsReplicated files c result

-- ---- a query

-- the history is legal, unless there is no memory to check it
abbrev pub AnswersQuery : ClusterQuery → DeskRequest → Files → Result ℕ DeskFault → Type 0
AnswersQuery Legal r files result = (result ≡ Ok 1) ⊎ (result ≡ Err no_memory)
AnswersQuery Entries r files result = result ≡ Ok (length (cluster_seen files).history)
AnswersQuery Payload r files result = result ≡ Ok (min (payloads (cluster_seen files).history) (2 ^ 64 - 1))
AnswersQuery Phase r files result = result ≡ phase_told (phase_of (standing_of (cluster_seen files).members.nodes r.node))
AnswersQuery Standing r files result = TellsKnown standing_number (cluster_seen files) r.client result
AnswersQuery Home r files result = TellsKnown (λ known. known.home) (cluster_seen files) r.client result
AnswersQuery Answered r files result = TellsKnown (λ known. known.next) (cluster_seen files) r.client result
AnswersQuery Replicated r files result = TellsReplicated files r.client result
