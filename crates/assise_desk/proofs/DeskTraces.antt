-- What a request does to the cluster that it finds is a trace of events.
use Rattle.assise_desk.proofs.Common.{ℕ, List, Result, Machine, Kind, IsEventTrace, Told, cluster_seen, links_seen, Files, ClientCall, ClusterCall, Open, Crash}
use Rattle.assise_desk.proofs.Common.{Fail, Back, Round, SetHot, Raise, SetLink, Redo, DeskFault, DeskRequest, CallsAt, DoesAt, ServesHot, ServesOpen}
use Rattle.assise_desk.proofs.Common.{asks_for_none, is_called, names_no_durability, names_no_kind, opens_as, sets_hot, sets_nothing}
use Rattle.assise_names.specs.declared.reply.Reply.{Reply}
use Rattle.assise_rounds.specs.NodeLinks.{FaithfulAt}
use Rattle.assise_rounds.proofs.Shared.ReturnTrace.{return_trace}
use Rattle.assise_rounds.proofs.Shared.Traces.{event_trace, nothing_trace, round_trace}
use Rattle.assise_rounds.proofs.Shared.CallTrace.{call_trace}
use Rattle.assise_files.proofs.Shared.TriesTrace.{redo_trace}

opening_trace : (r : DeskRequest) (result : Result ℕ DeskFault) (files : Files) (es : Told) (left : Files) → ServesOpen r result files es left →
    IsEventTrace (cluster_seen files) es (cluster_seen left)
opening_trace r result files es left (opens_as kind durability is_kind is_durability h) = event_trace _ _ (cluster_seen files) es (cluster_seen left) h.event
opening_trace r result files es left (names_no_kind none result_is same nothing) = nothing_trace (cluster_seen files) es (cluster_seen left) nothing
opening_trace r result files es left (names_no_durability none result_is same nothing) = nothing_trace (cluster_seen files) es (cluster_seen left) nothing

hot_trace : (r : DeskRequest) (result : Result ℕ DeskFault) (m : Machine) (es : Told) (m' : Machine) → ServesHot r result m es m' → IsEventTrace m es m'
hot_trace r result m es m' (sets_hot least most h) = event_trace _ _ m es m' h.event
hot_trace r result m es m' (sets_nothing out result_is nothing) = nothing_trace m es m' nothing

pub cluster_trace : (call : ClusterCall) (r : DeskRequest) (result : Result ℕ DeskFault) (before out : List ℕ) (files : Files) (es : Told) (left : Files) →
    DoesAt call r result before out files es left → IsEventTrace (cluster_seen files) es (cluster_seen left)
cluster_trace Open r result before out files es left h = opening_trace r result files es left h
cluster_trace Crash r result before out files es left h = event_trace _ _ (cluster_seen files) es (cluster_seen left) h.event
cluster_trace Fail r result before out files es left h = event_trace _ _ (cluster_seen files) es (cluster_seen left) h.event
cluster_trace Back r result before out files es left h = return_trace r.node h.returned (cluster_seen files) es (cluster_seen left) h.comes_back
cluster_trace Round r result before out files es left h = round_trace (cluster_seen files) es (cluster_seen left) h.round.does
cluster_trace SetHot r result before out files es left h = hot_trace r result (cluster_seen files) es (cluster_seen left) h
cluster_trace Raise r result before out files es left h = event_trace _ _ (cluster_seen files) es (cluster_seen left) h.event
cluster_trace SetLink r result before out files es left h = nothing_trace (cluster_seen files) es (cluster_seen left) h.nothing
cluster_trace Redo r result before out files es left h =
    redo_trace (FaithfulAt (links_seen files)) _ r.first r.client _ h.redone (cluster_seen files) es (cluster_seen left) h.made

pub client_trace : (links : List Kind) (turns : ℕ) (call : ClientCall) (r : DeskRequest) (bytes : List ℕ) (result : Result Reply DeskFault) (m : Machine)
    (es : Told) (m' : Machine) →
    CallsAt links turns call r bytes result m es m' → IsEventTrace m es m'
client_trace links turns call r bytes result m es m' (is_called op answer asked tried result_is) =
    call_trace (FaithfulAt links) turns r.client op answer m es m' tried
client_trace links turns call r bytes result m es m' (asks_for_none fault none result_is nothing) = nothing_trace m es m' nothing
