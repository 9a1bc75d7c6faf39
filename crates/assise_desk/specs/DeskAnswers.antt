-- What the request of a desk does to its cluster, and what it is answered with.
use Rattle.std.specs.Prelude.{◌≡◌, ◌≢◌, ℕ, ℤ, pos, min, ◌+◌, ◌-◌, ◌^◌, ◌<◌, ◌≤◌, ◌⊎◌, Bool, true, false, List, [], length, replicate, take, slice_set, OnOk, IsSome, Option, None, Some, Result, Ok, Err, ⊤}
use Rattle.std.specs.Global.{Box, Vec}
use Rattle.std.specs.Option.{option_map}
use Rattle.assise_link.specs.Kinds.{Kind, perfect}
use Rattle.assise_lease_table.specs.Tables.{Enrols}
use Rattle.assise_manager.specs.Standings.{standing_of}
use Rattle.assise_names.specs.declared.call.Op.{Op}
use Rattle.assise_names.specs.declared.refusal.Refusal.{Refusal}
use Rattle.assise_names.specs.declared.refusal.Refusal.TheVariants.{BadNode}
use Rattle.assise_names.specs.declared.reply.Reply.{Reply}
use Rattle.assise_names.specs.declared.reply.Reply.TheVariants.{Error}
use Rattle.assise_machine_calls.specs.Answers.{crashing_answer}
use Rattle.assise_names.specs.declared.durability.Durability.{Durability}
use Rattle.assise_names.specs.declared.limits.TheConstants.{MOST_NODES}
use Rattle.assise_model_events.specs.Events.{Answer, ClusterEvent, crash, fail, open_client, raise, set_hot}
use Rattle.assise_model_events.specs.Machine.{Machine, begun_as}
use Rattle.assise_machine_failures.specs.Answers.{failing_answer}
use Rattle.assise_machine.specs.Answers.{raising_answer, setting_answer}
use Rattle.assise_machine.specs.Running.{opened_answer}
use Rattle.assise_rounds.specs.Traces.{IsEvent, Nothing, Told}
use Rattle.assise_rounds.specs.Returning.{ComesBack}
use Rattle.assise_rounds.specs.NodeLinks.{FaithfulAt}
use Rattle.assise_rounds.specs.Rounds.{RoundsOver}
use Rattle.assise_rounds.specs.CallTries.{IsTriedOut}
use Rattle.assise_files.specs.FilesSeen.{cluster_seen, kinds_seen, links_seen, most_tries, own_cluster, tree_seen}
use Rattle.assise_files.specs.LostChanges.{lost_changes}
use Rattle.assise_files.specs.Redo.{MakesAgain}
use Rattle.assise_files.specs.declared.redo.Unmade.{Unmade}
use Rattle.assise_renewal.specs.Led.{IsDsync, IsLedBy}
use Rattle.assise_renewal.specs.Renewal.{IsRenewed}
use Rattle.assise_renewal.specs.declared.renewal.Sizes.{Sizes}
use Rattle.assise_files.specs.declared.cut_kind.CutKind.{CutKind}
use Rattle.assise_files.specs.declared.files.Files.{Files}
use Rattle.assise_desk.specs.declared.caller_desk.CallerDesk.{CallerDesk}
use Rattle.assise_desk.specs.declared.caller_desk.TheConstants.{MOST_TRIES}
use Rattle.assise_desk.specs.declared.desk_call.ClientCall.{ClientCall}
use Rattle.assise_desk.specs.declared.desk_call.ClusterCall.{ClusterCall}
use Rattle.assise_desk.specs.declared.desk_call.ClusterCall.TheVariants.{Open, Crash, Fail, Back, Round, SetHot, Raise, SetLink, Redo}
use Rattle.assise_desk.specs.declared.desk_call.ClusterQuery.{ClusterQuery}
use Rattle.assise_desk.specs.declared.desk_call.DeskCall.{DeskCall}
use Rattle.assise_desk.specs.declared.desk_call.DeskCall.TheVariants.{Make, Free, Cluster, Query, Client, Print, Page, Listed, Renew}
use Rattle.assise_desk.specs.declared.desk_call.DeskText.{DeskText}
use Rattle.assise_desk.specs.declared.desk_fault.DeskFault.{DeskFault}
use Rattle.assise_desk.specs.declared.desk_fault.DeskFault.TheVariants.{Refused, Tree, NoCluster, BadRequest, NoRoom}
use Rattle.assise_desk.specs.declared.desk_request.TheConstants.{DESK_BYTES}
use Rattle.assise_desk.specs.declared.desk_request.DeskRequest.{DeskRequest}
use Rattle.assise_desk.specs.CallNumbers.{desk_call_number}
use Rattle.assise_renewal.specs.declared.renewal_fault.RenewalFault.{RenewalFault}
use Rattle.assise_desk.specs.FaultCodes.{fault_code, no_memory, of_renewal_fault}
use Rattle.assise_desk.specs.NamedKinds.{durability_named, kind_named, link_named}
use Rattle.assise_desk.specs.Pages.{loss_bytes, losses_bytes}
use Rattle.assise_desk.specs.Queries.{AnswersQuery}
use Rattle.assise_desk.specs.ShownReplies.{LeavesShown, ShowsReply, ShowsResult}
use Rattle.assise_desk.specs.RequestedOps.{IsRequestedAt, MayAskForNone}
use Rattle.assise_desk.specs.Listings.{ShowsListed}
use Rattle.assise_desk.specs.Texts.{KeepsText, ShowsPageOf, text_kept}

-- ---- numbers

-- a count, or 0 for what is done, or why there is none
abbrev pub number_told : Result ℕ Refusal → Result ℕ DeskFault
number_told (Ok n) = Ok n
number_told (Err refusal) = Err (Refused refusal)

abbrev pub done_told : Result ⊤ Refusal → Result ℕ DeskFault
done_told (Ok done) = Ok 0
done_told (Err refusal) = Err (Refused refusal)

-- 1 for yes
abbrev pub yes_told : Bool → ℕ
yes_told true = 1
yes_told false = 0

-- the number that a desk shows
abbrev pub result_shown : Result ℕ DeskFault → ℤ
result_shown (Ok n) = pos (min n (2 ^ 63 - 1))
result_shown (Err fault) = fault_code fault

-- ---- a cluster is made

pub record IsClusterMade (r : DeskRequest) (files : Files) : Type 0 where
  pub links : links_seen files ≡ replicate MOST_NODES perfect
  pub begun : cluster_seen files ≡ begun_as r.node r.first r.second
  pub turns : most_tries files ≡ MOST_TRIES

-- not 1 to `MOST_NODES` nodes, logs of 8 to 4,096 records, 1 to 4,096 hot inodes
abbrev pub IsOutOfRange : DeskRequest → Type 0
IsOutOfRange r = (r.node < 1) ⊎ (MOST_NODES < r.node) ⊎ (r.first < 8) ⊎ (4096 < r.first) ⊎ (r.second < 1) ⊎ (4096 < r.second)

pub data MayNotMake (r : DeskRequest) (fault : DeskFault) : Type 0 where
  is_out_of_range : IsOutOfRange r → fault ≡ BadRequest → MayNotMake r fault
  cluster_lacks_memory : (IsOutOfRange r → ⊥) → fault ≡ no_memory → MayNotMake r fault

-- one comes in place of the desk's own if it has one; or there is a fault, and that stays
pub data MakesCluster (r : DeskRequest) (before : Option Files) (result : Result ℕ DeskFault) (after : Option Files) : Type 0 where
  makes_cluster : (files : Files) → IsClusterMade r files → after ≡ Some files → result ≡ Ok 0 → MakesCluster r before result after
  makes_no_cluster : (fault : DeskFault) → MayNotMake r fault → after ≡ before → result ≡ Err fault → MakesCluster r before result after

-- ---- a cluster is renewed

-- the sizes of a new cluster
abbrev pub sizes_asked : DeskRequest → Sizes
sizes_asked r = record { nodes = r.node; log = r.first; hot = r.second }

-- A new cluster with the tree of the old one's kept calls comes in its place; or the old one stays, whose clients made dsyncs at most; or
-- a number of the request is out of range, or names no revoker.
pub data RenewsAt (r : DeskRequest) (result : Result ℕ DeskFault) (files left : Files) : Type 0 where
  is_renewed : result ≡ Ok 0 → IsRenewed (tree_seen files) (sizes_asked r) (own_cluster left) → RenewsAt r result files left
  is_not_renewed : (fault : RenewalFault) → result ≡ Err (of_renewal_fault fault) → IsLedBy IsDsync (cluster_seen files) (cluster_seen left) → tree_seen left ≡ tree_seen files →
      RenewsAt r result files left
  renewal_is_out_of_range : IsOutOfRange r ⊎ (kind_named r.kind ≡ None) → result ≡ Err BadRequest → left ≡ files → RenewsAt r result files left

-- ---- what a cluster does that no client calls

-- one event, whose answer is told in numbers
pub record TellsEvent {X : Type 0} (number : X → Result ℕ DeskFault) (answer : X → Answer) (e : ClusterEvent) (result : Result ℕ DeskFault) (m : Machine) (es : Told) (m' : Machine) : Type 0 where
  pub told : X
  pub result_is : result ≡ number told
  pub event : IsEvent e (answer told) m es m'

-- a client is opened on a node, with a revoker of this kind and fsyncs of this durability
pub record OpensAs (kind : CutKind) (durability : Durability) (n : ℕ) (result : Result ℕ DeskFault) (files : Files) (es : Told) (left : Files) : Type 0 where
  pub opened : Result ℕ Refusal
  pub result_is : result ≡ number_told opened
  pub event : IsEvent (open_client n durability) (opened_answer opened) (cluster_seen files) es (cluster_seen left)
  pub stored : OnOk opened (Enrols (kinds_seen files) (kinds_seen left) ((cluster_seen files).world.clients + 1) kind)

-- both are those that the request names, unless one of its numbers names none
pub data ServesOpen (r : DeskRequest) (result : Result ℕ DeskFault) (files : Files) (es : Told) (left : Files) : Type 0 where
  opens_as : (kind : CutKind) (durability : Durability) → kind_named r.kind ≡ Some kind → durability_named r.second ≡ Some durability →
      OpensAs kind durability r.node result files es left → ServesOpen r result files es left
  names_no_kind : kind_named r.kind ≡ None → result ≡ Err BadRequest → left ≡ files → Nothing (cluster_seen files) es (cluster_seen left) → ServesOpen r result files es left
  names_no_durability : durability_named r.second ≡ None → result ≡ Err BadRequest → left ≡ files → Nothing (cluster_seen files) es (cluster_seen left) → ServesOpen r result files es left

-- the number of inodes that a node keeps hot is set, where it is 1 to 4,096
pub data ServesHot (r : DeskRequest) (result : Result ℕ DeskFault) (m : Machine) (es : Told) (m' : Machine) : Type 0 where
  sets_hot : 1 ≤ r.first → r.first ≤ 4096 → TellsEvent done_told setting_answer (set_hot r.node r.first) result m es m' → ServesHot r result m es m'
  sets_nothing : (1 ≤ r.first → r.first ≤ 4096 → ⊥) → result ≡ Err BadRequest → Nothing m es m' → ServesHot r result m es m'

-- who lost calls stands in the bytes, if there is room
pub data PutsLosses (losses : List (ℕ × ℕ)) (result : Result ℕ DeskFault) (out : List ℕ) : Type 0 where
  losses_fit : result ≡ Ok (length (losses_bytes losses)) → take (length (losses_bytes losses)) out ≡ losses_bytes losses → PutsLosses losses result out
  losses_are_too_many : DESK_BYTES < length (losses_bytes losses) → result ≡ Err NoRoom → PutsLosses losses result out

abbrev pub ShowsLosses : Result (Vec (ℕ × ℕ)) Refusal → Result ℕ DeskFault → List ℕ → List ℕ → Type 0
ShowsLosses (Ok losses) result before out = PutsLosses losses.items result out
ShowsLosses (Err refusal) result before out = (result ≡ Err (Refused refusal)) × (out ≡ before)

pub record TellsFailure (n : ℕ) (result : Result ℕ DeskFault) (before out : List ℕ) (m : Machine) (es : Told) (m' : Machine) : Type 0 where
  pub failed : Result (Vec (ℕ × ℕ)) Refusal
  pub shown : ShowsLosses failed result before out
  pub event : IsEvent (fail n) (failing_answer failed) m es m'

pub record TellsReturn (n : ℕ) (result : Result ℕ DeskFault) (m : Machine) (es : Told) (m' : Machine) : Type 0 where
  pub returned : Result ⊤ Refusal
  pub result_is : result ≡ done_told returned
  pub comes_back : ComesBack n returned m es m'

pub record TellsRound (links : List Kind) (result : Result ℕ DeskFault) (m : Machine) (es : Told) (m' : Machine) : Type 0 where
  pub busy : Bool
  pub result_is : result ≡ Ok (yes_told busy)
  pub round : RoundsOver (FaithfulAt links) busy m es m'

-- what node n sends goes over a link of the kind that the request names, unless it names none or there is no such node
pub data ServesLink (r : DeskRequest) (result : Result ℕ DeskFault) (files left : Files) : Type 0 where
  sets_link : (kind : Kind) → link_named r.kind r.first ≡ Some kind → IsSome (standing_of (cluster_seen files).members.nodes r.node) → result ≡ Ok 0 →
      links_seen left ≡ slice_set (links_seen files) (r.node - 1) kind → ServesLink r result files left
  names_no_link : link_named r.kind r.first ≡ None → result ≡ Err BadRequest → links_seen left ≡ links_seen files → ServesLink r result files left
  links_no_node : (IsSome (standing_of (cluster_seen files).members.nodes r.node) → ⊥) → result ≡ Err (Refused BadNode) → links_seen left ≡ links_seen files → ServesLink r result files left

pub record SetsLinkAt (r : DeskRequest) (result : Result ℕ DeskFault) (files : Files) (es : Told) (left : Files) : Type 0 where
  pub serves : ServesLink r result files left
  pub nothing : Nothing (cluster_seen files) es (cluster_seen left)

-- why a change isn't made again; it is answered Done or an error
abbrev pub redo_fault : Result Reply Refusal → DeskFault
redo_fault (Err refusal) = Refused refusal
redo_fault (Ok (Error error)) = Tree error
redo_fault (Ok _) = BadRequest

-- of a client's changes the first that isn't made again stands in the bytes, as a lost call
abbrev pub ShowsUnmade : (lost : ℕ) → Result ⊤ Unmade → Result ℕ DeskFault → List ℕ → List ℕ → Type 0
ShowsUnmade lost (Ok done) result before out = (result ≡ Ok 0) × (out ≡ before)
ShowsUnmade lost (Err unmade) result before out = (result ≡ Err (redo_fault unmade.came)) × (take 12 out ≡ loss_bytes (lost, unmade.call))

-- the request's client makes again what a failure took of another, whose number is in the place of the kind
pub record TellsRedo (r : DeskRequest) (result : Result ℕ DeskFault) (before out : List ℕ) (files : Files) (es : Told) (left : Files) : Type 0 where
  pub redone : Result ⊤ Unmade
  pub shown : ShowsUnmade r.kind redone result before out
  pub made : MakesAgain (FaithfulAt (links_seen files)) (most_tries files) r.first r.client (lost_changes r.kind r.first (cluster_seen files).history) redone (cluster_seen files) es (cluster_seen left)

-- what it does, with its result, and with the bytes before it and then
abbrev pub DoesAt : ClusterCall → DeskRequest → Result ℕ DeskFault → List ℕ → List ℕ → Files → Told → Files → Type 0
DoesAt Open r result before out files es left = ServesOpen r result files es left
DoesAt Crash r result before out files es left = TellsEvent done_told crashing_answer (crash r.client) result (cluster_seen files) es (cluster_seen left)
DoesAt Fail r result before out files es left = TellsFailure r.node result before out (cluster_seen files) es (cluster_seen left)
DoesAt Back r result before out files es left = TellsReturn r.node result (cluster_seen files) es (cluster_seen left)
DoesAt Round r result before out files es left = TellsRound (links_seen files) result (cluster_seen files) es (cluster_seen left)
DoesAt SetHot r result before out files es left = ServesHot r result (cluster_seen files) es (cluster_seen left)
DoesAt Raise r result before out files es left = TellsEvent done_told raising_answer (raise r.node) result (cluster_seen files) es (cluster_seen left)
DoesAt SetLink r result before out files es left = SetsLinkAt r result files es left
DoesAt Redo r result before out files es left = TellsRedo r result before out files es left

-- but for a request that sets one, the links stay
abbrev pub LeavesLinks : ClusterCall → Files → Files → Type 0
LeavesLinks SetLink files left = Unit {0}
LeavesLinks _ files left = links_seen left ≡ links_seen files

-- but for a failure, which shows who lost calls, and a redo, which shows a call, the bytes stay
abbrev pub LeavesBytes : ClusterCall → List ℕ → List ℕ → Type 0
LeavesBytes Fail before out = Unit {0}
LeavesBytes Redo before out = Unit {0}
LeavesBytes Open before out = out ≡ before
LeavesBytes Crash before out = out ≡ before
LeavesBytes Back before out = out ≡ before
LeavesBytes Round before out = out ≡ before
LeavesBytes SetHot before out = out ≡ before
LeavesBytes Raise before out = out ≡ before
LeavesBytes SetLink before out = out ≡ before

-- ---- a call of a client

-- the reply, or why there is none
abbrev pub replied_at : Result Reply Refusal → Result Reply DeskFault
replied_at (Ok reply) = Ok reply
replied_at (Err refusal) = Err (Refused refusal)

-- the call is tried out; or there is none
pub data CallsAt (links : List Kind) (turns : ℕ) (call : ClientCall) (r : DeskRequest) (bytes : List ℕ) (result : Result Reply DeskFault) (m : Machine) (es : Told) (m' : Machine) : Type 0 where
  is_called : (op : Op) (answer : Result Reply Refusal) → IsRequestedAt call r bytes op → IsTriedOut (FaithfulAt links) turns r.client op answer m es m' → result ≡ replied_at answer →
      CallsAt links turns call r bytes result m es m'
  asks_for_none : (fault : DeskFault) → MayAskForNone call r bytes fault → result ≡ Err fault → Nothing m es m' → CallsAt links turns call r bytes result m es m'

-- ---- a reply

abbrev pub ShowsIfOk : Result Reply DeskFault → ℕ → Result ℕ DeskFault → List ℕ → List ℕ → ℕ → ℕ → Type 0
ShowsIfOk (Ok reply) first result before out stood stands = ShowsReply reply first result before out stood stands
ShowsIfOk (Err fault) first result before out stood stands = ShowsResult (Err fault) result before out stood stands

-- a client's call is made, and its reply shown
pub record IsServedTo (call : ClientCall) (r : DeskRequest) (before out : List ℕ) (stood stands : ℕ) (files : Files) (result : Result ℕ DeskFault) (left : Files) : Type 0 where
  pub reply : Result Reply DeskFault
  pub made : (es : Told) × CallsAt (links_seen files) (most_tries files) call r before reply (cluster_seen files) es (cluster_seen left)
  pub shown : ShowsIfOk reply r.first result before out stood stands
  pub links : links_seen left ≡ links_seen files

-- ---- a desk

-- its cluster, if it has one
abbrev pub owned : Option (Box Files) → Option Files
owned files = option_map (λ owner. owner.value) files

abbrev pub files_at : CallerDesk → Option Files
files_at desk = owned desk.files

-- what the laws observe of it
abbrev pub cluster_at : CallerDesk → Option Machine
cluster_at desk = option_map cluster_seen (files_at desk)

-- the text that was printed last
abbrev pub text_at : CallerDesk → List ℕ
text_at desk = text_kept desk.text

-- the bytes, and what stands at the path, are as they were
abbrev pub LeavesDesk : CallerDesk → CallerDesk → Type 0
LeavesDesk d d' = LeavesShown d.bytes d'.bytes d.stands d'.stands

-- it is served by a cluster
abbrev pub NeedsCluster : DeskCall → Type 0
NeedsCluster Make = ⊥
NeedsCluster Free = ⊥
NeedsCluster Renew = Unit {0}
NeedsCluster (Cluster call) = Unit {0}
NeedsCluster (Query query) = Unit {0}
NeedsCluster (Client call) = Unit {0}
NeedsCluster (Print text) = ⊥
NeedsCluster Page = ⊥
NeedsCluster Listed = Unit {0}

-- a request that no cluster serves: the bytes, and what stands at the path, are as they were
pub data AnswersAlone (d : CallerDesk) (result : Result ℕ DeskFault) (d' : CallerDesk) : Type 0 where
  is_no_request : ((call : DeskCall) → desk_call_number call ≢ d.request.call) → result ≡ Err BadRequest → files_at d' ≡ files_at d → text_at d' ≡ text_at d → AnswersAlone d result d'
  request_makes : desk_call_number Make ≡ d.request.call → MakesCluster d.request (files_at d) result (files_at d') → text_at d' ≡ text_at d → AnswersAlone d result d'
  request_frees : desk_call_number Free ≡ d.request.call → files_at d' ≡ None → text_at d' ≡ [] → result ≡ Ok 0 → AnswersAlone d result d'
  has_no_cluster : (call : DeskCall) → desk_call_number call ≡ d.request.call → NeedsCluster call → files_at d ≡ None → files_at d' ≡ None → text_at d' ≡ text_at d → result ≡ Err NoCluster → AnswersAlone d result d'

-- a cluster that serves a request, and what it is then: a call is tried as often as before
pub record IsServedBy (d d' : CallerDesk) (files left : Files) : Type 0 where
  pub from : files_at d ≡ Some files
  pub leaves : files_at d' ≡ Some left
  pub turns : most_tries left ≡ most_tries files
  pub text : text_at d' ≡ text_at d

-- what a desk's request is answered with, and what is left of the desk
pub data AnswersRequest (d : CallerDesk) (result : Result ℕ DeskFault) (d' : CallerDesk) : Type 0 where
  answers_alone : AnswersAlone d result d' → LeavesDesk d d' → AnswersRequest d result d'
  request_renews : (files left : Files) → desk_call_number Renew ≡ d.request.call → IsServedBy d d' files left → RenewsAt d.request result files left → links_seen left ≡ links_seen files →
      LeavesDesk d d' → AnswersRequest d result d'
  request_manages : (call : ClusterCall) (files left : Files) → desk_call_number (Cluster call) ≡ d.request.call → IsServedBy d d' files left →
      (es : Told) × DoesAt call d.request result d.bytes d'.bytes files es left → LeavesBytes call d.bytes d'.bytes → LeavesLinks call files left → d'.stands ≡ d.stands → AnswersRequest d result d'
  request_queries : (query : ClusterQuery) (files : Files) → desk_call_number (Query query) ≡ d.request.call → files_at d ≡ Some files → files_at d' ≡ Some files →
      AnswersQuery query d.request files result → LeavesDesk d d' → text_at d' ≡ text_at d → AnswersRequest d result d'
  request_calls : (call : ClientCall) (files left : Files) → desk_call_number (Client call) ≡ d.request.call → IsServedBy d d' files left →
      IsServedTo call d.request d.bytes d'.bytes d.stands d'.stands files result left → AnswersRequest d result d'
  request_prints : (text : DeskText) → desk_call_number (Print text) ≡ d.request.call → files_at d' ≡ files_at d → KeepsText text d.request.node (files_at d) (text_at d) result (text_at d') → LeavesDesk d d' →
      AnswersRequest d result d'
  request_shows_listed : (files : Files) → desk_call_number Listed ≡ d.request.call → files_at d ≡ Some files → files_at d' ≡ Some files →
      ShowsListed (cluster_seen files).history d.request.second d.request.first result d.bytes d'.bytes d.stands d'.stands → text_at d' ≡ text_at d → AnswersRequest d result d'
  request_pages : desk_call_number Page ≡ d.request.call → files_at d' ≡ files_at d → text_at d' ≡ text_at d → ShowsPageOf (text_at d) d.request.first result d'.bytes → d'.stands ≡ d.stands →
      AnswersRequest d result d'

-- a desk, and what it is when its request is served
pub record IsServedAt (d d' : CallerDesk) : Type 0 where
  pub result : Result ℕ DeskFault
  pub shown : d'.result ≡ result_shown result
  pub answered : AnswersRequest d result d'
  pub request : d'.request ≡ d.request
