-- What the request of a desk does to its cluster.
use Rattle.assise_desk.proofs.Common.{◌≡◌, ◌≤◌, arith, inl, inr, ℕ, ℤ, Option, Some, Result, refl, sym, ap, subst, ◌∙◌, Kind, BadNode, Refused, Refusal}
use Rattle.assise_desk.proofs.Common.{Machine, Told, cluster_seen, kinds_seen, links_seen, Files}
use Rattle.assise_desk.proofs.Common.{DeskFault, DeskRequest, AnswersAlone, AnswersRequest, IsOutOfRange, IsServedAt, ServesHot, ServesLink}
use Rattle.assise_desk.proofs.Common.{ServesOpen, answers_alone, done_told, has_no_cluster, is_no_request, number_told, opens_as, owned}
use Rattle.assise_desk.proofs.Common.{request_calls, request_frees, request_makes, request_manages, request_pages, request_prints, request_queries}
use Rattle.assise_desk.proofs.Common.{result_shown, links_no_node, sets_hot, sets_link, request_renews, request_shows_listed}
use Rattle.std.specs.Global.{Box}
use Rattle.std.specs.Prelude.{◌+◌, ◌-◌, ◌↔◌, IsOk, IsOkUnless, IsSome, OnErr, OnOk, Ok, Err, slice_set, ⊤}
use Rattle.assise_lease_table.specs.Tables.{Enrols}
use Rattle.assise_manager.specs.Standings.{standing_of}
use Rattle.assise_names.specs.declared.durability.Durability.{Durability}
use Rattle.assise_names.specs.declared.limits.TheConstants.{MOST_NODES}
use Rattle.assise_model_events.specs.ClientEvents.{Opening}
use Rattle.assise_model_events.specs.NodeEvents.{SettingHot}
use Rattle.assise_machine.specs.Answers.{setting_answer}
use Rattle.assise_machine.specs.Running.{opened_answer}
use Rattle.assise_files.specs.declared.cut_kind.CutKind.{CutKind}
use Rattle.assise_desk.specs.declared.caller_desk.CallerDesk.{CallerDesk}
use Rattle.assise_desk.specs.declared.desk_call.DeskCall.{DeskCall}
use Rattle.assise_desk.specs.CallNumbers.{desk_call_number}
use Rattle.assise_desk.specs.NamedKinds.{durability_named, kind_named, link_named}

-- ---- one event

pub opened_as : (r : DeskRequest) (result : Result ℕ DeskFault) (kind : CutKind) (durability : Durability) (told : Result ℕ Refusal) (files left : Files) →
    kind_named r.kind ≡ Some kind →
    durability_named r.second ≡ Some durability → result ≡ number_told told → Opening (cluster_seen files) r.node durability (opened_answer told)
    (cluster_seen left) →
    OnOk told (Enrols (kinds_seen files) (kinds_seen left) ((cluster_seen files).world.clients + 1) kind) → (es : Told) × ServesOpen r result files es left
opened_as r result kind durability told files left is_kind is_durability result_is h stored = (
  _,
  opens_as kind durability is_kind is_durability record
      { opened = told; result_is = result_is; event = record { told = refl; happens = h }; stored = stored },
)

pub hot_set : (r : DeskRequest) (result : Result ℕ DeskFault) (told : Result ⊤ Refusal) (m m' : Machine) → 1 ≤ r.first → r.first ≤ 4096 →
    result ≡ done_told told →
    SettingHot m r.node r.first (setting_answer told) m' → (es : Told) × ServesHot r result m es m'
hot_set r result told m m' least most result_is h =
    (_, sets_hot least most record { told = told; result_is = result_is; event = record { told = refl; happens = h } })

-- a link is set, or there is no such node
pub link_set : (r : DeskRequest) (told : Result ⊤ Refusal) (kind : Kind) (files left : Files) → link_named r.kind r.first ≡ Some kind →
    OnOk told (links_seen left ≡ slice_set (links_seen files) (r.node - 1) kind) → OnErr told (links_seen left ≡ links_seen files) →
    (IsOk told ↔ IsSome (standing_of (cluster_seen files).members.nodes r.node)) → IsOkUnless told BadNode → ServesLink r (done_told told) files left
link_set r (Ok done) kind files left named set kept there only = sets_link kind named (there.0 refl) refl set
link_set r (Err refusal) kind files left named set kept there only = links_no_node (λ some. cc (there.1 some)) (ap (λ x. Err (Refused x)) only) kept

-- ---- a cluster is made

-- the numbers are in range
pub is_in_range : (r : DeskRequest) → 1 ≤ r.node → r.node ≤ MOST_NODES → 8 ≤ r.first → r.first ≤ 4096 → 1 ≤ r.second → r.second ≤ 4096 → IsOutOfRange r → ⊥
is_in_range r some few long_enough short_enough some_hot few_hot (inl h) = omega (arith, some, h)
is_in_range r some few long_enough short_enough some_hot few_hot (inr (inl h)) = omega (arith, few, h)
is_in_range r some few long_enough short_enough some_hot few_hot (inr (inr (inl h))) = omega (arith, long_enough, h)
is_in_range r some few long_enough short_enough some_hot few_hot (inr (inr (inr (inl h)))) = omega (arith, short_enough, h)
is_in_range r some few long_enough short_enough some_hot few_hot (inr (inr (inr (inr (inl h))))) = omega (arith, some_hot, h)
is_in_range r some few long_enough short_enough some_hot few_hot (inr (inr (inr (inr (inr h))))) = omega (arith, few_hot, h)

-- ---- a desk

-- the number is the call's
pub number_is : (call named : DeskCall) (number : ℕ) → call ≡ named → desk_call_number call ≡ number → desk_call_number named ≡ number
number_is call named number is h = subst (λ c. desk_call_number c ≡ number) is h

-- the desk has this cluster
pub owned_is : (files : Option (Box Files)) (owner : Box Files) (seen : Files) → files ≡ Some owner → seen ≡ owner.value → owned files ≡ Some seen
owned_is files owner seen is same = ap owned is ∙ ap Some (sym same)

-- the answer says nothing of the number that the desk shows
alone_shown : (d d' : CallerDesk) (result : Result ℕ DeskFault) (n : ℤ) → AnswersAlone d result d' → AnswersAlone d result record d' { result = n }
alone_shown d d' result n (is_no_request none is same text) = is_no_request none is same text
alone_shown d d' result n (request_makes number makes text) = request_makes number makes text
alone_shown d d' result n (request_frees number none text result_is) = request_frees number none text result_is
alone_shown d d' result n (has_no_cluster call number needs none still text result_is) = has_no_cluster call number needs none still text result_is

pub answered_shown : (d d' : CallerDesk) (result : Result ℕ DeskFault) (n : ℤ) → AnswersRequest d result d' → AnswersRequest d result record d' { result = n }
answered_shown d d' result n (answers_alone h leaves) = answers_alone (alone_shown d d' result n h) leaves
answered_shown d d' result n (request_renews files left number served h links leaves) =
    request_renews files left number record { from = served.from; leaves = served.leaves; turns = served.turns; text = served.text } h links record
    { bytes = leaves.bytes; stays = leaves.stays }
answered_shown d d' result n (request_manages call files left number served h bytes links stands) =
    request_manages call files left number record { from = served.from; leaves = served.leaves; turns = served.turns; text = served.text } h bytes links stands
answered_shown d d' result n (request_queries query files number from leaves tells stays text) =
    request_queries query files number from leaves tells record { bytes = stays.bytes; stays = stays.stays } text
answered_shown d d' result n (request_calls call files left number served h) =
    request_calls call files left number record { from = served.from; leaves = served.leaves; turns = served.turns; text = served.text } h
answered_shown d d' result n (request_prints text number same keeps stays) =
    request_prints text number same keeps record { bytes = stays.bytes; stays = stays.stays }
answered_shown d d' result n (request_shows_listed files number from leaves shows text) = request_shows_listed files number from leaves shows text
answered_shown d d' result n (request_pages number same text shows stands) = request_pages number same text shows stands

pub served_at : (d d' : CallerDesk) (result : Result ℕ DeskFault) (n : ℤ) → n ≡ result_shown result → AnswersRequest d result d' → d'.request ≡ d.request →
    IsServedAt d record d' { result = n }
served_at d d' result n shown answered same = record { result = result; shown = shown; answered = answered_shown d d' result n answered; request = same }
