-- What an optimistic client's dsync changes of the state is what the laws mean by it.
use Rattle.assise_machine_calls.proofs.Common.{◌≡◌, ℕ, ◌<◌, ◌≤◌, List, length, None, true, false, refl, ap, sym, subst, ◌∙◌, arith, append-nil, ∥∥₁_elim}
use Rattle.assise_machine_calls.proofs.Common.{∥∥₁_map, props, Dsync, IsNumberedLog, log_end, records_from, RegionValue, regrouped_from, full_nodes, end_of_log}
use Rattle.assise_machine_calls.proofs.Common.{received_by_all, Syncing, is_refused, is_replicating, is_synced, lacks_memory, Coalescing, coalesced_from}
use Rattle.assise_machine_calls.proofs.Common.{is_coalesced, Answer, not_yet, client_fault, MachineInvariant, Machine, after_coalescing, after_regrouping}
use Rattle.assise_machine_calls.proofs.Common.{ClientValue, client_in, cut_of, with_client, with_goal, HasLog, log_in, with_log_in, is_full_in, observed}
use Rattle.assise_machine_calls.proofs.Common.{own_seen, world_of, IsNumber, CutsInvariant, ShapeInvariant, StateValue, leases_of, standings, has_log}
use Rattle.assise_machine_calls.proofs.Common.{home_full, lives_unfailed, seen_full, log_keeps, own_end, own_of_unfailed, client_same}
use Rattle.assise_record.specs.Groups.{AllHaveEffects}
use Rattle.assise_model_world.specs.Invariant.{WorldInvariant}
use Rattle.assise_model_events.specs.Dsyncs.{is_refused, is_synced, lacks_memory}
use Rattle.assise_model_events.proofs.Shared.DsyncKeeps.{coalesced_holds}
use Rattle.assise_model_events.proofs.Shared.Regroupable.{coalesced_high}
use Rattle.assise_machine_state.proofs.Shared.CoalescingSeen.{coalesced_groups, coalesced_none, coalesced_shape}
use Rattle.assise_machine_state.proofs.Shared.CoalescingSeen.{coalescing_areas, coalescing_noted, regrouped_shape}
use Rattle.assise_machine_calls.proofs.SyncChanges.{Gives, fine_lives, fine_number}

-- a sync that all full nodes have all for coalesces nothing
pub as_coalescing : (m m' : Machine) (c : ℕ) (a : Answer) → received_by_all m.world c ≡ end_of_log m.world c → Syncing m c Dsync a m' → Coalescing m c a m'
as_coalescing m m' c a all (is_synced reply fine is e) = is_synced reply fine is e
as_coalescing m m' c a all (is_replicating fine is e) = (let less = e.lacking in absurd (omega (arith, all, less)))
as_coalescing m m' c a all (lacks_memory fine have is same) = lacks_memory fine is same
as_coalescing m m' c a all (is_refused r fault is same) = is_refused r fault is same

abbrev pub CoalescesTo : StateValue → ℕ → Answer → StateValue → Type 0
CoalescesTo s c a s' = Coalescing (observed s) c a (observed s')

pub lacking_seen : (s : StateValue) (c : ℕ) → received_by_all (observed s).world c < end_of_log (observed s).world c →
    received_by_all (world_of s) c < end_of_log (world_of s) c
unfolding observed
lacking_seen s c less = less

module _ (s : StateValue) (c : ℕ) (shape : ShapeInvariant s) (fine : client_fault (observed s) c ≡ None) where
  there : IsNumber s.clients c
  there = fine_number s c fine

  lives : (world_of s).lives c ≡ true
  lives = fine_lives s c fine

  unfailed : (client_in s.clients c).failed ≡ false
  unfailed = lives_unfailed s c lives

  module _ (home : ℕ) (home_is : home ≡ (client_in s.clients c).home) where
    pub home_log : HasLog s.nodes home c
    home_log = subst (λ n. HasLog s.nodes n c) (sym home_is) (has_log s (client_in s.clients c).home c shape (home_full s c shape unfailed) there)

    full_home : is_full_in (standings s) home ≡ true
    full_home = subst (λ n. is_full_in (standings s) n ≡ true) (sym home_is) (home_full s c shape unfailed)

    own_at_home : log_in s.nodes home c ≡ own_seen s c
    unfolding own_seen
    own_at_home = ap (λ n. log_in s.nodes n c) (home_is ∙ sym (own_of_unfailed (standings s) (client_in s.clients c) unfailed))

    own_ends : end_of_log (world_of s) c ≡ log_end (own_seen s c).log
    unfolding world_of end_of_log
    own_ends = refl

    digested_is : (world_of s).digested home c ≡ (log_in s.nodes home c).digested
    unfolding world_of
    digested_is = refl

    module _ (holds : ∥ MachineInvariant (observed s) ∥₁) (from : ℕ) (from_is : from ≡ coalesced_from (world_of s) c) where
      sound : ∥ WorldInvariant (world_of s) ∥₁
      unfolding observed
      sound = ∥∥₁_map holds (λ h. h.sound)

      pub from_high : from ≤ log_end (log_in s.nodes home c).log
      from_high =
          let known : coalesced_from (world_of s) c ≤ end_of_log (world_of s) c = ∥∥₁_elim sound (search props) (λ h. coalesced_high (world_of s) c h) in
          omega (arith, known, from_is, own_ends, ap (λ x. log_end x.log) own_at_home)

      pub from_digested : (log_in s.nodes home c).digested ≤ from
      from_digested =
          let known : (world_of s).digested home c ≤ received_by_all (world_of s) c = ∥∥₁_elim sound (search props)
          (λ h. (h.coherent.order home c (seen_full s home full_home)).replicated) in
          omega (arith, known, from_is, digested_is)

      module _ (law : IsNumberedLog (log_in s.nodes home c).log) where
        own_law : IsNumberedLog (own_seen s c).log
        own_law = subst (λ x. IsNumberedLog x.log) own_at_home law

        abbrev start : ℕ
        start = coalesced_from (world_of s) c

        abbrev t : StateValue
        t = after_regrouping s c start

        nodes_same : (nodes : List RegionValue) → nodes ≡ with_log_in s.nodes home c (regrouped_from (log_in s.nodes home c) from) → nodes ≡ t.nodes
        nodes_same nodes is =
            is
            ∙ ap (λ k. with_log_in s.nodes home c (regrouped_from (log_in s.nodes home c) k)) from_is
            ∙ ap (λ n. with_log_in s.nodes n c (regrouped_from (log_in s.nodes n c) start)) home_is

        pub still_log : (nodes : List RegionValue) → nodes ≡ with_log_in s.nodes home c (regrouped_from (log_in s.nodes home c) from) → HasLog nodes home c
        still_log nodes is = subst (λ rs. HasLog rs home c) (sym (nodes_same nodes is))
            (has_log t home c (regrouped_shape s c shape sound lives own_law) full_home there)

        end_then : (nodes : List RegionValue) → nodes ≡ t.nodes → 0 < length (full_nodes (standings s)) → end_of_log (world_of t) c
            ≡ log_end (log_in nodes home c).log
        end_then nodes is some =
            own_end t c (regrouped_shape s c shape sound lives own_law) there some
            ∙ ap (λ n. log_end (log_in t.nodes n c).log) (own_of_unfailed (standings s) (client_in s.clients c) unfailed ∙ sym home_is)
            ∙ ap (λ rs. log_end (log_in rs home c).log) (sym is)

        leases_same : leases_of (after_coalescing s c start) ≡ leases_of s
        unfolding leases_of
        leases_same = λ i. record {
          levels = s.levels;
          cut = λ d j. client_same (λ y. cut_of s.cuts d y j) s.clients c
              (with_goal (end_of_log (world_of t) c) (client_in s.clients c)) refl d i;
        }

        there_effects : AllHaveEffects (records_from (log_in s.nodes home c).log from) → AllHaveEffects (records_from (own_seen s c).log start)
        there_effects some = subst (λ k. AllHaveEffects (records_from (own_seen s c).log k)) from_is
            (subst (λ x. AllHaveEffects (records_from x.log from)) own_at_home some)

        coalesced : received_by_all (world_of s) c < end_of_log (world_of s) c → AllHaveEffects (records_from (log_in s.nodes home c).log from) →
            CoalescesTo s c not_yet (after_coalescing s c start)
        unfolding observed
        coalesced lacking some = is_coalesced fine refl (record {
          lacking = lacking;
          regroups = coalesced_groups s c shape sound lives own_law (there_effects some);
          elsewhere = coalesced_none s c shape sound lives own_law (there_effects some);
          leases = leases_same;
          adds = record { history = sym (append-nil s.history); limit = refl; hot = log_keeps s.nodes (client_in s.clients c).home c _ };
          keeps = record { members = refl; others = coalescing_areas s c start };
        })

        pub coalesced_given : CutsInvariant s → received_by_all (world_of s) c < end_of_log (world_of s) c →
            AllHaveEffects (records_from (log_in s.nodes home c).log from) → 0 < length (full_nodes (standings s)) →
            (nodes : List RegionValue) (place : ℕ) (cs : List ClientValue) → nodes ≡ with_log_in s.nodes home c (regrouped_from (log_in s.nodes home c) from) →
            place ≡ log_end (log_in nodes home c).log →
            cs ≡ with_client s.clients c (with_goal place (client_in s.clients c)) → Gives (CoalescesTo s c not_yet) (record s { nodes = nodes; clients = cs })
        coalesced_given noted lacking some full nodes place cs nodes_are place_is clients_are =
            let same : nodes ≡ t.nodes = nodes_same nodes nodes_are in
            let to : place ≡ end_of_log (world_of t) c = place_is ∙ sym (end_then nodes same full) in
            let clients_same : cs ≡ (after_coalescing s c start).clients = clients_are ∙ ap (λ k. with_client s.clients c (with_goal k (client_in s.clients c)))
            to in
            let happens = coalesced lacking some in
            subst (λ v. Gives (CoalescesTo s c not_yet) v) (λ i. record s { nodes = sym same i; clients = sym clients_same i })
            (record {
              happens = happens;
              holds = ∥∥₁_map holds (λ h. coalesced_holds (observed s) (observed (after_coalescing s c start)) c not_yet h happens);
              shape = coalesced_shape s c shape sound lives own_law;
              noted = coalescing_noted s c start noted;
            })
