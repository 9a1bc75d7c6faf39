-- A sync: its client's log is to be replicated, and where it is the call is answered.
use Rattle.assise_model_events.proofs.Common.{◌≡◌, ℕ, max, Some, true, false, [], ◌∷◌, length, refl, ap, sym, subst, arith, both_ways, false≢true, Op, Fsync}
use Rattle.assise_model_events.proofs.Common.{Durability, Pessimistic, Optimistic, Refusal, Reply, durability_of, is_sync, NumberedCall, RaisesGoals}
use Rattle.assise_model_events.proofs.Common.{WorldInvariant, World, Full, end_of_log, received_by_all, step_at_home, view, contains, raise_sound, call_dropped}
use Rattle.assise_model_events.proofs.Common.{received_by_all-end, end-same, received_by_all-same, still_dropped, Leases, AreLeases, call_keeps, logs_keep}
use Rattle.assise_model_events.proofs.Common.{raises_goals, Syncing, Noting, is_synced, is_replicating, is_noted, is_refused, lacks_memory, AnswersSync}
use Rattle.assise_model_events.proofs.Common.{IsReplicating, IsNoted, goal_of_sync, call_of_client, Answer, call_entry, refused, client_fault, Dsyncing}
use Rattle.assise_model_events.proofs.Common.{Fsyncing, Leads, Machine, MachineInvariant, state_of}
use Rattle.assise_model_history.proofs.Shared.InodeMakers.{sync_still}
use Rattle.assise_model_events.specs.Dsyncs.{is_refused}
use Rattle.assise_model_events.proofs.AnsweredCall.{call_happens, logs_answered}
use Rattle.assise_model_events.proofs.Shared.EventTraces.{leads_sound, leads_recorded, same_leads, same_holds, with_world, quietly, ends_as}
use Rattle.assise_model_events.proofs.Members.{members_stay, members_rest, epochs_stay, logs_stay}

-- ---- goals rise

raise_leases : (w u : World) (l : Leases) (k : ℕ → ℕ) → RaisesGoals w k u → AreLeases w l → AreLeases u l
raise_leases w u l k e a = logs_keep w u l e.logs e.clients e.leases (λ c. let g : u.goal c ≡ max (w.goal c) (k c) = e.goals c in omega (arith, g)) a

raise_replicated : (w u : World) (k : ℕ → ℕ) (c : ℕ) → RaisesGoals w k u → received_by_all w c ≡ end_of_log w c → received_by_all u c ≡ end_of_log u c
raise_replicated w u k c e all = grind (arith, received_by_all-same, received_by_all-end, end-same)

-- ---- it is awaited

awaited_leads : (m m' : Machine) (c : ℕ) → IsReplicating m c m' → Leads m m'
awaited_leads m m' c e = record {
  states = with_world m m'.world ∷ [];
  trace = (quietly m m.world m'.world (raises_goals (goal_of_sync m.world c) e.raises), tt);
  last = ends_as m m' m'.world (ap (λ o. length o.nodes) e.keeps.members) e.adds refl;
}

awaited_keeps : (m m' : Machine) (c : ℕ) → MachineInvariant m → IsReplicating m c m' → MachineInvariant m'
awaited_keeps m m' c h e = grind (
  arith,
  leads_sound m m' h (awaited_leads m m' c e),
  still_dropped m.world m'.world e.raises.logs e.raises.nodes h.dropped,
  leads_recorded m m' h
      (awaited_leads m m' c e),
  raise_leases m.world m'.world m.leases (goal_of_sync m.world c) e.raises h.leases,
  members_rest m m' h e.keeps e.raises.nodes,
  epochs_stay m m',
  logs_stay m m',
)

-- ---- it is answered

module _ (m m' : Machine) (c : ℕ) (op : Op) (u : Durability) (sync : is_sync op u ≡ true) (reply : Reply) (h : MachineInvariant m)
    (e : AnswersSync m (call_of_client m.world c op reply) m') where
  abbrev x : NumberedCall
  x = call_of_client m.world c op reply

  between_sound : WorldInvariant e.between
  between_sound = raise_sound m.world e.between (goal_of_sync m.world c) h.sound e.raises

  synced_leads : Leads m m'
  synced_leads = record {
    states = with_world m e.between ∷ state_of m' ∷ [];
    trace = (
      quietly m m.world e.between (raises_goals (goal_of_sync m.world c) e.raises),
      (
        call_happens m m' e.between x h refl e.call.call (λ is. raise_replicated m.world e.between (goal_of_sync m.world c) c e.raises e.replicated) e.adds
            e.keeps.members,
        tt,
      ),
    );
    last = refl;
  }

  was_full : (k : ℕ) → Full m.world k → Full e.between k
  was_full k f = subst (λ ns. contains ns k ≡ true) (sym e.raises.nodes.full) f

  synced_keeps : MachineInvariant m'
  synced_keeps = record {
    sound = leads_sound m m' h synced_leads;
    dropped = call_dropped e.between m'.world x between_sound e.call.call (still_dropped m.world e.between e.raises.logs e.raises.nodes h.dropped);
    recorded = leads_recorded m m' h synced_leads;
    leases = subst (λ l. AreLeases m'.world l) (sym e.leases)
        (call_keeps e.between m'.world m.leases x (raise_leases m.world e.between m.leases (goal_of_sync m.world c) e.raises h.leases) e.call);
    members = grind (arith, members_stay, was_full);
    epochs = epochs_stay m m' (call_entry m.history c op reply) h e.keeps.members e.adds;
    logs = logs_answered m m' e.between x h e.raises.logs.records e.call.call
        (grind (arith, step_at_home, sync_still, view, false≢true)) e.adds.limit;
    clients = rw (e.call.call.clients.clients, e.raises.clients.clients) h.clients;
  }

pub syncing_leads : (m m' : Machine) (c : ℕ) (op : Op) (u : Durability) (a : Answer) → is_sync op u ≡ true → MachineInvariant m → Syncing m c op a m' →
    Leads m m'
syncing_leads m m' c op u a sync h (is_synced reply fine is e) = synced_leads m m' c op u sync reply h e
syncing_leads m m' c op u a sync h (is_replicating fine is e) = awaited_leads m m' c e
syncing_leads m m' c op u a sync h (lacks_memory fine all is same) = same_leads m m' same
syncing_leads m m' c op u a sync h (is_refused r fault is same) = same_leads m m' same

pub syncing_keeps : (m m' : Machine) (c : ℕ) (op : Op) (u : Durability) (a : Answer) → is_sync op u ≡ true → MachineInvariant m → Syncing m c op a m' →
    MachineInvariant m'
syncing_keeps m m' c op u a sync h (is_synced reply fine is e) = synced_keeps m m' c op u sync reply h e
syncing_keeps m m' c op u a sync h (is_replicating fine is e) = awaited_keeps m m' c h e
syncing_keeps m m' c op u a sync h (lacks_memory fine all is same) = same_holds m m' same h
syncing_keeps m m' c op u a sync h (is_refused r fault is same) = same_holds m m' same h

-- ---- it waits for nothing

module _ (m m' : Machine) (c : ℕ) (reply : Reply) (never : is_sync Fsync (durability_of c m.history) ≡ false) (h : MachineInvariant m)
    (e : IsNoted m (call_of_client m.world c Fsync reply) m') where
  abbrev y : NumberedCall
  y = call_of_client m.world c Fsync reply

  noted_leads : Leads m m'
  noted_leads = record {
    states = state_of m' ∷ [];
    trace = (
      call_happens m m' m.world y h refl e.call.call (λ is. absurd (both_ways (is_sync Fsync (durability_of c m.history)) never is)) e.adds
          e.keeps.members,
      tt,
    );
    last = refl;
  }

  noted_keeps : MachineInvariant m'
  noted_keeps = record {
    sound = leads_sound m m' h noted_leads;
    dropped = call_dropped m.world m'.world y h.sound e.call.call h.dropped;
    recorded = leads_recorded m m' h noted_leads;
    leases = subst (λ l. AreLeases m'.world l) (sym e.leases) (call_keeps m.world m'.world m.leases y h.leases e.call);
    members = members_stay m m' h e.keeps e.call.call.full (λ k i f. e.call.call.area k i f);
    epochs = epochs_stay m m' (call_entry m.history c Fsync reply) h e.keeps.members e.adds;
    logs = logs_answered m m' m.world y h (λ d. refl) e.call.call (λ some. absurd (false≢true some)) e.adds.limit;
    clients = rw e.call.call.clients.clients h.clients;
  }

pub noting_leads : (m m' : Machine) (c : ℕ) (a : Answer) → is_sync Fsync (durability_of c m.history) ≡ false → MachineInvariant m → Noting m c a m' → Leads m m'
noting_leads m m' c a never h s = grind (arith, noted_leads, same_leads)

pub noting_keeps : (m m' : Machine) (c : ℕ) (a : Answer) → is_sync Fsync (durability_of c m.history) ≡ false → MachineInvariant m → Noting m c a m' →
    MachineInvariant m'
noting_keeps m m' c a never h (is_noted reply fine is e) = noted_keeps m m' c reply never h e
noting_keeps m m' c a never h (lacks_memory fine is same) = same_holds m m' same h
noting_keeps m m' c a never h (is_refused r fault is same) = same_holds m m' same h

-- who can't call can't fsync, however it was opened
pub fsync_refused : (m : Machine) (c : ℕ) (u : Durability) (r : Refusal) (a : Answer) → client_fault m c ≡ Some r → a ≡ refused r → Fsyncing u m c a m
fsync_refused m c Pessimistic r a fault is = is_refused r fault is refl
fsync_refused m c Optimistic r a fault is = is_refused r fault is refl

pub dsync_refused : (m : Machine) (c : ℕ) (u : Durability) (r : Refusal) (a : Answer) → client_fault m c ≡ Some r → a ≡ refused r → Dsyncing u m c a m
dsync_refused m c Pessimistic r a fault is = is_refused r fault is refl
dsync_refused m c Optimistic r a fault is = is_refused r fault is refl
