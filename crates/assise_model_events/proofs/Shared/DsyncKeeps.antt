-- A dsync that coalesces keeps the invariant.
use Rattle.assise_model_events.proofs.Common.{ℕ, List, [], ◌∷◌, length, refl, ap, sym, subst, arith, cases_eq, all_coalesced, LogRecord, Coalesces, end_is}
use Rattle.assise_model_events.proofs.Common.{AreLeases, coalesced_keeps, coalesces, Dsync, Pessimistic, Coalescing, IsCoalescing, coalesced_from, is_coalesced}
use Rattle.assise_model_events.proofs.Common.{new_groups, Answer, Leads, Machine, MachineInvariant}
use Rattle.assise_model_world.proofs.Shared.RegroupKeeps.{regroups_to, regroup_dropped}
use Rattle.assise_model_events.specs.ClientEvents.Syncing.{is_synced}
use Rattle.assise_model_events.specs.Dsyncs.{is_refused, is_synced, lacks_memory}
use Rattle.assise_model_events.proofs.Shared.EventTraces.{leads_sound, leads_recorded, with_world, quietly, ends_as, same_leads, same_holds}
use Rattle.assise_model_events.proofs.Shared.SyncKeeps.{syncing_leads, syncing_keeps}
use Rattle.assise_model_events.proofs.Members.{members_stay, epochs_stay}

record AsCoalesced (m : Machine) (c : ℕ) (m' : Machine) : Type 0 where
  new : List LogRecord
  was : ℕ → ℕ
  step : Coalesces m.world c (coalesced_from m.world c) new was m'.world

as_coalesced : (m m' : Machine) (c : ℕ) → MachineInvariant m → IsCoalescing m c m' → AsCoalesced m c m'
as_coalesced m m' c h e = grind (arith, new_groups, regroups_to, coalesced_from, all_coalesced)

pub coalescing_leads : (m m' : Machine) (c : ℕ) → MachineInvariant m → IsCoalescing m c m' → Leads m m'
coalescing_leads m m' c h e =
    let t : AsCoalesced m c m' = as_coalesced m m' c h e in
    record {
      states = with_world m m'.world ∷ [];
      trace = (quietly m m.world m'.world (coalesces c (coalesced_from m.world c) t.new t.was t.step), tt);
      last = ends_as m m' m'.world (ap (λ o. length o.nodes) e.keeps.members) e.adds refl;
    }

pub coalescing_keeps : (m m' : Machine) (c : ℕ) → MachineInvariant m → IsCoalescing m c m' → MachineInvariant m'
coalescing_keeps m m' c h e =
    let t : AsCoalesced m c m' = as_coalesced m m' c h e in
    let s : ℕ = coalesced_from m.world c in
    record {
      sound = leads_sound m m' h (coalescing_leads m m' c h e);
      dropped = regroup_dropped m.world m'.world c s (new_groups m.world c) h.sound e.regroups h.dropped;
      recorded = leads_recorded m m' h (coalescing_leads m m' c h e);
      leases = subst (λ l. AreLeases m'.world l) (sym e.leases)
          (coalesced_keeps m.world m'.world m.leases c s t.new t.was h.sound h.leases
          (record { coalesces = t.step; cuts = λ i revoked. omega (arith, h.leases.goals c i e.regroups.tail.lives revoked, e.regroups.goal) }));
      members = members_stay m m' h e.keeps e.regroups.tail.full (λ k i f. e.regroups.tail.area k i f);
      epochs = epochs_stay m m' [] h e.keeps.members e.adds;
      logs = search (cases_eq, end_is, arith) parts 3;
      clients = rw e.regroups.tail.clients.clients h.clients;
    }

-- ---- each outcome of an optimistic client's dsync

pub coalesced_leads : (m m' : Machine) (c : ℕ) (a : Answer) → MachineInvariant m → Coalescing m c a m' → Leads m m'
coalesced_leads m m' c a h (is_synced reply fine is e) = syncing_leads m m' c Dsync Pessimistic a refl h (is_synced reply fine is e)
coalesced_leads m m' c a h (is_coalesced fine is e) = coalescing_leads m m' c h e
coalesced_leads m m' c a h (lacks_memory fine is same) = same_leads m m' same
coalesced_leads m m' c a h (is_refused r fault is same) = same_leads m m' same

pub coalesced_holds : (m m' : Machine) (c : ℕ) (a : Answer) → MachineInvariant m → Coalescing m c a m' → MachineInvariant m'
coalesced_holds m m' c a h (is_synced reply fine is e) = syncing_keeps m m' c Dsync Pessimistic a refl h (is_synced reply fine is e)
coalesced_holds m m' c a h (is_coalesced fine is e) = coalescing_keeps m m' c h e
coalesced_holds m m' c a h (lacks_memory fine is same) = same_holds m m' same h
coalesced_holds m m' c a h (is_refused r fault is same) = same_holds m m' same h
