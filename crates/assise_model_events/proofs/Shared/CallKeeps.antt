-- A call: it is answered, awaited or refused, once its client got leases.
use Rattle.assise_model_events.proofs.Common.{◌≡◌, ℕ, false, List, [], ◌∷◌, length, refl, ap, sym, subst, ◌∙◌, both_ways, Op, durability_of, is_sync, syncs}
use Rattle.assise_model_events.proofs.Common.{NumberedCall, World, raise_sound, call_dropped, still_dropped, asked_goal, Leases, AreLeases, call_keeps}
use Rattle.assise_model_events.proofs.Common.{raises_goals, plain_call, Granted, last_world, last_leases, IsTried, KeepsGranted, IsAnswered, IsAwaited, Calling}
use Rattle.assise_model_events.proofs.Common.{is_answered, is_awaited, is_spent, is_full, lacks_memory, is_refused, call_of_client, Answer, call_entry, Leads}
use Rattle.assise_model_events.proofs.Common.{Machine, MachineInvariant, state_of, arith}
use Rattle.assise_model_leases.proofs.Shared.AskKeeps.{ask_keeps}
use Rattle.assise_model_events.proofs.AnsweredCall.{call_happens, logs_answered}
use Rattle.assise_model_events.proofs.Shared.LeaseSteps.{Reached, comes_to, leads_with, reached_holds, logs_after, clients_after, nodes_after, full_after}
use Rattle.assise_model_events.proofs.Shared.EventTraces.{leads_sound, leads_recorded, same_leads, same_holds, with_world, quietly, ends_as}
use Rattle.assise_model_events.proofs.Members.{members_stay, epochs_stay}

module _ (m m' : Machine) (x : NumberedCall) (gs : List Granted) (h : MachineInvariant m) (t : IsTried m x gs) where
  abbrev w : World
  w = last_world m.world gs

  abbrev l : Leases
  l = last_leases m.leases gs

  got : Reached m w l
  got = comes_to m x gs h t.gets

  -- ---- it is refused, and its client keeps the leases that it got

  granted_leads : KeepsGranted m gs m' → Leads m m'
  granted_leads e = leads_with m m' x gs [] h t.gets tt (ends_as m m' w (ap (λ o. length o.nodes) e.members) e.adds e.world)

  granted_keeps : KeepsGranted m gs m' → MachineInvariant m'
  granted_keeps e =
      reached_holds m m' h (granted_leads e)
      (subst (λ v. Reached m v m'.leases) (sym e.world) (subst (λ k. Reached m w k) (sym e.leases) got)) e.adds e.members

  -- ---- it is awaited: goals rise of those that are asked for a lease

  awaited_leads : IsAwaited m x gs m' → Leads m m'
  awaited_leads e =
      leads_with m m' x gs (with_world m m'.world ∷ []) h t.gets
      (quietly m w m'.world (raises_goals (asked_goal l m'.leases e.inode) e.asks.goals), tt)
      (ends_as m m' m'.world (ap (λ o. length o.nodes) e.keeps.members) e.adds refl)

  awaited_reached : IsAwaited m x gs m' → Reached m m'.world m'.leases
  awaited_reached e = grind (
    arith,
    raise_sound w m'.world (asked_goal l m'.leases e.inode) got.sound e.asks.goals,
    still_dropped w m'.world e.asks.goals.logs e.asks.goals.nodes got.dropped,
    ask_keeps w m'.world l m'.leases x.client e.inode e.mode got.leases e.asks got.sound,
    logs_after m.world w m'.world got.logs e.asks.goals.logs,
    clients_after m.world w m'.world got.clients e.asks.goals.clients,
    nodes_after m.world w m'.world got.nodes e.asks.goals.nodes,
  )

  awaited_keeps : IsAwaited m x gs m' → MachineInvariant m'
  awaited_keeps e = reached_holds m m' h (awaited_leads e) (awaited_reached e) e.adds e.keeps.members

  -- ---- it is answered

  answered_leads : syncs m.history (plain_call x) ≡ false → IsAnswered m x gs m' → Leads m m'
  answered_leads other e =
      leads_with m m' x gs (state_of m' ∷ []) h t.gets
      (call_happens m m' w x h t.next e.call.call (λ is. absurd (both_ways (syncs m.history (plain_call x)) other is)) e.adds e.keeps.members, tt)
      refl

  answered_keeps : syncs m.history (plain_call x) ≡ false → IsAnswered m x gs m' → MachineInvariant m'
  answered_keeps other e = record {
    sound = leads_sound m m' h (answered_leads other e);
    dropped = call_dropped w m'.world x got.sound e.call.call got.dropped;
    recorded = leads_recorded m m' h (answered_leads other e);
    leases = subst (λ k. AreLeases m'.world k) (sym e.leases) (call_keeps w m'.world l x got.leases e.call);
    members = members_stay m m' h e.keeps (e.call.call.full ∙ got.nodes.full)
        (λ n i f. e.call.call.area n i (full_after m.world w n got.nodes.full f) ∙ (got.nodes.same n f).area i);
    epochs = epochs_stay m m' (call_entry m.history x.client x.op x.reply) h e.keeps.members e.adds;
    logs = logs_answered m m' w x h got.logs.records e.call.call e.room e.adds.limit;
    clients = rw (e.call.call.clients.clients, got.clients.clients) h.clients;
  }

-- ---- each outcome

pub calling_holds : (m m' : Machine) (c : ℕ) (op : Op) (a : Answer) → MachineInvariant m → is_sync op (durability_of c m.history) ≡ false →
    Calling m c op a m' → Leads m m' × MachineInvariant m'
calling_holds m m' c op a h other (is_answered reply gs is e) = (let x = call_of_client m.world c op reply in
    (answered_leads m m' x gs h e.tried other e, answered_keeps m m' x gs h e.tried other e))
calling_holds m m' c op a h other (is_awaited reply gs is e) = (let x = call_of_client m.world c op reply in
    (awaited_leads m m' x gs h e.tried e, awaited_keeps m m' x gs h e.tried e))
calling_holds m m' c op a h other (is_spent reply gs is spent e) = (let x = call_of_client m.world c op reply in
    (granted_leads m m' x gs h spent.tried e, granted_keeps m m' x gs h spent.tried e))
calling_holds m m' c op a h other (is_full reply gs is full e) = (let x = call_of_client m.world c op reply in
    (granted_leads m m' x gs h full.tried e, granted_keeps m m' x gs h full.tried e))
calling_holds m m' c op a h other (lacks_memory reply gs is tried e) = (let x = call_of_client m.world c op reply in
    (granted_leads m m' x gs h tried e, granted_keeps m m' x gs h tried e))
calling_holds m m' c op a h other (is_refused r fault is same) = (same_leads m m' same, same_holds m m' same h)

pub calling_keeps : (m m' : Machine) (c : ℕ) (op : Op) (a : Answer) → MachineInvariant m → is_sync op (durability_of c m.history) ≡ false →
    Calling m c op a m' → MachineInvariant m'
calling_keeps m m' c op a h other e = (calling_holds m m' c op a h other e).1
