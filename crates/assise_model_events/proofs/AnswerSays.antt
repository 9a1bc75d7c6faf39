-- What each answer says.
use Rattle.assise_model_events.proofs.Common.{◌≡◌, ◌≢◌, ◌↔◌, ℕ, ◌<◌, ◌≤◌, true, List, [], ◌∷◌, Contains, Some, None, refl, ap, sym, subst, ◌∙◌, arith, Op}
use Rattle.assise_model_events.proofs.Common.{Dsync, Busy, Reply, opening_tree, Loss, kept, tree_after, NumberedCall, cases_eq, Mode, LogFrame, join_fault}
use Rattle.assise_model_events.proofs.Common.{is_returning, standing_of, MakesCall, WorldInvariant, World, end_of_log, received_by_all, raise_sound, call_reply}
use Rattle.assise_model_events.proofs.Common.{Grants, Leases, client_lease, IsRevokedLease, IsFirstLost, losses_of, exactly_lost, Granted, Gets, Calling}
use Rattle.assise_model_events.proofs.Common.{Syncing, is_answered, is_awaited, is_spent, is_full, is_refused, lacks_memory, is_synced, is_replicating}
use Rattle.assise_model_events.proofs.Common.{last_leases, last_world, call_of_client, goal_of_sync, Coalescing, IsCoalescing, Answer, digested, failed, joined}
use Rattle.assise_model_events.proofs.Common.{not_yet, received, refused, replied, place_after, Machine, MachineInvariant, Failing, Joining, is_failed}
use Rattle.assise_model_events.proofs.Common.{is_failed_again, is_joined, Delivering, Digesting, Releasing, is_released, is_ready, most_digested, undigested_to}
use Rattle.assise_seq_tree.specs.Answer.{answer}
use Rattle.assise_manager.specs.Standings.{full}
use Rattle.assise_model_leases.proofs.Shared.LookUps.{revoked_serves}
use Rattle.assise_model_leases.proofs.Shared.Waiters.{asked_other, asked_in_way, asked_elsewhere}
use Rattle.assise_model_history.proofs.Shared.RecordKeeps.{same_tree}
use Rattle.assise_model_events.specs.Dsyncs.{is_refused, is_synced, lacks_memory}
use Rattle.assise_model_events.specs.MemberEvents.{is_refused, lacks_memory}
use Rattle.assise_model_events.specs.NodeEvents.{is_digested, is_refused, lacks_memory}
use Rattle.assise_model_events.specs.Outcomes.{AwaitsLease}
use Rattle.assise_model_events.proofs.Shared.LeaseSteps.{comes_to}
use Rattle.assise_model_events.proofs.ReleaseKeeps.{freed_same}

-- ---- grants

-- a grant revokes nothing
grant_revokes : (w : World) (l : Leases) (c i : ℕ) (mode : Mode) (u : World) (k : Leases) → Grants w l c i mode u k → (d j : ℕ) → IsRevokedLease k d j →
    IsRevokedLease l d j
grant_revokes w l c i mode u k g d j revoked = grind (arith, cases_eq, revoked_serves)

grants_revoke : (x : NumberedCall) (w : World) (l : Leases) (gs : List Granted) → Gets x w l gs → (d j : ℕ) → IsRevokedLease (last_leases l gs) d j →
    IsRevokedLease l d j
grants_revoke x w l [] gets d j revoked = revoked
grants_revoke x w l (g ∷ gs) (missing, grant, others, more) d j revoked = grind (arith, grants_revoke x g.world g.leases gs more d j revoked, grant_revokes)

-- and changes no other client's lease
grants_leave : (x : NumberedCall) (w : World) (l : Leases) (gs : List Granted) → Gets x w l gs → (d j : ℕ) → d ≢ x.client → client_lease (last_leases l gs) d j
    ≡ client_lease l d j
grants_leave x w l [] gets d j other = refl
grants_leave x w l (g ∷ gs) (missing, grant, others, more) d j other = grants_leave x g.world g.leases gs more d j other ∙ grant.granted.others j d other

-- ---- calls

pub awaits : (m m' : Machine) (c : ℕ) (op : Op) → Calling m c op not_yet m' → AwaitsLease m c op m'
awaits m m' c op h = grind (arith, grants_revoke, grants_leave, asked_elsewhere, asked_other, asked_in_way)

-- ---- replies

of_the_tree : (m m' : Machine) (w : World) (x : NumberedCall) → MachineInvariant m → WorldInvariant w → w.calls ≡ m.world.calls → MakesCall w x m'.world →
    x.reply ≡ (answer (tree_after opening_tree (kept m.history)) x.op).0
of_the_tree m m' w x h sound same e = call_reply w m'.world x sound e ∙ ap (λ t. (answer t x.op).0) (same_tree w m.history (same ∙ h.recorded.calls))

same_reply : (a b : Reply) → replied a ≡ replied b → a ≡ b
same_reply a b is = cc

pub call_replies : (m m' : Machine) (c : ℕ) (op : Op) (reply : Reply) → MachineInvariant m → Calling m c op (replied reply) m' →
    reply ≡ (answer (tree_after opening_tree (kept m.history)) op).0
call_replies m m' c op reply h (is_answered own granted is e) =
    let x : NumberedCall = call_of_client m.world c op own in
    let r = comes_to m x granted h e.tried.gets in
    same_reply reply own is ∙ of_the_tree m m' (last_world m.world granted) x h r.sound r.logs.calls e.call.call
call_replies m m' c op reply h (is_awaited own granted is e) = cc
call_replies m m' c op reply h (is_spent own granted is e keeps) = cc
call_replies m m' c op reply h (is_full own granted is e keeps) = cc
call_replies m m' c op reply h (lacks_memory own granted is e keeps) = cc
call_replies m m' c op reply h (is_refused r fault is same) = cc

pub sync_replies : (m m' : Machine) (c : ℕ) (op : Op) (reply : Reply) → MachineInvariant m → Syncing m c op (replied reply) m' →
    reply ≡ (answer (tree_after opening_tree (kept m.history)) op).0
sync_replies m m' c op reply h (is_synced own fine is e) =
    same_reply reply own is ∙ of_the_tree m m' e.between (call_of_client m.world c op own) h
    (raise_sound m.world e.between (goal_of_sync m.world c) h.sound e.raises) e.raises.logs.calls e.call.call
sync_replies m m' c op reply h (is_replicating fine is e) = cc
sync_replies m m' c op reply h (lacks_memory fine all is same) = cc
sync_replies m m' c op reply h (is_refused r fault is same) = cc

-- ---- a sync

pub synced_all : (m m' : Machine) (c : ℕ) (op : Op) (reply : Reply) → Syncing m c op (replied reply) m' → received_by_all m.world c ≡ end_of_log m.world c
synced_all m m' c op reply h = grind arith

pub syncing_lacks : (m m' : Machine) (c : ℕ) (op : Op) → Syncing m c op not_yet m' → received_by_all m.world c < end_of_log m.world c
syncing_lacks m m' c op h = grind arith

pub coalescing_replies : (m m' : Machine) (c : ℕ) (reply : Reply) → MachineInvariant m → Coalescing m c (replied reply) m' →
    reply ≡ (answer (tree_after opening_tree (kept m.history)) Dsync).0
coalescing_replies m m' c reply h s = grind (arith, sync_replies)

pub coalescing_all : (m m' : Machine) (c : ℕ) (reply : Reply) → Coalescing m c (replied reply) m' → received_by_all m.world c ≡ end_of_log m.world c
coalescing_all m m' c reply h = grind arith

pub coalescing_awaited : (m m' : Machine) (c : ℕ) → Coalescing m c not_yet m' → IsCoalescing m c m'
coalescing_awaited m m' c h = grind arith

-- ---- a delivery

pub delivered_place : (m m' : Machine) (f : LogFrame) (n k : ℕ) → Delivering m f n (received k) m' → k ≡ place_after m f n
delivered_place m m' f n k h = grind arith

pub delivered_stands : (m m' : Machine) (f : LogFrame) (n k : ℕ) → Delivering m f n (received k) m' → m'.world.received n f.client ≡ k
delivered_stands m m' f n k h = grind arith

-- ---- a digest

same_count : (j k : ℕ) → digested j ≡ digested k → j ≡ k
same_count j k is = cc

pub digested_none : (m m' : Machine) (n : ℕ) → Digesting m n (digested 0) m' → undigested_to m.world n m.world.clients ≡ 0
digested_none m m' n (is_digested count fine is e) = grind (arith, same_count, undigested_to)
digested_none m m' n (lacks_memory fine some is same) = cc
digested_none m m' n (is_refused r fault is same) = cc

pub digested_most : (m m' : Machine) (n count : ℕ) → Digesting m n (digested count) m' → count ≤ most_digested
digested_most m m' n count h = grind (arith, same_count)

-- ---- leases that go

pub ready_goes : (m m' : Machine) (a : Answer) (c i : ℕ) → Releasing m a m' → is_ready m.world m.leases c i ≡ true → client_lease m'.leases c i ≡ None
ready_goes m m' a c i (is_released gone freed is e) ready = grind (arith, client_lease, freed_same)

-- ---- failures and returns

same_losses : (a b : List Loss) → failed a ≡ failed b → a ≡ b
same_losses a b is = cc

pub listed_exactly : (m m' : Machine) (n : ℕ) (losses : List Loss) (l : Loss) → MachineInvariant m → standing_of m.members.nodes n ≡ Some full →
    Failing m n (failed losses) m' →
    Contains losses l ↔ IsFirstLost m.world n l
listed_exactly m m' n losses l h at (is_failed fine is e) =
    subst (λ ls. Contains ls l ↔ IsFirstLost m.world n l) (sym (same_losses losses (losses_of m.world n) is)) (exactly_lost m.world n l h.sound)
listed_exactly m m' n losses l h at (is_failed_again fine is e) = grind (arith, is_returning, full)
listed_exactly m m' n losses l h at (lacks_memory fine is same) = cc
listed_exactly m m' n losses l h at (is_refused r fault is same) = cc

pub again_none : (m m' : Machine) (n : ℕ) (losses : List Loss) → standing_of m.members.nodes n ≢ Some full → Failing m n (failed losses) m' → losses ≡ []
again_none m m' n losses away h = grind (arith, same_losses)

pub join_busy : (m m' : Machine) (n : ℕ) → Joining m n (refused Busy) m' → join_fault m.members n ≡ Some Busy
join_busy m m' n (is_joined fine is e) = cc
join_busy m m' n (lacks_memory fine is same) = cc
join_busy m m' n (is_refused r fault is same) = grind (arith, refused)

pub busy_same : (m m' : Machine) (n : ℕ) → Joining m n (refused Busy) m' → m' ≡ m
busy_same m m' n h = grind arith

pub join_fine : (m m' : Machine) (n : ℕ) → Joining m n joined m' → join_fault m.members n ≡ None
join_fine m m' n h = grind arith
