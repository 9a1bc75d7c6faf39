-- What clients do can be answered where no fault stands: each outcome leads to a machine.
use Rattle.assise_model_events.proofs.Common.{◌≡◌, ℕ, suc, ◌<◌, max, nat_le, true, false, [], ◌∷◌, ◌++◌, length, Some, None, refl, arith, append-nil, Op}
use Rattle.assise_model_events.proofs.Common.{Durability, is_sync, Mode, Reply, Done, crashes, opens, has_some, NumberedCall, is_free_for, standing_of, full}
use Rattle.assise_model_events.proofs.Common.{RaisesGoals, WorldInvariant, World, end_of_log, received_by_all, step_at_home, step_sound, MayCallUnder, Leases}
use Rattle.assise_model_events.proofs.Common.{may_open_at, may_call_under, may_ask, may_crash_with, Calling, Crashing, IsMissing, IsTried, Opening, Syncing}
use Rattle.assise_model_events.proofs.Common.{call_of_client, goal_of_sync, call_entry, crashed, not_yet, opened, replied, call_fault, client_fault, fault_if}
use Rattle.assise_model_events.proofs.Common.{is_too_large, open_fault, unless_full, MachineInvariant, Machine}
use Rattle.assise_model_world.specs.Runs.{raises_goals}
use Rattle.assise_model_events.specs.ClientEvents.Calling.{is_answered, is_awaited}
use Rattle.assise_model_events.specs.ClientEvents.Crashing.{is_crashed}
use Rattle.assise_model_events.specs.ClientEvents.Opening.{is_opened}
use Rattle.assise_model_events.specs.ClientEvents.Syncing.{is_replicating, is_synced}
use Rattle.assise_model_events.proofs.Shared.Faultless.{client_runs, first_none, stands_full}
use Rattle.assise_model_events.proofs.Steady.{old_call, old_crash, old_opens, old_raises, with_old_areas}

-- ---- a client is opened, and crashes

pub opened_can : (m : Machine) (n : ℕ) (u : Durability) → MachineInvariant m → open_fault m n ≡ None →
    (m' : Machine) × Opening m n u (opened (suc m.world.clients)) m'
opened_can m n u h fine =
    let at : standing_of m.members.nodes n ≡ Some full =
    grind (arith, stands_full, standing_of, first_none, unless_full, fault_if, nat_le) in
    let (v, k, e) = may_open_at m.world m.leases n (h.members.nodes_full n at) in (
      record m { history = m.history ++ opens (suc m.world.clients) n u ∷ []; world = with_old_areas m.world v; leases = k },
      is_opened fine refl (grind (arith, opens, old_opens)),
    )

pub crashed_can : (m : Machine) (c : ℕ) → MachineInvariant m → client_fault m c ≡ None → (m' : Machine) × Crashing m c crashed m'
crashed_can m c h fine =
    let runs : (m.world.lives c ≡ true) × (m.world.crashed c ≡ false) = client_runs m c fine in
    let (u, k, e) = may_crash_with m.world m.leases c runs.0 runs.1 in (
      record m { history = m.history ++ crashes c ∷ []; world = with_old_areas m.world u; leases = k },
      is_crashed fine refl (grind (arith, old_crash)),
    )

-- ---- a call is answered, or awaits a lease

pub is_tried : (m : Machine) (c : ℕ) (op : Op) (reply : Reply) → call_fault m c op ≡ None → IsTried m (call_of_client m.world c op reply) []
is_tried m c op reply fine = record { fine = fine; next = refl; fresh = refl; gets = tt }

pub called_can : (m : Machine) (c : ℕ) (op : Op) (reply : Reply) → MachineInvariant m → call_fault m c op ≡ None →
    MayCallUnder m.world m.leases (call_of_client m.world c op reply) →
    (has_some (step_at_home m.world (call_of_client m.world c op reply)).effects ≡ true → length (m.world.records c) < m.limit) →
    (m' : Machine) × Calling m c op (replied reply) m'
called_can m c op reply h fine may room =
    let x : NumberedCall = call_of_client m.world c op reply in
    let (u, e) = may_call_under m.world m.leases x h.sound may in (
      record m { history = m.history ++ call_entry m.history c op reply; world = with_old_areas m.world u },
      is_answered reply [] refl (search (is_tried, old_call, arith) parts 3),
    )

pub awaited_can : (m : Machine) (c i : ℕ) (op : Op) (reply : Reply) (mode : Mode) → MachineInvariant m → call_fault m c op ≡ None →
    IsMissing m.world m.leases (call_of_client m.world c op reply) i mode → is_free_for m.leases.levels c (m.world.home c) i mode ≡ false →
    (m' : Machine) × Calling m c op not_yet m'
awaited_can m c i op reply mode h fine missing taken =
    let runs : (m.world.lives c ≡ true) × (m.world.crashed c ≡ false) =
    grind (arith, client_runs, first_none, client_fault, fault_if, is_too_large) in
    let (u, k, e) = may_ask m.world m.leases c i mode h.leases (record { lives_on = runs.0; running = runs.1; not_free = taken }) h.sound in (
      record m { world = with_old_areas m.world u; leases = k },
      is_awaited reply [] refl (grind (arith, is_tried, old_raises, append-nil)),
    )

-- ---- a sync

abbrev raised_world : World → ℕ → World
raised_world w c = record w { goal = λ d. max (w.goal d) (goal_of_sync w c d) }

raises_it : (w : World) (c : ℕ) → RaisesGoals w (goal_of_sync w c) (raised_world w c)
raises_it w c = grind arith

sync_may : (w : World) (l : Leases) (c : ℕ) (op : Op) (u : Durability) → is_sync op u ≡ true → w.lives c ≡ true → w.crashed c ≡ false →
    MayCallUnder (raised_world w c) l (call_of_client w c op Done)
sync_may w l c op u sync lives running = grind arith

pub synced_can : (m : Machine) (c : ℕ) (op : Op) (u : Durability) → is_sync op u ≡ true → MachineInvariant m → client_fault m c ≡ None →
    received_by_all m.world c ≡ end_of_log m.world c → (m' : Machine) × Syncing m c op (replied Done) m'
synced_can m c op u sync h fine all =
    let runs : (m.world.lives c ≡ true) × (m.world.crashed c ≡ false) = client_runs m c fine in
    let x : NumberedCall = call_of_client m.world c op Done in
    let between : World = raised_world m.world c in
    let sound : WorldInvariant between = step_sound m.world between h.sound (raises_goals (goal_of_sync m.world c) (raises_it m.world c)) in
    let (v, e) = may_call_under between m.leases x sound (sync_may m.world m.leases c op u sync runs.0 runs.1) in (
      record m { history = m.history ++ call_entry m.history c op Done; world = with_old_areas between v },
      is_synced Done fine refl (record {
        replicated = all;
        between = between;
        raises = raises_it m.world c;
        others = λ j i away. refl;
        call = record { call = old_call between v x e.call; visited = e.visited; changed = e.changed };
        leases = refl;
        adds = record { history = refl; limit = refl; hot = refl };
        keeps = record { members = refl; others = λ j i away. refl };
      }),
    )

pub replicating_can : (m : Machine) (c : ℕ) (op : Op) → MachineInvariant m → client_fault m c ≡ None → received_by_all m.world c < end_of_log m.world c →
    (m' : Machine) × Syncing m c op not_yet m'
replicating_can m c op h fine lacking = (
  record m { world = raised_world m.world c },
  is_replicating fine refl (grind (arith, raises_it, append-nil)),
)
