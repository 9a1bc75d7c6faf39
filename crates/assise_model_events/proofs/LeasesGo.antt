-- Leases that go: a client that got its leases crashes, and they are ready.
use Rattle.assise_model_events.proofs.Common.{◌≡◌, ℕ, suc, ◌<◌, max, nat_le, true, List, [], ◌∷◌, length, Some, refl, ap, ◌∙◌, arith, and_parts, le-leb}
use Rattle.assise_model_events.proofs.Common.{true≢false, Write, OutOfMemory, Done, NumberedCall, revoke, is_own, lease_of, new_lease, is_revoked, World}
use Rattle.assise_model_events.proofs.Common.{digested_by_all, end_of_log, Leases, client_lease, IsNew, create_op, creation, Calling, Crashing, Granted, Gets}
use Rattle.assise_model_events.proofs.Common.{is_crashed, is_refused, lacks_memory, last_leases, Answer, crash, crashed, refused, released, try_call}
use Rattle.assise_model_events.proofs.Common.{MachineInvariant, Machine, Releasing, is_ready, is_released, Comes, IsReached}
use Rattle.assise_model_events.specs.NodeEvents.{is_refused, lacks_memory}
use Rattle.assise_model_events.proofs.Shared.Answerable.{crashed_can}
use Rattle.assise_model_events.proofs.Trace.{HasLeases, IsOpen, is_open, leases_had, reaches, tried}
use Rattle.assise_model_events.proofs.Shared.LackAnswerable.{keeps_them, with_granted}
use Rattle.assise_model_events.proofs.Shared.EachEvent.{event_keeps}
use Rattle.assise_model_events.proofs.Freeable.{released_can}

-- ---- client 1 crashes once it has leases

-- clients hold no inode above some number
abbrev pub HoldFew : Leases → Type 0
HoldFew l = (most : ℕ) × ((i : ℕ) → most < i → l.levels.clients i ≡ [])

few_after : (x : NumberedCall) (w : World) (l : Leases) (gs : List Granted) → Gets x w l gs → HoldFew l → HoldFew (last_leases l gs)
few_after x w l [] none few = few
few_after x w l (g ∷ gs) (missing, grant, others, more) (most, few) =
    few_after x g.world g.leases gs more (
      max most g.inode,
      λ i above. grant.granted.clients.elsewhere i (λ is. omega (arith, above, is)) ∙ few i (omega (arith, above)),
    )

-- client 1 has its leases and made no call
pub record HasOnlyLeases (m : Machine) : Type 0 where
  pub reached : IsReached 1 m
  pub holds : MachineInvariant m
  pub world : IsNew m.world
  pub few : HoldFew m.leases
  pub clients_root : m.leases.levels.clients 0 ≡ new_lease 1 Write ∷ []

module _ (m : Machine) (o : IsOpen 1 m) (gs : List Granted) (h : HasLeases m gs) where
  out_of_memory : Calling m 1 create_op (refused OutOfMemory) (with_granted m gs)
  out_of_memory = lacks_memory Done gs refl (tried 1 m o gs h) (keeps_them m gs)

  only_leases : HasOnlyLeases (with_granted m gs)
  only_leases = record {
    reached = reaches 1 m (with_granted m gs) (try_call 1 create_op) (refused OutOfMemory) o.reached out_of_memory;
    holds = event_keeps m (with_granted m gs) (try_call 1 create_op) (refused OutOfMemory) o.holds out_of_memory;
    world = h.world;
    few = few_after creation m.world m.leases gs h.gets (0, λ i above. o.clients_none i);
    clients_root = h.clients_root;
  }

pub has_only_leases : (m : Machine) × HasOnlyLeases m
has_only_leases =
    let (m, o) = is_open 1 in
    let (gs, h) = leases_had 1 m o in
    (with_granted m gs, only_leases m o gs h)

-- client 1's lease of the root is ready to go
pub record IsReady (m : Machine) : Type 0 where
  pub reached : IsReached 1 m
  pub holds : MachineInvariant m
  pub few : HoldFew m.leases
  pub ready : is_ready m.world m.leases 1 0 ≡ true

new_end : (w : World) → IsNew w → end_of_log w 1 ≡ 0
unfolding end_of_log
new_end w n = rw (n.first, n.records) refl

of_crash : (m m' : Machine) → HasOnlyLeases m → Crashing m 1 crashed m' → IsReady m'
of_crash m m' o (lacks_memory fine is same) = cc
of_crash m m' o (is_refused r fault is same) = cc
of_crash m m' o (is_crashed fine is e) =
    let (most, few) = o.few in
    let revoked : client_lease m'.leases 1 0 ≡ Some (record { holder = 1; mode = Write; revoked = true }) =
    ap (λ ls. lease_of ls 1) (e.crash.revoked.clients 0 ∙ ap (revoke (is_own 1)) o.clients_root) in
    let cut : m'.leases.cut 1 0 ≡ 0 = e.crash.cut_here 0 ∙ new_end m.world o.world in
    record {
      reached = reaches 1 m m' (crash 1) crashed o.reached (is_crashed fine is e);
      holds = event_keeps m m' (crash 1) crashed o.holds (is_crashed fine is e);
      few = (most, λ i above. e.crash.revoked.clients i ∙ ap (revoke (is_own 1)) (few i above));
      ready =
          grind (arith, is_revoked, nat_le, digested_by_all, le-leb);
    }

pub is_ready_once : (m : Machine) × IsReady m
is_ready_once =
    let (m, o) = has_only_leases in
    let (m', h) = crashed_can m 1 o.holds (rw (o.world.clients, o.world.runs, o.world.lives) refl) in
    (m', of_crash m m' o h)

-- ---- its leases go

some_go : (m m' : Machine) (a : Answer) → is_ready m.world m.leases 1 0 ≡ true → Releasing m a m' → (count : ℕ) × Releasing m (released (suc count)) m'
some_go m m' a ready (is_released [] freed is e) = grind (arith, and_parts, is_revoked, client_lease, nat_le, digested_by_all, true≢false)
some_go m m' a ready (is_released (g ∷ gone) freed is e) = (length gone, is_released (g ∷ gone) freed refl e)

pub released_some : (count : ℕ) × Comes (λ m m'. Releasing m (released (suc count)) m')
released_some =
    let (m, o) = is_ready_once in
    let (m', r) = released_can m o.few.0 o.holds o.few.1 in
    let (count, h) = some_go m m' r.0 o.ready r.1 in
    (count, record { limit = 1; before = m; reached = o.reached; after = m'; outcome = h })
