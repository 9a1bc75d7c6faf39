-- Each outcome of what nodes do comes: frames and digests.
use Rattle.assise_model_events.proofs.Common.{◌≡◌, ℕ, ◌+◌, ◌≤◌, true, [], ◌∷◌, None, refl, ap, sym, ◌∙◌, subst, arith, Dsync, Pessimistic, OutOfMemory}
use Rattle.assise_model_events.proofs.Common.{StaleMessage, WrongPhase, durability_of, LogFrame, all_full, end_of_log, received_by_all, received_by_all-below}
use Rattle.assise_model_events.proofs.Common.{received_by_all-end, end-same, Syncing, is_refused, is_replicating, is_synced, lacks_memory, deliver, digested}
use Rattle.assise_model_events.proofs.Common.{hot_set, not_yet, received, refused, sent, try_call, IsTimelyDelivery, client_fault, delivery_fault, node_fault}
use Rattle.assise_model_events.proofs.Common.{place_after, Dsyncing, MachineInvariant, Machine, with_hot, Delivering, Digesting, IsDelivered, Sending}
use Rattle.assise_model_events.proofs.Common.{SettingHot, frames_to, is_delivered, is_sent, is_set, is_stale, part_of, undigested, undigested_to, Comes}
use Rattle.assise_model_events.proofs.Common.{IsReached}
use Rattle.assise_private_log.specs.Borders.{whole_count}
use Rattle.assise_model_events.specs.MemberEvents.{is_refused, lacks_memory}
use Rattle.assise_model_events.specs.NodeEvents.{is_refused, lacks_memory}
use Rattle.assise_model_events.proofs.Shared.Answerable.{replicating_can}
use Rattle.assise_model_events.proofs.Trace.{reaches, start, start_holds, start_reached}
use Rattle.assise_model_events.proofs.ReachedCreate.{HasFile, file_record, has_file, has_file_as}
use Rattle.assise_model_events.proofs.Shared.Digestible.{digested_can}
use Rattle.assise_model_events.proofs.Doable.{delivered_can}
use Rattle.assise_model_events.proofs.Shared.EachEvent.{event_keeps}
use Rattle.assise_model_events.proofs.Shared.Faultless.{stands_full}
use Rattle.assise_model_events.proofs.MembersCome.{falls}

-- ---- node 2 is down

pub not_sent : Comes (λ m m'. Sending m 2 (refused WrongPhase) m')
not_sent =
    let (m, (inodes, o)) = falls 1 (start 1) (start_reached 1) (start_holds 1) refl in
    record { limit = 1; before = m; reached = o.reached; after = m; outcome = is_refused WrongPhase (rw o.members refl) refl refl }

pub not_digested : Comes (λ m m'. Digesting m 2 (refused WrongPhase) m')
not_digested =
    let (m, (inodes, o)) = falls 1 (start 1) (start_reached 1) (start_holds 1) refl in
    record { limit = 1; before = m; reached = o.reached; after = m; outcome = is_refused WrongPhase (rw o.members refl) refl refl }

pub hot_not_set : Comes (λ m m'. SettingHot m 2 64 (refused WrongPhase) m')
hot_not_set =
    let (m, (inodes, o)) = falls 1 (start 1) (start_reached 1) (start_holds 1) refl in
    record { limit = 1; before = m; reached = o.reached; after = m; outcome = is_refused WrongPhase (rw o.members refl) refl refl }

-- the frame of the file's record, in some epoch
abbrev pub file_frame : ℕ → LogFrame
file_frame epoch = record { version = 1; epoch = epoch; client = 1; first = 0; records = file_record ∷ []; last = [] }

pub not_delivered : (f : LogFrame) × Comes (λ m m'. Delivering m f 2 (refused WrongPhase) m')
not_delivered =
    let (m, (inodes, o)) = falls 1 (start 1) (start_reached 1) (start_holds 1) refl in (
      file_frame 1,
      record { limit = 1; before = m; reached = o.reached; after = m; outcome = is_refused WrongPhase (rw o.members refl) refl refl },
    )

-- ---- what may be hot is changed at the beginning

pub hot_is_set : Comes (λ m m'. SettingHot m 1 64 hot_set m')
hot_is_set = record { limit = 1; before = start 1; reached = start_reached 1; after = with_hot (start 1) 1 64; outcome = is_set refl refl refl }

pub hot_not_set_for_memory : Comes (λ m m'. SettingHot m 1 64 (refused OutOfMemory) m')
hot_not_set_for_memory = record { limit = 1; before = start 1; reached = start_reached 1; after = start 1; outcome = lacks_memory refl refl refl }

-- ---- the file's record comes to node 2

module _ (m : Machine) (o : HasFile 1 m) where
  file_end : end_of_log m.world 1 ≡ 1
  unfolding end_of_log
  file_end = rw (o.first, o.records) refl

  delivery_fine : (epoch : ℕ) → delivery_fault m (file_frame epoch) 2 ≡ None
  delivery_fine epoch = rw (o.members, o.clients) refl

  place : place_after m (file_frame 1) 2 ≡ 1
  place = rw o.received_other refl

  timely : IsTimelyDelivery m (file_frame 1) 2
  timely = grind (arith, place, file_end)

  late : IsTimelyDelivery m (file_frame 0) 2 → ⊥
  late t = (let this : 0 ≡ m.members.epoch = t.this_epoch in let first : m.members.epoch ≡ 1 = ap (λ x. x.epoch) o.members in omega (arith, this, first))

  delivery : (m' : Machine) × Delivering m (file_frame 1) 2 (received 1) m'
  delivery = grind (arith, delivered_can m (file_frame 1) 2 o.holds (delivery_fine 1) timely, received, place)

pub delivered : (f : LogFrame) × Comes (λ m m'. Delivering m f 2 (received 1) m')
delivered =
    let (m, o) = has_file 1 (omega arith) in
    let (m', h) = delivery m o in
    (file_frame 1, record { limit = 1; before = m; reached = o.reached; after = m'; outcome = h })

pub not_delivered_for_memory : (f : LogFrame) × Comes (λ m m'. Delivering m f 2 (refused OutOfMemory) m')
not_delivered_for_memory =
    let (m, o) = has_file 1 (omega arith) in
    (file_frame 1, record { limit = 1; before = m; reached = o.reached; after = m; outcome = lacks_memory (delivery_fine m o 1) (timely m o) refl refl })

-- a frame of an epoch that was before
pub stale : (f : LogFrame) × Comes (λ m m'. Delivering m f 2 (refused StaleMessage) m')
stale =
    let (m, o) = has_file 1 (omega arith) in
    (file_frame 0, record { limit = 1; before = m; reached = o.reached; after = m; outcome = is_stale (delivery_fine m o 0) (late m o) refl refl })

-- ---- all full nodes have the file's record

pub record HasBoth (m : Machine) : Type 0 where
  pub reached : IsReached 1 m
  pub holds : MachineInvariant m
  pub members : m.members ≡ all_full 2
  pub clients : m.world.clients ≡ 1
  pub undigested : undigested_to m.world 1 m.world.clients ≡ 1
  pub borders : (c k : ℕ) → k ≤ end_of_log m.world c → m.world.border c k ≡ true

all_have : (m m' : Machine) → HasFile 1 m → IsDelivered m (file_frame 1) 2 m' → received_by_all m'.world 1 ≡ 1
unfolding received_by_all end_of_log
all_have m m' o e = grind (arith, place, end-same, file_end)

one_undigested : (m m' : Machine) → HasFile 1 m → IsDelivered m (file_frame 1) 2 m' → undigested_to m'.world 1 m'.world.clients ≡ 1
one_undigested m m' o e = grind (arith, all_have)

of_delivery : (m m' : Machine) → HasFile 1 m → Delivering m (file_frame 1) 2 (received 1) m' → HasBoth m'
of_delivery m m' o (is_stale fine not_timely is same) = cc
of_delivery m m' o (lacks_memory fine in_time is same) = cc
of_delivery m m' o (is_refused r fault is same) = cc
of_delivery m m' o (is_delivered fine is e) =
    let d = e.delivers in
    record {
      reached = reaches 1 m m' (deliver (file_frame 1) 2) (received 1) o.reached (is_delivered fine is e);
      holds = event_keeps m m' (deliver (file_frame 1) 2) (received 1) o.holds (is_delivered fine is e);
      members = e.keeps.members ∙ o.members;
      clients = d.clients.clients ∙ o.clients;
      undigested = one_undigested m m' o e;
      borders = λ c k low. d.logs.border c k ∙ o.borders c k (subst (λ j. k ≤ j) (end-same m.world m'.world d.logs c) low);
    }

pub has_both : (m : Machine) × HasBoth m
has_both =
    let (m, o) = has_file 1 (omega arith) in
    let (m', h) = delivery m o in
    (m', of_delivery m m' o h)

full_fine : (m : Machine) → HasBoth m → node_fault m 1 ≡ None
full_fine m o = rw o.members refl

pub not_digested_for_memory : Comes (λ m m'. Digesting m 1 (refused OutOfMemory) m')
not_digested_for_memory = grind (arith, has_both, undigested_to, lacks_memory, full_fine)

part_border : (m : Machine) → HasBoth m → (c : ℕ) → m.world.border c (m.world.digested 1 c + part_of m.world 1 1 c) ≡ true
part_border m o c = grind (arith, stands_full, full_fine, received_by_all-end)

pub digested_one : Comes (λ m m'. Digesting m 1 (digested 1) m')
digested_one =
    let (m, o) = has_both in
    let some : undigested_to m.world 1 m.world.clients ≡ 1 = o.undigested in
    let (m', h) = digested_can m 1 1 o.holds (full_fine m o) (rw some (omega arith)) (λ more. omega arith) (part_border m o) in
    record { limit = 1; before = m; reached = o.reached; after = m'; outcome = h }

-- ---- client 1 awaits that its file is replicated

-- its goal is the end of its log
pub record Awaits (m : Machine) : Type 0 where
  pub reached : IsReached 1 m
  pub members : m.members ≡ all_full 2
  pub clients : m.world.clients ≡ 1
  pub home : m.world.home 1 ≡ 1
  pub first : m.world.first 1 ≡ 0
  pub goal : m.world.goal 1 ≡ 1
  pub log : m.world.log 1 1 ≡ file_record ∷ []
  pub received_home : m.world.received 1 1 ≡ 1
  pub received_other : m.world.received 2 1 ≡ 0

of_sync : (m m' : Machine) → HasFile 1 m → durability_of 1 m.history ≡ Pessimistic → Syncing m 1 Dsync not_yet m' → Awaits m'
of_sync m m' o was (is_synced reply fine is e) = cc
of_sync m m' o was (lacks_memory fine all is same) = cc
of_sync m m' o was (is_refused r fault is same) = cc
of_sync m m' o was (is_replicating fine is e) =
    let d = e.raises in
    record {
      reached = reaches 1 m m' (try_call 1 Dsync) not_yet o.reached (subst (λ u. Dsyncing u m 1 not_yet m') (sym was) (is_replicating fine is e));
      members = e.keeps.members ∙ o.members;
      clients = d.clients.clients ∙ o.clients;
      home = d.clients.home 1 ∙ o.home;
      first = d.logs.first 1 ∙ o.first;
      goal = d.goals 1 ∙ rw (o.goal, file_end m o) refl;
      log = (d.nodes.same 1 (rw o.full refl)).log 1 ∙ o.log_home;
      received_home = (d.nodes.same 1 (rw o.full refl)).received 1 ∙ o.received_home;
      received_other = (d.nodes.same 2 (rw o.full refl)).received 1 ∙ o.received_other;
    }

pub awaits : (m : Machine) × Awaits m
awaits =
    let (m, (o, was)) = has_file_as 1 Pessimistic (omega arith) in
    let fine : client_fault m 1 ≡ None = rw (o.clients, o.runs, o.lives) refl in
    let all : received_by_all m.world 1 ≤ m.world.received 2 1 = received_by_all-below m.world 2 1 (rw o.full refl) in
    let none : m.world.received 2 1 ≡ 0 = o.received_other in
    let one : end_of_log m.world 1 ≡ 1 = file_end m o in
    let (m', h) = replicating_can m 1 Dsync o.holds fine (omega (arith, all, none, one)) in
    (m', of_sync m m' o was h)

frames : (m : Machine) → Awaits m → frames_to m 1 m.world.clients ≡ (file_frame 1, 2) ∷ []
unfolding whole_count
frames m o = rw (o.clients, o.members, o.home, o.first, o.goal, o.log, o.received_home, o.received_other) refl

pub sent_one : (f : LogFrame) × Comes (λ m m'. Sending m 1 (sent ((f, 2) ∷ [])) m')
sent_one =
    let (m, o) = awaits in
    (file_frame 1, record { limit = 1; before = m; reached = o.reached; after = m; outcome = is_sent (rw o.members refl) (ap sent (sym (frames m o))) refl })

pub not_sent_for_memory : Comes (λ m m'. Sending m 1 (refused OutOfMemory) m')
not_sent_for_memory = grind (arith, awaits, frames_to, frames, lacks_memory)
