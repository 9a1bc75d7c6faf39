-- A timely frame can be delivered.
use Rattle.assise_model_events.proofs.Common.{◌≡◌, ℕ, ◌+◌, ◌-◌, ◌≤◌, min, length, None, refl, arith, append-nil, length-take, length-drop, LogFrame}
use Rattle.assise_model_events.proofs.Common.{standing_of, Full, end_of_log, received_by_all, received_by_all-below, received, IsTimelyDelivery, delivery_fault}
use Rattle.assise_model_events.proofs.Common.{fault_if, is_client, new_records, node_fault, place_after, MachineInvariant, Machine, Delivering}
use Rattle.std.proofs.Math.Nat.{le-max_left, max-le}
use Rattle.assise_model_world.proofs.Shared.Possible.{may_deliver}
use Rattle.assise_model_events.specs.NodeEvents.Delivering.{is_delivered}
use Rattle.assise_model_events.proofs.Shared.Faultless.{first_none, stands_full}
use Rattle.assise_model_events.proofs.Steady.{old_delivers, with_old_areas}

full_at : (m : Machine) (f : LogFrame) (n : ℕ) → MachineInvariant m → delivery_fault m f n ≡ None → Full m.world n
full_at m f n h fine = grind (arith, stands_full, standing_of, first_none, node_fault, fault_if, is_client)

-- the frame ends within the client's own log
frame_there : (m : Machine) (f : LogFrame) (n : ℕ) → MachineInvariant m → Full m.world n → IsTimelyDelivery m f n →
    f.first + length f.records ≤ end_of_log m.world f.client
unfolding end_of_log
frame_there m f n h here timely = grind (arith, new_records, min, length-take, length-drop, received_by_all, received_by_all-below)

pub delivered_can : (m : Machine) (f : LogFrame) (n : ℕ) → MachineInvariant m → delivery_fault m f n ≡ None → IsTimelyDelivery m f n →
    (m' : Machine) × Delivering m f n (received (place_after m f n)) m'
delivered_can m f n h fine timely =
    let here : Full m.world n = full_at m f n h fine in
    let known : m.world.received n f.client ≤ end_of_log m.world f.client = (h.sound.coherent.order n f.client here).known in
    let (u, e) = may_deliver m.world n f.client (place_after m f n) (grind (arith, le-max_left, max-le, frame_there)) in (
      record m { world = with_old_areas m.world u },
      is_delivered fine refl (grind (arith, old_delivers m.world u n f.client (place_after m f n) e, append-nil m.history)),
    )
