-- Why an event is refused, whatever memory there is: the first fault that stands.
-- Assise (OSDI 2020), section 3 (process crash, fail-over, epochs).
use Rattle.std.specs.Prelude.{◌≡◌, ℕ, ◌+◌, ◌-◌, ◌≤◌, max, nat_lt, nat_le, Bool, true, false, ◌&&◌, not, if◌then◌else◌, List, drop, take, length, Option, Some, None}
use Rattle.assise_names.specs.declared.call.Op.{Op}
use Rattle.assise_names.specs.declared.call.Op.TheVariants.{Create, Mkdir, Read, Write, Truncate, Rename, Unlink, Rmdir, List as ListCall, Stat, Fsync, Dsync}
use Rattle.assise_names.specs.declared.refusal.Refusal.{Refusal}
use Rattle.assise_names.specs.declared.refusal.Refusal.TheVariants.{BadNode, BadClient, NodeDown, ClientGone, TooLarge, WrongPhase}
use Rattle.assise_names.specs.declared.limits.TheConstants.{MOST_CLIENTS}
use Rattle.assise_record.specs.LogFrame.{LogFrame, is_marked}
use Rattle.assise_record.specs.LogRecord.{LogRecord}
use Rattle.assise_chain.specs.Messages.{end_marks}
use Rattle.assise_model_world.specs.World.{World}
use Rattle.assise_manager.specs.NodeLevels.{level_of, newest}
use Rattle.assise_manager.specs.Standings.{Standing, full, down, returning, standing_of}
use Rattle.assise_model_events.specs.Machine.{Machine}

-- the first of two faults
abbrev pub or_else : Option Refusal → Option Refusal → Option Refusal
or_else None second = second
or_else (Some r) second = Some r

abbrev pub fault_if : Bool → Refusal → Option Refusal
fault_if b r = if b then Some r else None

-- ---- clients

abbrev pub is_client : World → ℕ → Bool
is_client w c = nat_le 1 c && nat_le c w.clients

-- there is no such client, it crashed, or its node has failed since it was opened
abbrev pub client_fault : Machine → ℕ → Option Refusal
client_fault m c =
    or_else (fault_if (not (is_client m.world c)) BadClient)
    (or_else (fault_if (m.world.crashed c) ClientGone) (fault_if (not (m.world.lives c)) NodeDown))

-- one write takes 65,536 bytes at most
abbrev pub is_too_large : Op → Bool
is_too_large (Create p) = false
is_too_large (Mkdir p) = false
is_too_large (Read p offset n) = false
is_too_large (Write p offset bytes) = nat_lt 65536 (length bytes)
is_too_large (Truncate p size) = false
is_too_large (Rename p q) = false
is_too_large (Unlink p) = false
is_too_large (Rmdir p) = false
is_too_large (ListCall p) = false
is_too_large (Stat p) = false
is_too_large Fsync = false
is_too_large Dsync = false

abbrev pub call_fault : Machine → ℕ → Op → Option Refusal
call_fault m c op = or_else (client_fault m c) (fault_if (is_too_large op) TooLarge)

-- ---- nodes

-- there is no such node, or it isn't full
abbrev pub unless_full : Refusal → Option Standing → Option Refusal
unless_full r None = Some BadNode
unless_full r (Some full) = None
unless_full r (Some (down since)) = Some r
unless_full r (Some (returning since donor stale)) = Some r

abbrev pub node_fault : Machine → ℕ → Option Refusal
node_fault m n = unless_full WrongPhase (standing_of m.members.nodes n)

-- there is no such node, it isn't full, or all clients were opened that can be
abbrev pub open_fault : Machine → ℕ → Option Refusal
open_fault m n = or_else (unless_full NodeDown (standing_of m.members.nodes n)) (fault_if (nat_le MOST_CLIENTS m.world.clients) BadClient)

-- ---- frames

-- the frame's records that the node doesn't have
abbrev pub new_records : World → LogFrame → ℕ → List LogRecord
new_records w f n = drop (w.received n f.client - f.first) f.records

-- the place behind the last of the client's records that the node has with the frame
abbrev pub place_after : Machine → LogFrame → ℕ → ℕ
place_after m f n = max (m.world.received n f.client) (f.first + length f.records)

-- the marks of the frame's records that the node doesn't have
abbrev pub new_marks : World → LogFrame → ℕ → List Bool
new_marks w f n = drop (w.received n f.client - f.first) f.last

-- where the frame has marks, those of the records that the node doesn't have are the borders of the client's own log
abbrev pub HasOwnMarks : Machine → LogFrame → ℕ → Type 0
HasOwnMarks m f n =
    is_marked f.version ≡ true → new_marks m.world f n ≡ end_marks (m.world.border f.client) (m.world.received n f.client) (length (new_records m.world f n))

-- the frame is of this epoch and of a version that the node reads, it leaves no gap, and what the node doesn't have of it stands next
-- in the client's own log, with the same groups, and ends with one
pub record IsTimelyDelivery (m : Machine) (f : LogFrame) (n : ℕ) : Type 0 where
  pub this_epoch : f.epoch ≡ m.members.epoch
  pub known : f.version ≤ newest (level_of m.members.levels n)
  pub no_gap : f.first ≤ m.world.received n f.client
  pub own : take (length (new_records m.world f n)) (drop (m.world.received n f.client - m.world.first f.client) (m.world.records f.client)) ≡ new_records m.world f n
  pub whole : m.world.border f.client (place_after m f n) ≡ true
  pub marks : HasOwnMarks m f n

-- what is wrong about a delivery whatever the frame's records are
abbrev pub delivery_fault : Machine → LogFrame → ℕ → Option Refusal
delivery_fault m f n = or_else (node_fault m n) (fault_if (not (is_client m.world f.client)) BadClient)
