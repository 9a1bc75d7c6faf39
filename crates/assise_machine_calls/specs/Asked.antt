-- Those who stand in a call's way are asked for their leases, and the revokers that they stored answer.
-- Assise (OSDI 2020), section 3 (CC-NVM: leases, and their revocation).
use Rattle.std.specs.Prelude.{◌≡◌, ℕ, nat_le, true, ◌&&◌, if◌then◌else◌, List, [], length, Option, Some, None}
use Rattle.assise_private_log.specs.NumberedLog.{NumberedLog}
use Rattle.assise_digest.specs.Region.{RegionValue}
use Rattle.assise_lease_table.specs.Answers.{IsRaisedAnswer}
use Rattle.assise_lease_tree.specs.declared.request.Request.{Request}
use Rattle.assise_manager.specs.Standings.{Standing}
use Rattle.assise_model_leases.specs.Handing.{Asks, is_newly_revoked}
use Rattle.assise_model_events.specs.ClientEvents.{KeepsMembers}
use Rattle.assise_model_events.specs.Machine.{Adds, Machine}
use Rattle.assise_model_events.specs.NodeEvents.{border_marks}
use Rattle.assise_machine_state.specs.ClientValues.{ClientValue, client_in}
use Rattle.assise_machine_state.specs.NodeValues.{log_in}
use Rattle.assise_machine_state.specs.Observed.{own_node}

-- the own log of a client, if there is one of this number
abbrev pub client_log : List RegionValue → List Standing → List ClientValue → ℕ → Option NumberedLog
client_log rs nodes cs c = if nat_le 1 c && nat_le c (length cs) then Some (log_in rs (own_node nodes (client_in cs c)) c).log else None

-- all who stand in the way of the request are asked, and nothing else happens
pub record AsksThem (m : Machine) (r : Request) (m' : Machine) : Type 0 where
  pub asks : Asks m.world m.leases r.client r.inode r.mode m'.world m'.leases
  pub adds : Adds m [] m'
  pub keeps : KeepsMembers m m'

-- a client's own log
abbrev pub clients_log : Machine → ℕ → NumberedLog
clients_log m c = record {
  first = m.world.first c;
  limit = m.limit;
  records = m.world.records c;
  begins = border_marks (m.world.border c) (m.world.first c) (m.world.records c);
}

-- the cut of each lease that is revoked now and wasn't before is what the revoker that its holder stored answers for the holder's
-- own log and the inode, raised to the end of its group
abbrev pub CutsAreAnswers : {C : Type 0} → (C → NumberedLog → ℕ → ℕ → Type 0) → (ℕ → Option C) → Machine → Machine → Type 0
CutsAreAnswers {C} answers stored m m' = (c i : ℕ) → is_newly_revoked m.leases m'.leases c i ≡ true →
    (revoker : C) × (stored c ≡ Some revoker) × IsRaisedAnswer answers revoker (clients_log m c) i (m'.leases.cut c i)
