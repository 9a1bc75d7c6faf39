-- The first call of which some full node may lack a record, as a client's own log has it.
use Rattle.assise_machine_state.proofs.Common.{◌≡◌, ℕ, zero, suc, ◌-◌, ◌<◌, List, [], ◌∷◌, length, drop, refl, arith, LogRecord, call_of, NumberedLog}
use Rattle.assise_machine_state.proofs.Common.{records_from, full_nodes, call_at, first_unreplicated, received_by_all, client_in, log_in, own_node, own_seen}
use Rattle.assise_machine_state.proofs.Common.{world_of, IsNumber, ShapeInvariant, StateValue, standings}

call_behind : (rs : List LogRecord) (k next : ℕ) → call_of rs k next ≡ call_of (drop k rs) 0 next
call_behind [] zero next = refl
call_behind [] (suc k) next = refl
call_behind (r ∷ rs) zero next = refl
call_behind (r ∷ rs) (suc k) next = call_behind rs k next

pub first_behind : (s : StateValue) (c : ℕ) → ShapeInvariant s → IsNumber s.clients c → 0 < length (full_nodes (standings s)) →
    (l : NumberedLog) → l ≡ (log_in s.nodes (own_node (standings s) (client_in s.clients c)) c).log → (place : ℕ) → place ≡ received_by_all (world_of s) c →
    call_of (records_from l place) 0 (client_in s.clients c).next ≡ first_unreplicated (world_of s) c
unfolding world_of own_seen call_at first_unreplicated
first_behind s c shape client some l is place acked = grind (arith, call_behind)
