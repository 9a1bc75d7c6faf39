-- How many inodes may be hot at a node is observed, and of what is hot nothing else.
use Rattle.assise_machine_state.proofs.Common.{◌≡◌, ℕ, List, length, not, refl, slice_index_or, ◌-◌, arith, length-set, InodeMap, values, end, is_border}
use Rattle.assise_machine_state.proofs.Common.{ReceivedLog, RegionValue, no_log, with_hot_capacity, client_lease, is_held, is_written, kept_numbered, Machine}
use Rattle.assise_machine_state.proofs.Common.{with_hot, after_hot, client_in, log_in, no_region, region_in, full_in, observed, own_node, own_seen, world_of}
use Rattle.assise_machine_state.proofs.Common.{item_at, CutsInvariant, ShapeInvariant, StateValue, leases_of, standings}
use Rattle.assise_machine_state.proofs.Shared.HotCapacities.{set_at}
use Rattle.assise_machine_state.proofs.Shared.ShapeKept.{shaped_as, still_marked}
use Rattle.assise_machine_state.proofs.Shared.ItemSeen.{place_kept}

-- what is observed, by what is seen of the nodes' capacities, inodes and logs
observed_by : StateValue → (hot : List ℕ) → (inodes : ℕ → InodeMap) → (logs : ℕ → List ReceivedLog) → Machine
observed_by s hot inodes logs = record {
  limit = s.limit;
  hot = hot;
  history = s.history;
  world = record {
    full = full_in (standings s);
    area = λ n. values (inodes n);
    log = λ n c. (item_at no_log (logs n) c).log.records;
    received = λ n c. end (item_at no_log (logs n) c).log;
    digested = λ n c. (item_at no_log (logs n) c).digested;
    clients = length s.clients;
    home = λ c. (client_in s.clients c).home;
    lives = λ c. not (client_in s.clients c).failed;
    crashed = λ c. (client_in s.clients c).crashed;
    records = λ c. (item_at no_log (logs (own_node (standings s) (client_in s.clients c))) c).log.records;
    first = λ c. (item_at no_log (logs (own_node (standings s) (client_in s.clients c))) c).log.first;
    border = λ c k. is_border (item_at no_log (logs (own_node (standings s) (client_in s.clients c))) c).log k;
    goal = λ c. (client_in s.clients c).goal;
    next = λ c. (client_in s.clients c).next;
    made = λ c. (client_in s.clients c).made;
    holds = λ c i. is_held (client_lease (leases_of s) c i);
    writes = λ c i. is_written (client_lease (leases_of s) c i);
    calls = kept_numbered s.history;
  };
  leases = leases_of s;
  members = s.members;
}

module _ (s : StateValue) (n capacity : ℕ) where
  abbrev t : StateValue
  t = after_hot s n capacity

  abbrev changed : RegionValue
  changed = with_hot_capacity (slice_index_or s.nodes (n - 1) no_region) capacity

  logs_same : (k : ℕ) → (region_in t.nodes k).logs ≡ (region_in s.nodes k).logs
  unfolding region_in
  logs_same k = place_kept (λ r. r.logs) no_region changed s.nodes (n - 1) k refl

  pub machine_set : observed t ≡ with_hot (observed s) n capacity
  unfolding observed world_of own_seen log_in observed_by leases_of region_in
  machine_set = λ i. observed_by s (set_at s.nodes n capacity i) (λ k. place_kept (λ r. r.inodes) no_region changed s.nodes (n - 1) k refl i)
      (λ k. logs_same k i)

  pub shape_kept : ShapeInvariant s → ShapeInvariant t
  unfolding log_in own_seen
  shape_kept shape = grind (arith, shaped_as, length-set, logs_same, still_marked)

  pub notes_kept : CutsInvariant s → CutsInvariant t
  notes_kept noted = record { once = noted.once; known = noted.known; noted = noted.noted }
