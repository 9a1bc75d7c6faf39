-- What the laws observe as the same where parts of the state are.
use Rattle.assise_machine_state.proofs.Common.{◌≡◌, ℕ, Bool, ap, arith, values, is_border, Lease, revoke, lease_of, SameClients, SameGoals, KeepsLeases}
use Rattle.assise_machine_state.proofs.Common.{SameLogs, SameNode, is_held, is_written, revoke_of, held_one, written_one, kept_numbered, client_in, log_in}
use Rattle.assise_machine_state.proofs.Common.{region_in, own_seen, world_of, StateValue, leases_of}

module _ (s t : StateValue) where
  -- clients, and with them their goals
  pub clients_as : t.clients ≡ s.clients → SameClients (world_of s) (world_of t)
  unfolding world_of
  clients_as same = grind arith

  pub goals_as : t.clients ≡ s.clients → SameGoals (world_of s) (world_of t)
  unfolding world_of
  goals_as same c = ap (λ cs. (client_in cs c).goal) same

  -- and their own logs
  pub logs_as : t.clients ≡ s.clients → kept_numbered t.history ≡ kept_numbered s.history → ((c : ℕ) → (own_seen t c).log.records ≡ (own_seen s c).log.records)
      → ((c : ℕ) → (own_seen t c).log.first ≡ (own_seen s c).log.first) → ((c k : ℕ) → is_border (own_seen t c).log k ≡ is_border (own_seen s c).log k)
      → SameLogs (world_of s) (world_of t)
  unfolding world_of
  logs_as same calls records first border = grind arith

  -- one node
  pub node_as : (n : ℕ) → ((i : ℕ) → values (region_in t.nodes n).inodes i ≡ values (region_in s.nodes n).inodes i) →
      ((c : ℕ) → log_in t.nodes n c ≡ log_in s.nodes n c) →
      SameNode (world_of s) (world_of t) n
  unfolding world_of
  node_as n inodes logs = grind arith

  -- leases, which are held as before where some are revoked
  pub leases_as : ((i : ℕ) → t.levels.clients i ≡ s.levels.clients i) → KeepsLeases (world_of s) (world_of t)
  unfolding world_of leases_of
  leases_as same = record { holds = λ c i. ap (λ ls. is_held (lease_of ls c)) (same i); writes = λ c i. ap (λ ls. is_written (lease_of ls c)) (same i) }

  pub leases_revoked : (choice : Lease → Bool) → ((i : ℕ) → t.levels.clients i ≡ revoke choice (s.levels.clients i)) → KeepsLeases (world_of s) (world_of t)
  unfolding world_of leases_of
  leases_revoked choice revoked = grind (arith, revoke_of, held_one, written_one)
