-- Leases that were asked for go, and nodes give up theirs.
-- Assise (OSDI 2020), section 3 (CC-NVM: leases, and their revocation).
use Rattle.std.specs.Prelude.{◌≡◌, ℕ, ◌≤◌, nat_le, Bool, not, List, length, None}
use Rattle.assise_lease_table.specs.declared.lease.Asked.{Asked}
use Rattle.assise_lease_table.specs.Leases.{lease_of}
use Rattle.assise_lease_tree.specs.TwoLevels.{IsIdle}
use Rattle.assise_model_world.specs.World.{Full, digested_by_all}
use Rattle.assise_model_events.specs.NodeEvents.{Freed, Frees, Gone, LetsGo, leases_after, leases_freed, world_after}
use Rattle.assise_machine_state.specs.Changes.{after_leases, after_letting_go}
use Rattle.assise_machine_state.specs.ClientValues.{client_in, cut_once_asked}
use Rattle.assise_machine_state.specs.Observed.{world_of}
use Rattle.assise_machine_state.specs.StateValues.{StateValue, leases_of}

-- all full nodes have digested what lies before the cut of the client that answered
abbrev pub is_ripe : StateValue → Asked → Bool
is_ripe s a = nat_le (cut_once_asked (client_in s.clients a.client) a.cut) (digested_by_all (world_of s) a.client)

abbrev pub is_early : StateValue → Asked → Bool
is_early s a = not (is_ripe s a)

-- `many` leases went, one after another, and answers with them
pub record LetsSomeGo (s : StateValue) (many : ℕ) (t : StateValue) : Type 0 where
  pub gone : List Gone
  pub count : length gone ≡ many
  pub goes : LetsGo (world_of s) (leases_of s) gone
  pub world : world_of t ≡ world_after (world_of s) gone
  pub leases : leases_of t ≡ leases_after (leases_of s) gone
  pub rest : t ≡ after_letting_go s t.levels t.cuts

-- of the nodes from one to another, those that aren't full and whose clients hold nothing gave up their leases
pub record FreesAmong (s : StateValue) (first last : ℕ) (t : StateValue) : Type 0 where
  pub freed : List Freed
  pub frees : Frees (world_of s) (leases_of s) freed
  pub all : (n : ℕ) → first ≤ n → n ≤ last → (Full (world_of s) n → ⊥) → IsIdle s.levels n → (i : ℕ) → lease_of (t.levels.nodes i) n ≡ None
  pub none : (n i : ℕ) → lease_of (s.levels.nodes i) n ≡ None → lease_of (t.levels.nodes i) n ≡ None
  pub idle : (n : ℕ) → IsIdle s.levels n → IsIdle t.levels n
  pub world : world_of t ≡ world_of s
  pub leases : leases_of t ≡ leases_freed (leases_of s) freed
  pub rest : t ≡ after_leases s t.levels
