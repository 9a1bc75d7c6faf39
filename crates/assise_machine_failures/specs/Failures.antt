-- What a failure of a full node has listed before anything changes.
use Rattle.std.specs.Prelude.{◌≡◌, ℕ, length, map}
use Rattle.assise_lease_table.specs.LeaseMaps.{SameLeases}
use Rattle.assise_lease_table.specs.Leases.{revoke}
use Rattle.assise_lease_tree.specs.Levels.{lives}
use Rattle.assise_lease_tree.specs.TwoLevels.{TwoLevels}
use Rattle.assise_model_history.specs.Lost.{losses_of}
use Rattle.assise_machine_state.specs.Observed.{world_of}
use Rattle.assise_machine_state.specs.Invariant.{AreLeft}
use Rattle.assise_machine_state.specs.StateValues.{StateValue, standings}
use Rattle.assise_machine_failures.specs.declared.failure.Failure.{Failure}
use Rattle.assise_machine_failures.specs.Answers.{loss_of}
use Rattle.assise_machine_failures.specs.Listing.{filled_from, kept_inodes, kept_to}

pub record IsListed (s : StateValue) (n : ℕ) (f : Failure) : Type 0 where
  pub kept : f.kept.items ≡ kept_to (world_of s) n (length s.clients)
  pub losses : map loss_of f.losses.items ≡ losses_of (world_of s) n
  pub entry : f.entry.items ≡ losses_of (world_of s) n
  pub inodes : f.inodes.items ≡ kept_inodes (world_of s) n (length s.clients)
  pub asked : AreLeft s (λ c. lives s.levels.home c n) f.asked.items
  pub filled : f.filled.items ≡ filled_from (standings s) n (length s.nodes)

-- the leases of a node's clients are revoked, and nothing else
pub record RevokesBelow (old new : TwoLevels) (n : ℕ) : Type 0 where
  pub home : (c : ℕ) → new.home c ≡ old.home c
  pub clients : (i : ℕ) → new.clients i ≡ revoke (λ a. lives old.home a.holder n) (old.clients i)
  pub nodes : SameLeases old.nodes new.nodes
