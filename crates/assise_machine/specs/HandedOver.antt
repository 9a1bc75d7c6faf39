-- What a client may write no longer.
-- Assise (OSDI 2020), section 3 (CC-NVM: a lease is handed over once the updates under it are replicated).
use Rattle.std.specs.Prelude.{◌≡◌, ℕ, ◌<◌, Bool, true, List}
use Rattle.assise_inode_table.specs.Contents.{values}
use Rattle.assise_inode_table.specs.Effects.{contains, touched}
use Rattle.assise_inode_table.specs.Interaction.{Step}
use Rattle.assise_inode_table.specs.Opening.{opening_inodes}
use Rattle.assise_inode_table.specs.Traces.{Each, NumberedCall, trace}
use Rattle.assise_lease_table.specs.Leases.{lease_of}
use Rattle.assise_lease_tree.specs.Trees.{levels_of}
use Rattle.assise_model_history.specs.Numbered.{kept_numbered}
use Rattle.assise_model_leases.specs.Leases.{is_written}
use Rattle.assise_machine.specs.declared.cluster.ClusterOf.{ClusterOf}
use Rattle.assise_machine.specs.Headline.{history_of, replicated_to}

-- the client has a lease under which it wrote or may write the inode
abbrev pub has_write_lease : {C : Type 0} → ClusterOf C → (c i : ℕ) → Bool
has_write_lease cluster c i = is_written (lease_of ((levels_of cluster.sound.state.leases).clients i) c)

-- the kept calls one after another, each with what it made of the inodes
abbrev pub kept_steps : {C : Type 0} → ClusterOf C → List (NumberedCall × Step)
kept_steps cluster = trace (values opening_inodes) (kept_numbered (history_of cluster))

-- each call of the client that changed the inode is replicated
abbrev pub AreReplicated : {C : Type 0} → ClusterOf C → (c i : ℕ) → Type 0
AreReplicated cluster c i =
    Each (λ x. x.0.client ≡ c → contains (touched x.1.effects) i ≡ true → x.0.number < replicated_to cluster c) (kept_steps cluster)
