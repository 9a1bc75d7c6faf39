-- What a step of leases asks of the state before it.
use Rattle.std.specs.Prelude.{◌≡◌, ◌≤◌, ℕ, true, false}
use Rattle.assise_names.specs.declared.mode.Mode.{Mode}
use Rattle.assise_names.specs.declared.mode.Mode.TheVariants.{Read, Write}
use Rattle.assise_inode_table.specs.Effects.{touched, contains}
use Rattle.assise_inode_table.specs.Traces.{NumberedCall}
use Rattle.assise_lease_table.specs.Leases.{serves}
use Rattle.assise_lease_tree.specs.TwoLevels.{is_free_for}
use Rattle.assise_model_world.specs.Chances.{MayMakeCall}
use Rattle.assise_model_world.specs.World.{World, digested_by_all, step_at_home}
use Rattle.assise_model_leases.specs.Leases.{Leases, client_lease, IsRevokedLease}

-- the call may be made, and its client's leases serve
pub record MayCallUnder (w : World) (l : Leases) (x : NumberedCall) : Type 0 where
  pub may : MayMakeCall w x
  pub visited : (i : ℕ) → contains (step_at_home w x).visits i ≡ true → serves (client_lease l x.client i) Read ≡ true
  pub changed : (i : ℕ) → contains (touched (step_at_home w x).effects) i ≡ true → serves (client_lease l x.client i) Write ≡ true

-- a client that runs, against which nobody stands
pub record MayGrant (w : World) (l : Leases) (c i : ℕ) (mode : Mode) : Type 0 where
  pub lives_on : w.lives c ≡ true
  pub running : w.crashed c ≡ false
  pub free : is_free_for l.levels c (w.home c) i mode ≡ true

-- a client that runs, against which somebody stands
pub record MayAsk (w : World) (l : Leases) (c i : ℕ) (mode : Mode) : Type 0 where
  pub lives_on : w.lives c ≡ true
  pub running : w.crashed c ≡ false
  pub not_free : is_free_for l.levels c (w.home c) i mode ≡ false

-- the lease is revoked, and what lies before its cut is digested by all full nodes
pub record MayRelease (w : World) (l : Leases) (c i : ℕ) : Type 0 where
  pub revoked : IsRevokedLease l c i
  pub ready : l.cut c i ≤ digested_by_all w c
