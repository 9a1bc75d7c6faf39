-- What an answer says of the state before it and after it.
-- Assise (OSDI 2020), section 3 (CC-NVM: leases that are revoked, fail-over).
use Rattle.std.specs.Prelude.{◌≡◌, ◌≢◌, ℕ, true, List, Some}
use Rattle.std.specs.List.{list_any}
use Rattle.assise_names.specs.declared.call.Op.{Op}
use Rattle.assise_names.specs.declared.mode.Mode.{Mode}
use Rattle.assise_names.specs.declared.reply.Reply.{Reply}
use Rattle.assise_lease_table.specs.declared.lease.Lease.{Lease}
use Rattle.assise_inode_plan.specs.Leased.{first_missing, wants}
use Rattle.assise_lease_tree.specs.Levels.{in_way}
use Rattle.assise_model_world.specs.World.{step_at_home}
use Rattle.assise_model_leases.specs.Handing.{is_newly_revoked}
use Rattle.assise_model_leases.specs.Leases.{client_lease, IsRevokedLease}
use Rattle.assise_model_events.specs.ClientEvents.{Granted, call_of_client, last_leases, last_world, served_by}
use Rattle.assise_model_events.specs.Machine.{Machine}

-- client c's call, which got these leases, awaits another
pub record AwaitsLease (m : Machine) (c : ℕ) (op : Op) (m' : Machine) : Type 0 where
  pub reply : Reply
  pub granted : List Granted
  -- the first that it lacks of what it visits, and then of what it changes
  pub inode : ℕ
  pub mode : Mode
  pub first : first_missing (served_by (last_leases m.leases granted) c)
      (wants (step_at_home (last_world m.world granted) (call_of_client m.world c op reply))) ≡ Some (inode, mode)
  -- which some client holds revoked now
  pub revoked : list_any (λ a. a.revoked) (m'.leases.levels.clients inode) ≡ true
  -- its own grants revoked nothing, and changed no other client's lease
  pub revoked_before : (d i : ℕ) → IsRevokedLease (last_leases m.leases granted) d i → IsRevokedLease m.leases d i
  pub held_before : (d i : ℕ) → d ≢ c → client_lease (last_leases m.leases granted) d i ≡ client_lease m.leases d i
  -- what was revoked by it are leases of this inode that other clients hold, and each of them, or the lease of its holder's node,
  -- stood against the mode
  pub nothing_else : (d i : ℕ) → i ≢ inode → client_lease m'.leases d i ≡ client_lease (last_leases m.leases granted) d i
  pub of_others : (d : ℕ) → is_newly_revoked (last_leases m.leases granted) m'.leases d inode ≡ true → d ≢ c
  pub in_the_way : (d : ℕ) (a : Lease) → is_newly_revoked (last_leases m.leases granted) m'.leases d inode ≡ true →
      client_lease (last_leases m.leases granted) d inode ≡ Some a →
      in_way (last_leases m.leases granted).levels.home ((last_leases m.leases granted).levels.nodes inode) c ((last_world m.world granted).home c) mode a ≡ true
