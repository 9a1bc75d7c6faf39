-- What a step asks of the state before it.
use Rattle.std.specs.Prelude.{◌≡◌, ◌≢◌, ℕ, ◌<◌, ◌≤◌, true, false, ◌++◌}
use Rattle.assise_inode_table.specs.Effects.{touched, contains}
use Rattle.assise_inode_table.specs.Numbers.{inode_number}
use Rattle.assise_inode_table.specs.Traces.{NumberedCall}
use Rattle.assise_model_world.specs.World.{World, Full, end_of_log, digested_by_all, received_by_all, step_at_home, call_makes_inode}

-- the call is its client's next one, with the step's reply over what the client reads at its home, and the client holds what the
-- step visits and changes
pub record MayMakeCall (w : World) (x : NumberedCall) : Type 0 where
  pub lives : w.lives x.client ≡ true
  pub running : w.crashed x.client ≡ false
  pub number : x.number ≡ w.next x.client
  pub fresh : x.fresh ≡ inode_number x.client (w.made x.client)
  pub reply : x.reply ≡ (step_at_home w x).reply
  pub held : (i : ℕ) → contains ((step_at_home w x).visits ++ touched (step_at_home w x).effects) i ≡ true → w.holds x.client i ≡ true
  pub written : (i : ℕ) → contains (touched (step_at_home w x).effects) i ≡ true → w.writes x.client i ≡ true
  pub room : call_makes_inode w x ≡ true → w.made x.client < 1048576

-- full node n has records of client c up to a place before this one
pub record MayDeliver (w : World) (n c k : ℕ) : Type 0 where
  pub full_node : Full w n
  pub from : w.received n c ≤ k
  pub to : k ≤ end_of_log w c
  pub border_to : w.border c k ≡ true

-- full node n has not digested the records of client c below a place, and all full nodes have them
pub record MayDigest (w : World) (n c k : ℕ) : Type 0 where
  pub full_node : Full w n
  pub from : w.digested n c ≤ k
  pub to : k ≤ received_by_all w c
  pub border_to : w.border c k ≡ true

pub record MayDrop (w : World) (f : ℕ → ℕ) : Type 0 where
  pub low : (c : ℕ) → w.first c ≤ f c
  pub high : (c : ℕ) → f c ≤ digested_by_all w c
  pub border_at : (c : ℕ) → w.border c (f c) ≡ true

-- full node n isn't the only one
pub record MayFail (w : World) (n : ℕ) : Type 0 where
  pub full_node : Full w n
  pub survivor : (m : ℕ) × ((m ≢ n) × Full w m)

pub record MayJoin (w : World) (n donor : ℕ) : Type 0 where
  pub donor_full : Full w donor
  pub absent : Full w n → ⊥
