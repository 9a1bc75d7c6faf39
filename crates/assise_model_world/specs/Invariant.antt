-- What holds of the machine between its steps.
-- Assise (OSDI 2020), section 3 (CC-NVM: update logs, replication, digests, leases, recovery).
use Rattle.std.specs.Prelude.{◌≡◌, ◌≢◌, ◌⊎◌, ℕ, ◌-◌, ◌<◌, ◌≤◌, true, false, take, Option, IsSome}
use Rattle.std.specs.List.{list_any}
use Rattle.assise_seq_tree.specs.Tree.{opening as opening_tree}
use Rattle.assise_seq_tree.specs.Runs.{AreAnswered}
use Rattle.assise_record.specs.Records.{all_effects, Ascending}
use Rattle.assise_inode_table.specs.Contents.{Content}
use Rattle.assise_inode_table.specs.Effects.{value_after, touched, contains, makes}
use Rattle.assise_inode_table.specs.Late.{late_value}
use Rattle.assise_inode_table.specs.Numbers.{inode_number}
use Rattle.assise_inode_table.specs.Spelled.{Spells}
use Rattle.assise_inode_table.specs.Traces.{AllMakeNew, exchanges, Each, NumbersAscend, window}
use Rattle.assise_inode_table.specs.Unseen.{Unseen}
use Rattle.assise_model_world.specs.World.{World, Full, IsClient, opening_values, end_of_log, digested_by_all, received_by_all, records_between, call_at, first_undigested, first_undigested_at, steps, now, tree, value_below}

-- ---- numbers of inodes

-- one of the inodes that client c made
abbrev pub IsMadeBy : World → ℕ → ℕ → Type 0
IsMadeBy w c i = (k : ℕ) × ((k < w.made c) × (i ≡ inode_number c k))

-- the root, or an inode that a client made
abbrev pub IsMade : World → ℕ → Type 0
IsMade w i = (i ≡ 0) ⊎ ((c : ℕ) × (IsClient w c × IsMadeBy w c i))

-- each inode that is there is the root, or a client made it
unfoldable pub AreMade : World → Type 0
AreMade w = (i : ℕ) → IsSome (now w i) → IsMade w i

-- an inode that a call made has one of its client's numbers
unfoldable pub Numbered : World → Type 0
Numbered w = Each (λ x. list_any (makes x.0.fresh) x.1.effects ≡ true → IsMadeBy w x.0.client x.0.fresh) (steps w)

-- ---- calls and records

-- each call was answered to a client
unfoldable pub Counted : World → Type 0
Counted w = Each (λ x. IsClient w x.client × (x.number < w.next x.client)) w.calls

-- the records between two places give the values that the calls between them give, and touch what they touch
pub record StandFor (w : World) (c j k : ℕ) : Type 0 where
  pub value : (i : ℕ) (old : Option Content) → value_after i old (all_effects (records_between w c j k)) ≡ late_value (window c (call_at w c j) (call_at w c k)) i old (steps w)
  pub touch : (i : ℕ) → contains (touched (all_effects (records_between w c j k))) i ≡ false →
      Each (λ x. window c (call_at w c j) (call_at w c k) x.0 ≡ true → contains (touched x.1.effects) i ≡ false) (steps w)

-- the records between each two borders do
unfoldable pub Stands : World → ℕ → Type 0
Stands w c = (j k : ℕ) → w.border c j ≡ true → w.border c k ≡ true → w.first c ≤ j → j ≤ k → k ≤ end_of_log w c → StandFor w c j k

-- ---- leases

-- what a client's log touches, the client holds for writing
unfoldable pub Guarded : World → Type 0
Guarded w = (c i : ℕ) → contains (touched (all_effects (w.records c))) i ≡ true → w.writes c i ≡ true

-- what a client holds for writing, no other client holds
unfoldable pub Compatible : World → Type 0
Compatible w = (c d i : ℕ) → c ≢ d → w.writes c i ≡ true → w.holds d i ≡ true → ⊥

-- what a client holds for writing, it holds
unfoldable pub WritesAreHeld : World → Type 0
WritesAreHeld w = (c i : ℕ) → w.writes c i ≡ true → w.holds c i ≡ true

-- ---- nodes

-- what node n has of a client's log
pub record IsOrdered (w : World) (n c : ℕ) : Type 0 where
  pub begun : w.first c ≤ w.digested n c
  pub replicated : w.digested n c ≤ received_by_all w c
  pub known : w.received n c ≤ end_of_log w c
  pub digested_border : w.border c (w.digested n c) ≡ true
  pub received_border : w.border c (w.received n c) ≡ true

-- a full node's area is that of the calls that it has digested
unfoldable pub Areas : World → Type 0
Areas w = (n : ℕ) → Full w n → (i : ℕ) → w.area n i ≡ value_below w (first_undigested_at w n) i

-- ---- all of it

-- the calls are a run, clients' logs stand for them, areas are made of them, and leases guard what isn't digested
pub record CallsInvariant (w : World) : Type 0 where
  -- the calls are a run, and the inodes after it spell its tree
  pub answered : AreAnswered opening_tree (exchanges w.calls)
  pub make_new : AllMakeNew opening_values w.calls
  pub spelled : Spells (now w) (tree w)
  pub fresh_numbers : AreMade w
  pub fresh_calls : Numbered w
  pub fewer : (c : ℕ) → w.made c ≤ 1048576
  pub counted : Counted w
  pub ascends : NumbersAscend w.calls
  -- each client's log stands for its calls
  pub stands : (c : ℕ) → Stands w c
  pub ascending : (c : ℕ) → Ascending (w.records c) (w.next c)
  pub first_border : (c : ℕ) → w.border c (w.first c) ≡ true
  pub end_border : (c : ℕ) → w.border c (end_of_log w c) ≡ true
  -- full nodes have parts of it, and in their areas what they digested
  pub order : (n c : ℕ) → Full w n → IsOrdered w n c
  pub areas : Areas w
  -- leases guard what some full node has not digested, and no other client has seen it
  pub guarded : Guarded w
  pub compatible : Compatible w
  pub unseen : Unseen (first_undigested w) (steps w)

-- what each step keeps
pub record WorldInvariant (w : World) : Type 0 where
  pub coherent : CallsInvariant w
  -- a client has no more records than it made calls, and is to replicate only what is there
  pub few_records : (c : ℕ) → end_of_log w c ≤ w.next c
  pub goals : (c : ℕ) → w.goal c ≤ end_of_log w c
  -- what isn't to be replicated yet is not in groups: each record of it is one by itself
  pub single : (c k : ℕ) → w.lives c ≡ true → w.first c ≤ k → w.goal c ≤ k → k ≤ end_of_log w c → w.border c k ≡ true
  -- who wasn't opened made no call
  pub unused : (c : ℕ) → w.clients < c → w.next c ≡ 0
  -- what it holds for writing it holds
  pub held : WritesAreHeld w
  -- a full node's log of a client is the prefix of the client's own log, as far as the node received it
  pub prefixes : (n c : ℕ) → Full w n → w.log n c ≡ take (w.received n c - w.first c) (w.records c)
  -- the node of a client that lives is full and has all its records
  pub opened : (c : ℕ) → w.lives c ≡ true → IsClient w c
  pub homes : (c : ℕ) → w.lives c ≡ true → Full w (w.home c)
  pub whole : (c : ℕ) → w.lives c ≡ true → w.received (w.home c) c ≡ end_of_log w c
  -- of a client whose node failed, all full nodes have all that is left
  pub left : (n c : ℕ) → w.lives c ≡ false → Full w n → w.received n c ≡ end_of_log w c

-- the invariant between events beside it: each log begins where some full node has not digested it
unfoldable pub AreDropped : World → Type 0
AreDropped w = (c : ℕ) → w.first c ≡ digested_by_all w c
