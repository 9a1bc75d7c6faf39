-- The machine as it is observed: its nodes with their areas and logs, its clients, and the calls that are kept.
-- Assise (OSDI 2020), section 3 (CC-NVM: update logs, replication, digests, leases, recovery).
use Rattle.std.specs.Prelude.{◌≡◌, ℕ, zero, suc, ◌+◌, ◌-◌, ◌≤◌, min, Bool, true, List, [], ◌∷◌, ◌++◌, length, take, drop, filter}
use Rattle.std.specs.List.{list_any}
use Rattle.assise_seq_tree.specs.Tree.{Tree, opening as opening_tree}
use Rattle.assise_seq_tree.specs.Runs.{tree_after_calls}
use Rattle.assise_record.specs.declared.effect.Effect.{Effect}
use Rattle.assise_record.specs.LogRecord.{LogRecord}
use Rattle.assise_record.specs.Records.{all_effects, call_of}
use Rattle.assise_inode_table.specs.Contents.{Values, values}
use Rattle.assise_inode_table.specs.Effects.{value_after, contains, makes}
use Rattle.assise_inode_table.specs.Interaction.{Step}
use Rattle.assise_inode_table.specs.Late.{late_value}
use Rattle.assise_inode_table.specs.Opening.{opening_inodes}
use Rattle.assise_inode_table.specs.Traces.{NumberedCall, trace, step_of, values_after_calls, ops, below}

-- A client's records have places, from 0 on: those that went from the front of its log are counted. Its calls have
-- numbers, from 0 on. A call without effects has no record, so a record's place is at most the number of its call.
pub record World : Type 0 where
  -- ---- nodes
  -- those that have all that is replicated, in any order
  pub full : List ℕ
  -- the inodes of each node's area
  pub area : ℕ → Values
  -- the records of each client that each node has, those that went from the front left out; the place behind the last of
  -- them; and the place up to which they are in the node's area
  pub log : ℕ → ℕ → List LogRecord
  pub received : ℕ → ℕ → ℕ
  pub digested : ℕ → ℕ → ℕ
  -- ---- clients
  -- they are numbered from 1 to this
  pub clients : ℕ
  -- the node on which each was opened
  pub home : ℕ → ℕ
  -- it was opened, and its node hasn't failed since
  pub lives : ℕ → Bool
  pub crashed : ℕ → Bool
  -- each client's own log: its records, and the place of the first
  pub records : ℕ → List LogRecord
  pub first : ℕ → ℕ
  -- the places at which it may be cut, handed over, digested or dropped
  pub border : ℕ → ℕ → Bool
  -- the place up to which it is to be replicated
  pub goal : ℕ → ℕ
  -- how many of its calls were answered, and how many inodes it made
  pub next : ℕ → ℕ
  pub made : ℕ → ℕ
  -- which inodes it holds leases of, and which of them for writing
  pub holds : ℕ → ℕ → Bool
  pub writes : ℕ → ℕ → Bool
  -- ---- the history
  -- the calls that are kept, in their order
  pub calls : List NumberedCall

abbrev pub Full : World → ℕ → Type 0
Full w n = contains w.full n ≡ true

abbrev pub IsClient : World → ℕ → Type 0
IsClient w c = (1 ≤ c) × (c ≤ w.clients)

-- ---- places in a client's log

-- the least number for the nodes, and no more than the last argument
abbrev pub least_of : List ℕ → (ℕ → ℕ) → ℕ → ℕ
least_of [] f most = most
least_of (n ∷ ns) f most = min (f n) (least_of ns f most)

-- the place behind the last record
unfoldable pub end_of_log : World → ℕ → ℕ
end_of_log w c = w.first c + length (w.records c)

-- up to here the records are in the areas of all full nodes
unfoldable pub digested_by_all : World → ℕ → ℕ
digested_by_all w c = least_of w.full (λ n. w.digested n c) (end_of_log w c)

-- up to here all full nodes have the records: these are replicated
unfoldable pub received_by_all : World → ℕ → ℕ
received_by_all w c = least_of w.full (λ n. w.received n c) (end_of_log w c)

-- the records from a place on, below another
unfoldable pub records_between : World → ℕ → ℕ → ℕ → List LogRecord
records_between w c j k = take (k - j) (drop (j - w.first c) (w.records c))

-- ---- numbers of a client's calls

-- the call of the record at a place, or the next call past the end
unfoldable pub call_at : World → ℕ → ℕ → ℕ
call_at w c k = call_of (w.records c) (k - w.first c) (w.next c)

-- the first call that node n may lack in its area
unfoldable pub first_undigested_at : World → ℕ → ℕ → ℕ
first_undigested_at w n c = call_at w c (w.digested n c)

-- the first call that some full node may lack in its area
unfoldable pub first_undigested : World → ℕ → ℕ
first_undigested w c = call_at w c (digested_by_all w c)

-- the first call that some full node may lack
unfoldable pub first_unreplicated : World → ℕ → ℕ
first_unreplicated w c = call_at w c (received_by_all w c)

-- ---- what the calls make

abbrev pub opening_values : Values
opening_values = values opening_inodes

unfoldable pub steps : World → List (NumberedCall × Step)
steps w = trace opening_values w.calls

-- the inodes after the calls
unfoldable pub now : World → Values
now w = values_after_calls opening_values w.calls

-- the tree after the calls
unfoldable pub tree : World → Tree
tree w = tree_after_calls opening_tree (ops w.calls)

-- the value of an inode after the calls below the thresholds
unfoldable pub value_below : World → (ℕ → ℕ) → Values
value_below w a i = late_value (below a) i (opening_values i) (steps w)

-- the calls that all full nodes have
unfoldable pub calls_replicated : World → List NumberedCall
calls_replicated w = filter (below (first_unreplicated w)) w.calls

-- ---- what is read of a node

-- the records of a client that the node has and has not digested
unfoldable pub undigested_records : World → ℕ → ℕ → List LogRecord
undigested_records w n c = drop (w.digested n c - w.first c) (w.log n c)

-- those of them below a place
unfoldable pub undigested_below : World → ℕ → ℕ → ℕ → List LogRecord
undigested_below w n c k = take (k - w.digested n c) (undigested_records w n c)

-- the inodes as a client reads them at node n: the area, and over it the client's own records
unfoldable pub view : World → ℕ → ℕ → Values
view w n c i = value_after i (w.area n i) (all_effects (undigested_records w n c))

-- the effects of the records of clients 1 to m that are replicated and that node n has not digested
abbrev pub all_undigested_records : World → ℕ → ℕ → List Effect
all_undigested_records w n zero = []
all_undigested_records w n (suc m) = all_undigested_records w n m ++ all_effects (undigested_below w n (suc m) (received_by_all w (suc m)))

-- the inodes that node n's own area and logs give, with what is replicated
unfoldable pub alone_at : World → ℕ → Values
alone_at w n i = value_after i (w.area n i) (all_undigested_records w n w.clients)

-- ---- calls

-- the step of a call over what its client reads at its home
abbrev pub step_at_home : World → NumberedCall → Step
step_at_home w x = step_of (view w (w.home x.client) x.client) x

-- the call makes an inode
abbrev pub call_makes_inode : World → NumberedCall → Bool
call_makes_inode w x = list_any (makes x.fresh) (step_at_home w x).effects
