-- What a node's digest changes of the state, client by client.
-- Assise (OSDI 2020), section 3 (digests); Strata (SOSP 2017), section 3.
use Rattle.std.specs.Prelude.{◌≡◌, ℕ, zero, suc, ◌+◌, ◌<◌, true, length, take}
use Rattle.std.specs.List.{list_all}
use Rattle.std.specs.FinSet as set
use Rattle.assise_record.specs.Records.{all_effects}
use Rattle.assise_inode_table.specs.Effects.{touched}
use Rattle.assise_digest.specs.Region.{ahead}
use Rattle.assise_manager.specs.Membership.{Membership}
use Rattle.assise_manager.specs.Standings.{is_full}
use Rattle.assise_model_world.specs.World.{World}
use Rattle.assise_model_events.specs.NodeEvents.{part_of}
use Rattle.assise_machine_state.specs.Changes.{after_digest}
use Rattle.assise_machine_state.specs.NodeValues.{log_in}
use Rattle.assise_machine_state.specs.Observed.{world_of}
use Rattle.assise_machine_state.specs.StateValues.{StateValue}

-- node n digests `count` more records of client c, and the manager notes the inodes that they touch
abbrev pub digests_some : StateValue → (n c count : ℕ) → StateValue
digests_some s n c count =
    after_digest s n c ((world_of s).digested n c + count) (set.from_list (touched (all_effects (take count (ahead (log_in s.nodes n c))))))

-- node n digests `count` records in all, of clients 1 to m one after another
abbrev pub digests_to : StateValue → (n count m : ℕ) → StateValue
digests_to s n count zero = s
digests_to s n count (suc c) = digests_some (digests_to s n count c) n (suc c) (part_of (world_of s) n count (suc c))

-- the next `count` of a client's records that node n has not digested end with a group
abbrev pub EndsWithGroup : World → (n c count : ℕ) → Type 0
EndsWithGroup w n c count = w.border c (w.digested n c + count) ≡ true

-- so does each part of `count` records, of clients 1 to m
abbrev pub EndWithGroups : World → (n count m : ℕ) → Type 0
EndWithGroups w n count m = (c : ℕ) → c < m → EndsWithGroup w n (suc c) (part_of w n count (suc c))

-- where all nodes are full there is no list on which a digest could note an inode
abbrev pub NoneListed : Membership → Type 0
NoneListed m = list_all is_full m.nodes ≡ true → length m.written ≡ 0
