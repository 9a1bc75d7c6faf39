use Rattle.assise_manager.proofs.Common.{◌≡◌, ◌≤◌, ◌+◌, length, take, stale_inodes}
use Rattle.std.specs.FinSet as set
use Rattle.std.specs.VecDeque.{deque_len, deque_capacity}
use Rattle.assise_manager.proofs.stale_set.StaleSet.insert_reserved.Given as goal

abbrev pub invariant-loop-inode : goal.invariant-loop-inode
invariant-loop-inode l =
    (stale_inodes l.self ≡ set.union (stale_inodes l.initial.self) (set.from_list (take l.inode-index l.inodes)))
    × (deque_len l.self.inodes + length l.inodes ≤ l.inode-index + deque_capacity l.self.inodes)
