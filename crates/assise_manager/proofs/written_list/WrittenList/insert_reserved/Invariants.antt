use Rattle.assise_manager.proofs.Common.{◌≡◌, ◌≤◌, ◌+◌, length, take, spare, listed_inodes}
use Rattle.std.specs.FinSet as set
use Rattle.assise_manager.proofs.written_list.WrittenList.insert_reserved.Given as goal

abbrev pub invariant-loop-inode : goal.invariant-loop-inode
invariant-loop-inode l =
    (listed_inodes l.self ≡ set.union (listed_inodes l.initial.self) (set.from_list (take l.inode-index l.inodes)))
    × (length l.inodes ≤ l.inode-index + spare l.self.inodes)
