use Rattle.assise_digest.proofs.Common.{◌≡◌, ℕ, None, cond, drop, nat_eq, list_any}
use Rattle.std.specs.FinMap as map
use Rattle.assise_digest.proofs.pending.remove_all.Given as goal

-- without those that are left, all are gone
abbrev pub invariant-loop-inode : goal.invariant-loop-inode
invariant-loop-inode l = record {
  gone : (i : ℕ) → cond (list_any (nat_eq i) (drop l.inode-index l.inodes)) None (map.get l.area.inodes i) ≡ cond (list_any (nat_eq i) l.inodes) None
      (map.get l.initial.area.inodes i);
  capacity : l.area.capacity ≡ l.initial.area.capacity;
}
