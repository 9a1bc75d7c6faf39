use Rattle.assise_area.proofs.Common.{◌≡◌, ◌≤◌, ℕ, keys_of, option_or, spare, AreDisjoint, value_in}
use Rattle.std.specs.FinMap as map
use Rattle.assise_area.proofs.settled.put_all_reserved.Given as goal

-- those that are still to come, put over what is held, are as all of them over what was held
abbrev pub invariant-loop-inode : goal.invariant-loop-inode
invariant-loop-inode l = record {
  room : map.len l.inodes ≤ spare l.cold;
  keys : keys_of l.hot.entries ≡ keys_of l.fn.hot.entries;
  cap : l.hot.cap ≡ l.fn.hot.cap;
  disjoint : AreDisjoint l.hot.entries l.cold.entries;
  values : (q : ℕ) → option_or (map.get l.inodes q) (value_in l.hot.entries l.cold.entries q)
      ≡ option_or (map.get l.fn.inodes q) (value_in l.fn.hot.entries l.fn.cold.entries q);
}

abbrev pub decreases-loop-inode : goal.decreases-loop-inode
decreases-loop-inode l = map.len l.inodes
