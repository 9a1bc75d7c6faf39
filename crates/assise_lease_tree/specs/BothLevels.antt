-- The leases of one inode on both levels.
use Rattle.std.specs.Prelude.{◌||◌, Bool}
use Rattle.assise_lease_table.specs.Lists.{is_any}
use Rattle.assise_lease_tree.specs.declared.both_levels.BothLevels.{BothLevels}

-- some client or node has a lease
abbrev pub is_in_use : BothLevels → Bool
is_in_use b = is_any b.clients.items || is_any b.nodes.items
