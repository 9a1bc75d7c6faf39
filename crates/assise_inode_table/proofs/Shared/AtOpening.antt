-- What stands at the opening.
use Rattle.assise_inode_table.proofs.Common.{◌≡◌, ℕ, if◌then◌else◌, Some, None, IsSome, ◌==◌, nat_cmp_total, opening_tree, directory, values, opening_inodes}
use Rattle.assise_inode_table.proofs.Common.{Spells, arith}
use Rattle.std.specs.FinMap as map
use Rattle.assise_inode_table.proofs.Leaves.{empty_spells}
use Rattle.assise_inode_table.proofs.Shared.EffectValues.{same_number}

value_at_opening : (i : ℕ) → values opening_inodes i ≡ (if 0 == i then Some (directory map.empty) else None)
value_at_opening i = grind (arith, map.get-insert, nat_cmp_total, map.get-empty, same_number)

-- the root alone is there
pub root_alone : (i : ℕ) → IsSome (values opening_inodes i) → i ≡ 0
root_alone i h = grind (arith, value_at_opening)

pub opening_spells : Spells (values opening_inodes) opening_tree
opening_spells = grind (arith, empty_spells (values opening_inodes) 0 (value_at_opening 0), root_alone)
