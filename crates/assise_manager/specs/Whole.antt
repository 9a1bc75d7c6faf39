-- What is seen of the members as a whole.
use Rattle.std.specs.Prelude.{ℕ, Bool, ◌&&◌, map}
use Rattle.std.specs.List.{list_all}
use Rattle.assise_manager.specs.declared.members.Members.{Members}
use Rattle.assise_manager.specs.Membership.{Membership}
use Rattle.assise_manager.specs.Seen.{listed_inodes, standing, has_last_room, has_node_room}

abbrev pub membership : Members → Membership
membership m = record { epoch = m.epoch; nodes = map standing m.nodes.items; written = map listed_inodes m.written.items; levels = m.levels.items }

-- `count` inodes that are written at a node take no memory
abbrev pub has_room_for : Members → ℕ → ℕ → Bool
has_room_for m node count = has_last_room count m.written.items && list_all (has_node_room node count) m.nodes.items
