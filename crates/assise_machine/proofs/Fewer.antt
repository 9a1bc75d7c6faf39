-- Room for some inodes is room for fewer.
use Rattle.assise_machine.proofs.Common.{◌≡◌, ℕ, ◌+◌, ◌≤◌, nat_le, true, List, [], ◌∷◌, refl, arith, and_from, and_parts, or_cases, or_left, or_right, list_all}
use Rattle.assise_machine.proofs.Common.{has_room_for}
use Rattle.std.proofs.Common.{leb-true, le-leb}
use Rattle.assise_manager.specs.Seen.{has_last_room, has_list_room, has_node_room}
use Rattle.assise_manager.specs.declared.members.Members.{Members}
use Rattle.assise_manager.specs.declared.node.Node.{Node}
use Rattle.assise_manager.specs.declared.written_list.WrittenList.{WrittenList}

module _ (few many : ℕ) (fewer : few ≤ many) where
  less : (had room : ℕ) → nat_le (had + many) room ≡ true → nat_le (had + few) room ≡ true
  less had room enough = (let low = leb-true (had + many) room enough in le-leb (had + few) room (omega (arith, low, fewer)))

  fewer_there : (room : ℕ) → nat_le many room ≡ true → nat_le few room ≡ true
  fewer_there room enough = (let low = leb-true many room enough in le-leb few room (omega (arith, low, fewer)))

  list_room : (l : WrittenList) → has_list_room many l ≡ true → has_list_room few l ≡ true
  list_room l room = fewer_there _ room

  last_room : (ls : List WrittenList) → has_last_room many ls ≡ true → has_last_room few ls ≡ true
  last_room [] room = refl
  last_room (l ∷ []) room = list_room l room
  last_room (l ∷ k ∷ ls) room = last_room (k ∷ ls) room

  node_room : (node : ℕ) (x : Node) → has_node_room node many x ≡ true → has_node_room node few x ≡ true
  node_room node x room = grind (arith, or_cases, or_left, or_right, less)

  all_room : (node : ℕ) (xs : List Node) → list_all (has_node_room node many) xs ≡ true → list_all (has_node_room node few) xs ≡ true
  all_room node [] room = refl
  all_room node (x ∷ xs) room =
      let parts = and_parts (has_node_room node many x) (list_all (has_node_room node many) xs) room in
      and_from (has_node_room node few x) (list_all (has_node_room node few) xs) (node_room node x parts.0) (all_room node xs parts.1)

  pub room_for_fewer : (m : Members) (node : ℕ) → has_room_for m node many ≡ true → has_room_for m node few ≡ true
  room_for_fewer m node room =
      let parts = and_parts (has_last_room many m.written.items) (list_all (has_node_room node many) m.nodes.items) room in
      and_from (has_last_room few m.written.items) (list_all (has_node_room node few) m.nodes.items) (last_room m.written.items parts.0)
      (all_room node m.nodes.items parts.1)
