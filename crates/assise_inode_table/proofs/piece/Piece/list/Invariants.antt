use Rattle.assise_inode_table.proofs.Common.{◌≡◌, ◌++◌, take, zip, arc_value, keys_of, links_or_none, live}
use Rattle.assise_inode_table.proofs.piece.Piece.list.Given as goal

abbrev pub invariant-loop-at : goal.invariant-loop-at
invariant-loop-at l =
    let slots = zip (arc_value l.self-inside.names).items (links_or_none l.self-inside.links l.self-inside.gone) in
    l.names.items ≡ l.initial.names.items ++ keys_of (live (take l.at slots))
