use Rattle.assise_names.proofs.Common.{◌≡◌, ◌==◌, All, IsTrue, drop, slice_split, is_name, pieces_as_names, with_prefix}
use Rattle.assise_names.proofs.PathLemmas.{pieces_left}
use Rattle.assise_names.proofs.path.path_of_many.Given as goal

abbrev pub invariant-loop-piece : goal.invariant-loop-piece
invariant-loop-piece l =
    let pieces = slice_split (λ b. b == 47) l.fn.rest in
    record {
      same : with_prefix l.names.items (pieces_as_names (pieces_left (drop l.piece-index l.piece-items) pieces))
          ≡ pieces_as_names (pieces_left l.piece-items pieces);
      lawful : All (λ name. IsTrue (is_name name)) l.names.items;
    }
