use Rattle.assise_names.proofs.Common.{◌≡◌, ◌==◌, length, All, IsTrue, slice_split, IsUtf8, is_name, pieces_as_names, with_prefix}
use Rattle.assise_names.proofs.path.push_names.Given as goal

abbrev pub invariant-loop-piece : goal.invariant-loop-piece
invariant-loop-piece l = record {
  text : IsUtf8 l.rest;
  same : with_prefix l.names.items (pieces_as_names (slice_split (λ b. b == 47) l.rest)) ≡ with_prefix l.fn.names.items
      (pieces_as_names (slice_split (λ b. b == 47) l.fn.text));
  lawful : All (λ name. IsTrue (is_name name)) l.fn.names.items → All (λ name. IsTrue (is_name name)) l.names.items;
}

abbrev pub decreases-loop-piece : goal.decreases-loop-piece
decreases-loop-piece l = length l.rest
