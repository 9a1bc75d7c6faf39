use Rattle.assise_names.proofs.Common.{◌≡◌, ◌==◌, ◌+◌, ◌≤◌, length, slice_split, IsUtf8, name_count, pieces_as_names}
use Rattle.assise_names.proofs.PathLemmas.{count_on}
use Rattle.assise_names.proofs.path.count_names.Given as goal

abbrev pub invariant-loop-piece : goal.invariant-loop-piece
invariant-loop-piece l = record {
  text : IsUtf8 l.rest;
  same : count_on l.count (pieces_as_names (slice_split (λ b. b == 47) l.rest)) ≡ name_count (pieces_as_names (slice_split (λ b. b == 47) l.fn.text));
  few : l.count + length l.rest ≤ length l.fn.text;
}

abbrev pub decreases-loop-piece : goal.decreases-loop-piece
decreases-loop-piece l = length l.rest
