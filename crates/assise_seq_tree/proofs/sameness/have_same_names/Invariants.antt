use Rattle.assise_seq_tree.proofs.Common.{◌≡◌, ◌≤◌, ◌+◌, ◌↔◌, ArePairsSame, size_of_pairs, sizes_of, map_entries}
use Rattle.assise_seq_tree.proofs.sameness.have_same_names.Given as goal

-- where what is left of both is the same, and what is pending, so were the entries, and what was pending
abbrev pub invariant-loop-name : goal.invariant-loop-name
invariant-loop-name l = record {
  same : ((l.name-iterator ≡ l.left) × ArePairsSame l.pending.items) ↔ ((l.fn.entries.entries ≡ l.fn.others.entries) × ArePairsSame l.fn.pending.items);
  size : sizes_of (map_entries l.name-iterator) + size_of_pairs l.pending.items ≤ sizes_of (map_entries l.fn.entries.entries) + size_of_pairs
      l.fn.pending.items;
}
