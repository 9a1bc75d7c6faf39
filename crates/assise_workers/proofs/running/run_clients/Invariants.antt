use Rattle.assise_workers.proofs.Common.{◌≡◌, ◌+◌, ◌≤◌, ◌++◌, length, map, vec_len, vec_capacity}
use Rattle.assise_workers.proofs.running.run_clients.Given as goal

-- the threads so far have the lists so far, and there is room for the rest
abbrev pub invariant-loop-list : goal.invariant-loop-list
invariant-loop-list g l = record {
  given : map (λ h. h.promise.0.value) l.handles.items ++ l.list-iterator.rest.items ≡ l.fn.lists.items;
  room : vec_len l.handles + length l.list-iterator.rest.items ≤ vec_capacity l.handles;
}
