use Rattle.assise_workers.proofs.Common.{◌≡◌, ◌+◌, ◌≤◌, ◌++◌, length, vec_len, vec_capacity, AllZip, HasServed}
use Rattle.assise_workers.proofs.running.join_clients.Given as goal

-- what came so far is what these threads promised, and there is room for the rest
abbrev pub invariant-loop-handle : goal.invariant-loop-handle
invariant-loop-handle g l = record {
  all : l.yielded ++ l.handle-iterator.rest.items ≡ l.fn.handles.items;
  kept : AllZip (λ h end. HasServed g.S.Growing.history g.S.Served.acts h.promise.0.value end) l.yielded l.ends.items;
  room : vec_len l.ends + length l.handle-iterator.rest.items ≤ vec_capacity l.ends;
}
