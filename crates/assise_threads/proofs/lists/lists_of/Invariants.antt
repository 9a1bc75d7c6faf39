use Rattle.assise_threads.proofs.Common.{◌≡◌, ◌+◌, ◌≤◌, ◌++◌, length, vec_len, vec_capacity, AllZip, HasCalls}
use Rattle.assise_threads.proofs.lists.lists_of.Given as goal

-- the clients so far have their calls, and there is room for the rest
abbrev pub invariant-loop-libfs : goal.invariant-loop-libfs
invariant-loop-libfs g l = record {
  all : l.yielded ++ l.libfs-iterator.rest.items ≡ l.fn.clients.items;
  kept : AllZip (HasCalls l.stretch) l.yielded l.lists.items;
  room : vec_len l.lists + length l.libfs-iterator.rest.items ≤ vec_capacity l.lists;
}
