use Rattle.assise_threads.proofs.Common.{◌≡◌, ◌+◌, ◌≤◌, ◌++◌, length, map, vec_len, vec_capacity, sights, libfs_at, outcomes_at, sight_at, untold}
use Rattle.assise_threads.proofs.outcomes.parted.Given as goal

-- the ends so far are parted, and there is room for the rest
abbrev pub invariant-loop-end : goal.invariant-loop-end
invariant-loop-end g l = record {
  all : l.yielded ++ l.end-iterator.rest.items ≡ l.fn.ends.items;
  clients : sights l.clients.items ≡ map sight_at l.yielded;
  same : l.clients.items ≡ map libfs_at l.yielded;
  outcomes : untold l.outcomes.items ≡ map outcomes_at l.yielded;
  room_for_clients : vec_len l.clients + length l.end-iterator.rest.items ≤ vec_capacity l.clients;
  room_for_outcomes : vec_len l.outcomes + length l.end-iterator.rest.items ≤ vec_capacity l.outcomes;
}
