use Rattle.assise_workers.proofs.Common.{◌≡◌, ◌≤◌, map, take, length, vec_len, vec_capacity, IsSameClient, client_of, limit_of, seen_by, SeesAll, Turned}
use Rattle.assise_workers.proofs.serving.make_calls.Given as goal

-- the calls so far were made, and there is room for what comes of the rest
abbrev pub invariant-loop-op : goal.invariant-loop-op
invariant-loop-op g l = record {
  same : IsSameClient l.fn.libfs l.libfs;
  count : vec_len l.replies ≡ l.op-index;
  room : length l.calls ≤ vec_capacity l.replies;
  sees : SeesAll (Turned g.S.Growing.history g.S.Served.acts (limit_of l.fn.libfs)) (client_of l.fn.libfs) (map (λ op. op.now) (take l.op-index l.calls))
      (seen_by l.fn.libfs) l.replies.items (seen_by l.libfs);
}
