use Rattle.assise_digest.proofs.Common.{◌≡◌, ◌-◌, ◌≤◌, take, InodeMap, all_applied, all_effects, ahead, digested_further, LogInvariant, seen_log}
use Rattle.assise_digest.proofs.received.Received.count_all_digested.Given as goal

-- `done` were counted
abbrev pub invariant-loop-done : goal.invariant-loop-done
invariant-loop-done l = record {
  within : l.done ≤ l.count;
  seen : seen_log l.self ≡ digested_further (seen_log l.fn.self) l.done;
  sound : (m : InodeMap) → LogInvariant m l.fn.self → LogInvariant (all_applied m (all_effects (take l.done (ahead (seen_log l.fn.self))))) l.self;
}

abbrev pub decreases-loop-done : goal.decreases-loop-done
decreases-loop-done l = l.count - l.done
