use Rattle.assise_digest.proofs.Common.{◌≡◌, ◌++◌, take, all_effects, ahead, seen_log}
use Rattle.assise_digest.proofs.received.Received.effects_ahead.Given as goal

-- the effects of the records so far
abbrev pub invariant-loop-record : goal.invariant-loop-record
invariant-loop-record l = l.effects.items ++ all_effects (take l.record-iterator.n l.record-iterator.iter)
    ≡ all_effects (take l.count (ahead (seen_log l.self)))
