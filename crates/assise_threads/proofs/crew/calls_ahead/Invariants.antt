use Rattle.assise_threads.proofs.Common.{◌≡◌, ◌+◌, drop, calls_ahead}
use Rattle.assise_threads.proofs.crew.calls_ahead.Given as goal

-- the calls so far, and those that are left in front
abbrev pub invariant-loop-line : goal.invariant-loop-line
invariant-loop-line l = record {
  count : l.count ≡ l.line-index;
  ahead : calls_ahead l.commands ≡ l.line-index + calls_ahead (drop l.line-index l.commands);
}
