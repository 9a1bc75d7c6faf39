use Rattle.assise_threads.proofs.Common.{◌≡◌, ◌≤◌, HasTried, OpensNone, main_keeper, main_seen}
use Rattle.assise_threads.proofs.main_thread.MainThreadOf.bring_back.Given as goal

-- the node began to come back, was filled and tried to join `counter` times; and no client was opened
abbrev pub invariant-loop : goal.invariant-loop
invariant-loop g l = record {
  tried : HasTried l.node l.counter (main_seen l.fn.self) (main_seen l.self);
  few : l.counter ≤ l.turns;
  none_opened : OpensNone (main_seen l.fn.self).history (main_seen l.self).history;
  keeper : main_keeper l.self ≡ main_keeper l.fn.self;
}
