use Rattle.assise_machine_state.proofs.Common.{◌≡◌, ◌++◌, take, drop, with_logs_ended}
use Rattle.assise_machine_state.proofs.nodes.end_all.Given as goal

abbrev pub invariant-loop-region : goal.invariant-loop-region
invariant-loop-region l = take l.region-index l.regions ++ with_logs_ended (drop l.region-index l.regions) l.client ≡ with_logs_ended l.fn.regions l.client
