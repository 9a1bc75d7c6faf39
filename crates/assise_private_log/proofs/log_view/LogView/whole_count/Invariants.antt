use Rattle.assise_private_log.proofs.Common.{◌≡◌, ◌≤◌, ◌<◌, whole_count, IsNumberedLog}
use Rattle.assise_private_log.proofs.log_view.LogView.whole_count.Given as goal

abbrev pub invariant-loop-count : goal.invariant-loop-count
invariant-loop-count l = record {
  same : whole_count l.self l.from l.count ≡ whole_count l.self l.from l.most;
  within : l.count ≤ l.most;
  lawful : l.count < l.most → IsNumberedLog l.self;
}

abbrev pub decreases-loop-count : goal.decreases-loop-count
decreases-loop-count l = l.count
