use Rattle.assise_digest.proofs.Common.{◌-◌, ◌++◌, List, take, Effect, all_effects, KeepsNoMore, Lays, ahead, seen_log}
use Rattle.assise_digest.proofs.received.Received.lay.Given as goal

abbrev pub invariant-loop-number : goal.invariant-loop-number
invariant-loop-number l =
    record {
      no_more : KeepsNoMore l.pending;
      lays : (es : List Effect) → Lays l.initial.pending l.area.inodes es →
          Lays l.pending l.area.inodes (es ++ all_effects (take (l.number - l.self.digested) (ahead (seen_log l.self))));
    }
