use Rattle.assise_digest.proofs.Common.{take, KeepsNoMore, Lays, all_ahead, seen_logs}
use Rattle.assise_digest.proofs.region.Region.all_ahead.Given as goal

abbrev pub invariant-loop-place : goal.invariant-loop-place
invariant-loop-place l =
    record {
      no_more : KeepsNoMore l.ahead;
      lays : Lays l.ahead l.self-inside.area.inodes (all_ahead (take l.place (seen_logs l.self-inside.logs.items)) l.acked);
    }
