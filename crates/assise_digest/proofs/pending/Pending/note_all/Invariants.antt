use Rattle.assise_digest.proofs.Common.{◌≡◌, ◌+◌, ◌≤◌, length, all_effects, HasAllNumbers, all_noted}
use Rattle.assise_digest.proofs.pending.Pending.note_all.Given as goal

-- the first of them are noted
abbrev pub invariant-loop-record : goal.invariant-loop-record
invariant-loop-record l = record {
  noted : all_noted l.self.last l.number l.record-iterator ≡ all_noted l.fn.self.last l.first l.fn.records;
  inodes : l.self.inodes ≡ l.fn.self.inodes;
  fits : l.number + length l.record-iterator ≤ l.first + length l.fn.records;
  there : HasAllNumbers l.self.last (all_effects l.record-iterator);
}
