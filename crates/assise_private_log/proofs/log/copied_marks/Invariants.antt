use Rattle.assise_private_log.proofs.Common.{◌≡◌, ◌++◌}
use Rattle.assise_private_log.proofs.log.copied_marks.Given as goal

-- what was copied is the prefix of the ring
abbrev pub invariant-loop-mark : goal.invariant-loop-mark
invariant-loop-mark l = (l.copied.items ++ l.mark-iterator ≡ l.marks.items) × (l.copied.capacity ≡ l.marks.capacity)
