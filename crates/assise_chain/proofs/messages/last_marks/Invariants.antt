use Rattle.assise_chain.proofs.Common.{◌≡◌, last_marks}
use Rattle.assise_chain.proofs.messages.last_marks.Given as goal

abbrev pub invariant-loop-place : goal.invariant-loop-place
invariant-loop-place l = l.marks.items ≡ last_marks l.log l.first l.place
