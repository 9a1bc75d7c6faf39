use Rattle.assise_machine.proofs.Common.{◌≡◌}
use Rattle.assise_machine.proofs.delivery.share_payloads.Given as goal

abbrev pub invariant-loop-place : goal.invariant-loop-place
invariant-loop-place l = l.records ≡ l.initial.records
