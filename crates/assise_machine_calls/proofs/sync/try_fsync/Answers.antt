use Rattle.assise_machine_calls.proofs.Common.{sym, ◌∙◌, fsync_refused}
use Rattle.assise_machine_calls.proofs.RefusedTurns.{turn_refused}
use Rattle.assise_machine_calls.proofs.sync.try_fsync.Goals as goal

pub returns-in_err-durability_of_caller-clause-happens : goal.returns-in_err-durability_of_caller-clause-happens
returns-in_err-durability_of_caller-clause-happens g c =
    fsync_refused _ _ _ _ _ c.in_err-durability_of_caller.ensures.err (turn_refused c.from_residual.result c.from_residual.ensures.1)

pub returns-in-Pessimistic-clause-happens : goal.returns-in-Pessimistic-clause-happens
returns-in-Pessimistic-clause-happens g c = rw (sym c.in_ok-durability_of_caller.ensures.ok ∙ c.in-Pessimistic.is) c.sync.ensures.happens

pub returns-in-Optimistic-clause-happens : goal.returns-in-Optimistic-clause-happens
returns-in-Optimistic-clause-happens g c = rw (sym c.in_ok-durability_of_caller.ensures.ok ∙ c.in-Optimistic.is) c.note.ensures.happens
