use Rattle.assise_model_events.proofs.NodeEventsPossible.{back_can, joined_can, refilled_can}
use Rattle.assise_model_events.proofs.Shared.Failable.{failed_can}
use Rattle.assise_model_events.proofs.chances.what_happens_to_nodes_can_happen.Goals as goal

pub returns-clause-failed : goal.returns-clause-failed
returns-clause-failed r = λ m n h fine. failed_can m n h fine

pub returns-clause-back : goal.returns-clause-back
returns-clause-back r = λ m n h fine. back_can m n h fine

pub returns-clause-refilled : goal.returns-clause-refilled
returns-clause-refilled r = λ m n h fine some. refilled_can m n h fine some

pub returns-clause-joined : goal.returns-clause-joined
returns-clause-joined r = λ m n h fine. joined_can m n h fine
