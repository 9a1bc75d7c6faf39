use Rattle.assise_model_events.proofs.Shared.LackAnswerable.{spent_can, full_can, memory_can}
use Rattle.assise_model_events.proofs.chances.what_a_call_lacks_can_be_answered.Goals as goal

pub returns-clause-inodes : goal.returns-clause-inodes
returns-clause-inodes r = λ m c op reply fine served makes made. spent_can m c op reply fine served makes made

pub returns-clause-room : goal.returns-clause-room
returns-clause-room r = λ m c op reply fine served makes some at_limit. full_can m c op reply fine served makes some at_limit

pub returns-clause-memory : goal.returns-clause-memory
returns-clause-memory r = λ m c op reply fine. memory_can m c op reply fine
