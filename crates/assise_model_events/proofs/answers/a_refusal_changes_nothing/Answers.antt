use Rattle.assise_model_events.proofs.RefusalKeeps.{refused_same, call_history, call_members}
use Rattle.assise_model_events.proofs.answers.a_refusal_changes_nothing.Goals as goal

pub returns-clause-same : goal.returns-clause-same
returns-clause-same r = λ m m' e refusal own h. refused_same m m' e refusal own h

pub returns-clause-history : goal.returns-clause-history
returns-clause-history r = λ m m' c op refusal h. call_history m m' c op refusal h

pub returns-clause-members : goal.returns-clause-members
returns-clause-members r = λ m m' c op refusal h. call_members m m' c op refusal h
