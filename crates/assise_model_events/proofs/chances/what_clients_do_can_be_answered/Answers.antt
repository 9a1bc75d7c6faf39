use Rattle.assise_model_events.proofs.Shared.Answerable.{awaited_can, called_can, crashed_can, opened_can, replicating_can, synced_can}
use Rattle.assise_model_events.proofs.chances.what_clients_do_can_be_answered.Goals as goal

pub returns-clause-opened : goal.returns-clause-opened
returns-clause-opened r = λ m n u h fine. opened_can m n u h fine

pub returns-clause-called : goal.returns-clause-called
returns-clause-called r = λ m c op reply h fine may room. called_can m c op reply h fine may room

pub returns-clause-awaited : goal.returns-clause-awaited
returns-clause-awaited r = λ m c i op reply mode h fine missing taken. awaited_can m c i op reply mode h fine missing taken

pub returns-clause-synced : goal.returns-clause-synced
returns-clause-synced r = λ m c op u sync h fine all. synced_can m c op u sync h fine all

pub returns-clause-replicating : goal.returns-clause-replicating
returns-clause-replicating r = λ m c op h fine lacking. replicating_can m c op h fine lacking

pub returns-clause-crashed : goal.returns-clause-crashed
returns-clause-crashed r = λ m c h fine. crashed_can m c h fine
