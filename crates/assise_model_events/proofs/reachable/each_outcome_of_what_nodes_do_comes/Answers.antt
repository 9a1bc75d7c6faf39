use Rattle.assise_model_events.proofs.LeasesGo.{released_some}
use Rattle.assise_model_events.proofs.NodesCome.{delivered, digested_one, hot_is_set, hot_not_set, hot_not_set_for_memory, not_delivered}
use Rattle.assise_model_events.proofs.NodesCome.{not_delivered_for_memory, not_digested, not_digested_for_memory, not_sent, not_sent_for_memory, sent_one}
use Rattle.assise_model_events.proofs.NodesCome.{stale}
use Rattle.assise_model_events.proofs.reachable.each_outcome_of_what_nodes_do_comes.Goals as goal

pub returns-clause-sent : goal.returns-clause-sent
returns-clause-sent r = sent_one

pub returns-clause-not_sent : goal.returns-clause-not_sent
returns-clause-not_sent r = not_sent

pub returns-clause-not_sent_for_memory : goal.returns-clause-not_sent_for_memory
returns-clause-not_sent_for_memory r = not_sent_for_memory

pub returns-clause-delivered : goal.returns-clause-delivered
returns-clause-delivered r = delivered

pub returns-clause-stale : goal.returns-clause-stale
returns-clause-stale r = stale

pub returns-clause-not_delivered : goal.returns-clause-not_delivered
returns-clause-not_delivered r = not_delivered

pub returns-clause-not_delivered_for_memory : goal.returns-clause-not_delivered_for_memory
returns-clause-not_delivered_for_memory r = not_delivered_for_memory

pub returns-clause-digested : goal.returns-clause-digested
returns-clause-digested r = digested_one

pub returns-clause-not_digested : goal.returns-clause-not_digested
returns-clause-not_digested r = not_digested

pub returns-clause-not_digested_for_memory : goal.returns-clause-not_digested_for_memory
returns-clause-not_digested_for_memory r = not_digested_for_memory

pub returns-clause-released : goal.returns-clause-released
returns-clause-released r = released_some

pub returns-clause-hot : goal.returns-clause-hot
returns-clause-hot r = hot_is_set

pub returns-clause-not_hot : goal.returns-clause-not_hot
returns-clause-not_hot r = hot_not_set

pub returns-clause-not_hot_for_memory : goal.returns-clause-not_hot_for_memory
returns-clause-not_hot_for_memory r = hot_not_set_for_memory
