use Rattle.assise_model_events.proofs.ClientsCome.{coalesced_comes, coalescing_synced_comes, not_coalesced_comes, not_coalesced_for_memory_comes, called_comes}
use Rattle.assise_model_events.proofs.ClientsCome.{call_awaited_comes, log_full_comes, opened_comes, not_opened_comes, not_opened_for_memory_comes}
use Rattle.assise_model_events.proofs.ClientsCome.{not_called_comes, not_called_for_memory_comes, synced_comes, sync_awaited_comes, not_synced_comes}
use Rattle.assise_model_events.proofs.ClientsCome.{not_synced_for_memory_comes, crashed_comes, not_crashed_comes, not_crashed_for_memory_comes}
use Rattle.assise_model_events.proofs.reachable.each_outcome_of_what_clients_do_comes.Goals as goal

pub returns-clause-opened : goal.returns-clause-opened
returns-clause-opened r = opened_comes

pub returns-clause-not_opened : goal.returns-clause-not_opened
returns-clause-not_opened r = not_opened_comes

pub returns-clause-not_opened_for_memory : goal.returns-clause-not_opened_for_memory
returns-clause-not_opened_for_memory r = not_opened_for_memory_comes

pub returns-clause-not_called : goal.returns-clause-not_called
returns-clause-not_called r = not_called_comes

pub returns-clause-not_called_for_memory : goal.returns-clause-not_called_for_memory
returns-clause-not_called_for_memory r = not_called_for_memory_comes

pub returns-clause-synced : goal.returns-clause-synced
returns-clause-synced r = synced_comes

pub returns-clause-sync_awaited : goal.returns-clause-sync_awaited
returns-clause-sync_awaited r = sync_awaited_comes

pub returns-clause-not_synced : goal.returns-clause-not_synced
returns-clause-not_synced r = not_synced_comes

pub returns-clause-not_synced_for_memory : goal.returns-clause-not_synced_for_memory
returns-clause-not_synced_for_memory r = not_synced_for_memory_comes

pub returns-clause-crashed : goal.returns-clause-crashed
returns-clause-crashed r = crashed_comes

pub returns-clause-not_crashed : goal.returns-clause-not_crashed
returns-clause-not_crashed r = not_crashed_comes

pub returns-clause-not_crashed_for_memory : goal.returns-clause-not_crashed_for_memory
returns-clause-not_crashed_for_memory r = not_crashed_for_memory_comes

pub returns-clause-called : goal.returns-clause-called
returns-clause-called r = called_comes

pub returns-clause-call_awaited : goal.returns-clause-call_awaited
returns-clause-call_awaited r = call_awaited_comes

pub returns-clause-log_full : goal.returns-clause-log_full
returns-clause-log_full r = log_full_comes

pub returns-clause-coalesced : goal.returns-clause-coalesced
returns-clause-coalesced r = coalesced_comes

pub returns-clause-coalescing_synced : goal.returns-clause-coalescing_synced
returns-clause-coalescing_synced r = coalescing_synced_comes

pub returns-clause-not_coalesced : goal.returns-clause-not_coalesced
returns-clause-not_coalesced r = not_coalesced_comes

pub returns-clause-not_coalesced_for_memory : goal.returns-clause-not_coalesced_for_memory
returns-clause-not_coalesced_for_memory r = not_coalesced_for_memory_comes
