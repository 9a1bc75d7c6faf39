use Rattle.assise_desk.proofs.DeskTraces.{client_trace, cluster_trace}
use Rattle.assise_desk.proofs.laws.a_request_is_a_trace_of_events.Goals as goal

pub returns-clause-cluster : goal.returns-clause-cluster
returns-clause-cluster c = cluster_trace

pub returns-clause-client : goal.returns-clause-client
returns-clause-client c = client_trace
