use Rattle.assise_model_leases.proofs.Common.{client_lease}
use Rattle.assise_model_leases.proofs.Shared.LookUps.{revoked_serves, none_serves}
use Rattle.assise_model_leases.proofs.waiting.a_revoked_lease_serves_no_call.Goals as goal

pub returns-clause-revoked : goal.returns-clause-revoked
returns-clause-revoked r = λ l c i mode h. revoked_serves (client_lease l c i) mode h

pub returns-clause-crashed : goal.returns-clause-crashed
returns-clause-crashed r = λ w l c i mode a over. none_serves (client_lease l c i) mode (a.crashed c i over)

pub returns-clause-failed : goal.returns-clause-failed
returns-clause-failed r = λ w l c i mode a over. none_serves (client_lease l c i) mode (a.failed c i over)
