use Rattle.assise_model_leases.proofs.Shared.Possible.{may_open_at, may_call_under, may_grant, may_ask, may_release, may_free, may_crash_with, may_fail_with}
use Rattle.assise_model_leases.proofs.chances.each_step_of_leases_can_be_made.Goals as goal

pub returns-clause-opened : goal.returns-clause-opened
returns-clause-opened r = λ w l n f. may_open_at w l n f

pub returns-clause-called : goal.returns-clause-called
returns-clause-called r = λ w l x s m. may_call_under w l x s m

pub returns-clause-granted : goal.returns-clause-granted
returns-clause-granted r = λ w l c i mode m. may_grant w l c i mode m

pub returns-clause-asked : goal.returns-clause-asked
returns-clause-asked r = λ w l c i mode s a m. may_ask w l c i mode a m s

pub returns-clause-released : goal.returns-clause-released
returns-clause-released r = λ w l c i m. may_release w l c i m

pub returns-clause-freed : goal.returns-clause-freed
returns-clause-freed r = λ w l n away idle. may_free w l n away idle

pub returns-clause-crashed : goal.returns-clause-crashed
returns-clause-crashed r = λ w l c alive running. may_crash_with w l c alive running

pub returns-clause-failed : goal.returns-clause-failed
returns-clause-failed r = λ w l n m. may_fail_with w l n m
