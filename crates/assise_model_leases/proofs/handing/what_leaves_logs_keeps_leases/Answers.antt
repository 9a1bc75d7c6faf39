use Rattle.assise_model_leases.proofs.Shared.QuietLeases.{drop_keeps, logs_keep}
use Rattle.assise_model_leases.proofs.handing.what_leaves_logs_keeps_leases.Goals as goal

pub returns-clause-drops : goal.returns-clause-drops
returns-clause-drops r = λ w u l f a e. drop_keeps w u l f a e

pub returns-clause-logs : goal.returns-clause-logs
returns-clause-logs r = λ w u l logs clients leases goals a. logs_keep w u l logs clients leases goals a
