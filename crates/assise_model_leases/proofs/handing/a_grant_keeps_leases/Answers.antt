use Rattle.assise_model_leases.proofs.Shared.GrantKeeps.{grant_acquires, grant_keeps}
use Rattle.assise_model_leases.proofs.handing.a_grant_keeps_leases.Goals as goal

pub returns-clause-acquires : goal.returns-clause-acquires
returns-clause-acquires r = λ w u l k c i mode a e. grant_acquires w u l k c i mode a e

pub returns-clause-keeps : goal.returns-clause-keeps
returns-clause-keeps r = λ w u l k c i mode s a e. grant_keeps w u l k c i mode a e s
