use Rattle.assise_model_leases.proofs.Shared.LeasesGo.{goes, release_keeps, free_keeps}
use Rattle.assise_model_leases.proofs.handing.a_release_keeps_leases.Goals as goal

pub returns-clause-releases : goal.returns-clause-releases
returns-clause-releases r = λ w u l k c i dropped a e. goes w u l k c i a e dropped

pub returns-clause-keeps : goal.returns-clause-keeps
returns-clause-keeps r = λ w u l k c i a e. release_keeps w u l k c i a e

pub returns-clause-node : goal.returns-clause-node
returns-clause-node r = λ w l k n a e. free_keeps w l k n a e
