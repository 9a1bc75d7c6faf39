use Rattle.assise_model_leases.proofs.Shared.ClientEnds.{crash_keeps, fail_keeps}
use Rattle.assise_model_leases.proofs.handing.an_end_keeps_leases.Goals as goal

pub returns-clause-crash : goal.returns-clause-crash
returns-clause-crash r = λ w u l k c s a e. crash_keeps w u l k c a e s

pub returns-clause-failure : goal.returns-clause-failure
returns-clause-failure r = λ w u l k n s a e. fail_keeps w u l k n a e s
