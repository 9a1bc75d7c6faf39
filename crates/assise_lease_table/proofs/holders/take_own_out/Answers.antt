use Rattle.assise_lease_table.proofs.Common.{subst, ◌≤◌}
use Rattle.assise_lease_table.proofs.Room.{place_without}
use Rattle.assise_lease_table.proofs.holders.take_own_out.Goals as goal

pub returns-clause-place : goal.returns-clause-place
returns-clause-place c place = place_without c.args.holder c.args.leases.now c.take_out.new.leases
    (subst (λ n. n ≤ c.args.leases.now.capacity) c.len-fits.ensures.value c.len-fits.ensures.fits) place c.take_out.ensures.items c.take_out.ensures.len
    c.take_out.ensures.capacity
