use Rattle.assise_lease_table.proofs.Common.{sym, nat_eq, arith, get}
use Rattle.assise_lease_table.proofs.Room.{place_in}
use Rattle.assise_lease_table.proofs.lease_map.LeaseMap.put.Goals as goal

pub push_reserved-requires : goal.push_reserved-requires
push_reserved-requires c = (
  omega arith,
  c.take_own_out.ensures.place
      (place_in c.args.self.now c.args.lease.holder (get nat_eq c.args.self.now.inodes c.args.inode) c.in-Some.leases.now c.requires
      (sym c.in-Some.ensures.value)),
)
