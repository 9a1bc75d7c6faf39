use Rattle.assise_libfs_tests.proofs.Common.{◌≤◌, arith}
use Rattle.assise_names.specs.declared.limits.TheConstants.{MOST_CLIENTS}
use Rattle.assise_libfs_tests.proofs.Grown.{begun, unchanged}
use Rattle.assise_libfs_tests.proofs.ledger.Ledger.new.Goals as goal

pub invariant_of-result : goal.invariant_of-result
invariant_of-result c =
    let few : 0 ≤ MOST_CLIENTS = omega arith in
    record { few = few; kept = unchanged 0 _ _ begun c.new.ensures }
