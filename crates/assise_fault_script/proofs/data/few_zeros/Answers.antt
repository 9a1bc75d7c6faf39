use Rattle.assise_fault_script.proofs.Common.{◌≡◌, nat_le, true, replicate, refl, arith, nat_tests}
use Rattle.assise_fault_script.proofs.data.few_zeros.Goals as goal

pub returns-then-count-le-MOST_ZEROS : goal.returns-then-count-le-MOST_ZEROS
returns-then-count-le-MOST_ZEROS c = let few : nat_le c.args.count 1048576 ≡ true = grind (arith, nat_tests) in (replicate c.args.count 0, rw few refl)
