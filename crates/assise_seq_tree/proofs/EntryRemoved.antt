-- What is unlinked or removed is gone.
use Rattle.assise_seq_tree.proofs.Common.{◌≡◌, ◌<◌, false, ◌==◌, length, Result, Ok, arith, nat_tests, Done, Error, TreeError, NoEnt, ◌>>=◌, as_file}
use Rattle.assise_seq_tree.proofs.Common.{unlink_answer, rmdir_answer, stat_answer, Tree, at, without, IsOrdered}
use Rattle.assise_seq_tree.proofs.Shared.Moves.{Path}
use Rattle.assise_seq_tree.proofs.Shared.Paths.{gone}

below_the_root : (p : Path) → (length p == 0) ≡ false → 0 < length p
below_the_root p h = grind (arith, nat_tests)

gone_after : (t u x : Tree) (p : Path) → IsOrdered t → (length p == 0) ≡ false → at t p ≡ Ok x → u ≡ without t p → stat_answer u p ≡ (Error NoEnt, u)
gone_after t u x p s below there is = grind (arith, gone)

abbrev unlinkable : Result Tree TreeError → Result (Unit {0}) TreeError
unlinkable r = (r >>= λ found. as_file found) >>= λ _. Ok tt

pub unlinked_is_gone : (t u : Tree) (p : Path) → IsOrdered t → unlink_answer t p ≡ (Done, u) → stat_answer u p ≡ (Error NoEnt, u)
unlinked_is_gone t u p s h = search (gone_after, arith) parts 3

pub removed_is_gone : (t u : Tree) (p : Path) → IsOrdered t → rmdir_answer t p ≡ (Done, u) → stat_answer u p ≡ (Error NoEnt, u)
removed_is_gone t u p s h = search (gone_after, arith) parts 3
