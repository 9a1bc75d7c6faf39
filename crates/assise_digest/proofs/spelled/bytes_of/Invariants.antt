use Rattle.assise_digest.proofs.Common.{◌≡◌, ◌++◌, ◌-◌, ℕ, List, length, vec_len}
use Rattle.assise_digest.proofs.spelled.bytes_of.Given as goal

-- the bytes so far are the first of the file
abbrev pub invariant-loop-alloc : goal.invariant-loop-alloc
invariant-loop-alloc l = (rest : List ℕ) × (l.bytes.items ++ rest ≡ l.file)

abbrev pub decreases-loop-alloc : goal.decreases-loop-alloc
decreases-loop-alloc l = length l.file - vec_len l.bytes
