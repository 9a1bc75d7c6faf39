-- What a file is after it was given another size.
use Rattle.assise_seq_tree.proofs.Common.{◌≡◌, ℕ, ◌+◌, ◌-◌, ◌≤◌, List, length, replicate, Ok, arith, Done, Bytes, File, read_answer, truncate_answer}
use Rattle.assise_seq_tree.proofs.Common.{stat_answer, bytes_from, resized, Tree, file, at}
use Rattle.assise_seq_tree.proofs.Shared.TreePut.{at-put}
use Rattle.assise_seq_tree.proofs.Shared.Moves.{Path}
use Rattle.assise_seq_tree.proofs.Shared.BytesRead.{read_alike, read_prefix, read_zeros}
pub use Rattle.assise_seq_tree.proofs.Shared.BytesRead.{length-resized}

-- ---- bytes
read_kept : (bytes : List ℕ) (size from most : ℕ) → from + length (bytes_from from most bytes) ≤ size
    → bytes_from from (length (bytes_from from most bytes)) (resized bytes size) ≡ bytes_from from most bytes
read_kept bytes size from most = read_alike bytes (resized bytes size) from most size (read_prefix bytes size from)

-- ---- the file before and after
pub record Truncated (t u : Tree) (p : Path) (size : ℕ) : Type 0 where
  pub bytes : List ℕ
  pub there : at t p ≡ Ok (file bytes)
  pub after : at u p ≡ Ok (file (resized bytes size))

truncated : (t u : Tree) (p : Path) (size : ℕ) → truncate_answer t p size ≡ (Done, u) → Truncated t u p size
truncated t u p size h = grind (arith, at-put)

-- ---- the laws
pub size_given : (t u : Tree) (p : Path) (size : ℕ) → truncate_answer t p size ≡ (Done, u) → stat_answer u p ≡ (File size, u)
size_given t u p size h = grind (arith, truncated t u p size h, length-resized)

pub prefix_kept : (t u : Tree) (p : Path) (from most size : ℕ) (old : List ℕ) → truncate_answer t p size ≡ (Done, u) → read_answer t p from most
    ≡ (Bytes old, t) → from + length old ≤ size → read_answer u p from (length old) ≡ (Bytes old, u)
prefix_kept t u p from most size old h r prefix = grind (arith, truncated t u p size h, read_kept)

pub grown_by_zeros : (t u : Tree) (p : Path) (before size : ℕ) → truncate_answer t p size ≡ (Done, u) → stat_answer t p ≡ (File before, t) → before ≤ size →
    read_answer u p before (size - before) ≡ (Bytes (replicate (size - before) 0), u)
grown_by_zeros t u p before size h s grows = grind (arith, truncated t u p size h, read_zeros)
