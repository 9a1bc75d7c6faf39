-- What a write that was done says of the file before and after it.
use Rattle.assise_seq_tree.proofs.Common.{◌≡◌, ℕ, ◌+◌, ◌-◌, ◌≤◌, ◌<◌, false, cond, ◌==◌, List, [], ◌∷◌, length, replicate, Result, Ok, Err, refl, ap, ◌∙◌}
use Rattle.assise_seq_tree.proofs.Common.{arith, max, nat_tests, Done, Bytes, File, TreeError, ◌>>=◌, as_file, read_answer, write_answer, stat_answer}
use Rattle.assise_seq_tree.proofs.Common.{tree_after_write, bytes_from, overwritten, Tree, file, dir, at}
use Rattle.assise_seq_tree.proofs.Shared.TreePut.{at-put}
use Rattle.assise_seq_tree.proofs.Shared.Moves.{Path}
use Rattle.assise_seq_tree.proofs.Shared.BytesRead.{read_new, read_again, read_kept, read_behind, read_gap, length-overwritten}

-- the bytes that the file has after the write
abbrev pub bytes_after : List ℕ → ℕ → List ℕ → List ℕ
bytes_after bytes offset new = cond (length new == 0) bytes (overwritten bytes offset new)

pub record Wrote (t u : Tree) (p : Path) (offset : ℕ) (new : List ℕ) : Type 0 where
  pub bytes : List ℕ
  pub there : at t p ≡ Ok (file bytes)
  pub after : at u p ≡ Ok (file (bytes_after bytes offset new))
  pub is : u ≡ tree_after_write t p offset new bytes

pub file_there : (r : Result Tree TreeError) (bytes : List ℕ) → (r >>= λ found. as_file found) ≡ Ok bytes → r ≡ Ok (file bytes)
file_there (Ok (file b)) bytes h = cc
file_there (Ok (dir es)) bytes h = cc
file_there (Err e) bytes h = cc

pub wrote : (t u : Tree) (p : Path) (offset : ℕ) (new : List ℕ) → write_answer t p offset new ≡ (Done, u) → Wrote t u p offset new
wrote t u p offset new h = grind (arith, at-put)

-- ---- reads and stats of a file that is there
pub reads : (u : Tree) (p : Path) (offset most : ℕ) (bytes : List ℕ) → at u p ≡ Ok (file bytes) → read_answer u p offset most
    ≡ (Bytes (bytes_from offset most bytes), u)
reads u p offset most bytes there = rw there refl

pub have_read : (t : Tree) (p : Path) (offset most : ℕ) (bytes old : List ℕ) → at t p ≡ Ok (file bytes) → read_answer t p offset most ≡ (Bytes old, t) →
    bytes_from offset most bytes ≡ old
have_read t p offset most bytes old there h = let is = ap (λ r. r.0) (rw there at h) in cc

pub has_size : (t : Tree) (p : Path) (bytes : List ℕ) (size : ℕ) → at t p ≡ Ok (file bytes) → stat_answer t p ≡ (File size, t) → length bytes ≡ size
has_size t p bytes size there h = let is = ap (λ r. r.0) (rw there at h) in cc

pub sized : (u : Tree) (p : Path) (bytes : List ℕ) → at u p ≡ Ok (file bytes) → stat_answer u p ≡ (File (length bytes), u)
sized u p bytes there = rw there refl

some_bytes : (new : List ℕ) → 0 < length new → (length new == 0) ≡ false
some_bytes new h = grind (arith, nat_tests)

-- ---- the laws
pub written_is_read : (t u : Tree) (p : Path) (offset : ℕ) (new : List ℕ) → write_answer t p offset new ≡ (Done, u) → read_answer u p offset (length new)
    ≡ (Bytes new, u)
written_is_read t u p offset new h =
    let w = wrote t u p offset new h in
    reads u p offset (length new) (bytes_after w.bytes offset new) w.after ∙ ap (λ bytes. (Bytes bytes, u)) (back w.bytes new)
  where
    back : (bytes new : List ℕ) → bytes_from offset (length new) (bytes_after bytes offset new) ≡ new
    back bytes [] = refl
    back bytes (b ∷ new) = let some : (length (b ∷ new) == 0) ≡ false = some_bytes (b ∷ new) (omega arith) in rw some (read_new bytes offset (b ∷ new))

pub kept_before : (t u : Tree) (p : Path) (offset from most : ℕ) (new old : List ℕ) → write_answer t p offset new ≡ (Done, u) → read_answer t p from most
    ≡ (Bytes old, t) → from + length old ≤ offset → read_answer u p from (length old) ≡ (Bytes old, u)
kept_before t u p offset from most new old h r prefix = grind (arith, wrote t u p offset new h, read_again, read_kept)

pub kept_behind : (t u : Tree) (p : Path) (offset from most : ℕ) (new old : List ℕ) → write_answer t p offset new ≡ (Done, u) → read_answer t p from most
    ≡ (Bytes old, t) → offset + length new ≤ from → read_answer u p from most ≡ (Bytes old, u)
kept_behind t u p offset from most new old h r behind = grind (arith, wrote t u p offset new h, read_behind)

pub gap_is_zeros : (t u : Tree) (p : Path) (offset size : ℕ) (new : List ℕ) → write_answer t p offset new ≡ (Done, u) → stat_answer t p ≡ (File size, t) →
    0 < length new → size ≤ offset → read_answer u p size (offset - size) ≡ (Bytes (replicate (offset - size) 0), u)
gap_is_zeros t u p offset size new h s some gap = grind (arith, wrote t u p offset new h, read_gap)

pub size_after : (t u : Tree) (p : Path) (offset size : ℕ) (new : List ℕ) → write_answer t p offset new ≡ (Done, u) → stat_answer t p ≡ (File size, t) →
    0 < length new → stat_answer u p ≡ (File (max size (offset + length new)), u)
size_after t u p offset size new h s some =
    let w = wrote t u p offset new h in
    let is = has_size t p w.bytes size w.there s in
    sized u p (bytes_after w.bytes offset new) w.after ∙ ap (λ n. (File n, u)) (end w.bytes is)
  where
    end : (bytes : List ℕ) → length bytes ≡ size → length (bytes_after bytes offset new) ≡ max size (offset + length new)
    end bytes is = let test = some_bytes new some in rw (test, ← is) (length-overwritten bytes offset new)
