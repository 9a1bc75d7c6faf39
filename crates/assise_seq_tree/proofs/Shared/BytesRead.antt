-- What is read of bytes that were written over.
use Rattle.assise_seq_tree.proofs.Common.{◌≡◌, ℕ, ◌+◌, ◌-◌, ◌≤◌, List, ◌++◌, length, take, drop, replicate, refl, ap, ◌∙◌, arith, append_assoc, length-append}
use Rattle.assise_seq_tree.proofs.Common.{max, length-take, length-drop, length-replicate, take_at, drop_at, take_all, take-take, take-append-le, drop-take}
use Rattle.assise_seq_tree.proofs.Common.{drop-drop, take_min, bytes_from, overwritten, resized}

-- ---- another size
abbrev zeros : ℕ → List ℕ
zeros n = replicate n 0

length-zeros : (n : ℕ) → length (zeros n) ≡ n
length-zeros n = length-replicate {A = ℕ} n 0

pub length-resized : (bytes : List ℕ) (size : ℕ) → length (resized bytes size) ≡ size
length-resized bytes size = grind (arith, length-append, length-take, length-zeros)

-- up to the old end
pub read_prefix : (bytes : List ℕ) (size from n : ℕ) → from + n ≤ size → from + n ≤ length bytes
    → bytes_from from n (resized bytes size) ≡ bytes_from from n bytes
read_prefix bytes size from n h k = grind
    (arith, length-take size bytes, drop-take from n (resized bytes size), drop-take from n bytes, take-append-le, take-take (from + n) size bytes h)

-- from the old end on
pub read_zeros : (bytes : List ℕ) (size : ℕ) → length bytes ≤ size
    → bytes_from (length bytes) (size - length bytes) (resized bytes size) ≡ replicate (size - length bytes) 0
read_zeros bytes size h = grind (arith, take_all, drop_at, length-zeros)

-- ---- a write: what stands before the new bytes are those of a file of that size
overwritten-is : (bytes : List ℕ) (offset : ℕ) (new : List ℕ) → overwritten bytes offset new ≡ resized bytes offset ++ (new ++ drop (offset + length new) bytes)
overwritten-is bytes offset new = append_assoc (resized bytes offset) new (drop (offset + length new) bytes)

read_front : (bytes : List ℕ) (offset : ℕ) (new : List ℕ) (from n : ℕ) → from + n ≤ offset
    → bytes_from from n (overwritten bytes offset new) ≡ bytes_from from n (resized bytes offset)
read_front bytes offset new from n h = grind (
  arith,
  length-resized bytes offset,
  drop-take from n (overwritten bytes offset new),
  drop-take from n (resized bytes offset),
  overwritten-is bytes offset new,
  take-append-le,
)

-- the new bytes
pub read_new : (bytes : List ℕ) (offset : ℕ) (new : List ℕ) → bytes_from offset (length new) (overwritten bytes offset new) ≡ new
read_new bytes offset new = grind (arith, overwritten-is, drop_at, length-resized, take_at)

-- the old bytes before them
pub read_before : (bytes : List ℕ) (offset : ℕ) (new : List ℕ) (from n : ℕ) → from + n ≤ offset → from + n ≤ length bytes →
    bytes_from from n (overwritten bytes offset new) ≡ bytes_from from n bytes
read_before bytes offset new from n h k = read_front bytes offset new from n h ∙ read_prefix bytes offset from n h k

-- as many as were read
pub read_again : (from most : ℕ) (bytes : List ℕ) → bytes_from from (length (bytes_from from most bytes)) bytes ≡ bytes_from from most bytes
read_again from most bytes = ap (λ n. take n (drop from bytes)) (length-take most (drop from bytes)) ∙ take_min most (drop from bytes)

-- bytes that agree with others up to an end agree in what was read up to it
pub read_alike : (bytes others : List ℕ) (from most end : ℕ)
    → ((n : ℕ) → from + n ≤ end → from + n ≤ length bytes → bytes_from from n others ≡ bytes_from from n bytes)
    → from + length (bytes_from from most bytes) ≤ end → bytes_from from (length (bytes_from from most bytes)) others ≡ bytes_from from most bytes
read_alike bytes others from most end alike h = grind (arith, read_again, length-take, length-drop)

pub read_kept : (bytes : List ℕ) (offset : ℕ) (new : List ℕ) (from most : ℕ) → from + length (bytes_from from most bytes) ≤ offset
    → bytes_from from (length (bytes_from from most bytes)) (overwritten bytes offset new) ≡ bytes_from from most bytes
read_kept bytes offset new from most = read_alike bytes (overwritten bytes offset new) from most offset (read_before bytes offset new from)

-- the old bytes behind them
pub read_behind : (bytes : List ℕ) (offset : ℕ) (new : List ℕ) (from most : ℕ) → offset + length new ≤ from →
    bytes_from from most (overwritten bytes offset new) ≡ bytes_from from most bytes
read_behind bytes offset new from most h =
    let end = offset + length new in
    let parts : overwritten bytes offset new ≡ (resized bytes offset ++ new) ++ drop end bytes = refl in
    let size : length (resized bytes offset ++ new) ≡ end = length-append (resized bytes offset) new ∙ ap (λ n. n + length new) (length-resized bytes offset) in
    let far : from ≡ end + (from - end) = omega (arith, h) in
    let there : drop from (overwritten bytes offset new) ≡ drop from bytes =
    grind (
      arith,
      drop-drop (from - end) end (overwritten bytes offset new),
      drop-drop (from - end) end bytes,
      drop_at (resized bytes offset ++ new)
          (drop end bytes) end size,
    ) in
    ap (take most) there

-- the zeros between the old end and the new bytes
pub read_gap : (bytes : List ℕ) (offset : ℕ) (new : List ℕ) → length bytes ≤ offset → bytes_from (length bytes) (offset - length bytes)
    (overwritten bytes offset new) ≡ replicate (offset - length bytes) 0
read_gap bytes offset new h = read_front bytes offset new (length bytes) (offset - length bytes) (omega (arith, h)) ∙ read_zeros bytes offset h

-- the new end
pub length-overwritten : (bytes : List ℕ) (offset : ℕ) (new : List ℕ) → length (overwritten bytes offset new) ≡ max (length bytes) (offset + length new)
length-overwritten bytes offset new = grind (arith, length-append, length-resized, length-drop)
