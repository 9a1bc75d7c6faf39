-- What reads and writes do with the bytes of a file, and what another size does.
-- POSIX.1-2017, system interfaces: read() and write() for the offset, lseek() for the gap that reads as zeros, ftruncate() for the size.
use Rattle.std.specs.Prelude.{ℕ, ◌+◌, ◌-◌, Bool, nat_le, List, ◌++◌, length, take, drop, replicate}

-- the bytes from an offset on, at most `most`
abbrev pub bytes_from : ℕ → ℕ → List ℕ → List ℕ
bytes_from offset most bytes = take most (drop offset bytes)

-- the bytes with new ones at an offset, and zeros before those where there was nothing
abbrev pub overwritten : List ℕ → ℕ → List ℕ → List ℕ
overwritten bytes offset new = take offset bytes ++ replicate (offset - length bytes) 0 ++ new ++ drop (offset + length new) bytes

-- a file that ends with the new bytes isn't too big
abbrev pub is_within : ℕ → List ℕ → Bool
is_within offset new = nat_le (offset + length new) 1048576

-- the bytes cut to a size, or filled up to it with zeros
abbrev pub resized : List ℕ → ℕ → List ℕ
resized bytes size = take size bytes ++ replicate (size - length bytes) 0
