-- Vectors that grow within the room that they have.
use Rattle.std.specs.Prelude.{◌≡◌, ℕ, ◌+◌, ◌≤◌, List, ◌++◌, length, vec_capacity, vec_len}
use Rattle.std.specs.Global.{Vec}

-- the bytes fit behind what is there, without a growth
abbrev pub BytesFit : Vec ℕ → List ℕ → Type 0
BytesFit v bytes = vec_len v + length bytes ≤ vec_capacity v

-- the bytes were appended, and no room was lost
pub record Appends (old new : Vec ℕ) (bytes : List ℕ) : Type 0 where
  pub items : new.items ≡ old.items ++ bytes
  pub len : vec_len new ≡ vec_len old + length bytes
  pub capacity : vec_capacity old ≤ vec_capacity new
