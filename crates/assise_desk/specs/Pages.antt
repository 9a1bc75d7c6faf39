-- Names, and lost calls, as bytes.
use Rattle.std.specs.Prelude.{◌≡◌, ℕ, ◌+◌, ◌<◌, ◌≤◌, List, [], ◌∷◌, ◌++◌, length, take}
use Rattle.std.specs.Int.{to_le_bytes, w32, w64}
use Rattle.std.specs.List.{flat_map}

-- each name with a zero byte behind it
abbrev pub zero_ended : List (List ℕ) → List ℕ
zero_ended names = flat_map (λ name. name ++ 0 ∷ []) names

-- the bytes of the first of these names, of as many as there is room for
pub record IsPage (room : ℕ) (names : List (List ℕ)) (bytes : List ℕ) : Type 0 where
  pub count : ℕ
  pub within : count ≤ length names
  pub written : bytes ≡ zero_ended (take count names)
  pub fits : length bytes ≤ room
  pub full : count < length names → room < length (zero_ended (take (count + 1) names))

-- a client in 4 bytes, and then the number of its first lost call in 8, the lowest first
abbrev pub loss_bytes : ℕ × ℕ → List ℕ
loss_bytes loss = to_le_bytes w32 loss.0 ++ to_le_bytes w64 loss.1

abbrev pub losses_bytes : List (ℕ × ℕ) → List ℕ
losses_bytes losses = flat_map loss_bytes losses
