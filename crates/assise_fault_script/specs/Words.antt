-- The lines of a script, and the words of a line.
use Rattle.std.specs.Prelude.{ℕ, ◌-◌, Bool, false, not, ◌==◌, if◌then◌else◌, List, [], ◌∷◌, filter, length, take, slice_index}
use Rattle.std.specs.List.{slice_split}

abbrev pub is_space : ℕ → Bool
is_space b = b == 32

abbrev pub is_word : List ℕ → Bool
is_word piece = not (length piece == 0)

-- what stands between spaces
abbrev pub words_of : List ℕ → List (List ℕ)
words_of text = filter is_word (slice_split is_space text)

abbrev pub is_line_feed : ℕ → Bool
is_line_feed b = b == 10

abbrev pub ends_with_return : List ℕ → Bool
ends_with_return [] = false
ends_with_return (b ∷ bs) = slice_index (b ∷ bs) (length (b ∷ bs) - 1) == 13

-- without one carriage return at the end
abbrev pub without_return : List ℕ → List ℕ
without_return bytes = if ends_with_return bytes then take (length bytes - 1) bytes else bytes

-- a line that a line feed ends loses one carriage return; the last line loses none
abbrev pub without_returns : List (List ℕ) → List (List ℕ)
without_returns [] = []
without_returns (last ∷ []) = last ∷ []
without_returns (line ∷ next ∷ lines) = without_return line ∷ without_returns (next ∷ lines)

-- what stands between line feeds
abbrev pub lines_of : List ℕ → List (List ℕ)
lines_of bytes = without_returns (slice_split is_line_feed bytes)
