-- Bytes of which more may make a frame of a version up to the newest: they end inside the header, or before the end of the
-- body that it announces. A header has 29 bytes: magic up to byte 2, the version up to 3, the epoch up to 11, the client up
-- to 15, the number of the first record up to 23, the count of records up to 25, and how many bytes the records have up to 29.
use Rattle.std.specs.Prelude.{◌≡◌, ℕ, ◌+◌, ◌<◌, ◌≤◌, List, [], ◌∷◌, get_or, length, take, drop}
use Rattle.byteorder.specs.Endian.{big_number}
use Rattle.assise_record.specs.Reading.{HasCount, IsVersion}

-- the number of `width` bytes that begins at byte `from`
abbrev pub field : ℕ → ℕ → List ℕ → ℕ
field from width bytes = big_number width (take width (drop from bytes))

-- each field of the header is lawful of which all bytes are there; of magic, each byte
pub record HasLawfulFields (newest : ℕ) (bytes : List ℕ) : Type 0 where
  pub magic : take 2 bytes ≡ take (length bytes) (65 ∷ 83 ∷ [])
  pub version : 3 ≤ length bytes → IsVersion newest (get_or bytes 2 0)
  pub client : 15 ≤ length bytes → 0 < field 11 4 bytes
  pub count : 25 ≤ length bytes → HasCount (field 15 8 bytes) (field 23 2 bytes)

-- what is there of the header is lawful, and where it is whole, the body isn't
pub record IsUnfinished (newest : ℕ) (bytes : List ℕ) : Type 0 where
  pub lawful : HasLawfulFields newest bytes
  pub short : 29 ≤ length bytes → length bytes < 29 + field 25 4 bytes
