-- Bytes to be written at an offset of a file. POSIX.1-2017, write() and lseek(): File Offset.
use Rattle.std.specs.Prelude.{ℕ, ◌+◌, ◌<◌, ◌≤◌, List, length}

pub record Patch : Type 0 where
  pub offset : ℕ
  pub bytes : List ℕ

-- 1 to 65,536 bytes, ending by byte 1,048,576
pub record IsPatch (p : Patch) : Type 0 where
  pub some : 0 < length p.bytes
  pub few : length p.bytes ≤ 65536
  pub fits : p.offset + length p.bytes ≤ 1048576
