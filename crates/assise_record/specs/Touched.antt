-- The inode that an effect changes. POSIX.1-2017, write(), ftruncate(), link(), unlink(): a link or an unlink of an
-- entry changes its directory.
use Rattle.std.specs.Prelude.{ℕ}
use Rattle.assise_record.specs.declared.effect.Effect.{Effect}
use Rattle.assise_record.specs.declared.effect.Effect.TheVariants.{NewFile, NewDir, Write, SetLen, Link, Unlink, Free}

abbrev pub touched_by : Effect → ℕ
touched_by (NewFile inode) = inode
touched_by (NewDir inode) = inode
touched_by (Write inode patch) = inode
touched_by (SetLen inode size) = inode
touched_by (Link directory name inode) = directory
touched_by (Unlink directory name) = directory
touched_by (Free inode) = inode
