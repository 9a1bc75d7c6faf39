-- What stands at the opening of a file system.
-- POSIX.1-2017, base definitions, chapter 3: Root Directory.
use Rattle.std.specs.FinMap as map
use Rattle.assise_inode_table.specs.Contents.{directory, InodeMap}

-- inode 0 as a directory without entries, and nothing else
abbrev pub opening_inodes : InodeMap
opening_inodes = map.insert map.empty 0 (directory map.empty)
