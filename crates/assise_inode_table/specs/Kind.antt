-- The content of an inode, by its kind.
-- POSIX.1-2017, base definitions, chapter 3: Regular File, Directory.
use Rattle.assise_inode_table.specs.Contents.{Content, regular, directory}
use Rattle.assise_inode_table.specs.declared.inode.Kind.{Kind}
use Rattle.assise_inode_table.specs.declared.inode.Kind.TheVariants.{File, Directory}

abbrev pub content_of : Kind → Content
content_of (File bytes) = regular bytes
content_of (Directory links) = directory links
