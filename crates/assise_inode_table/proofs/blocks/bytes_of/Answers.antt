use Rattle.assise_inode_table.proofs.Common.{◌∙◌}
use Rattle.assise_inode_table.proofs.BlockBytes.{block_at, block_past}
use Rattle.assise_inode_table.proofs.blocks.bytes_of.Goals as goal

pub returns-in-Some : goal.returns-in-Some
returns-in-Some c =
    let found = c.in-Some.ensures.lookup in
    c.as_slice.ensures ∙ found.1 ∙ block_at c.args.blocks.now c.args.index c.in-Some.block.now c.requires found.3.0

pub returns-in-None : goal.returns-in-None
returns-in-None c = block_past c.args.blocks.now c.args.index c.requires c.in-None.ensures.lookup.3
