use Rattle.assise_inode_table.proofs.Common.{◌≡◌, ◌∙◌, ◌+◌, ◌-◌, ap, sym, arith, length, [], ◌∷◌, ◌++◌, take, take_more, bytes_from}
use Rattle.assise_inode_table.proofs.BlockBytes.{joined_more}
use Rattle.assise_inode_table.proofs.blocks.joined.Goals as goal

pub loop-block-preserved : goal.loop-block-preserved
loop-block-preserved c =
    let bs = c.args.blocks.now in
    let i = c.loop-block.block-index in
    let block = c.block-item.result in
    let joined = c.loop-block.joined.items in
    let skipped = c.loop-block.skipped in
    let more = joined_more (take i bs) block c.args.offset c.args.most joined skipped c.loop-block.invariant in
    let prefix : take (i + 1) bs ≡ take i bs ++ block ∷ [] = take_more bs i block c.loop-block-test.true ∙ ap (λ b. take i bs ++ b ∷ []) (sym c.block-item.is)
    in
    let wanted : c.args.most - c.len.result ≡ c.args.most - length joined = omega (arith, c.loop-block.joined.ok.0) in
    let part : c.bytes_from-part.result.now ≡ bytes_from skipped (c.args.most - length joined) block = c.bytes_from-part.ensures
    ∙ ap (λ n. bytes_from skipped n c.as_slice.result.now) wanted ∙ ap (bytes_from skipped (c.args.most - length joined)) c.as_slice.ensures in
    let bytes = c.in_ok-extend_from_slice.ensures.items ∙ ap (λ xs. joined ++ xs) part in
    let skip : c.saturating_sub-skipped.result ≡ skipped - length block = omega arith in
    rw (prefix, bytes, skip) more
