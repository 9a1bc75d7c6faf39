use Rattle.assise_inode_table.proofs.Common.{◌≡◌, ◌∙◌, ◌+◌, ◌-◌, ◌*◌, ap, sym, arith, length, min, max, subst, take_all, div_ceil, concat, bytes_from}
use Rattle.assise_inode_table.proofs.Common.{overwritten, length-overwritten}
use Rattle.assise_inode_table.proofs.BlockBytes.{CutSoFar, cut_nothing, cut_more}
use Rattle.assise_inode_table.proofs.BlockWrites.{part_over, over_more, over_room}
use Rattle.assise_inode_table.proofs.blocks.overwritten.Goals as goal

pub loop-index-init : goal.loop-index-init
loop-index-init c = rw c.in_ok-made.ensures.items (cut_nothing (overwritten (concat c.args.blocks.now) c.args.offset c.args.new.now))

pub overflow_mul-start : goal.overflow_mul-start
overflow_mul-start c =
    let bs = c.args.blocks.now in
    let new = c.args.new.now in
    let count : c.max-count.result ≡ max (length bs) (div_ceil (c.args.offset + length new) 4096) = c.max-count.ensures
    ∙ ap (max (length bs)) (c.div_ceil.ensures ∙ ap (λ n. div_ceil (c.args.offset + n) 4096) c.len.ensures.value) in
    let more = over_more bs c.args.offset new c.max-count.result c.loop-index.index c.requires.cut count c.loop-index-test.true in
    omega (arith, more, length-overwritten (concat bs) c.args.offset new, c.requires.held, c.requires.fits)

pub loop-index-preserved : goal.loop-index-preserved
loop-index-preserved c =
    let bs = c.args.blocks.now in
    let new = c.args.new.now in
    let o = c.args.offset in
    let k = 4096 * c.loop-index.index in
    let count : c.max-count.result ≡ max (length bs) (div_ceil (o + length new) 4096) = c.max-count.ensures
    ∙ ap (max (length bs)) (c.div_ceil.ensures ∙ ap (λ n. div_ceil (c.args.offset + n) 4096) c.len.ensures.value) in
    let more = over_more bs o new c.max-count.result c.loop-index.index c.requires.cut count c.loop-index-test.true in
    let at : c.min-at.result ≡ min (o - k) 4096 = omega (arith, c.min-at.ensures, c.saturating_sub.ensures) in
    let passed : c.saturating_sub-passed.result ≡ k - o = omega (arith, c.saturating_sub-passed.ensures) in
    let is : c.in_ok-block.field-0 ≡ bytes_from k 4096 (overwritten (concat bs) o new) =
    c.in_ok-block.ensures
    ∙ ap (λ xs. overwritten xs c.min-at.result (bytes_from c.saturating_sub-passed.result (4096 - c.min-at.result) new)) c.bytes_of.ensures
    ∙ ap (λ n. overwritten (bytes_from k 4096 (concat bs)) n (bytes_from c.saturating_sub-passed.result (4096 - n) new)) at
    ∙ ap (λ n. overwritten (bytes_from k 4096 (concat bs)) (min (o - k) 4096) (bytes_from n (4096 - min (o - k) 4096) new)) passed
    ∙ sym (part_over k 4096 (concat bs) o new) in
    subst (λ xs. CutSoFar xs (c.loop-index.index + 1) (overwritten (concat bs) o new)) (sym c.in_ok-push.ensures.items)
    (cut_more c.loop-index.made.items c.loop-index.index (overwritten (concat bs) o new) c.in_ok-block.field-0 c.loop-index.invariant more is)

pub returns-clause-bytes : goal.returns-clause-bytes
returns-clause-bytes c =
    let bs = c.args.blocks.now in
    let new = c.args.new.now in
    let o = c.args.offset in
    let count : c.max-count.result ≡ max (length bs) (div_ceil (o + length new) 4096) = c.max-count.ensures
    ∙ ap (max (length bs)) (c.div_ceil.ensures ∙ ap (λ n. div_ceil (c.args.offset + n) 4096) c.len.ensures.value) in
    let room = over_room bs o new c.max-count.result c.requires.cut count in
    c.loop-index.invariant.whole ∙ take_all (4096 * c.loop-index.index) (overwritten (concat bs) o new) (omega (arith, room, c.loop-index-test.false))
