use Rattle.assise_digest.proofs.Common.{◌++◌, drop, ap, ◌∙◌}
use Rattle.assise_digest.proofs.Pieces.{piece_more}
use Rattle.assise_digest.proofs.spelled.bytes_of.Goals as goal

pub loop-alloc-init : goal.loop-alloc-init
loop-alloc-init c = (c.args.file.now, ap (λ xs. xs ++ c.args.file.now) c.in_ok-bytes.ensures.items)

pub loop-alloc-preserved : goal.loop-alloc-preserved
loop-alloc-preserved c =
    let i = c.loop-alloc.invariant in (
      drop 4096 i.0,
      piece_more c.args.file.now c.loop-alloc.bytes.items _ c.as_slice.result.now i.0 _ 4096 i.1
          (c.len-in-loop-alloc-3.ensures ∙ c.loop-alloc.bytes.ok.0) (c.as_slice.ensures ∙ c.in_ok-piece.ensures.bytes) c.in_ok-extend_from_slice.ensures.items,
    )
