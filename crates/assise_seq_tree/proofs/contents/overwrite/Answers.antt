use Rattle.assise_seq_tree.proofs.Common.{◌∙◌, ap, sym, arith, length}
use Rattle.assise_seq_tree.proofs.Shared.BytesOverwritten.{within, filled, whole}
use Rattle.assise_seq_tree.proofs.contents.overwrite.Goals as goal
use Rattle.assise_seq_tree.proofs.contents.overwrite.Goals.{then-len-end+in_ok-resize, else-len-end}

pub returns-clause-ok : goal.returns-clause-ok
returns-clause-ok c =
    let same = c.as_mut_slice.ensures.value in
    let wrote = whole c.if-len-end.bytes.len c.copy_at.new.bytes c.if-len-end.bytes.items (c.copy_at.auto.bytes ∙ c.as_mut_slice.ensures.len)
    (ap length (sym same) ∙ c.as_mut_slice.ensures.len) ∙ rw same at c.copy_at.ensures in
    wrote ∙ elim c.if-len-end.branch [
      | then-len-end+in_ok-resize w ↦ filled c.args.bytes.now.items c.args.offset c.args.new.now c.if-len-end.bytes.items _
          (omega (arith, c.args.bytes.now.ok.0)) (omega (arith, w.if-len-end.true, c.len.ensures, c.args.bytes.now.ok.0))
          (ap (λ v. v.items) w.bytes-is ∙ w.in_ok-resize.ensures.items)
      | else-len-end w ↦ rw w.bytes-is
          (within c.args.bytes.now.items c.args.offset c.args.new.now (omega (arith, w.if-len-end.false, c.len.ensures, c.args.bytes.now.ok.0)))
    ]
