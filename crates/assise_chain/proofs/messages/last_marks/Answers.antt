use Rattle.assise_chain.proofs.Common.{◌∙◌}
use Rattle.assise_chain.proofs.RecordPrefixes.{marks_next}
use Rattle.assise_chain.proofs.messages.last_marks.Goals as goal

pub loop-place-preserved : goal.loop-place-preserved
loop-place-preserved c = c.in_ok-push.ensures.items ∙ marks_next c.args.log.now c.args.first c.loop-place.place c.loop-place.marks.items c.is_border.result
    c.loop-place.invariant c.is_border.ensures.border
