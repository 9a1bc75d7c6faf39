use Rattle.assise_console.proofs.Common.{take, flat_map, HasWritten, IsPlainFormatter, lost_call_text}
use Rattle.assise_console.proofs.text.LossesDisplay.fmt.Given as goal

abbrev pub invariant-loop-loss : goal.invariant-loop-loss
invariant-loop-loss g l =
    IsPlainFormatter l.initial.f → HasWritten g.W.Write.write_str_gives l.initial.f (flat_map lost_call_text (take l.loss-index l.loss-items)) l.f
