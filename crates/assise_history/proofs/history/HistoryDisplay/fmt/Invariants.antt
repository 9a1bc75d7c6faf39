use Rattle.assise_history.proofs.Common.{take, ◌++◌, codes, length, flat_map, HasWritten, IsPlainFormatter, decimal, entry_line}
use Rattle.assise_history.proofs.history.HistoryDisplay.fmt.Given as goal

abbrev pub invariant-loop-entry : goal.invariant-loop-entry
invariant-loop-entry g l =
    IsPlainFormatter l.fn.f → HasWritten g.W.Write.write_str_gives l.fn.f
    (codes "history " ++ decimal (length l.entries) ++ flat_map entry_line (take l.entry-index l.entries)) l.f
