use Rattle.assise_threads.proofs.Common.{◌≡◌, drop, serial_line}
use Rattle.assise_threads.proofs.engine.serial_line.Given as goal

-- none so far
abbrev pub invariant-loop-line : goal.invariant-loop-line
invariant-loop-line l = serial_line l.commands ≡ serial_line (drop l.line-index l.commands)
