use Rattle.assise_console.proofs.Common.{ℕ, List, take, Appends, console_seen, Told, Prints}
use Rattle.assise_console.proofs.engine.run_lines.Given as goal

-- the commands so far were run, and their lines written
abbrev pub invariant-loop-command : goal.invariant-loop-command
invariant-loop-command g l =
    (told : Told) × ((text : List ℕ)
    × (Prints (console_seen l.fn.console) (take l.command-index l.commands) told text (console_seen l.console) × Appends (g.W.Write.contents l.fn.writer)
    (g.W.Write.contents l.writer) text))
