use Rattle.assise_threads.proofs.Common.{ℕ, take, drop, Machine, AreCalls, untold}
use Rattle.assise_threads.proofs.CallLines.{AreSaidSoFar}
use Rattle.assise_threads.proofs.stretch.write_calls.Given as goal

-- the calls so far were said, and calls are left
abbrev pub invariant-loop-line : goal.invariant-loop-line
invariant-loop-line g l = record {
  calls : AreCalls (drop l.line-index l.stretch);
  said : (turns : ℕ) (seen : Machine) → AreSaidSoFar turns (take l.line-index l.stretch) (drop l.line-index l.stretch) seen (untold l.fn.outcomes)
      (untold l.outcomes) (g.W.Write.contents l.fn.writer) (g.W.Write.contents l.writer);
}
